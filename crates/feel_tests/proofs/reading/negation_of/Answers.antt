use Rattle.std.proofs.lemmas.Result.{err_from_is_err_and}
use Rattle.feel_tests.proofs.OneCell.{not_no_open, not_no_list, not_no_close, not_trailing}
use Rattle.feel_tests.proofs.reading.negation_of.Goals as goal

pub returns-in_err-after_open-clause-refused : goal.returns-in_err-after_open-clause-refused
returns-in_err-after_open-clause-refused c =
    let p = err_from_is_err_and c.from_residual.result c.from_residual.ensures.1 in
    rw (p.1, p.2) (not_no_open c.args.kind c.args.text.now c.args.after_word.now c.in_err-after_open.field-0.0 c.requires c.in_err-after_open.ensures.refused)

pub returns-in_err-tests-clause-refused : goal.returns-in_err-tests-clause-refused
returns-in_err-tests-clause-refused c =
    let p = err_from_is_err_and c.from_residual-in_err-tests.result c.from_residual-in_err-tests.ensures.1 in
    rw (p.1, p.2) (not_no_list c.args.kind c.args.text.now c.args.after_word.now c.in_ok-after_open.after_open.now c.in_err-tests.field-0.0 c.requires c.in_ok-after_open.ensures.ok c.in_err-tests.ensures.refused)

pub returns-in_err-rest-clause-refused : goal.returns-in_err-rest-clause-refused
returns-in_err-rest-clause-refused c =
    let p = err_from_is_err_and c.from_residual-in_err-rest.result c.from_residual-in_err-rest.ensures.1 in
    rw (p.1, p.2) (not_no_close c.args.kind c.args.text.now c.args.after_word.now c.in_ok-after_open.after_open.now c.in_ok-tests.tests c.in_ok-tests.after_list.now c.in_err-rest.field-0.0 c.requires c.in_ok-after_open.ensures.ok c.in_ok-tests.ensures.ok c.in_err-rest.ensures.refused)

pub returns-in_err-blank_end-clause-refused : goal.returns-in_err-blank_end-clause-refused
returns-in_err-blank_end-clause-refused c =
    let p = err_from_is_err_and c.from_residual-in_err-blank_end.result c.from_residual-in_err-blank_end.ensures.1 in
    rw (p.1, p.2) (not_trailing c.args.kind c.args.text.now c.args.after_word.now c.in_ok-after_open.after_open.now c.in_ok-tests.tests c.in_ok-tests.after_list.now c.in_ok-rest.rest.now c.in_err-blank_end.field-0.0 c.requires c.in_ok-after_open.ensures.ok c.in_ok-tests.ensures.ok c.in_ok-rest.ensures.ok c.in_err-blank_end.ensures.refused)

pub returns-clause-ok : goal.returns-clause-ok
returns-clause-ok c = record {
  after_word = c.args.after_word.now;
  after_open = c.in_ok-after_open.after_open.now;
  after_list = c.in_ok-tests.after_list.now;
  rest = c.in_ok-rest.rest.now;
  word = c.requires;
  opens = c.in_ok-after_open.ensures.ok;
  list = c.in_ok-tests.ensures.ok.0;
  few = c.in_ok-tests.ensures.ok.1;
  closes = c.in_ok-rest.ensures.ok;
  blank = c.in_ok-blank_end.ensures.ok;
}
