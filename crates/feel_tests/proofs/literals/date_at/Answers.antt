use Rattle.std.proofs.Common.{sym, ◌∙◌, arith}
use denote.Enum.Bare.{differs_true, differs_false}
use Rattle.feel_tests.specs.contracts.kind.Kind.{the_type}
use Rattle.feel_tests.specs.declared.kind.Kind.TheVariants as kinds
use Rattle.std.proofs.lemmas.Result.{err_from_is_err_and}
use Rattle.feel_tests.specs.Words.{Name}
use Rattle.feel_tests.specs.Grammar.{date_word}
use Rattle.feel_tests.proofs.Denials.{kind_denied, date_denied, date_no_open, date_no_string, date_no_close, date_bad, date_long}
use Rattle.feel_tests.proofs.literals.date_at.Goals as goal

pub returns-then-ne-clause-refused : goal.returns-then-ne-clause-refused
returns-then-ne-clause-refused c memory =
    kind_denied c.args.kind c.args.text.now (Name date_word) c.args.after_word.now c.requires (differs_true the_type c.args.kind kinds.Day (sym c.ne.ensures ∙ c.if-ne.true))

pub returns-in_err-after_open-clause-refused : goal.returns-in_err-after_open-clause-refused
returns-in_err-after_open-clause-refused c =
    let p = err_from_is_err_and c.from_residual.result c.from_residual.ensures.1 in
    rw (p.1, p.2) (λ memory. date_denied c.args.kind c.args.text.now c.args.after_word.now c.requires (date_no_open c.args.text.now c.args.after_word.now c.requires c.in_err-after_open.ensures.refused))

pub returns-in_err-date-clause-refused : goal.returns-in_err-date-clause-refused
returns-in_err-date-clause-refused c =
    let p = err_from_is_err_and c.from_residual-in_err-date.result c.from_residual-in_err-date.ensures.1 in
    rw (p.1, p.2) (λ memory. date_denied c.args.kind c.args.text.now c.args.after_word.now c.requires (date_no_string c.args.text.now c.args.after_word.now c.in_ok-after_open.after_open.now c.requires c.in_ok-after_open.ensures.ok (c.in_err-date.ensures.refused memory)))

pub returns-in_err-rest-clause-refused : goal.returns-in_err-rest-clause-refused
returns-in_err-rest-clause-refused c =
    let p = err_from_is_err_and c.from_residual-in_err-rest.result c.from_residual-in_err-rest.ensures.1 in
    rw (p.1, p.2) (λ memory. date_denied c.args.kind c.args.text.now c.args.after_word.now c.requires (date_no_close c.args.text.now c.args.after_word.now c.in_ok-after_open.after_open.now c.in_ok-date.date.items c.in_ok-date.after_string.now c.requires c.in_ok-after_open.ensures.ok c.in_ok-date.ensures.ok c.in_err-rest.ensures.refused))

pub returns-then-len-gt-TEXT_LIMIT_BYTES-clause-refused : goal.returns-then-len-gt-TEXT_LIMIT_BYTES-clause-refused
returns-then-len-gt-TEXT_LIMIT_BYTES-clause-refused c memory =
    date_denied c.args.kind c.args.text.now c.args.after_word.now c.requires (date_bad c.args.text.now c.args.after_word.now c.in_ok-after_open.after_open.now c.in_ok-date.date.items c.in_ok-date.after_string.now c.requires c.in_ok-after_open.ensures.ok c.in_ok-date.ensures.ok (date_long c.in_ok-date.date.items (omega arith)))

pub returns-clause-refused : goal.returns-clause-refused
returns-clause-refused c memory =
    date_denied c.args.kind c.args.text.now c.args.after_word.now c.requires (date_bad c.args.text.now c.args.after_word.now c.in_ok-after_open.after_open.now c.in_ok-date.date.items c.in_ok-date.after_string.now c.requires c.in_ok-after_open.ensures.ok c.in_ok-date.ensures.ok (λ day h. c.in-None.ensures.none day (rw c.deref.ensures.value h)))

pub returns-in-Some-clause-ok : goal.returns-in-Some-clause-ok
returns-in-Some-clause-ok c = (
  differs_false the_type tt c.args.kind kinds.Day (sym c.ne.ensures ∙ c.if-ne.false),
  record {
    after_word = c.args.after_word.now;
    after_open = c.in_ok-after_open.after_open.now;
    after_string = c.in_ok-date.after_string.now;
    date = c.in_ok-date.date.items;
    word = c.requires;
    opens = c.in_ok-after_open.ensures.ok;
    string = c.in_ok-date.ensures.ok;
    closes = c.in_ok-rest.ensures.ok;
    is_date = rw c.deref.ensures.value at c.in-Some.ensures.some;
  },
)
