use Rattle.std.proofs.Common.{refl}
use Rattle.std.proofs.lemmas.Result.{err_from_is_err_and}
use Rattle.feel_tests.proofs.Denials.{span_no_dots, span_no_high, span_no_end}
use Rattle.feel_tests.proofs.unary.span_at.Goals as goal

pub returns-in_err-after_dots-clause-refused : goal.returns-in_err-after_dots-clause-refused
returns-in_err-after_dots-clause-refused c =
    let p = err_from_is_err_and c.from_residual-in_err-after_dots.result c.from_residual-in_err-after_dots.ensures.1 in
    rw (p.1, p.2) (span_no_dots c.args.kind c.args.low_in c.args.text.now c.in_ok-low.low c.in_ok-low.after_low.now c.in_err-after_dots.field-0.0 c.in_ok-low.ensures.ok c.in_err-after_dots.ensures.refused)

pub returns-in_err-high-clause-refused : goal.returns-in_err-high-clause-refused
returns-in_err-high-clause-refused c =
    let p = err_from_is_err_and c.from_residual-in_err-high.result c.from_residual-in_err-high.ensures.1 in
    rw (p.1, p.2) (span_no_high c.args.kind c.args.low_in c.args.text.now c.in_ok-low.low c.in_ok-low.after_low.now c.in_ok-after_dots.after_dots.now c.in_err-high.field-0.0 c.in_ok-low.ensures.ok c.in_ok-after_dots.ensures.ok c.in_err-high.ensures.refused)

pub returns-in_err-high_in-clause-refused : goal.returns-in_err-high_in-clause-refused
returns-in_err-high_in-clause-refused c =
    let p = err_from_is_err_and c.from_residual-in_err-high_in.result c.from_residual-in_err-high_in.ensures.1 in
    rw (p.1, p.2) (span_no_end c.args.kind c.args.low_in c.args.text.now c.in_ok-low.low c.in_ok-high.high c.in_ok-low.after_low.now c.in_ok-after_dots.after_dots.now c.in_ok-high.after_high.now c.in_err-high_in.field-0.0 c.in_ok-low.ensures.ok c.in_ok-after_dots.ensures.ok c.in_ok-high.ensures.ok c.in_err-high_in.ensures.refused)

pub returns-clause-ok : goal.returns-clause-ok
returns-clause-ok c = (
  refl,
  record {
    after_low = c.in_ok-low.after_low.now;
    after_dots = c.in_ok-after_dots.after_dots.now;
    after_high = c.in_ok-high.after_high.now;
    bracket = c.in_ok-high_in.ensures.ok.0;
    has_low = c.in_ok-low.ensures.ok;
    dots = c.in_ok-after_dots.ensures.ok;
    has_high = c.in_ok-high.ensures.ok;
    closes = c.in_ok-high_in.ensures.ok.1;
    end_is = c.in_ok-high_in.ensures.ok.2;
  },
)
