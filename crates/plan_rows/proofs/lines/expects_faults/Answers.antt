use Rattle.std.proofs.Common.{sym, ◌∙◌, arith}
use Rattle.plan_rows.proofs.Rows.{expects_here, expects_never, none_says_more}
use Rattle.plan_rows.proofs.lines.expects_faults.Goals as goal

pub loop-place-init : goal.loop-place-init
loop-place-init c = λ place column field below there present. absurd (omega (arith, below))

pub loop-place-preserved : goal.loop-place-preserved
loop-place-preserved c =
    none_says_more c.args.columns.now _ c.loop-place.place _ _ c.loop-place-test.true c.field_of.ensures (sym c.is_for_faults.ensures ∙ c.if-is_for_faults.false) c.loop-place.invariant

pub returns-then-is_for_faults : goal.returns-then-is_for_faults
returns-then-is_for_faults c =
    sym (expects_here c.args.columns.now _ c.loop-place.place _ _ c.loop-place-test.true c.field_of.ensures (sym c.is_for_faults.ensures ∙ c.if-is_for_faults.true))

pub returns : goal.returns
returns c = sym (expects_never c.args.columns.now _ c.loop-place.place c.loop-place-test.false c.loop-place.invariant)
