use Rattle.std.proofs.lemmas.Grind.{common_steps}
use Rattle.std.proofs.lemmas.Bool.{false≢true}
use Rattle.std.proofs.Common.{refl, arith}
use Rattle.std.proofs.lemmas.Result.{on_ok_weaker}
use Rattle.plan_rows.proofs.Rows.{field_differs, field_met}
use Rattle.plan_rows.proofs.lines.append_field.Goals as goal

pub returns-then-branch : goal.returns-then-branch
returns-then-branch c =
    let says = rw c.if-branch.true at c.in_ok-is_met.ensures in
    field_met _ _ c.args.column _ _ (says.0 refl)

pub returns : goal.returns
returns c =
    let says = rw c.if-branch.false at c.in_ok-is_met.ensures in
    on_ok_weaker c.append_difference.result
    (λ last. field_differs _ _ c.args.column _ _ _ _ (λ met. false≢true (says.1 met)) c.in_ok-found.ensures (rw (c.text_or_absent.ensures, c.as_slice.ensures.value) at last)) c.append_difference.ensures

pub append_difference-requires-text-name : goal.append_difference-requires-text-name
append_difference-requires-text-name c = grind (arith, common_steps)
