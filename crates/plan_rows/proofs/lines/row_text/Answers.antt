use Rattle.std.proofs.Common.{◌++◌, ◌∙◌, ap, arith}
use Rattle.std.proofs.lemmas.Grind.{common_steps}
use Rattle.std.proofs.lemmas.List.{append_assoc}
use Rattle.plan_rows.proofs.Rows.{row_more}
use Rattle.plan_rows.proofs.lines.row_text.Goals as goal

pub loop-place-preserved : goal.loop-place-preserved
loop-place-preserved c =
    let one = c.in_ok-append_field.ensures in
    let before = c.loop-place.invariant in (
      before.0 ++ one.0,
      row_more _ _ c.args.columns.now _ c.loop-place.place _ _ _ _ c.loop-place-test.true c.field_of.ensures before.1 one.2,
      one.1 ∙ ap (λ text. text ++ one.0) before.2 ∙ append_assoc _ before.0 one.0,
    )

pub returns : goal.returns
returns c = grind (arith, common_steps)

pub field_of-requires : goal.field_of-requires
field_of-requires c = grind (arith, common_steps)

pub loop-place-init : goal.loop-place-init
loop-place-init c = grind (arith, common_steps)
