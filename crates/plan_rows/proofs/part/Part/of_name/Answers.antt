use Rattle.std.proofs.Common.{sym, ◌∙◌, arith}
use Rattle.std.proofs.lemmas.Grind.{common_steps}
use Rattle.feel_tests.proofs.SymbolFront.{find_missed}
use Rattle.plan_rows.specs.Parts.{is_part_name, parts}
use Rattle.plan_rows.proofs.part.Part.of_name.Goals as goal

pub loop-part-preserved : goal.loop-part-preserved
loop-part-preserved c =
    let missed = sym c.is_name.ensures ∙ c.if-is_name.false in
    sym (find_missed (λ part. is_part_name part c.args.name.now) parts c.loop-part.part-index _ c.loop-part-test.true missed) ∙ c.loop-part.invariant

pub returns : goal.returns
returns c = grind (arith, common_steps)
