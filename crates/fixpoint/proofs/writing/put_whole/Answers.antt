use Rattle.std.proofs.lemmas.Grind.{common_steps}
use Rattle.std.proofs.Common.{◌≤◌, length, unsigned_abs, w64, ap, ◌∙◌, arith}
use Rattle.std.proofs.lemmas.Int.{to_z-of_z}
use Rattle.fixpoint.proofs.Digits.{length-whole_part}
use Rattle.fixpoint.proofs.writing.put_whole.Goals as goal
use Rattle.fixpoint.proofs.writing.put_whole.Goals.{then-units-lt0, else-units-lt0}

pub returns-clause-fits : goal.returns-clause-fits
returns-clause-fits c =
    let whole = length-whole_part c.unsigned_abs-whole.result (omega (arith, ap unsigned_abs (to_z-of_z w64 c.args.units c.ranges.units))) in
    let sign : c.if-units-lt0.at ≤ 1 = elim c.if-units-lt0.branch [ then-units-lt0 w ↦ omega arith | else-units-lt0 w ↦ omega arith ] in
    omega (arith, ap length (c.as_bytes.ensures.value ∙ c.format.ensures.text))

pub put-requires : goal.put-requires
put-requires c = grind (arith, common_steps)

pub returns-clause-written : goal.returns-clause-written
returns-clause-written c = grind (arith, common_steps)
