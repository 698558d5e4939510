use Rattle.std.proofs.Common.{◌≡◌, drop}
use Rattle.std.specs.Prelude.{find}
use Rattle.plan_rows.specs.Parts.{is_part_name, parts}
use Rattle.plan_rows.proofs.part.Part.of_name.Given as goal

-- the first part of those left with the name is the first of all
abbrev pub invariant-loop-part : goal.invariant-loop-part
invariant-loop-part l =
    find (λ part. is_part_name part l.name) (drop l.part-index parts) ≡ find (λ part. is_part_name part l.name) parts
