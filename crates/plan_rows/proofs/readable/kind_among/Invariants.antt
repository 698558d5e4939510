use Rattle.std.proofs.Common.{◌≡◌, drop}
use Rattle.std.specs.Prelude.{find}
use Rattle.std.specs.Str.{bytes_eq}
use Rattle.plan_rows.proofs.readable.kind_among.Given as goal

-- the first output of those left with the name is the first of all
abbrev pub invariant-loop-output : goal.invariant-loop-output
invariant-loop-output l =
    find (λ o. bytes_eq o.name l.name) (drop l.output-index l.table.outputs) ≡ find (λ o. bytes_eq o.name l.name) l.table.outputs
