use Rattle.std.proofs.Common.{◌≡◌, true, is_some, take}
use Rattle.std.specs.List.{list_all}
use Rattle.tables.proofs.evaluation.single.have_defaults.Given as goal

abbrev pub invariant-loop-output : goal.invariant-loop-output
invariant-loop-output l = list_all (λ o. is_some o.fallback) (take l.output-index l.outputs) ≡ true
