use Rattle.std.proofs.Common.{◌≡◌, false, is_some, take}
use Rattle.std.specs.List.{list_any}
use Rattle.dtable.proofs.reading.constraints.are_ranked.Given as goal

abbrev pub invariant-loop-output : goal.invariant-loop-output
invariant-loop-output l = list_any (λ o. is_some o.priority) (take l.output-index l.outputs) ≡ false
