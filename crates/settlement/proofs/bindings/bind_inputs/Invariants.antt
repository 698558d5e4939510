use Rattle.std.proofs.Common.{◌≡◌, take}
use Rattle.std.specs.List.{All}
use Rattle.settlement.specs.Bindings.{slot_kinds}
use Rattle.settlement.specs.Reads.{HasItsValue}
use Rattle.settlement.proofs.bindings.bind_inputs.Given as goal

-- the kinds have not changed, and each earlier place has its value
abbrev pub invariant-loop-place : goal.invariant-loop-place
invariant-loop-place l = record {
  kinds : slot_kinds l.inputs ≡ slot_kinds l.fn.inputs;
  given : All (HasItsValue l.claim l.acc l.inputs) (take l.place-index l.places);
}
