use Rattle.std.proofs.Common.{◌≡◌, take}
use Rattle.tables.specs.Inputs.{empty_slots}
use Rattle.tables.proofs.inputs.Inputs.new.Given as goal

abbrev pub invariant-loop-data : goal.invariant-loop-data
invariant-loop-data l = l.slots.items ≡ empty_slots (take l.data-index l.names)
