use Rattle.std.proofs.Common.{◌≡◌, map, take, slice_get}
use Rattle.cutplan.proofs.cell_probe.probes_of.Given as goal

abbrev pub invariant-loop-rule : goal.invariant-loop-rule
invariant-loop-rule l = l.asked.items ≡ map (λ r. slice_get r.cells l.column) (take l.rule-index l.rule-items)
