use Rattle.std.proofs.Common.{take}
use Rattle.std.specs.List.{AllZip}
use Rattle.cutplan.specs.InputClasses.{IsKeptName}
use Rattle.cutplan.proofs.input_class.compiled_names.Given as goal

abbrev pub invariant-loop-place : goal.invariant-loop-place
invariant-loop-place l = AllZip (IsKeptName l.plan) (take l.place-index l.place-items) l.kept
