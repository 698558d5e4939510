use Rattle.std.proofs.Common.{take}
use Rattle.evaluation.specs.Arguments.{argument_texts, Gives}
use Rattle.evaluation.proofs.value.arguments.read_arguments.Given as goal

-- the arguments so far give the values in the inputs
abbrev pub invariant-loop-index : goal.invariant-loop-index
invariant-loop-index l = Gives l.plan.names (take l.index (argument_texts l.arguments)) l.inputs
