use Rattle.std.proofs.Common.{take}
use Rattle.std.specs.List.{AllZip}
use Rattle.evaluation.specs.Arguments.{argument_texts}
use Rattle.plan_commands.specs.Comparing.{IsNarrowing}
use Rattle.plan_commands.proofs.compare_words.narrowings_of.Given as goal

abbrev pub invariant-loop-word : goal.invariant-loop-word
invariant-loop-word l = AllZip (IsNarrowing l.old l.new) (argument_texts (take l.word l.words)) l.narrowed.items
