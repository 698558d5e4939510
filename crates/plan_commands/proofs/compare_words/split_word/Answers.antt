use Rattle.std.proofs.Common.{lit<}
use Rattle.std.proofs.lemmas.Str.Pattern.{split_parts}
use Rattle.evaluation.specs.Arguments.{equals_sign}
use Rattle.evaluation.proofs.Splits.{IsSplit-from_parts, no_split}
use Rattle.plan_commands.proofs.compare_words.split_word.Goals as goal

pub returns-clause-split : goal.returns-clause-split
returns-clause-split c = IsSplit-from_parts _ _ (split_parts equals_sign _ _ c.split_once.ensures.cases (lit< tt))

pub returns-clause-none : goal.returns-clause-none
returns-clause-none c = no_split _ _ (split_parts equals_sign _ _ c.split_once.ensures.cases (lit< tt))
