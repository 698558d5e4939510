use Rattle.std.proofs.Common.{length}
use Rattle.plan_commands.proofs.compare_words.+kind_of.Given as goal

abbrev pub decreases-kind_of : goal.decreases-kind_of
decreases-kind_of l = length l.names.now
