use Rattle.std.proofs.Common.{◌≡◌, [], drop}
use Rattle.tables.specs.Environment.{answers_of}
use Rattle.cutplan.proofs.cut_plan.CutPlan.push_answers.Given as goal

abbrev pub invariant-loop-place : goal.invariant-loop-place
invariant-loop-place l = answers_of l.given l.answers (drop l.place l.tables) ≡ answers_of l.given [] l.tables
