use Rattle.std.proofs.Common.{◌≡◌, drop}
use Rattle.tables.specs.Environment.{answer_of}
use Rattle.tables.proofs.environment.find_answer.Given as goal

abbrev pub invariant-loop-place : goal.invariant-loop-place
invariant-loop-place l = answer_of (drop l.place l.tables) (drop l.place l.answers) l.name ≡ answer_of l.tables l.answers l.name
