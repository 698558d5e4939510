use Rattle.std.proofs.Common.{◌≡◌, List, drop}
use Rattle.tables.specs.declared.environment.Answer.{Answer}
use Rattle.tables.specs.Environment.{answer_of}
use Rattle.tables.proofs.output_place.place_named.Given as goal

abbrev pub invariant-loop-place : goal.invariant-loop-place
invariant-loop-place l = (answers : List (List Answer)) → answer_of (drop l.place l.tables) (drop l.place answers) l.name ≡ answer_of l.tables answers l.name
