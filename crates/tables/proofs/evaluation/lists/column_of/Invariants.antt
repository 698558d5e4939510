use Rattle.std.proofs.Common.{◌≡◌, take}
use Rattle.tables.specs.HitPolicy.{column_of}
use Rattle.tables.proofs.evaluation.lists.column_of.Given as goal

abbrev pub invariant-loop-rule : goal.invariant-loop-rule
invariant-loop-rule l = l.values ≡ column_of l.table (take l.rule-index l.rules) l.column
