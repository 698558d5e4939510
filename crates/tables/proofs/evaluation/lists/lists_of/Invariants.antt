use Rattle.std.proofs.Common.{◌≡◌, map}
use Rattle.std.specs.List.{range_with_len}
use Rattle.tables.specs.declared.environment.Answer.TheVariants.{Many}
use Rattle.tables.specs.HitPolicy.{column_of}
use Rattle.tables.proofs.evaluation.lists.lists_of.Given as goal

abbrev pub invariant-loop-column : goal.invariant-loop-column
invariant-loop-column l = l.answers ≡ map (λ column. Many (column_of l.table l.rules column)) (range_with_len 0 l.column)
