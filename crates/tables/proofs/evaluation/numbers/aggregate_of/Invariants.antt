use Rattle.std.proofs.Common.{◌≡◌, ◌*◌, take, pos, neg_ℤ, ◌≤ℤ◌}
use Rattle.std.specs.List.{reduce}
use Rattle.std.specs.Option.{IfSome}
use Rattle.fixpoint.specs.Number.{greatest_units}
use Rattle.tables.specs.HitPolicy.{join_of, numbers_of}
use Rattle.tables.proofs.evaluation.numbers.aggregate_of.Given as goal

abbrev pub invariant-loop-rule : goal.invariant-loop-rule
invariant-loop-rule l = record {
  value : l.so_far ≡ reduce (join_of l.aggregator) (numbers_of l.table (take l.rule-index l.rules));
  low : IfSome l.so_far (λ units. neg_ℤ (pos (greatest_units * l.rule-index)) ≤ℤ units);
  high : IfSome l.so_far (λ units. units ≤ℤ pos (greatest_units * l.rule-index));
}
