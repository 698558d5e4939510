use Rattle.std.proofs.Common.{arith, ◌+◌, ◌*◌, pos, neg_ℤ, ◌≤ℤ◌, subst, sym}
use Rattle.std.proofs.lemmas.Grind.{common_steps}
use Rattle.std.specs.Option.{IfSome}
use Rattle.fixpoint.specs.Number.{greatest_units}
use Rattle.tables.specs.HitPolicy.{join_of, number_in}
use Rattle.tables.proofs.Steps.{numbers_more, joined_more, low_more, high_more}
use Rattle.tables.proofs.evaluation.numbers.aggregate_of.Goals as goal

pub loop-rule-preserved : goal.loop-rule-preserved
loop-rule-preserved c =
    let n = c.loop-rule.rule-index in
    let join = join_of c.args.aggregator in
    record {
      value =
          let step = numbers_more join (number_in c.args.table.now) c.args.rules.now n 0 c.loop-rule-test.true in
          joined_more join _ _ _ _ _ _ c.combine-so_far.ensures c.loop-rule.invariant.value c.number_in.ensures.value step;
      low = subst (λ o. IfSome o (λ units. neg_ℤ (pos (greatest_units * (n + 1))) ≤ℤ units)) (sym c.combine-so_far.ensures) (low_more c.args.aggregator n c.loop-rule.so_far c.number_in.result c.loop-rule.invariant.low c.number_in.ensures.in_range);
      high = subst (λ o. IfSome o (λ units. units ≤ℤ pos (greatest_units * (n + 1)))) (sym c.combine-so_far.ensures) (high_more c.args.aggregator n c.loop-rule.so_far c.number_in.result c.loop-rule.invariant.high c.number_in.ensures.in_range);
    }

pub returns : goal.returns
returns c = grind (arith, common_steps)
