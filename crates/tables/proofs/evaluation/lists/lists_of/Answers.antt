use Rattle.std.proofs.Common.{ap, arith}
use Rattle.std.proofs.lemmas.List.FromFn.{map-range_with_len_more}
use Rattle.tables.specs.declared.environment.Answer.TheVariants.{Many}
use Rattle.tables.specs.HitPolicy.{column_of}
use Rattle.tables.proofs.Steps.{pushed_more}
use Rattle.tables.proofs.evaluation.lists.lists_of.Goals as goal

pub loop-column-preserved : goal.loop-column-preserved
loop-column-preserved c =
    let step = map-range_with_len_more (λ column. Many (column_of c.args.table.now c.args.rules.now column)) 0 c.loop-column.column c.loop-column.column (omega arith) in
    pushed_more _ _ _ _ _ _ c.in_ok-push.ensures.ok c.loop-column.invariant (ap (λ values. Many values) c.in_ok-column_of.ensures) step
