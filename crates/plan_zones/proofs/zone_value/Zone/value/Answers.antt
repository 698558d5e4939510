use Rattle.std.proofs.Common.{arith, ◌≡◌, ◌+◌, ◌++◌, [], ◌∷◌, Ok, drop, ap, sym, subst, ◌∙◌}
use Rattle.std.proofs.lemmas.Grind.{common_steps}
use Rattle.tables.proofs.Chain.{passed_on}
use Rattle.cutplan.specs.ClassWise.{answers_in, table_value_in}
use Rattle.plan_zones.specs.Zones.{class_of}
use Rattle.plan_zones.proofs.Evaluating.{answered_more, ended_by}
use Rattle.plan_zones.proofs.zone_value.Zone.value.Goals as goal

pub returns : goal.returns
returns c = grind (arith, common_steps)

pub loop-table-preserved : goal.loop-table-preserved
loop-table-preserved c =
    let class = class_of c.args.self.now.regions.now c.args.self.now.places.now in
    let tables = c.args.tables.now in
    let i = c.loop-table.table-index in
    let t = c.table-item.result in
    let answers = c.loop-table.answers in
    let next = c.in_ok-next.next in
    let value = subst (λ earlier. table_value_in class earlier t ≡ Ok next) c.as_slice.ensures c.in_ok-next.ensures in
    let pushed = c.in_ok-push.ensures.ok ∙ ap (λ made. answers ++ made ∷ []) c.from_sequence.ensures in
    ap (λ made. answers_in class made (drop (i + 1) tables)) pushed ∙ sym (answered_more class answers tables i t c.loop-table-test.true c.table-item.is next value) ∙ c.loop-table.invariant

pub returns-in_err-next : goal.returns-in_err-next
returns-in_err-next c =
    let class = class_of c.args.self.now.regions.now c.args.self.now.places.now in
    let tables = c.args.tables.now in
    let i = c.loop-table.table-index in
    let t = c.table-item.result in
    let answers = c.loop-table.answers in
    passed_on (answers_in class [] tables) c.from_residual.result _ c.from_residual.ensures.1
    (λ memory.
    let ended = rw c.as_slice.ensures at (c.in_err-next.ensures memory) in
    sym c.loop-table.invariant ∙ ended_by class answers tables i t c.loop-table-test.true c.table-item.is _ ended)
