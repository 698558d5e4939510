use Rattle.std.proofs.Common.{◌≡◌, ◌≤◌, length, ap, sym, ◌∙◌, subst}
use Rattle.std.specs.Prelude.{Some, slice_get}
use Rattle.cutplan.specs.CompiledColumns.{AreCompiledColumns}
use Rattle.cutplan.proofs.ByMasks.{found_at, kept_at}
use Rattle.cutplan.proofs.Compiling.{rule_count_of, on_some}
use Rattle.cutplan.proofs.cut_plan.CutPlan.matching_mask.Goals as goal

pub matching_mask-requires-clause-kept : goal.matching_mask-requires-clause-kept
matching_mask-requires-clause-kept c =
    let p = c.self.inside.plan.now in
    let t = c.args.table.now in
    let place = c.args.place in
    let columns = c.in_ok-columns.columns.now in
    let found = c.in_ok-columns.ensures.lookup in
    let view : p ≡ c.args.self.now = c.self.view_is in
    let at : slice_get p.tables place ≡ Some t = ap (λ q. slice_get q.tables place) view ∙ c.requires in
    let there : slice_get c.self.inside.columns place ≡ Some columns = ap (λ xs. slice_get xs place) (sym c.as_slice.ensures) ∙ found_at c.as_slice.result.now place columns found.0 found.1 in
    record { plan = p; columns = subst (λ xs. AreCompiledColumns p t xs) (sym c.as_slice-2.ensures) (kept_at p c.self.inside.columns place t columns c.self.invariant.cut at there) }

pub matching_mask-requires-clause-few : goal.matching_mask-requires-clause-few
matching_mask-requires-clause-few c =
    let view : c.self.inside.plan.now ≡ c.args.self.now = c.self.view_is in
    rule_count_of c.self.inside.plan.now.tables c.args.place c.args.table.now c.self.invariant.cut.few (ap (λ q. slice_get q.tables c.args.place) view ∙ c.requires)

pub returns-clause-few : goal.returns-clause-few
returns-clause-few c =
    let view : c.self.inside.plan.now ≡ c.args.self.now = c.self.view_is in
    on_some c.matching_mask.result (length c.args.table.now.rules ≤ 256)
    (rule_count_of c.self.inside.plan.now.tables c.args.place c.args.table.now c.self.invariant.cut.few (ap (λ q. slice_get q.tables c.args.place) view ∙ c.requires))
