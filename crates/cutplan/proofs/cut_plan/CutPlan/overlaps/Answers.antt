use Rattle.std.proofs.Common.{◌≡◌, ◌-◌, [], IfOk, ℕ, filter, length, sym, subst}
use Rattle.std.specs.Option.{option_map_or}
use Rattle.cutplan.specs.Check.{meet, overlaps, pairs}
use Rattle.cutplan.proofs.Compiling.{kept_masked, kept_regions}
use Rattle.cutplan.proofs.cut_plan.CutPlan.overlaps.Goals as goal

pub overlaps_of-requires : goal.overlaps_of-requires
overlaps_of-requires c =
    let t = c.table_of.result.now in
    record { few = c.table_of.ensures.few; masks = kept_masked c.args.self.now t c.columns_of.result.now (c.columns_of.ensures t c.table_of.ensures.table) }

pub returns : goal.returns
returns c =
    let p = c.args.self.now in
    let t = c.table_of.result.now in
    let at = c.table_of.ensures.table in
    let same = kept_regions p t c.columns_of.result.now (c.columns_of.ensures t at) in
    subst (λ found. IfOk c.overlaps_of.result (λ x. x.items ≡ option_map_or (overlaps p) found [])) (sym at)
    (subst (λ rs. IfOk c.overlaps_of.result (λ x. x.items ≡ filter (λ (pair : ℕ × ℕ). meet rs t (pair.0 - 1) (pair.1 - 1)) (pairs (length t.rules)))) same c.overlaps_of.ensures)
