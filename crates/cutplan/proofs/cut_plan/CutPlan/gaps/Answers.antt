use Rattle.std.proofs.Common.{◌≡◌, ◌≤◌, [], IfOk, OnOk, filter, length, not, sym, subst}
use Rattle.std.specs.List.{list_any}
use Rattle.std.specs.Option.{option_map_or}
use Rattle.std.specs.Result.{IfErr}
use Rattle.cutplan.specs.Check.{cells, covers, gaps}
use Rattle.cutplan.specs.Numbered.{cell_limit, IsWide}
use Rattle.regions.specs.Regions.{table_regions}
use Rattle.cutplan.proofs.Compiling.{kept_masked, kept_regions}
use Rattle.cutplan.proofs.cut_plan.CutPlan.gaps.Goals as goal

pub gaps-requires-clause-few : goal.gaps-requires-clause-few
gaps-requires-clause-few c = c.table_of.ensures.few

pub gaps-requires-clause-masks : goal.gaps-requires-clause-masks
gaps-requires-clause-masks c =
    let t = c.table_of.result.now in
    kept_masked c.args.self.now t c.columns_of.result.now (c.columns_of.ensures t c.table_of.ensures.table)

pub returns-clause-listed : goal.returns-clause-listed
returns-clause-listed c =
    let p = c.args.self.now in
    let t = c.table_of.result.now in
    let at = c.table_of.ensures.table in
    let same = kept_regions p t c.columns_of.result.now (c.columns_of.ensures t at) in
    subst (λ found. IfOk c.gaps.result (λ x. x.items ≡ option_map_or (gaps p) found [])) (sym at)
    (subst (λ rs. IfOk c.gaps.result (λ x. x.items ≡ filter (λ cell. not (list_any (λ r. covers r.cells cell) t.rules)) (cells rs))) same c.gaps.ensures.listed)

pub returns-clause-narrow : goal.returns-clause-narrow
returns-clause-narrow c =
    let p = c.args.self.now in
    let t = c.table_of.result.now in
    let at = c.table_of.ensures.table in
    let same = kept_regions p t c.columns_of.result.now (c.columns_of.ensures t at) in
    subst (λ found. OnOk c.gaps.result (length (option_map_or (λ x. cells (table_regions p x)) found []) ≤ cell_limit)) (sym at)
    (subst (λ rs. OnOk c.gaps.result (length (cells rs) ≤ cell_limit)) same c.gaps.ensures.narrow)

pub returns-clause-wide : goal.returns-clause-wide
returns-clause-wide c =
    let p = c.args.self.now in
    let t = c.table_of.result.now in
    let at = c.table_of.ensures.table in
    let same = kept_regions p t c.columns_of.result.now (c.columns_of.ensures t at) in
    subst (λ found. IfErr c.gaps.result (IsWide (length (option_map_or (λ x. cells (table_regions p x)) found [])))) (sym at)
    (subst (λ rs. IfErr c.gaps.result (IsWide (length (cells rs)))) same c.gaps.ensures.wide)
