use Rattle.std.proofs.lemmas.Grind.{elements}
use Rattle.std.proofs.Common.{◌≡◌, ◌-◌, IfOk, Some, get_or, slice_get, ap, sym, ◌∙◌, subst, arith, []}
use Rattle.std.specs.Prelude.{true}
use Rattle.std.specs.Option.{option_map_or}
use Rattle.cutplan.specs.Check.{cells}
use Rattle.cutplan.specs.Places.{ArePlaces, is_gap}
use Rattle.regions.specs.Regions.{table_regions}
use Rattle.cutplan.proofs.ByMasks.{got_at}
use Rattle.cutplan.proofs.table_check.check_table.Goals as goal

pub returns-clause-gaps : goal.returns-clause-gaps
returns-clause-gaps c =
    let p = c.args.plan.now in
    let number = c.args.table in
    let t = c.index-tables-table.result in
    let low = c.requires.0 in
    let high = c.requires.1 in
    let at : slice_get p.tables (number - 1) ≡ Some t = got_at p.tables (number - 1) t (omega (arith, low, high)) (c.index-tables-table.is ∙ ap (λ ts. get_or ts (number - 1) t) c.tables.ensures.tables) in
    subst (λ found. IfOk c.check_of.result (λ check. ArePlaces (option_map_or (λ x. cells (table_regions p x)) found []) (λ cell. option_map_or (λ x. is_gap x cell) found true) check.gaps)) (sym at) c.check_of.ensures.gaps

pub returns-clause-columns : goal.returns-clause-columns
returns-clause-columns c = grind (arith, elements)

pub returns-clause-overlaps : goal.returns-clause-overlaps
returns-clause-overlaps c = grind (arith, elements)
