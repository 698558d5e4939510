use Rattle.std.proofs.Common.{◌∙◌, List, [], ◌∷◌, ◌||◌, ◌≡◌, ℕ, map, refl, sym, ap}
use Rattle.std.specs.List.{list_any}
use Rattle.tables.specs.declared.table.Table.{Table}
use Rattle.dtable.specs.RoleFile.{lists_texts}
use Rattle.dtable.specs.Scope.{seen_of}
use Rattle.dtable.proofs.ReadNames.{lists_text_as}
use Rattle.tables.proofs.Searches.{any_more, any_found, any_missing}
use Rattle.dtable.proofs.reading.roles.lists_texts.Goals as goal

over_tables : (name : List ℕ) (ts : List Table) → list_any (λ t. list_any (lists_text_as name) (seen_of t)) ts ≡ lists_texts (map seen_of ts) name
over_tables name [] = refl
over_tables name (t ∷ ts) = ap (λ b. list_any (lists_text_as name) (seen_of t) || b) (over_tables name ts)

pub loop-table-init : goal.loop-table-init
loop-table-init c = refl

pub loop-table-preserved : goal.loop-table-preserved
loop-table-preserved c =
    any_more (λ (t : Table). list_any (lists_text_as c.args.name.now) (seen_of t)) c.args.tables.now c.loop-table.table-index c.table-item.result c.loop-table-test.true c.table-item.is c.loop-table.invariant (sym c.table_lists_texts.ensures.listed ∙ c.if-table_lists_texts.false)

pub returns-then-table_lists_texts-clause-listed : goal.returns-then-table_lists_texts-clause-listed
returns-then-table_lists_texts-clause-listed c =
    any_found (λ (t : Table). list_any (lists_text_as c.args.name.now) (seen_of t)) c.args.tables.now c.loop-table.table-index c.table-item.result c.loop-table-test.true c.table-item.is (sym c.table_lists_texts.ensures.listed ∙ c.if-table_lists_texts.true)
    ∙ over_tables c.args.name.now c.args.tables.now

pub returns-clause-listed : goal.returns-clause-listed
returns-clause-listed c =
    any_missing (λ (t : Table). list_any (lists_text_as c.args.name.now) (seen_of t)) c.args.tables.now c.loop-table.table-index c.loop-table-test.false c.loop-table.invariant
    ∙ over_tables c.args.name.now c.args.tables.now
