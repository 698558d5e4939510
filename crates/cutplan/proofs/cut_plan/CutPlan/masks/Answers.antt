use Rattle.std.proofs.Common.{◌≡◌, ◌-◌, ap, sym, ◌∙◌, subst, arith}
use Rattle.cutplan.specs.declared.compiled_column.CompiledColumn.{CompiledColumn}
use Rattle.cutplan.specs.Masks.{AreMasksOf}
use Rattle.cutplan.proofs.ByMasks.{column_masks}
use Rattle.cutplan.proofs.Compiling.{at_place, column_within}
use Rattle.cutplan.proofs.cut_plan.CutPlan.masks.Goals as goal

pub bounds-columns_of-column : goal.bounds-columns_of-column
bounds-columns_of-column c =
    let p = c.args.self.now in
    let low = c.requires.table.0 in
    let high = c.requires.table.1 in
    let table = at_place p.tables (c.args.table - 1) (omega (arith, low, high)) in
    column_within p c.args.table c.args.column table.0 c.columns_of.result.now (c.columns_of.ensures table.0 table.1) table.1 c.requires.column

pub offset_bounds-columns_of-column : goal.offset_bounds-columns_of-column
offset_bounds-columns_of-column c = let below = bounds-columns_of-column c in let small = c.columns_of.type_inv.1 in omega (arith, below, small)

pub returns : goal.returns
returns c =
    let p = c.args.self.now in
    let column = c.index-columns_of-column.result in
    let masks : c.as_slice.result.now ≡ column.masks = c.as_slice.ensures ∙ ap (λ (x : CompiledColumn). x.masks) (sym c.index-columns_of-column.is) in
    subst (λ ms. AreMasksOf p c.args.table c.args.column ms) (sym masks)
    (column_masks p c.args.table c.args.column c.columns_of.result.now column c.columns_of.ensures c.requires.column c.index-columns_of-column.is)
