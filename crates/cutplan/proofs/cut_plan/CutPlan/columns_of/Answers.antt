use Rattle.std.proofs.Common.{◌≡◌, ◌<◌, ◌-◌, length, get_or, ap, sym, ◌∙◌, subst, arith}
use Rattle.std.specs.List.{AllZip}
use Rattle.cutplan.specs.CompiledColumns.{AreColumnsOf, AreCompiledColumns}
use Rattle.cutplan.proofs.Compiling.{columns_of_number, table_within}
use Rattle.cutplan.proofs.cut_plan.CutPlan.columns_of.Goals as goal

pub bounds-as_slice-table : goal.bounds-as_slice-table
bounds-as_slice-table c =
    let p = c.args.self.now in
    let all : AllZip (AreCompiledColumns p) p.tables c.self.inside.columns = subst (λ q. AllZip (AreCompiledColumns q) q.tables c.self.inside.columns) c.self.view_is c.self.invariant.cut.columns in
    subst (λ kept. c.args.table - 1 < length kept) (sym c.as_slice.ensures) (table_within p c.self.inside.columns c.args.table all c.requires.0 c.requires.1)

pub offset_bounds-as_slice-table : goal.offset_bounds-as_slice-table
offset_bounds-as_slice-table c = let below = bounds-as_slice-table c in let small = c.as_slice.type_inv.1 in omega (arith, below, small)

pub returns : goal.returns
returns c =
    let p = c.args.self.now in
    let all : AllZip (AreCompiledColumns p) p.tables c.self.inside.columns = subst (λ q. AllZip (AreCompiledColumns q) q.tables c.self.inside.columns) c.self.view_is c.self.invariant.cut.columns in
    let columns = c.index-as_slice-table.result in
    let is : columns ≡ get_or c.self.inside.columns (c.args.table - 1) columns = c.index-as_slice-table.is ∙ ap (λ kept. get_or kept (c.args.table - 1) columns) c.as_slice.ensures in
    subst (AreColumnsOf p c.args.table) (sym c.as_slice-2.ensures) (columns_of_number p c.self.inside.columns c.args.table columns all is)
