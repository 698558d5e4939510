use Rattle.std.proofs.Common.{ap, ◌∙◌}
use Rattle.std.proofs.lemmas.List.{take_all}
use Rattle.cutplan.specs.declared.compiled_column.CompiledColumn.{CompiledColumn}
use Rattle.cutplan.specs.CompiledColumns.{regions_kept}
use Rattle.cutplan.proofs.Compiling.{more_mapped}
use Rattle.cutplan.proofs.compiled_column.regions_of_columns.Goals as goal

pub loop-column-preserved : goal.loop-column-preserved
loop-column-preserved c =
    more_mapped (λ (x : CompiledColumn). x.partition.regions.items) c.args.columns.now c.loop-column.found _ c.loop-column.column-index c.column-item.result c.in_ok-duplicate_regions.field-0 c.loop-column-test.true c.column-item.is
    c.loop-column.invariant c.in_ok-duplicate_regions.ensures c.in_ok-push.ensures.ok

pub returns : goal.returns
returns c = c.loop-column.invariant ∙ ap regions_kept (take_all c.loop-column.column-index c.args.columns.now c.loop-column-test.false)
