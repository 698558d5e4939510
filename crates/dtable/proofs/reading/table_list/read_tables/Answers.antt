use Rattle.toml.specs.View.{view, items_view}
use Rattle.dtable.specs.PlanFile.{AreTables, AreTablesOf}
use Rattle.dtable.proofs.ReadParts.{Reads-as}
use Rattle.dtable.proofs.ReadPlan.{AreTablesOf-unwritten, AreTablesOf-made, AreTables-of}
use Rattle.dtable.proofs.Exits.{passed_on}
use Rattle.dtable.proofs.reading.table_list.read_tables.Goals as goal

pub returns-in_err-entries : goal.returns-in_err-entries
returns-in_err-entries c =
    passed_on (AreTablesOf c.args.names.now (view c.args.document.now)) c.from_residual.result _ c.from_residual.ensures.1
    (λ memory. AreTablesOf-unwritten c.args.names.now (view c.args.document.now) c.in_err-entries.ensures.refused)

pub returns : goal.returns
returns c =
    let d = view c.args.document.now in
    let ds = items_view c.in_ok-entries.entries.now in
    Reads-as (AreTables c.args.names.now ds) (AreTablesOf c.args.names.now d) c.read_table_entries.result (AreTablesOf-made c.args.names.now d ds c.in_ok-entries.ensures.ok) (AreTables-of c.args.names.now d ds c.in_ok-entries.ensures.ok) c.read_table_entries.ensures
