use Rattle.std.proofs.Common.{◌≡◌, Some, map, sym, ◌∙◌}
use Rattle.toml.specs.View.{view}
use Rattle.dtable.specs.PlanFile.{IsCell, IsCellOf}
use Rattle.dtable.specs.Scope.{seen_of, kind_at}
use Rattle.dtable.proofs.ReadParts.{Reads-as, IsCell-made, IsCell-kind}
use Rattle.dtable.proofs.reading.inputs.read_input_cell.Goals as goal

pub returns-in-Some : goal.returns-in-Some
returns-in-Some c =
    let names = c.args.names.now in
    let earlier = map seen_of c.args.tables.now in
    let d = view c.args.entry.now in
    let known : kind_at names earlier c.args.origin ≡ Some c.in-Some.kind = sym c.kind_at.ensures ∙ c.in-Some.is in
    Reads-as (IsCellOf c.in-Some.kind d) (IsCell names earlier c.args.origin d) c.read_cell_entry.result
    (IsCell-made names earlier c.args.origin c.in-Some.kind known d) (IsCell-kind names earlier c.args.origin c.in-Some.kind known d) c.read_cell_entry.ensures
