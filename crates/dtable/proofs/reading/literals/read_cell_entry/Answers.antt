use Rattle.toml.specs.View.{view}
use Rattle.dtable.proofs.ReadParts.{IsCellOf-refused}
use Rattle.dtable.proofs.Exits.{string_of}
use Rattle.dtable.proofs.reading.literals.read_cell_entry.Goals as goal

pub returns-in-Ok : goal.returns-in-Ok
returns-in-Ok c =
    let text = c.in_ok-text.text.now in
    record { text = text; written = string_of (view c.args.entry.now) text c.in_ok-text.ensures.ok; spelled = c.in-Ok.ensures.ok }

pub returns-in-Err : goal.returns-in-Err
returns-in-Err c memory =
    IsCellOf-refused c.args.kind (view c.args.entry.now) _ c.in_ok-text.ensures.ok (c.in-Err.ensures.refused (λ e. memory (c.cell_fault.ensures.memory e)))
