use Rattle.std.proofs.Common.{◌≡◌, true, false, ◌∙◌}
use Rattle.tables.specs.Plan.{gives_one}
use Rattle.dtable.proofs.ReadNames.{texts-listed, texts-given}
use Rattle.dtable.proofs.reading.roles.table_lists_texts.Goals as goal

pub returns-then-not-gives_one-clause-listed : goal.returns-then-not-gives_one-clause-listed
returns-then-not-gives_one-clause-listed c =
    let t = c.args.table.now in
    let list : gives_one t.hit ≡ false = cc in
    let texts = rw c.as_slice.ensures at c.some_text.ensures.listed in
    texts ∙ texts-listed c.args.name.now t.hit t.outputs list

pub returns-else-not-gives_one-clause-listed : goal.returns-else-not-gives_one-clause-listed
returns-else-not-gives_one-clause-listed c =
    let t = c.args.table.now in
    let single : c.gives_one.result ≡ true = cc in
    let one : gives_one t.hit ≡ true = cc in
    rw single (texts-given c.args.name.now t.hit t.outputs one)
