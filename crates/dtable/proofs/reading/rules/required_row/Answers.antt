use Rattle.std.proofs.Common.{ap, sym, ◌∙◌}
use Rattle.std.proofs.lemmas.Option.{same_Some}
use Rattle.toml.specs.View.{items_view}
use Rattle.dtable.specs.Document.{item_count}
use Rattle.dtable.proofs.Entries.{item_count-view}
use Rattle.dtable.proofs.reading.rules.required_row.Goals as goal

pub returns-then-items-columns-clause-refused : goal.returns-then-items-columns-clause-refused
returns-then-items-columns-clause-refused c items read same =
    let found = c.in_ok-items.items.now in
    let known = c.in_ok-items.ensures.ok in
    let here = same_Some items (items_view found) (sym read ∙ known) in
    c.if-items-columns.true (sym (item_count-view found) ∙ ap item_count (sym here) ∙ same)

pub returns-clause-ok : goal.returns-clause-ok
returns-clause-ok c = c.in_ok-items.ensures.ok

pub returns-clause-columns : goal.returns-clause-columns
returns-clause-columns c = c.if-items-columns.false

pub returns-clause-refused : goal.returns-clause-refused
returns-clause-refused c = tt

pub returns-then-items-columns-clause-ok : goal.returns-then-items-columns-clause-ok
returns-then-items-columns-clause-ok c = tt

pub returns-then-items-columns-clause-columns : goal.returns-then-items-columns-clause-columns
returns-then-items-columns-clause-columns c = tt
