use Rattle.intake_csv.specs.declared.column.Content.TheVariants.{Plain}
use Rattle.intake_csv.proofs.Spelling.{no_plain, plain_read, unread}
use Rattle.intake_csv.proofs.field.read_of_kind.Goals as goal

pub returns-in-Err-Bad : goal.returns-in-Err-Bad
returns-in-Err-Bad c = unread (Plain c.args.kind) c.args.text.now c.requires (no_plain c.args.kind c.args.text.now (rw c.in-Err-Bad.field-0-is at c.in-Err-Bad.ensures.refused))

pub returns-in-Ok : goal.returns-in-Ok
returns-in-Ok c = plain_read c.args.kind c.args.text.now c.in-Ok.value c.requires c.in-Ok.ensures.ok
