use Rattle.std.proofs.Common.{refl, take, arith}
use Rattle.std.proofs.lemmas.Grind.{common_steps}
use Rattle.remit_records.proofs.Noting.{noted-decision, noted-next-decision}
use Rattle.remit_records.proofs.decisions.Notes.note_decision.Goals as goal

pub returns : goal.returns
returns c providers accepting noted =
    let J = c.args.journal.now in
    let place = c.args.place in
    noted-next-decision J providers accepting J place c.index-journal-place.result _ c.requires c.index-journal-place.is
    (noted-decision J providers accepting (take place J) c.index-journal-place.result c.in-Decide.position place c.in-Decide.outcome c.args.self.now _ c.in-Decide.is
    c.requires c.index-journal-place.is refl c.note_place.ensures noted)

pub returns-in_default : goal.returns-in_default
returns-in_default c = grind (arith, common_steps)
