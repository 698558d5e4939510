use Rattle.std.proofs.Common.{◌≡◌, length, take, vec_len, rules, arith}
use Rattle.std.proofs.lemmas.Grind.{common_steps}
use Rattle.std.proofs.lemmas.Result.{on_ok_weaker}
use Rattle.remit_records.proofs.Noting.{noted-accept, noted-next}
use Rattle.remit_records.proofs.decisions.Notes.note_accept.Goals as goal

pub returns : goal.returns
returns c =
    let J = c.args.journal.now in
    let place = c.args.place in
    let size : vec_len c.args.self.now.decided ≡ length c.args.self.now.decided.items = search rules in
    on_ok_weaker c.note_position.result
    (λ notes providers noted.
    noted-next J providers J place c.index-journal-place.result _ c.requires c.index-journal-place.is
    (noted-accept J providers (take place J) c.index-journal-place.result c.in-Accept.provider c.in-Accept.place c.args.self.now _ c.in-Accept.is
    c.in_ok-push.ensures.items (rw (c.len-position.ensures, size) at notes) noted))
    c.note_position.ensures

pub returns-in_default : goal.returns-in_default
returns-in_default c = grind (arith, common_steps)
