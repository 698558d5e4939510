use Rattle.std.proofs.Common.{◌≡◌, length, refl, vec_len, rules, ◌∙◌}
use Rattle.remit_records.proofs.Noting.{laid}
use Rattle.remit_records.proofs.decisions.Notes.into_decisions.Goals as goal

pub returns : goal.returns
returns c providers noted =
    let size : vec_len c.args.self.decided ≡ length c.args.self.decided.items = search rules in
    laid c.args.version providers c.args.journal.now c.args.self (length c.args.journal.now) _ noted (rw c.as_slice.ensures.value at c.replace_each.ensures) refl
    (c.len.ensures ∙ size) refl
