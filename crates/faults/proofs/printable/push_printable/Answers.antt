use Rattle.std.proofs.Common.{sym, ◌∙◌, append_assoc, append-nil}
use Rattle.std.proofs.lemmas.Str.{IsUtf8-past_char}
use Rattle.faults.proofs.PrintableTexts.{shown_step, shown_of_none}
use Rattle.faults.proofs.printable.push_printable.Goals as goal

pub loop-character-preserved : goal.loop-character-preserved
loop-character-preserved c =
    let held = c.loop-character.invariant in
    let parts = c.in-Some.ensures.steps.0 in
    let step = shown_step _ _ c.in-Some.character held.0 parts in
    (IsUtf8-past_char _ _ c.in-Some.character held.0 parts, rw (c.in_ok-push.ensures.bytes, c.shown_character.ensures, append_assoc) (rw step at held.1))

pub returns : goal.returns
returns c = sym (append-nil _) ∙ rw (shown_of_none _ c.in-None.ensures.steps.0.0) at c.loop-character.invariant.1
