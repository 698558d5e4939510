use Rattle.std.proofs.Common.{Some, refl, sym, ap, ◌∙◌}
use Rattle.std.specs.List.{slice_set}
use Rattle.std.proofs.lemmas.Option.{same_Some, slice_get_read}
use Rattle.journal.specs.Calls.{phase_after}
use Rattle.journal.specs.declared.slot.Slot.{Slot}
use Rattle.journal.proofs.family_queues.FamilyQueues.follow.Goals as goal

pub returns : goal.returns
returns c =
    let slots = c.args.self.now.slots in
    let read = c.index_mut-before.result.now in
    let there = slice_get_read slots.items slots.len c.args.last read slots.ok.0 c.requires.within c.index_mut-before.ensures.value in
    record {
      slots = λ before here.
          ap (λ next. slice_set slots.items c.args.last (record read { next = next })) c.to-before.ensures
          ∙ ap (λ (slot : Slot). slice_set slots.items c.args.last (record slot { next = Some c.args.next })) (same_Some read before (sym there ∙ here));
      phase_is = λ before here. c.next_phase.ensures ∙ ap (λ (slot : Slot). phase_after slot.phase c.args.claim) (same_Some read before (sym there ∙ here));
      len = refl;
      capacity = refl;
      ends = refl;
      lasts = refl;
      ready = refl;
    }
