use Rattle.std.proofs.Common.{◌≡◌, Some, None, sym, ap, ◌∙◌, arith, rules}
use Rattle.std.proofs.lemmas.Grind.{common_steps}
use Rattle.std.specs.List.{slice_get, slice_set}
use Rattle.std.proofs.lemmas.Option.{same_Some, slice_get_read, slice_get_within}
use Rattle.journal.specs.Places.{Decided}
use Rattle.journal.specs.declared.slot.Slot.{Slot}
use Rattle.journal.proofs.Linking.{decided-next, read-following}
use Rattle.journal.proofs.family_queues.FamilyQueues.decide.Goals as goal

pub index_mut-requires-in-Some : goal.index_mut-requires-in-Some
index_mut-requires-in-Some c =
    let slots = c.args.self.now.slots in
    let there = slice_get_read slots.items slots.len c.args.position c.index.result.now slots.ok.0 c.requires.within c.index.ensures in
    let next = c.requires.next c.index.result.now c.in-Some.next there (sym c.position.ensures ∙ c.in-Some.is) in
    omega (arith, slots.ok.0, slice_get_within slots.items c.in-Some.next next.0 next.1)

pub returns-in_ok-push_back-in-Some-clause-decided : goal.returns-in_ok-push_back-in-Some-clause-decided
returns-in_ok-push_back-in-Some-clause-decided c = λ slot here.
    let slots = c.args.self.now.slots in
    let there = slice_get_read slots.items slots.len c.args.position c.index.result.now slots.ok.0 c.requires.within c.index.ensures in
    let again = slice_get_read slots.items slots.len c.args.position c.index_mut.result.now slots.ok.0 c.requires.within c.index_mut.ensures.value in
    let next = c.requires.next c.index.result.now c.in-Some.next there (sym c.position.ensures ∙ c.in-Some.is) in
    let within = slice_get_within slots.items c.in-Some.next next.0 next.1 in
    let read : slice_get slots.items c.in-Some.next ≡ Some c.index_mut-in-Some.result.now =
    search (rules, read-following slots.items c.args.position c.in-Some.next c.decide.new.self c.index_mut-in-Some.result.now next.2 within) in
    let link : slot.next ≡ Some c.in-Some.next = ap (λ (x : Slot). x.next) (same_Some _ _ (sym here ∙ there)) ∙ sym c.position.ensures ∙ c.in-Some.is in
    rw link (λ after following.
    let both = decided-next slots.items c.args.position c.in-Some.next c.args.left.now c.index_mut.result.now c.index_mut-in-Some.result.now c.release.new.self slot after here following again read c.release.ensures in
    let moved = λ (slot : Slot). slice_set (slice_set slots.items c.args.position slot) c.in-Some.next c.release.new.self in
    (rw link at (ap moved c.decide.ensures ∙ both), search rules)
    )

pub returns-in-None-clause-decided : goal.returns-in-None-clause-decided
returns-in-None-clause-decided c = λ slot here.
    let slots = c.args.self.now.slots in
    let there = slice_get_read slots.items slots.len c.args.position c.index.result.now slots.ok.0 c.requires.within c.index.ensures in
    let link : slot.next ≡ None = ap (λ (x : Slot). x.next) (same_Some _ _ (sym here ∙ there)) ∙ sym c.position.ensures ∙ c.in-None.is in
    let again = slice_get_read slots.items slots.len c.args.position c.index_mut-in-None.result.now slots.ok.0 c.requires.within c.index_mut-in-None.ensures.value in
    let same : c.index_mut-in-None.result.now ≡ slot = same_Some _ _ (sym again ∙ here) in
    let same = ap (λ (x : Slot). record x { phase = Decided c.args.left.now }) (same_Some _ _ (sym again ∙ here)) in
    rw link (rw link at (ap (λ (x : Slot). slice_set slots.items c.args.position x) (c.decide-in-None.ensures ∙ same)), search rules)

pub index_mut-requires : goal.index_mut-requires
index_mut-requires c = grind (arith, common_steps)
