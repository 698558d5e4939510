use Rattle.std.proofs.Common.{◌≡◌, ◌<◌, ◌+◌, true, refl, ap, arith, rules, sym, subst, ◌∙◌}
use Rattle.std.proofs.lemmas.Grind.{common_steps}
use Rattle.std.specs.List.{slice_set}
use Rattle.std.proofs.lemmas.List.{length-set}
use Rattle.std.proofs.lemmas.Option.{same_Some, slice_get_read}
use Rattle.ordered_claims.specs.Kept.{IsQueued}
use Rattle.ordered_claims.specs.Queued.{IsStocked}
use Rattle.ordered_claims.specs.declared.file_queue.FileQueue.{FileQueue}
use Rattle.ordered_claims.proofs.Keeping.{first_of_all, gives_none, head_there, kept_next, offers}
use Rattle.ordered_claims.proofs.Lists.{set_same}
use Rattle.ordered_claims.proofs.queues.ClaimQueues.next.Goals as goal

pub returns-in_default : goal.returns-in_default
returns-in_default c =
    let i = c.self.inside in
    let stocked : i.is_stocked ≡ true = search rules in
    let kept = subst (λ s. IsQueued i.terms.now i.files.items s) stocked c.self.invariant in
    rw (← c.self.view_is) (refl, gives_none i.terms.now i.files.items kept (rw c.deref.ensures.value at c.in_default.ensures))

pub give-claim-requires-clause-there : goal.give-claim-requires-clause-there
give-claim-requires-clause-there c =
    let i = c.self.inside in
    let stocked : i.is_stocked ≡ true = search rules in
    let kept = subst (λ s. IsQueued i.terms.now i.files.items s) stocked c.self.invariant in
    let head = c.in-Some.head in
    let old = c.index_mut.result.now in
    let first = first_of_all c.order.result i.terms.now.order c.deref.result.now i.files.items head c.order.ensures c.deref.ensures.value c.in-Some.ensures in
    let there = slice_get_read i.files.items i.files.len head.index old i.files.ok.0 (omega (arith, first.within, i.files.ok.0)) c.index_mut.ensures.value in
    head_there i.terms.now i.files.items kept head first old there

pub give-claim-requires-clause-fits : goal.give-claim-requires-clause-fits
give-claim-requires-clause-fits c =
    let i = c.self.inside in
    let head = c.in-Some.head in
    let old = c.index_mut.result.now in
    let first = first_of_all c.order.result i.terms.now.order c.deref.result.now i.files.items head c.order.ensures c.deref.ensures.value c.in-Some.ensures in
    let there = slice_get_read i.files.items i.files.len head.index old i.files.ok.0 (omega (arith, first.within, i.files.ok.0)) c.index_mut.ensures.value in
    c.self.invariant.fits head.index old there

pub invariant_of-self : goal.invariant_of-self
invariant_of-self c =
    let i = c.self.inside in
    let stocked : i.is_stocked ≡ true = search rules in
    let kept = subst (λ s. IsQueued i.terms.now i.files.items s) stocked c.self.invariant in
    let head = c.in-Some.head in
    let old = c.index_mut.result.now in
    let new = c.give-claim.new.self in
    let read = c.index-2.result.now in
    let first = first_of_all c.order.result i.terms.now.order c.deref.result.now i.files.items head c.order.ensures c.deref.ensures.value c.in-Some.ensures in
    let within : head.index < i.files.len = omega (arith, first.within, i.files.ok.0) in
    let there = slice_get_read i.files.items i.files.len head.index old i.files.ok.0 within c.index_mut.ensures.value in
    let again = slice_get_read (slice_set i.files.items head.index new) i.files.len head.index read (i.files.ok.0 ∙ sym (length-set i.files.items head.index new)) within c.index-2.ensures in
    let same : new ≡ read = same_Some new read (sym (set_same i.files.items head.index old new there) ∙ again) in
    kept_next i.terms.now i.files.items kept head old new c.give-claim.result first there c.give-claim.ensures c.is_stocked-self-inside.result
    (λ holds. subst (λ (q : FileQueue). IsStocked q) (sym same) (c.is_stocked-self-inside.ensures holds))

pub returns : goal.returns
returns c =
    let i = c.self.inside in
    let stocked : i.is_stocked ≡ true = search rules in
    let kept = subst (λ s. IsQueued i.terms.now i.files.items s) stocked c.self.invariant in
    let head = c.in-Some.head in
    let old = c.index_mut.result.now in
    let first = first_of_all c.order.result i.terms.now.order c.deref.result.now i.files.items head c.order.ensures c.deref.ensures.value c.in-Some.ensures in
    let within : head.index < i.files.len = omega (arith, first.within, i.files.ok.0) in
    let there = slice_get_read i.files.items i.files.len head.index old i.files.ok.0 within c.index_mut.ensures.value in
    let again = slice_get_read i.files.items i.files.len head.index c.index.result.now i.files.ok.0 within c.index.ensures in
    let same : c.index.result.now ≡ old = same_Some c.index.result.now old (sym again ∙ there) in
    rw (← c.self.view_is)
    (offers i.terms.now i.files.items kept head old c.give-claim.new.self c.give-claim.result first there c.give-claim.ensures
    (head.index + 1) c.index.result.now.given (omega arith) (ap (λ (f : FileQueue). f.given) same))

pub index-requires : goal.index-requires
index-requires c = grind (arith, common_steps)

pub index_mut-requires : goal.index_mut-requires
index_mut-requires c = grind (arith, common_steps)

pub index-requires-2 : goal.index-requires-2
index-requires-2 c = grind (arith, common_steps)
