-- The indices of the events that the tests on a journal find.
use Rattle.std.proofs.Common.{◌≡◌, ℕ, true, false, List, refl, ap, subst, eqb-true}
use Rattle.std.proofs.lemmas.Bool.{both_ways}
use Rattle.settlement.specs.declared.outcome.Outcome.{Outcome}
use Rattle.journal.specs.Events.{At, is_end, has_end, is_close, closed, is_take, has_take, is_decide, has_decision}
use Rattle.journal.specs.declared.event.Event.{Event}
use Rattle.journal.specs.declared.event.Event.TheVariants.{Accept, End, Close, Take, Decide}
use Rattle.journal.proofs.Grown.{found}

close_is : (event : Event) → is_close event ≡ true → event ≡ Close
close_is Close h = refl
close_is (Accept p place) h = absurd (both_ways false refl h)
close_is (End p) h = absurd (both_ways false refl h)
close_is (Take k) h = absurd (both_ways false refl h)
close_is (Decide k o) h = absurd (both_ways false refl h)

end_is : (p : ℕ) (event : Event) → is_end p event ≡ true → event ≡ End p
end_is p (End q) h = ap (λ w. End w) (eqb-true q p h)
end_is p Close h = absurd (both_ways false refl h)
end_is p (Accept q place) h = absurd (both_ways false refl h)
end_is p (Take k) h = absurd (both_ways false refl h)
end_is p (Decide k o) h = absurd (both_ways false refl h)

take_is : (k : ℕ) (event : Event) → is_take k event ≡ true → event ≡ Take k
take_is k (Take j) h = ap (λ w. Take w) (eqb-true j k h)
take_is k Close h = absurd (both_ways false refl h)
take_is k (Accept q place) h = absurd (both_ways false refl h)
take_is k (End p) h = absurd (both_ways false refl h)
take_is k (Decide j o) h = absurd (both_ways false refl h)

-- a decision of the position with any outcome
record IsDecision (k : ℕ) (event : Event) : Type 0 where
  pub decision : Outcome
  pub is : event ≡ Decide k decision

decide_is : (k : ℕ) (event : Event) → is_decide k event ≡ true → IsDecision k event
decide_is k (Decide j o) h = record { decision = o; is = ap (λ w. Decide w o) (eqb-true j k h) }
decide_is k Close h = absurd (both_ways false refl h)
decide_is k (Accept q place) h = absurd (both_ways false refl h)
decide_is k (End p) h = absurd (both_ways false refl h)
decide_is k (Take j) h = absurd (both_ways false refl h)

-- the event is at some index
pub record IsLocated (J : List Event) (event : Event) : Type 0 where
  pub index : ℕ
  pub at : At J index event

pub close_located : (J : List Event) → closed J ≡ true → IsLocated J Close
close_located J h =
    let f = found is_close J h in
    record { index = f.index; at = subst (λ w. At J f.index w) (close_is f.element f.passes) f.located }

pub end_located : (J : List Event) (p : ℕ) → has_end J p ≡ true → IsLocated J (End p)
end_located J p h =
    let f = found (is_end p) J h in
    record { index = f.index; at = subst (λ w. At J f.index w) (end_is p f.element f.passes) f.located }

pub take_located : (J : List Event) (k : ℕ) → has_take J k ≡ true → IsLocated J (Take k)
take_located J k h =
    let f = found (is_take k) J h in
    record { index = f.index; at = subst (λ w. At J f.index w) (take_is k f.element f.passes) f.located }

-- a decision of the position is at some index
pub record DecisionIsLocated (J : List Event) (k : ℕ) : Type 0 where
  pub index : ℕ
  pub decision : Outcome
  pub at : At J index (Decide k decision)

pub decision_located : (J : List Event) (k : ℕ) → has_decision J k ≡ true → DecisionIsLocated J k
decision_located J k h =
    let f = found (is_decide k) J h in
    let d = decide_is k f.element f.passes in
    record { index = f.index; decision = d.decision; at = subst (λ w. At J f.index w) d.is f.located }
