-- The order within families is preserved.
use Rattle.std.proofs.Common.{◌≡◌, ℕ, zero, suc, Bool, true, false, not, ◌&&◌, ◌||◌, List, [], ◌∷◌, ◌++◌, take, Some, refl, sym, ap, subst, ◌∙◌, inl, inr}
use Rattle.std.specs.List.{slice_get}
use Rattle.std.specs.Str.{bytes_eq}
use Rattle.std.proofs.Math.Bool.{and_assoc}
use Rattle.std.proofs.lemmas.Bool.{cases_Bool, false≢true, both_ways, false_from_ne_true, and_right, and_from, or_right, not-false}
use Rattle.std.proofs.lemmas.Option.{same_Some, none-some}
use Rattle.std.proofs.lemmas.Slice.Eq.{bytes_eq-Decides}
use Rattle.settlement.specs.Accounts.{family_of}
use Rattle.settlement.specs.declared.acc.Acc.{Acc}
use Rattle.settlement.specs.declared.claim.Claim.{Claim}
use Rattle.journal.specs.Places.{Phase, Waiting, Ready, InWork, Decided, Place, InTurn, all_decided, is_decided, is_of, is_waiting, phase_at}
use Rattle.journal.specs.Calls.{next_phase, next_place, ready_at, release_first, with_decision, with_phase}

-- the place does not block later claims of the family: it is of another family, or decided
abbrev pub lets : List ℕ → Place → Bool
lets family place = not (is_of family place) || is_decided place.phase

-- each claim of a family is decided, including the claim at one more place
abbrev pub step : (List ℕ → Bool) → Place → List ℕ → Bool
step before place family = before family && lets family place

-- the places are in order, if `before` says for which families all claims before them are decided
abbrev pub Turns : (List ℕ → Bool) → List Place → Type 0
Turns before [] = Unit {0}
Turns before (place ∷ rest) = (is_waiting place.phase ≡ not (before place.account.family)) × Turns (step before place) rest

pub and-true : (b : Bool) → (b && true) ≡ b
and-true true = refl
and-true false = refl

turns-same : (d e : List ℕ → Bool) (places : List Place) → ((m : List ℕ) → d m ≡ e m) → Turns d places → Turns e places
turns-same d e [] same h = tt
turns-same d e (p ∷ ps) same h =
    (h.0 ∙ ap not (same p.account.family), turns-same (step d p) (step e p) ps (λ m. ap (λ b. b && lets m p) (same m)) h.1)

turns-at : (d : List ℕ → Bool) (places : List Place) (k : ℕ) (place : Place) → Turns d places → slice_get places k ≡ Some place
    → is_waiting place.phase ≡ not (d place.account.family && all_decided place.account.family (take k places))
turns-at d [] k place h there = absurd (none-some place there)
turns-at d (p ∷ ps) zero place h there =
    subst (λ (x : Place). is_waiting x.phase ≡ not (d x.account.family && true)) (same_Some p place there) (h.0 ∙ ap not (sym (and-true (d p.account.family))))
turns-at d (p ∷ ps) (suc k) place h there =
    turns-at (step d p) ps k place h.1 there ∙ ap not (and_assoc (d place.account.family) (lets place.account.family p) (all_decided place.account.family (take k ps)))

turns-from : (d : List ℕ → Bool) (places : List Place)
    → ((k : ℕ) (place : Place) → slice_get places k ≡ Some place → is_waiting place.phase ≡ not (d place.account.family && all_decided place.account.family (take k places)))
    → Turns d places
turns-from d [] h = tt
turns-from d (p ∷ ps) h = (
  h 0 p refl ∙ ap not (and-true (d p.account.family)),
  turns-from (step d p) ps (λ k place there. h (suc k) place there ∙ ap not (sym (and_assoc (d place.account.family) (lets place.account.family p) (all_decided place.account.family (take k ps))))),
)

-- no claim precedes the first place, so no family is blocked
abbrev pub all-free : List ℕ → Bool
all-free family = true

pub turns-of : (places : List Place) → InTurn places → Turns all-free places
turns-of places h = turns-from all-free places h.waits

in_turn-of : (places : List Place) → Turns all-free places → InTurn places
in_turn-of places h = record { waits = λ k place there. turns-at all-free places k place h there }

-- an empty list of places is in order
pub in_turn-none : (places : List Place) → [] ≡ places → InTurn places
in_turn-none places empty = subst InTurn empty (record { waits = λ position place there. absurd (none-some place there) })

turns-push : (d : List ℕ → Bool) (places : List Place) (place : Place) → Turns d places
    → is_waiting place.phase ≡ not (d place.account.family && all_decided place.account.family places) → Turns d (places ++ place ∷ [])
turns-push d [] place h waits = (waits ∙ ap not (and-true (d place.account.family)), tt)
turns-push d (p ∷ ps) place h waits =
    (h.0, turns-push (step d p) ps place h.1 (waits ∙ ap not (sym (and_assoc (d place.account.family) (lets place.account.family p) (all_decided place.account.family ps)))))

-- an added claim waits unless each claim of its family is decided
waits-following : (places : List Place) (claim : Claim) → is_waiting (next_phase places claim) ≡ not (all_decided (family_of claim) places)
waits-following places claim = elim (cases_Bool (all_decided (family_of claim) places)) [
  | inl all ↦ rw all refl
  | inr some ↦ rw some refl
]

-- the order after a claim is added
pub in_turn-add : (places : List Place) (claim : Claim) (year : ℕ) → InTurn places → InTurn (places ++ next_place places claim year ∷ [])
in_turn-add places claim year h =
    in_turn-of _ (turns-push all-free places (next_place places claim year) (turns-of places h) (waits-following places claim))

turns-take : (d : List ℕ → Bool) (places : List Place) (k : ℕ) (claim : Claim) → Turns d places
    → phase_at places k ≡ Some (Ready claim) → Turns d (with_phase places k InWork)
turns-take d [] k claim h ready = tt
turns-take d (p ∷ ps) zero claim h ready =
    let e = same_Some p.phase (Ready claim) ready in
    let q : Place = record p { phase = InWork } in (
      sym (ap is_waiting e) ∙ h.0,
      turns-same (step d p) (step d q) ps (λ m. ap (λ b. d m && (not (is_of m p) || b)) (ap is_decided e)) h.1,
    )
turns-take d (p ∷ ps) (suc k) claim h ready = (h.0, turns-take (step d p) ps k claim h.1 ready)

-- the order after a ready claim is taken
pub in_turn-take : (places : List Place) (k : ℕ) (claim : Claim) → InTurn places → phase_at places k ≡ Some (Ready claim)
    → InTurn (with_phase places k InWork)
in_turn-take places k claim h ready = in_turn-of _ (turns-take all-free places k claim (turns-of places h) ready)

-- a released claim does not wait
no-wait : (phase : Phase) → is_waiting phase ≡ true → is_waiting (ready_at phase) ≡ false
no-wait (Waiting claim) h = refl
no-wait (Ready claim) h = refl
no-wait InWork h = refl
no-wait (Decided left) h = refl

-- a released claim is not decided yet
no-decision : (phase : Phase) → is_waiting phase ≡ true → is_decided (ready_at phase) ≡ false
no-decision (Waiting claim) h = refl
no-decision (Ready claim) h = refl
no-decision InWork h = refl
no-decision (Decided left) h = absurd (false≢true h)

-- the test for equal bytes is symmetric
pub apart-turned : (a b : List ℕ) → bytes_eq a b ≡ false → bytes_eq b a ≡ false
apart-turned a b apart =
    false_from_ne_true (bytes_eq b a) (λ same. both_ways (bytes_eq a b) apart ((bytes_eq-Decides a b).1 (sym ((bytes_eq-Decides b a).0 same))))

-- which families are blocked does not change if a place of the family `m` is released
step-released : (d e : List ℕ → Bool) (m : List ℕ) (p : Place) → d m ≡ false → ((q : List ℕ) → bytes_eq m q ≡ false → d q ≡ e q)
    → is_of m p ≡ true → is_waiting p.phase ≡ true → (x : List ℕ) → step d p x ≡ step e (record p { phase = ready_at p.phase }) x
step-released d e m p was others mine waiting x = elim (cases_Bool (bytes_eq m x)) [
  | inl here ↦
      let to = (bytes_eq-Decides m x).0 here in
      let q : Place = record p { phase = ready_at p.phase } in
      let off : d x ≡ false = ap d (sym to) ∙ was in
      let of : is_of x p ≡ true = ap (λ y. bytes_eq p.account.family y) (sym to) ∙ mine in
      let undecided = no-decision p.phase waiting in
      let held : lets x q ≡ false = rw (of, undecided) refl in
      ap (λ b. b && lets x p) off ∙ sym (and_right (e x) (lets x q) held)
  | inr there ↦
      let off : is_of x p ≡ false = ap (λ y. bytes_eq y x) ((bytes_eq-Decides p.account.family m).0 mine) ∙ there in
      rw off (ap (λ b. b && true) (others x there))
]

-- the places after the decided one stay in order: the first place of the family `m` is released,
-- and no other place changes
turns-released : (d e : List ℕ → Bool) (m : List ℕ) (places : List Place) → d m ≡ false → e m ≡ true
    → ((q : List ℕ) → bytes_eq m q ≡ false → d q ≡ e q) → Turns d places → Turns e (release_first m places)
turns-released d e m [] was is others h = tt
turns-released d e m (p ∷ ps) was is others h = elim (cases_Bool (is_of m p)) [
  | inl mine ↦
      let same = (bytes_eq-Decides p.account.family m).0 mine in
      let waiting : is_waiting p.phase ≡ true = h.0 ∙ ap not (ap d same ∙ was) in
      let q : Place = record p { phase = ready_at p.phase } in
      rw mine (
        no-wait p.phase waiting ∙ ap not (sym (ap e same ∙ is)),
        turns-same (step d p) (step e q) ps (step-released d e m p was others mine waiting) h.1,
      )
  | inr other ↦
      let freed : step e p m ≡ true = ap (λ b. b && lets m p) is ∙ (rw other refl) in
      rw other (
        h.0 ∙ ap not (others p.account.family (apart-turned p.account.family m other)),
        turns-released (step d p) (step e p) m ps (ap (λ b. b && lets m p) was) freed (λ q apart. ap (λ b. b && lets q p) (others q apart)) h.1,
      )
]

turns-decide : (d : List ℕ → Bool) (places : List Place) (k : ℕ) (left : Acc) → Turns d places → phase_at places k ≡ Some InWork
    → Turns d (with_decision places k left)
turns-decide d [] k left h work = tt
turns-decide d (p ∷ ps) zero left h work =
    let e = same_Some p.phase InWork work in
    let free : d p.account.family ≡ true = not-false (d p.account.family) (sym h.0 ∙ ap is_waiting e) in
    let q : Place = record p { phase = Decided left } in
    let was : step d p p.account.family ≡ false = and_right (d p.account.family) (lets p.account.family p) (rw ((bytes_eq-Decides p.account.family p.account.family).1 refl) (ap is_decided e)) in
    let is : step d q p.account.family ≡ true = and_from (d p.account.family) (lets p.account.family q) free (or_right (not (is_of p.account.family q)) true refl) in
    (sym (ap not free), turns-released (step d p) (step d q) p.account.family ps was is (λ x apart. rw apart refl) h.1)
turns-decide d (p ∷ ps) (suc k) left h work = (h.0, turns-decide (step d p) ps k left h.1 work)

-- the order after a taken claim is decided
pub in_turn-decide : (places : List Place) (k : ℕ) (left : Acc) → InTurn places → phase_at places k ≡ Some InWork
    → InTurn (with_decision places k left)
in_turn-decide places k left h work = in_turn-of _ (turns-decide all-free places k left (turns-of places h) work)
