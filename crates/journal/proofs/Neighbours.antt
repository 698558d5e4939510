-- The effect of a call on the places depends only on the neighbours of a claim within its family.
use Rattle.std.proofs.Common.{◌≡◌, ◌<◌, ℕ, zero, suc, Bool, true, false, not, ◌&&◌, cond, List, [], ◌∷◌, Some, refl, sym, ap, ◌∙◌, arith}
use Rattle.std.specs.List.{slice_get}
use Rattle.std.proofs.Math.Bool.{and_assoc}
use Rattle.std.proofs.lemmas.Bool.{false≢true}
use Rattle.std.proofs.lemmas.Option.{same_Some, none-some}
use Rattle.std.proofs.lemmas.Slice.Eq.{bytes_eq-Decides}
use Rattle.settlement.specs.Accounts.{family_of}
use Rattle.settlement.specs.declared.acc.Acc.{Acc}
use Rattle.settlement.specs.declared.claim.Claim.{Claim}
use Rattle.journal.specs.Places.{Phase, Waiting, Ready, InWork, Decided, Place, InTurn, all_decided, is_decided, is_of, is_waiting}
use Rattle.journal.specs.Calls.{phase_after, next_phase, ready_at, release_first, with_decision, with_phase}
use Rattle.journal.proofs.ClaimOrder.{Turns, all-free, and-true, lets, step, turns-of}

-- no claim is released if no place is of the family
released-none : (places : List Place) (m : List ℕ) → ((k : ℕ) (p : Place) → slice_get places k ≡ Some p → is_of m p ≡ false)
    → release_first m places ≡ places
released-none [] m none = refl
released-none (p ∷ ps) m none = rw (none 0 p refl) (ap (λ xs. p ∷ xs) (released-none ps m (λ k q there. none (suc k) q there)))

-- otherwise, the first claim of the family is released
released-first : (places : List Place) (n : ℕ) (m : List ℕ) (q : Place) → slice_get places n ≡ Some q → is_of m q ≡ true
    → ((k : ℕ) (p : Place) → k < n → slice_get places k ≡ Some p → is_of m p ≡ false)
    → release_first m places ≡ with_phase places n (ready_at q.phase)
released-first [] n m q there mine none = absurd (none-some q there)
released-first (p ∷ ps) zero m q there mine none =
    let same = same_Some p q there in
    let here : is_of m p ≡ true = ap (λ (x : Place). is_of m x) same ∙ mine in
    rw here (ap (λ (x : Place). (record p { phase = ready_at x.phase }) ∷ ps) same)
released-first (p ∷ ps) (suc n) m q there mine none =
    rw (none 0 p (omega arith) refl) (ap (λ xs. p ∷ xs) (released-first ps n m q there mine (λ k r l is. none (suc k) r (omega (arith, l)) is)))

-- a decision of the last claim of a family changes only the claim's place
pub decision-last : (places : List Place) (k : ℕ) (left : Acc) (p : Place) → slice_get places k ≡ Some p
    → ((j : ℕ) (q : Place) → k < j → slice_get places j ≡ Some q → is_of p.account.family q ≡ false)
    → with_decision places k left ≡ with_phase places k (Decided left)
decision-last [] k left p there none = refl
decision-last (r ∷ rs) zero left p there none =
    let same = same_Some r p there in
    ap (λ xs. (record r { phase = Decided left }) ∷ xs) (released-none rs r.account.family (λ k q is. ap (λ (x : Place). is_of x.account.family q) same ∙ none (suc k) q (omega arith) is))
decision-last (r ∷ rs) (suc k) left p there none =
    ap (λ xs. r ∷ xs) (decision-last rs k left p there (λ j q l is. none (suc j) q (omega (arith, l)) is))

-- a decision of any other claim changes its place and the next place of its family
pub decision-next : (places : List Place) (k n : ℕ) (left : Acc) (p q : Place) → slice_get places k ≡ Some p → slice_get places n ≡ Some q → k < n
    → is_of p.account.family q ≡ true → ((j : ℕ) (r : Place) → k < j → j < n → slice_get places j ≡ Some r → is_of p.account.family r ≡ false)
    → with_decision places k left ≡ with_phase (with_phase places k (Decided left)) n (ready_at q.phase)
decision-next [] k n left p q there next following mine none = refl
decision-next (r ∷ rs) k zero left p q there next following mine none = absurd (omega (arith, following))
decision-next (r ∷ rs) zero (suc n) left p q there next following mine none =
    let same = same_Some r p there in
    ap (λ xs. (record r { phase = Decided left }) ∷ xs) (
    released-first rs n r.account.family q next (ap (λ (x : Place). is_of x.account.family q) same ∙ mine)
    (λ j x l is. ap (λ (y : Place). is_of y.account.family x) same ∙ none (suc j) x (omega arith) (omega (arith, l)) is)
    )
decision-next (r ∷ rs) (suc k) (suc n) left p q there next following mine none =
    ap (λ xs. r ∷ xs) (
    decision-next rs k n left p q there next (omega (arith, following)) mine (λ j x l m is. none (suc j) x (omega (arith, l)) (omega (arith, m)) is)
    )

-- all claims of a family without places are decided
all-none : (places : List Place) (m : List ℕ) → ((k : ℕ) (p : Place) → slice_get places k ≡ Some p → is_of m p ≡ false) → all_decided m places ≡ true
all-none [] m none = refl
all-none (p ∷ ps) m none = rw (none 0 p refl) (all-none ps m (λ k q is. none (suc k) q is))

-- the first claim of a family is ready
pub phase-first : (places : List Place) (claim : Claim) → ((k : ℕ) (p : Place) → slice_get places k ≡ Some p → is_of (family_of claim) p ≡ false)
    → next_phase places claim ≡ Ready claim
phase-first places claim none = rw (all-none places (family_of claim) none) refl

-- a waiting claim is not decided
decided-free : (b : Bool) (phase : Phase) → is_waiting phase ≡ not b → (b && is_decided phase) ≡ is_decided phase
decided-free true phase h = refl
decided-free false (Waiting claim) h = refl
decided-free false (Ready claim) h = refl
decided-free false InWork h = refl
decided-free false (Decided left) h = absurd (false≢true h)

-- all claims of a family are decided if the last one is
all-last : (d : List ℕ → Bool) (places : List Place) (k : ℕ) (p : Place) (m : List ℕ) → Turns d places → slice_get places k ≡ Some p → is_of m p ≡ true
    → ((j : ℕ) (q : Place) → k < j → slice_get places j ≡ Some q → is_of m q ≡ false) → (d m && all_decided m places) ≡ is_decided p.phase
all-last d [] k p m h there mine none = absurd (none-some p there)
all-last d (r ∷ rs) zero p m h there mine none =
    let same = same_Some r p there in
    let here : is_of m r ≡ true = ap (λ (x : Place). is_of m x) same ∙ mine in
    let waits : is_waiting r.phase ≡ not (d m) = h.0 ∙ ap (λ x. not (d x)) ((bytes_eq-Decides r.account.family m).0 here) in
    let rest = all-none rs m (λ j q is. none (suc j) q (omega arith) is) in
    rw (here, rest) (ap (λ b. d m && b) (and-true (is_decided r.phase)) ∙ decided-free (d m) r.phase waits ∙ ap (λ (x : Place). is_decided x.phase) same)
all-last d (r ∷ rs) (suc k) p m h there mine none =
    sym (and_assoc (d m) (lets m r) (all_decided m rs)) ∙ all-last (step d r) rs k p m h.1 there mine (λ j q l is. none (suc j) q (omega (arith, l)) is)

phase-by : (phase : Phase) (claim : Claim) (all : Bool) → all ≡ is_decided phase → cond all (Ready claim) (Waiting claim) ≡ phase_after phase claim
phase-by (Waiting other) claim all is = rw is refl
phase-by (Ready other) claim all is = rw is refl
phase-by InWork claim all is = rw is refl
phase-by (Decided a) claim all is = rw is refl

-- the phase of a claim after the last one of its family
pub phase-next : (places : List Place) (k : ℕ) (p : Place) (claim : Claim) → InTurn places → slice_get places k ≡ Some p → is_of (family_of claim) p ≡ true
    → ((j : ℕ) (q : Place) → k < j → slice_get places j ≡ Some q → is_of (family_of claim) q ≡ false)
    → next_phase places claim ≡ phase_after p.phase claim
phase-next places k p claim h there mine none =
    phase-by p.phase claim (all_decided (family_of claim) places) (all-last all-free places k p (family_of claim) (turns-of places h) there mine none)
