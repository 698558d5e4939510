-- The number of claims that a journal has accepted.
use Rattle.std.proofs.Common.{◌≡◌, ℕ, zero, suc, ◌<◌, ◌≤◌, ◌+◌, ◌==◌, true, false, List, [], ◌∷◌, ◌++◌, take, length, get_or, slice_get, Some, refl, sym, ap, ◌∙◌, subst, inl, inr, arith, length-append, take-take, eq-eqb, ne_eqb}
use Rattle.std.proofs.lemmas.Bool.{cond-true, cond-false, cases_eq, cases_lt, both_ways}
use Rattle.std.proofs.lemmas.List.{get_or_past}
use Rattle.settlement.specs.declared.claim.Claim.{Claim}
use Rattle.journal.specs.Terms.{Terms, claims_in, claims_of, claims_in_all, all_claims}
use Rattle.journal.specs.Events.{accept_in, accepts, accepted_count, place_in, places, is_intake}
use Rattle.journal.specs.Lawful.{Sound}
use Rattle.journal.specs.declared.event.Event.{Event}
use Rattle.journal.specs.declared.event.Event.TheVariants.{Accept, End, Close, Take, Decide}
use Rattle.journal.proofs.Appends.{accepted-take}

-- the sum over the numbers from 1 to n
abbrev pub sum_to : ℕ → (ℕ → ℕ) → ℕ
sum_to zero f = 0
sum_to (suc n) f = sum_to n f + f (suc n)

sum_to-zero : (n : ℕ) → sum_to n (λ p. 0) ≡ 0
sum_to-zero zero = refl
sum_to-zero (suc n) = let rest : sum_to n (λ p. 0) ≡ 0 = sum_to-zero n in omega arith

pub sum_to-add : (n : ℕ) (f g : ℕ → ℕ) → sum_to n (λ p. f p + g p) ≡ sum_to n f + sum_to n g
sum_to-add zero f g = refl
sum_to-add (suc n) f g = let rest : sum_to n (λ p. f p + g p) ≡ sum_to n f + sum_to n g = sum_to-add n f g in omega arith

pub sum_to-le : (n : ℕ) (f g : ℕ → ℕ) → ((p : ℕ) → 1 ≤ p → p ≤ n → f p ≤ g p) → sum_to n f ≤ sum_to n g
sum_to-le zero f g h = omega arith
sum_to-le (suc n) f g h =
    let rest : sum_to n f ≤ sum_to n g = sum_to-le n f g (λ p l m. h p l (omega arith)) in
    let here : f (suc n) ≤ g (suc n) = h (suc n) (omega arith) (omega arith) in
    omega arith

pub sum_to-same : (n : ℕ) (f g : ℕ → ℕ) → ((p : ℕ) → 1 ≤ p → p ≤ n → f p ≡ g p) → sum_to n f ≡ sum_to n g
sum_to-same zero f g h = refl
sum_to-same (suc n) f g h =
    let rest : sum_to n f ≡ sum_to n g = sum_to-same n f g (λ p l m. h p l (omega arith)) in
    let here : f (suc n) ≡ g (suc n) = h (suc n) (omega arith) (omega arith) in
    omega arith

sum_to-first : (n : ℕ) (f : ℕ → ℕ) → sum_to (suc n) f ≡ f 1 + sum_to n (λ p. f (suc p))
sum_to-first zero f = omega arith
sum_to-first (suc n) f =
    let rest : sum_to (suc n) f ≡ f 1 + sum_to n (λ p. f (suc p)) = sum_to-first n f in
    omega arith

claims_later : (file : List Claim) (files : List (List Claim)) (p : ℕ) → 1 ≤ p → length (claims_in files p) ≡ length (claims_in (file ∷ files) (suc p))
claims_later file files zero h = let none : ⊥ = omega arith in absurd none
claims_later file files (suc q) h = refl

-- the number of all claims is the sum over the providers
pub claims_by_provider : (files : List (List Claim)) → claims_in_all files ≡ sum_to (length files) (λ p. length (claims_in files p))
claims_by_provider [] = refl
claims_by_provider (file ∷ files) =
    let rest : claims_in_all files ≡ sum_to (length files) (λ p. length (claims_in files p)) = claims_by_provider files in
    let moved : sum_to (length files) (λ p. length (claims_in files p)) ≡ sum_to (length files) (λ p. length (claims_in (file ∷ files) (suc p))) =
    sum_to-same (length files) (λ p. length (claims_in files p)) (λ p. length (claims_in (file ∷ files) (suc p))) (λ p l m. claims_later file files p l) in
    let first : sum_to (suc (length files)) (λ p. length (claims_in (file ∷ files) p)) ≡ length file + sum_to (length files) (λ p. length (claims_in (file ∷ files) (suc p))) =
    sum_to-first (length files) (λ p. length (claims_in (file ∷ files) p)) in
    ap (λ w. length file + w) (rest ∙ moved) ∙ sym first

-- only existing providers have claims
pub claims_known : (files : List (List Claim)) (p : ℕ) → 0 < length (claims_in files p) → (1 ≤ p) × (p ≤ length files)
claims_known files zero h = let none : ⊥ = omega arith in absurd none
claims_known files (suc i) h =
    elim (cases_lt i (length files)) [
      | inl below ↦ (omega arith, omega arith)
      | inr past ↦
          let empty : length (get_or files i []) ≡ 0 = ap length (get_or_past files i [] past) in
          let none : ⊥ = omega arith in
          absurd none
    ]

-- an accept counts once, for its provider
pub counted_before : (n p place : ℕ) → n < p → sum_to n (λ q. length (place_in q (Accept p place))) ≡ 0
counted_before zero p place h = refl
counted_before (suc n) p place h =
    let rest : sum_to n (λ q. length (place_in q (Accept p place))) ≡ 0 = counted_before n p place (omega arith) in
    let other : p ≡ suc n → ⊥ = λ e. omega arith in
    let here : length (place_in (suc n) (Accept p place)) ≡ 0 = ap length (cond-false (p == suc n) (place ∷ []) [] (ne_eqb p (suc n) other)) in
    omega arith

counted_once : (n p place : ℕ) → 1 ≤ p → p ≤ n → sum_to n (λ q. length (place_in q (Accept p place))) ≡ 1
counted_once zero p place l m = let none : ⊥ = omega arith in absurd none
counted_once (suc n) p place l m =
    elim (cases_eq p (suc n)) [
      | inl e ↦
          let rest : sum_to n (λ q. length (place_in q (Accept p place))) ≡ 0 = counted_before n p place (omega arith) in
          let here : length (place_in (suc n) (Accept p place)) ≡ 1 = ap length (cond-true (p == suc n) (place ∷ []) [] (eq-eqb p (suc n) e)) in
          omega arith
      | inr other ↦
          let rest : sum_to n (λ q. length (place_in q (Accept p place))) ≡ 1 = counted_once n p place l (omega arith) in
          let here : length (place_in (suc n) (Accept p place)) ≡ 0 = ap length (cond-false (p == suc n) (place ∷ []) [] (ne_eqb p (suc n) other)) in
          omega arith
    ]

-- each provider with an accept is one of the first n
abbrev Known : ℕ → List Event → Type 0
Known n J = (p : ℕ) → 0 < length (places J p) → (1 ≤ p) × (p ≤ n)

known_rest : (n : ℕ) (event : Event) (J : List Event) → Known n (event ∷ J) → Known n J
known_rest n event J known p h =
    let both : length (place_in p event ++ places J p) ≡ length (place_in p event) + length (places J p) = length-append (place_in p event) (places J p) in
    let some : 0 < length (places (event ∷ J) p) = omega arith in
    known p some

counted_event : (n : ℕ) (event : Event) (J : List Event) → Known n (event ∷ J) → length (accept_in event) ≡ sum_to n (λ q. length (place_in q event))
counted_event n (Accept p place) J known =
    let here : length (place_in p (Accept p place)) ≡ 1 = ap length (cond-true (p == p) (place ∷ []) [] (eq-eqb p p refl)) in
    let both : length (place_in p (Accept p place) ++ places J p) ≡ length (place_in p (Accept p place)) + length (places J p) = length-append (place_in p (Accept p place)) (places J p) in
    let some : 0 < length (places (Accept p place ∷ J) p) = omega arith in
    let range = known p some in
    sym (counted_once n p place range.0 range.1)
counted_event n (End p) J known = sym (sum_to-zero n)
counted_event n Close J known = sym (sum_to-zero n)
counted_event n (Take k) J known = sym (sum_to-zero n)
counted_event n (Decide k o) J known = sym (sum_to-zero n)

accepted_by_known : (n : ℕ) (J : List Event) → Known n J → accepted_count J ≡ sum_to n (λ p. length (places J p))
accepted_by_known n [] known = sym (sum_to-zero n)
accepted_by_known n (event ∷ J) known =
    let rest : accepted_count J ≡ sum_to n (λ p. length (places J p)) = accepted_by_known n J (known_rest n event J known) in
    let here : length (accept_in event) ≡ sum_to n (λ p. length (place_in p event)) = counted_event n event J known in
    let split : length (accept_in event ++ accepts J) ≡ length (accept_in event) + accepted_count J = length-append (accept_in event) (accepts J) in
    let together : sum_to n (λ p. length (place_in p event) + length (places J p)) ≡ sum_to n (λ p. length (place_in p event)) + sum_to n (λ p. length (places J p)) =
    sum_to-add n (λ p. length (place_in p event)) (λ p. length (places J p)) in
    let each : sum_to n (λ p. length (places (event ∷ J) p)) ≡ sum_to n (λ p. length (place_in p event) + length (places J p)) =
    sum_to-same n (λ p. length (places (event ∷ J) p)) (λ p. length (place_in p event) + length (places J p)) (λ p l m. length-append (place_in p event) (places J p)) in
    omega arith

-- the number of accepted claims is the sum over the providers
pub accepted_by_provider : (T : Terms) (J : List Event) → Sound T J → accepted_count J ≡ sum_to (length T.files) (λ p. length (places J p))
accepted_by_provider T J S =
    accepted_by_known (length T.files) J
    (λ p h.
    let within : length (places J p) ≤ length (claims_of T p) = S.within p in
    claims_known T.files p (omega arith))

-- at most all claims are accepted
pub accepted_within : (T : Terms) (J : List Event) → Sound T J → accepted_count J ≤ all_claims T
accepted_within T J S =
    let mine : accepted_count J ≡ sum_to (length T.files) (λ p. length (places J p)) = accepted_by_provider T J S in
    let all : claims_in_all T.files ≡ sum_to (length T.files) (λ p. length (claims_in T.files p)) = claims_by_provider T.files in
    let less : sum_to (length T.files) (λ p. length (places J p)) ≤ sum_to (length T.files) (λ p. length (claims_in T.files p)) =
    sum_to-le (length T.files) (λ p. length (places J p)) (λ p. length (claims_in T.files p)) (λ p l m. S.within p) in
    omega arith

-- all claims are accepted if those of each provider are
pub accepted_all : (T : Terms) (J : List Event) → Sound T J
    → ((p : ℕ) → 1 ≤ p → p ≤ length T.files → length (places J p) ≡ length (claims_of T p)) → accepted_count J ≡ all_claims T
accepted_all T J S each =
    accepted_by_provider T J S
    ∙ sum_to-same (length T.files) (λ p. length (places J p)) (λ p. length (claims_in T.files p)) each
    ∙ sym (claims_by_provider T.files)

-- a prefix of the journal that accepts exactly this number of claims
pub record Front (count : ℕ) (J : List Event) : Type 0 where
  pub index : ℕ
  pub exactly : accepted_count (take index J) ≡ count

-- the number of accepted claims grows one by one
pub front_of : (count : ℕ) (J : List Event) → count ≤ accepted_count J → Front count J
front_of zero J h = record { index = zero; exactly = refl }
front_of (suc count) [] h = let none : ⊥ = omega arith in absurd none
front_of (suc count) (Accept p place ∷ J) h =
    let f = front_of count J (omega arith) in
    record { index = suc f.index; exactly = ap suc f.exactly }
front_of (suc count) (End p ∷ J) h =
    let f = front_of (suc count) J h in
    record { index = suc f.index; exactly = f.exactly }
front_of (suc count) (Close ∷ J) h =
    let f = front_of (suc count) J h in
    record { index = suc f.index; exactly = f.exactly }
front_of (suc count) (Take k ∷ J) h =
    let f = front_of (suc count) J h in
    record { index = suc f.index; exactly = f.exactly }
front_of (suc count) (Decide k o ∷ J) h =
    let f = front_of (suc count) J h in
    record { index = suc f.index; exactly = f.exactly }

-- a longer prefix accepts at least as many claims
pub accepted_longer : (i j : ℕ) (J : List Event) → i ≤ j → accepted_count (take i J) ≤ accepted_count (take j J)
accepted_longer i j J h = subst (λ w. accepted_count w ≤ accepted_count (take j J)) (take-take i j J h) (accepted-take i (take j J))

-- a journal without accepts and ends has accepted no claim
pub none_accepted : (J : List Event) → ((i : ℕ) (event : Event) → slice_get J i ≡ Some event → is_intake event ≡ false) → accepted_count J ≡ 0
none_accepted [] h = refl
none_accepted (Accept p place ∷ J) h = absurd (both_ways true (h zero (Accept p place) refl) refl)
none_accepted (End p ∷ J) h = none_accepted J (λ i event there. h (suc i) event there)
none_accepted (Close ∷ J) h = none_accepted J (λ i event there. h (suc i) event there)
none_accepted (Take k ∷ J) h = none_accepted J (λ i event there. h (suc i) event there)
none_accepted (Decide k o ∷ J) h = none_accepted J (λ i event there. h (suc i) event there)
