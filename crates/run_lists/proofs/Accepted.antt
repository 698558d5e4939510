-- The accumulators after accepted claims are the opening ones and what the claims add.
use Rattle.std.proofs.Common.{◌≡◌, ◌≤◌, ◌+◌, ◌==◌, ℕ, zero, suc, Bool, List, [], ◌∷◌, ◌++◌, flat_map, take, length, slice_get, fold, Option, Some, None, option_and_then, inl, inr, refl, sym, ap, ◌∙◌, eqb-true, arith}
use Rattle.std.proofs.lemmas.Bool.{cases_Bool}
use Rattle.std.proofs.lemmas.List.{length_push}
use Rattle.tables.specs.Plan.{PlanParts}
use Rattle.settlement.specs.Accounts.{Account, account_of, is_family_year, is_same}
use Rattle.settlement.specs.declared.acc.Acc.{Acc}
use Rattle.settlement.specs.declared.claim.Claim.{Claim}
use Rattle.settlement.specs.declared.outcome.Outcome.{Outcome}
use Rattle.intake_csv.specs.Balances.{Entry}
use Rattle.intake_csv.specs.Rows.{claims_among}
use Rattle.intake_csv.specs.declared.rows.Row.{Row}
use Rattle.intake_csv.specs.declared.rows.Row.TheVariants.{Good, Bad}
use Rattle.journal.specs.Settled.{accumulated, outcome_of}
use Rattle.journal.specs.Events.{Book, Filed, noted}
use Rattle.journal.specs.InOrder.{place_of}
use Rattle.journal.specs.Lawful.{numbers_below}
use Rattle.remit_records.specs.Looked.{positions_from}
use Rattle.remit_records.specs.Records.{Deciding}
use Rattle.run_lists.specs.Charges.{adds, charge_of, charges_by, file_charges, plus, totals}
use Rattle.run_lists.proofs.Reordered.{run}
use Rattle.run_lists.proofs.Totals.{adds_apart, plus_assoc, plus_none, totals_append}

-- what the claim at a position adds, if there is a claim and it is decided
abbrev pub charges_of : PlanParts → Option Claim → Option Outcome → List Entry
charges_of plan None decision = []
charges_of plan (Some claim) decision = charges_by plan claim decision

grows : (own shared : Bool) (acc : Acc) (o : Outcome) → accumulated own shared acc o ≡ adds own shared (charge_of o) acc
unfolding accumulated
grows own shared acc o = refl

-- a claim adds its charge to each account
noted_adds : (plan : PlanParts) (book : Book) (claim : Claim) (account : Account)
    → noted plan book (Some claim) account ≡ plus (book account) (totals (charges_by plan claim (Some (outcome_of plan claim (book (account_of plan claim))))) account)
noted_adds plan book claim account =
    let own = is_same (account_of plan claim) account in
    let shared = is_family_year (account_of plan claim) account in
    let o = outcome_of plan claim (book (account_of plan claim)) in
    grows own shared (book account) o ∙ adds_apart own shared (charge_of o) (book account)

module _ (plan : PlanParts) (at : ℕ → Option Claim) (decided : ℕ → Option Outcome) where
  -- what the claim at a position adds
  abbrev pub charges : ℕ → List Entry
  charges k = charges_of plan (at k) (decided k)

  -- the positions have these claims
  abbrev HaveClaims : ℕ → List (Option Claim) → Type 0
  HaveClaims position cs = (q j : ℕ) (c : Option Claim) → q ≡ position + j → slice_get cs j ≡ Some c → at q ≡ c

  -- the claims are decided at the accumulators that the book and the earlier claims leave
  abbrev AreDecided : ℕ → Book → List (Option Claim) → Type 0
  AreDecided position book cs = (q j : ℕ) (claim : Claim) → q ≡ position + j → slice_get cs j ≡ Some (Some claim)
      → decided q ≡ Some (outcome_of plan claim (fold (noted plan) book (take j cs) (account_of plan claim)))

  pub left : (account : Account) (cs : List (Option Claim)) (book : Book) (position : ℕ) → HaveClaims position cs → AreDecided position book cs
      → fold (noted plan) book cs account ≡ plus (book account) (totals (run charges position (length cs)) account)
  left account [] book position have are = sym (plus_none (book account))
  left account (None ∷ cs) book position have are =
      let here : at position ≡ None = have position 0 None (omega arith) refl in
      let nothing : charges position ≡ [] = ap (λ c. charges_of plan c (decided position)) here in
      left account cs (noted plan book None) (suc position) (λ q j c e is. have q (suc j) c (omega (arith, e)) is) (λ q j claim e is. are q (suc j) claim (omega (arith, e)) is)
      ∙ ap (λ es. plus (book account) (totals (es ++ run charges (suc position) (length cs)) account)) (sym nothing)
  left account (Some claim ∷ cs) book position have are =
      let here : at position ≡ Some claim = have position 0 (Some claim) (omega arith) refl in
      let o = outcome_of plan claim (book (account_of plan claim)) in
      let settled : decided position ≡ Some o = are position 0 claim (omega arith) refl in
      let added : charges position ≡ charges_by plan claim (Some o) = (λ i. charges_of plan (here i) (settled i)) in
      let rest = run charges (suc position) (length cs) in
      let one = charges_by plan claim (Some o) in
      left account cs (noted plan book (Some claim)) (suc position) (λ q j c e is. have q (suc j) c (omega (arith, e)) is) (λ q j other e is. are q (suc j) other (omega (arith, e)) is)
      ∙ ap (λ acc. plus acc (totals rest account)) (noted_adds plan book claim account)
      ∙ plus_assoc (book account) (totals one account) (totals rest account)
      ∙ ap (plus (book account)) (sym (totals_append one rest account))
      ∙ ap (λ es. plus (book account) (totals (es ++ rest) account)) (sym added)

-- the claims of a file and the outcomes by their places, from this place on
charges_from : PlanParts → (ℕ → Option Outcome) → ℕ → List Claim → List Entry
charges_from plan decided place [] = []
charges_from plan decided place (claim ∷ rest) = charges_by plan claim (decided place) ++ charges_from plan decided (suc place) rest

-- the places of the rows' claims are consecutive
abbrev pub AreNumbered : ℕ → List Row → Type 0
AreNumbered place [] = Unit {0}
AreNumbered place (Good number p claim ∷ rows) = (p ≡ place) × AreNumbered (suc place) rows
AreNumbered place (Bad number fault ∷ rows) = AreNumbered place rows

-- the rows of a file add what its claims add
by_claims : (plan : PlanParts) (by : Deciding) (provider : ℕ) (rows : List Row) (place : ℕ) → AreNumbered place rows
    → file_charges plan by provider rows ≡ charges_from plan (by.decided provider) place (claims_among rows)
unfolding charges_from
by_claims plan by provider [] place numbered = refl
by_claims plan by provider (Good number p claim ∷ rows) place numbered =
    (λ i. charges_by plan claim (by.decided provider (numbered.0 i)) ++ by_claims plan by provider rows (suc place) numbered.1 i)
by_claims plan by provider (Bad number fault ∷ rows) place numbered = by_claims plan by provider rows place numbered

-- the positions have these claims, one after another, and there may be more claims
abbrev pub AreAt : (ℕ → Option Claim) → List ℕ → List Claim → Type 0
AreAt at [] claims = Unit {0}
AreAt at (k ∷ ks) [] = ⊥
AreAt at (k ∷ ks) (claim ∷ claims) = (at k ≡ Some claim) × AreAt at ks claims

-- the claims of a file add what the claims at their positions add
by_positions : (plan : PlanParts) (at : ℕ → Option Claim) (decided : ℕ → Option Outcome) (found : ℕ → Option Outcome) (ks : List ℕ) (claims : List Claim) (place : ℕ) → AreAt at ks claims
    → ((q i : ℕ) → q ≡ place + i → found q ≡ option_and_then decided (slice_get ks i))
    → charges_from plan found place claims ≡ flat_map (charges plan at decided) ks
unfolding charges_from
by_positions plan at decided found [] [] place are is = refl
by_positions plan at decided found [] (claim ∷ claims) place are is =
    let none : found place ≡ None = is place 0 (omega arith) in
    ap (λ o. charges_by plan claim o ++ charges_from plan found (suc place) claims) none
    ∙ by_positions plan at decided found [] claims (suc place) tt (λ q i e. is q (suc i) (omega (arith, e)))
by_positions plan at decided found (k ∷ ks) [] place are is = absurd are
by_positions plan at decided found (k ∷ ks) (claim ∷ claims) place are is =
    let here : found place ≡ decided k = is place 0 (omega arith) in
    let same : charges_by plan claim (found place) ≡ charges plan at decided k =
    ap (charges_by plan claim) here ∙ ap (λ c. charges_of plan c (decided k)) (sym are.0) in
    (λ i. same i ++ by_positions plan at decided found ks claims (suc place) are.1 (λ q j e. is q (suc j) (omega (arith, e))) i)

-- the places are consecutive from this one on
abbrev pub AreConsecutive : ℕ → List ℕ → Type 0
AreConsecutive place [] = Unit {0}
AreConsecutive place (p ∷ ps) = (p ≡ place) × AreConsecutive (suc place) ps

consecutive-push : (place : ℕ) (ps : List ℕ) (p : ℕ) → AreConsecutive place ps → p ≡ place + length ps → AreConsecutive place (ps ++ p ∷ [])
consecutive-push place [] p are is = (omega (arith, is), tt)
consecutive-push place (x ∷ ps) p are is = (are.0, consecutive-push (suc place) ps p are.1 (omega (arith, is)))

numbered-long : (n : ℕ) → length (numbers_below n) ≡ n
numbered-long zero = refl
numbered-long (suc n) =
    let before = numbered-long n in
    let longer = length_push (numbers_below n) n in
    omega (arith, before, longer)

pub consecutive : (n : ℕ) → AreConsecutive 0 (numbers_below n)
consecutive zero = tt
consecutive (suc n) =
    let long = numbered-long n in
    consecutive-push 0 (numbers_below n) n (consecutive n) (omega (arith, long))

-- the claims at a provider's positions are the provider's claims, in order
pub claims_at : (at : ℕ → Option Claim) (claims : List Claim) (claim_of : Filed → Option Claim) (provider : ℕ) (order : List Filed) (position place : ℕ) (rest : List Claim)
    → ((q j : ℕ) (f : Filed) → q ≡ position + j → slice_get order j ≡ Some f → at q ≡ claim_of f)
    → ((f : Filed) → f.provider ≡ provider → claim_of f ≡ slice_get claims f.place)
    → ((q i : ℕ) → q ≡ place + i → slice_get claims q ≡ slice_get rest i)
    → AreConsecutive place (flat_map (place_of provider) order) → length (flat_map (place_of provider) order) ≤ length rest
    → AreAt at (positions_from position order provider) rest
claims_at at claims claim_of provider [] position place rest have own is are fits = tt
claims_at at claims claim_of provider (f ∷ order) position place [] have own is are fits = elim (cases_Bool (f.provider == provider)) [
  | inl same ↦ let long : length (f.place ∷ flat_map (place_of provider) order) ≤ 0 = rw same at fits in absurd (omega (arith, long))
  | inr other ↦
      rw other
      (claims_at at claims claim_of provider order (suc position) place [] (λ q j g e there. have q (suc j) g (omega (arith, e)) there) own is (rw other at are) (rw other at fits))
]
claims_at at claims claim_of provider (f ∷ order) position place (claim ∷ rest) have own is are fits = elim (cases_Bool (f.provider == provider)) [
  | inl same ↦
      let its : f.provider ≡ provider = eqb-true f.provider provider same in
      let ordered : (f.place ≡ place) × AreConsecutive (suc place) (flat_map (place_of provider) order) = rw same at are in
      let long : length (f.place ∷ flat_map (place_of provider) order) ≤ length (claim ∷ rest) = rw same at fits in
      let here : at position ≡ Some claim =
      have position 0 f (omega arith) refl ∙ own f its ∙ ap (slice_get claims) ordered.0 ∙ is place 0 (omega arith) in
      rw same (
        here,
        claims_at at claims claim_of provider order (suc position) (suc place) rest (λ q j g e there. have q (suc j) g (omega (arith, e)) there) own
            (λ q i e. is q (suc i) (omega (arith, e))) ordered.1 (omega (arith, long)),
      )
  | inr other ↦
      rw other
      (claims_at at claims claim_of provider order (suc position) place (claim ∷ rest) (λ q j g e there. have q (suc j) g (omega (arith, e)) there) own is (rw other at are)
      (rw other at fits))
]

-- the rows of a file add what the claims at the provider's positions add
pub file_adds : (plan : PlanParts) (at : ℕ → Option Claim) (decided : ℕ → Option Outcome) (by : Deciding) (provider : ℕ) (rows : List Row) (ks : List ℕ) → AreNumbered 0 rows
    → AreAt at ks (claims_among rows) → ((place : ℕ) → by.decided provider place ≡ option_and_then decided (slice_get ks place))
    → file_charges plan by provider rows ≡ flat_map (charges plan at decided) ks
file_adds plan at decided by provider rows ks numbered are is =
    by_claims plan by provider rows 0 numbered
    ∙ by_positions plan at decided (by.decided provider) ks (claims_among rows) 0 are
    (λ q i e. let same : q ≡ i = omega (arith, e) in is q ∙ ap (λ n. option_and_then decided (slice_get ks n)) same)
