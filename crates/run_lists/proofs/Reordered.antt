-- The totals of what claims add do not depend on the order of the claims: position by position they
-- are those of the providers' claims, provider by provider.
use Rattle.std.proofs.Common.{◌≡◌, ◌<◌, ◌≤◌, ◌+◌, ◌==◌, ℕ, zero, suc, List, [], ◌∷◌, ◌++◌, length, flat_map, slice_get, Some, inl, inr, refl, sym, ap, ◌∙◌, subst, append_assoc, arith, eq-eqb, ne_eqb}
use Rattle.std.proofs.lemmas.Bool.{cases_eq, cond-false, cond-true}
use Rattle.settlement.specs.Accounts.{Account}
use Rattle.intake_csv.specs.Balances.{Entry}
use Rattle.journal.specs.Events.{Filed}
use Rattle.remit_records.specs.Looked.{positions_from}
use Rattle.run_lists.specs.Charges.{plus, totals}
use Rattle.run_lists.proofs.Totals.{plus_swap, totals_append}

-- the entries of as many numbers from this one on
abbrev pub flat_from : ℕ → ℕ → (ℕ → List Entry) → List Entry
flat_from first zero f = []
flat_from first (suc n) f = f first ++ flat_from (suc first) n f

flat-none : (first n : ℕ) → flat_from first n (λ p. []) ≡ []
flat-none first zero = refl
flat-none first (suc n) = flat-none (suc first) n

pub flat-same : (first n : ℕ) (f g : ℕ → List Entry) → ((p : ℕ) → first ≤ p → p < first + n → f p ≡ g p) → flat_from first n f ≡ flat_from first n g
flat-same first zero f g same = refl
flat-same first (suc n) f g same =
    ap (λ es. es ++ flat_from (suc first) n f) (same first (omega arith) (omega arith))
    ∙ ap (λ es. g first ++ es) (flat-same (suc first) n f g (λ p least most. same p (omega (arith, least)) (omega (arith, most))))

module _ (account : Account) (more : List Entry) (q : ℕ) (f g : ℕ → List Entry) (grown : g q ≡ more ++ f q) (others : (p : ℕ) → (q ≡ p → ⊥) → g p ≡ f p) where
  -- entries that one number has more are added to the totals
  flat-grown : (first n : ℕ) → first ≤ q → q < first + n → totals (flat_from first n g) account ≡ plus (totals more account) (totals (flat_from first n f) account)
  flat-grown first zero least most = absurd (omega (arith, least, most))
  flat-grown first (suc n) least most = elim (cases_eq q first) [
    | inl here ↦
        let rest = flat_from (suc first) n f in
        let same : flat_from (suc first) n g ≡ rest = flat-same (suc first) n g f (λ p low high. others p (λ e. omega (arith, e, low, here))) in
        let first_grown : g first ≡ more ++ f first = subst (λ p. g p ≡ more ++ f p) here grown in
        ap (λ es. totals es account) ((λ i. first_grown i ++ same i) ∙ append_assoc more (f first) rest)
        ∙ totals_append more (f first ++ rest) account
    | inr other ↦
        let rest = flat_from (suc first) n f in
        let unchanged : g first ≡ f first = others first other in
        let later = flat-grown (suc first) n (omega (arith, least, other)) (omega (arith, most)) in
        ap (λ es. totals (es ++ flat_from (suc first) n g) account) unchanged
        ∙ totals_append (f first) (flat_from (suc first) n g) account
        ∙ ap (plus (totals (f first) account)) later
        ∙ plus_swap (totals (f first) account) (totals more account) (totals rest account)
        ∙ ap (plus (totals more account)) (sym (totals_append (f first) rest account))
  ]

-- what is added at as many positions from this one on
abbrev pub run : (ℕ → List Entry) → ℕ → ℕ → List Entry
run charges position zero = []
run charges position (suc n) = charges position ++ run charges (suc position) n

module _ (account : Account) (charges : ℕ → List Entry) (providers : ℕ) where
  pub reordered : (order : List Filed) (position : ℕ) → ((j : ℕ) (f : Filed) → slice_get order j ≡ Some f → (1 ≤ f.provider) × (f.provider ≤ providers))
      → totals (run charges position (length order)) account ≡ totals (flat_from 1 providers (λ p. flat_map charges (positions_from position order p))) account
  reordered [] position known = ap (λ es. totals es account) (sym (flat-none 1 providers))
  reordered (f ∷ order) position known =
      let range = known 0 f refl in
      let before : ℕ → List Entry = λ p. flat_map charges (positions_from (suc position) order p) in
      let after : ℕ → List Entry = λ p. flat_map charges (positions_from position (f ∷ order) p) in
      let own : after f.provider ≡ charges position ++ before f.provider =
      ap (flat_map charges)
      (cond-true (f.provider == f.provider) (position ∷ positions_from (suc position) order f.provider) (positions_from (suc position) order f.provider) (eq-eqb f.provider f.provider refl)) in
      let others : (p : ℕ) → (f.provider ≡ p → ⊥) → after p ≡ before p =
      λ p other. ap (flat_map charges)
      (cond-false (f.provider == p) (position ∷ positions_from (suc position) order p) (positions_from (suc position) order p) (ne_eqb f.provider p other)) in
      totals_append (charges position) (run charges (suc position) (length order)) account
      ∙ ap (plus (totals (charges position) account)) (reordered order (suc position) (λ j g at. known (suc j) g at))
      ∙ sym (flat-grown account (charges position) f.provider before after own others 1 providers range.0 (omega (arith, range.1)))
