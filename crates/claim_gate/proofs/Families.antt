-- The accumulators of a family under the terms of given texts are the sums over its members.
use Rattle.std.proofs.Common.{◌≡◌, ◌≢◌, ◌==◌, ℕ, zero, suc, true, false, List, [], ◌∷◌, take, fold, Option, Some, None, sym, ap, ◌∙◌, subst, inl, inr, arith, eqb-true}
use Rattle.std.specs.List.{All, AllPairs}
use Rattle.std.specs.Str.{bytes_eq}
use Rattle.std.proofs.lemmas.Bool.{and_parts, cases_Bool}
use Rattle.std.proofs.lemmas.List.Elements.{All-head, All-nil, All-tail}
use Rattle.std.proofs.lemmas.Slice.Eq.{bytes_eq-Decides}
use Rattle.tables.specs.Plan.{PlanParts}
use Rattle.settlement.specs.Accounts.{Account, is_family_year, is_same}
use Rattle.settlement.specs.Opening.{opening}
use Rattle.intake_csv.specs.Balances.{Entry, accounts_of}
use Rattle.journal.specs.Events.{Book, before, claims, noted}
use Rattle.journal.specs.Families.{AreAmong, AreOpenings, FamiliesAreTheirMembers, IsAbsent, IsAmong, IsSummed}
use Rattle.journal.specs.Terms.{Terms}
use Rattle.journal.specs.declared.event.Event.{Event}
use Rattle.claim_gate.specs.Terms.{AreTermsOf, IsTermsOf, TermsParts}
use Rattle.claim_gate.specs.Families.{AreNamed}

-- an account is determined by its family, its member and its year
same_account : (a b : Account) → is_same a b ≡ true → a ≡ b
same_account a b h =
    let parts = and_parts (is_family_year a b) (bytes_eq a.member b.member) h in
    let both = and_parts (bytes_eq a.family b.family) (a.year == b.year) parts.0 in
    let family : a.family ≡ b.family = (bytes_eq-Decides a.family b.family).0 both.0 in
    let year : a.year ≡ b.year = eqb-true a.year b.year both.1 in
    let member : a.member ≡ b.member = (bytes_eq-Decides a.member b.member).0 parts.1 in
    λ i. record { family = family i; member = member i; year = year i }

apart : (a b : Account) → a ≢ b → is_same a b ≡ false
apart a b other = elim (cases_Bool (is_same a b)) [ inl same ↦ absurd (other (same_account a b same)) | inr differs ↦ differs ]

absent : (a : Account) (es : List Entry) → All (λ e. e.0 ≢ a) es → IsAbsent a es
absent a [] others = tt
absent a (e ∷ es) others = (apart e.0 a (All-head (λ (x : Entry). x.0 ≢ a) e es others), absent a es (All-tail (λ (x : Entry). x.0 ≢ a) e es others))

module _ (family : List ℕ) (year : ℕ) (members : List (List ℕ)) where
  openings : (es : List Entry) → AllPairs (λ a b. a.0 ≢ b.0) es → All (λ e. IsAmong family year members e.0) es → AreOpenings family year members es
  openings [] distinct named = tt
  openings (e ∷ es) distinct named = (
    All-head (λ (x : Entry). IsAmong family year members x.0) e es named,
    absent e.0 es (λ k d within same. distinct zero (suc k) d (omega arith) (omega (arith, within)) (sym same)),
    openings es (λ i j d less within. distinct (suc i) (suc j) d (omega (arith, less)) (omega (arith, within)))
        (All-tail (λ (x : Entry). IsAmong family year members x.0) e es named),
  )

  -- the balances of the terms matter only by the opening accumulators that they give
  over_entries : FamiliesAreTheirMembers → (T : Terms) (J : List Event) (position : ℕ) (es : List Entry) → ((account : Account) → opening T.balances account ≡ opening es account)
      → AllPairs (λ a b. a.0 ≢ b.0) es → All (λ e. IsAmong family year members e.0) es → AreAmong T.plan family year members (take position (claims T J))
      → IsSummed family year members (before T J position)
  over_entries law T J position es opened distinct named among =
      let with_entries : Terms = record { plan = T.plan; files = T.files; balances = es; cutoff = T.cutoff } in
      let books : ◌≡◌ {A = Book} (opening es) (opening T.balances) = λ i account. sym (opened account) i in
      subst (λ (book : Book). IsSummed family year members (fold (noted T.plan) book (take position (claims T J)))) books
      (law with_entries J position family year members (openings es distinct named) among)

pub of_texts : FamiliesAreTheirMembers → (plan : PlanParts) (files : List (List ℕ)) (balances : Option (List ℕ)) (cutoff : Option ℕ) (parts : TermsParts) (T : Terms) (J : List Event) (position : ℕ)
    (family : List ℕ) (year : ℕ) (members : List (List ℕ)) → AreTermsOf plan files balances cutoff parts → IsTermsOf parts T → AreNamed plan.version balances family year members
    → AreAmong T.plan family year members (take position (claims T J)) → IsSummed family year members (before T J position)
of_texts law plan files None cutoff parts T J position family year members are is named among =
    over_entries family year members law T J position [] (λ account. is.openings account ∙ ap (λ books. opening (accounts_of books) account) are.balances_are)
    (λ i j d less within. absurd (omega (arith, within))) (All-nil (λ (e : Entry). IsAmong family year members e.0)) among
of_texts law plan files (Some text) cutoff parts T J position family year members are is named among =
    let b = are.balances_are in
    over_entries family year members law T J position b.entries (λ account. is.openings account ∙ b.given account) b.read.distinct
    (named b.entries (record { layout = b.layout; records = b.records; headered_file = b.headered_file; read = b.read })) among
