-- The claims of a second run, settled over the closing balances of the first one.
use Rattle.std.proofs.Common.{◌≡◌, ◌<◌, ◌+◌, ℕ, suc, List, [], ◌∷◌, ◌++◌, take, length, get_or, fold, Option, None, option_map, refl, sym, ap, ◌∙◌, length-append, arith}
use Rattle.std.proofs.lemmas.List.{length-map, take_all}
use Rattle.std.proofs.lemmas.List.Sums.{fold-append}
use Rattle.tables.specs.Plan.{PlanParts}
use Rattle.settlement.specs.Accounts.{Account, account_of}
use Rattle.settlement.specs.Opening.{opening}
use Rattle.settlement.specs.declared.claim.Claim.{Claim}
use Rattle.settlement.specs.declared.outcome.Outcome.{Outcome}
use Rattle.intake_csv.specs.Balances.{Entry}
use Rattle.journal.specs.Terms.{Terms}
use Rattle.journal.specs.Settled.{outcome_of}
use Rattle.journal.specs.Events.{Book, accepted_count, accepts, before, claim_filed, claims, noted}
use Rattle.journal.specs.Lawful.{Finished}
use Rattle.journal.specs.declared.event.Event.{Event}
use Rattle.remit_records.specs.Decided.{decision_at}
use Rattle.orders.specs.Order.{outcome_by}
use Rattle.orders.proofs.Outcomes.{decided_so}
use Rattle.run_lists.specs.Closing.{ClosesAt}
use Rattle.run_lists.specs.CarryingOn.{AreParts, Run}

-- the first elements of a concatenation, beyond the first list
take-beyond : {A : Type 0} (xs ys : List A) (k : ℕ) → take (length xs + k) (xs ++ ys) ≡ xs ++ take k ys
take-beyond [] ys k = let none : 0 + k ≡ k = omega arith in ap (λ n. take n ys) none
take-beyond (x ∷ xs) ys k =
    let next : suc (length xs) + k ≡ suc (length xs + k) = omega arith in
    ap (λ n. take n (x ∷ (xs ++ ys))) next ∙ ap (λ zs. x ∷ zs) (take-beyond xs ys k)

-- an element of a concatenation, beyond the first list
get-beyond : {A : Type 0} (xs ys : List A) (k : ℕ) (d : A) → get_or (xs ++ ys) (length xs + k) d ≡ get_or ys k d
get-beyond [] ys k d = let none : 0 + k ≡ k = omega arith in ap (λ n. get_or ys n d) none
get-beyond (x ∷ xs) ys k d =
    let next : suc (length xs) + k ≡ suc (length xs + k) = omega arith in
    ap (λ n. get_or (x ∷ (xs ++ ys)) n d) next ∙ get-beyond xs ys k d

-- the outcome of a claim, if there is one, at the accumulators of a book
settled_at : PlanParts → Book → Option Claim → Option Outcome
settled_at plan book claim = option_map (λ c. outcome_of plan c (book (account_of plan c))) claim

-- the order of acceptance decides each claim at the accumulators before it
decided_at : (T : Terms) (J : List Event) (k : ℕ) → outcome_by T (accepts J) k ≡ settled_at T.plan (before T J k) (get_or (claims T J) k None)
unfolding settled_at
decided_at T J k = refl

claim-count : (T : Terms) (J : List Event) → length (claims T J) ≡ accepted_count J
claim-count T J = length-map (accepts J) (claim_filed T)

module _ (whole first second : Run) (entries : List Entry) (parts : AreParts whole first second entries) (closes : ClosesAt first.terms first.journal entries) where
  -- the second run begins with the accumulators after the first one
  begins : (account : Account) → opening second.terms.balances account ≡ fold (noted whole.terms.plan) (opening whole.terms.balances) (claims first.terms first.journal) account
  begins account =
      let opened : ◌≡◌ {A = Book} (opening first.terms.balances) (opening whole.terms.balances) = λ i a. parts.opened a i in
      let all : take (accepted_count first.journal) (claims first.terms first.journal) ≡ claims first.terms first.journal =
      ap (λ n. take n (claims first.terms first.journal)) (sym (claim-count first.terms first.journal))
      ∙ take_all (length (claims first.terms first.journal)) (claims first.terms first.journal) (omega arith) in
      parts.carried account ∙ closes account
      ∙ (λ i. fold (noted (parts.first_plan i)) (opened i) (all i) account)

  -- the accumulators before a claim of the second run are those before it in the whole run
  before_alike : (k : ℕ) (account : Account) → before second.terms second.journal k account ≡ before whole.terms whole.journal (accepted_count first.journal + k) account
  before_alike k account =
      let start : ◌≡◌ {A = Book} (opening second.terms.balances) (fold (noted whole.terms.plan) (opening whole.terms.balances) (claims first.terms first.journal)) = λ i a. begins a i in
      let cut : take (accepted_count first.journal + k) (claims whole.terms whole.journal)
      ≡ claims first.terms first.journal ++ take k (claims second.terms second.journal) =
      ap (λ cs. take (accepted_count first.journal + k) cs) parts.accepted
      ∙ ap (λ n. take (n + k) (claims first.terms first.journal ++ claims second.terms second.journal)) (sym (claim-count first.terms first.journal))
      ∙ take-beyond (claims first.terms first.journal) (claims second.terms second.journal) k in
      (λ i. fold (noted (parts.second_plan i)) (start i) (take k (claims second.terms second.journal)) account)
      ∙ ap (λ (book : Book). book account)
      (sym (fold-append (noted whole.terms.plan) (opening whole.terms.balances) (claims first.terms first.journal) (take k (claims second.terms second.journal))))
      ∙ ap (λ cs. fold (noted whole.terms.plan) (opening whole.terms.balances) cs account) (sym cut)

  decides : Finished whole.terms whole.journal → Finished second.terms second.journal → (k : ℕ) → k < accepted_count second.journal
      → decision_at second.journal k ≡ decision_at whole.journal (accepted_count first.journal + k)
  decides F G k within =
      let sizes : length (claims first.terms first.journal ++ claims second.terms second.journal) ≡ length (claims first.terms first.journal) + length (claims second.terms second.journal) =
      length-append (claims first.terms first.journal) (claims second.terms second.journal) in
      let all : length (claims whole.terms whole.journal) ≡ length (claims first.terms first.journal ++ claims second.terms second.journal) = ap length parts.accepted in
      let one_count = claim-count first.terms first.journal in
      let other_count = claim-count second.terms second.journal in
      let whole_count = claim-count whole.terms whole.journal in
      let below : accepted_count first.journal + k < accepted_count whole.journal = omega (arith, within, sizes, all, one_count, other_count, whole_count) in
      let books : ◌≡◌ {A = Book} (before second.terms second.journal k) (before whole.terms whole.journal (accepted_count first.journal + k)) = λ i a. before_alike k a i in
      let same : get_or (claims second.terms second.journal) k None ≡ get_or (claims whole.terms whole.journal) (accepted_count first.journal + k) None =
      sym (get-beyond (claims first.terms first.journal) (claims second.terms second.journal) k None)
      ∙ ap (λ n. get_or (claims first.terms first.journal ++ claims second.terms second.journal) (n + k) None) one_count
      ∙ ap (λ cs. get_or cs (accepted_count first.journal + k) None) (sym parts.accepted) in
      decided_so second.terms second.journal k G within ∙ decided_at second.terms second.journal k
      ∙ (λ i. settled_at (parts.second_plan i) (books i) (same i))
      ∙ sym (decided_at whole.terms whole.journal (accepted_count first.journal + k))
      ∙ sym (decided_so whole.terms whole.journal (accepted_count first.journal + k) F below)

  closes_so : (last : List Entry) → ClosesAt second.terms second.journal last → ClosesAt whole.terms whole.journal last
  closes_so last closed account =
      let sizes : length (claims first.terms first.journal ++ claims second.terms second.journal) ≡ length (claims first.terms first.journal) + length (claims second.terms second.journal) =
      length-append (claims first.terms first.journal) (claims second.terms second.journal) in
      let all : length (claims whole.terms whole.journal) ≡ length (claims first.terms first.journal ++ claims second.terms second.journal) = ap length parts.accepted in
      let one_count = claim-count first.terms first.journal in
      let other_count = claim-count second.terms second.journal in
      let whole_count = claim-count whole.terms whole.journal in
      let count : accepted_count first.journal + accepted_count second.journal ≡ accepted_count whole.journal = omega (arith, sizes, all, one_count, other_count, whole_count) in
      closed account ∙ before_alike (accepted_count second.journal) account ∙ ap (λ n. before whole.terms whole.journal n account) count

pub carries_on : (whole first second : Run) (entries : List Entry) → AreParts whole first second entries → ClosesAt first.terms first.journal entries → Finished whole.terms whole.journal
    → Finished second.terms second.journal → (position : ℕ) → position < accepted_count second.journal
    → decision_at second.journal position ≡ decision_at whole.journal (accepted_count first.journal + position)
carries_on whole first second entries parts closes F G position within = decides whole first second entries parts closes F G position within

pub closes_alike : (whole first second : Run) (entries last : List Entry) → AreParts whole first second entries → ClosesAt first.terms first.journal entries
    → ClosesAt second.terms second.journal last → ClosesAt whole.terms whole.journal last
closes_alike whole first second entries last parts closes closed = closes_so whole first second entries parts closes last closed
