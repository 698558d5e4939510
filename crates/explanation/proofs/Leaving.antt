-- What the claims of a family leave is what each account of the family has.
use Rattle.std.proofs.Common.{◌≡◌, ◌==◌, ◌&&◌, ◌≤◌, ℕ, Bool, true, false, cond, List, [], ◌∷◌, ◌++◌, take, fold, length, Option, Some, None, refl, sym, ap, subst, ◌∙◌, arith, eqb-true}
use Rattle.std.specs.Str.{bytes_eq}
use Rattle.std.proofs.lemmas.List.{length-map, map-append, take-append-le, take_all}
use Rattle.std.proofs.lemmas.List.Sums.{fold-append}
use Rattle.std.proofs.lemmas.Slice.Eq.{bytes_eq-Decides}
use Rattle.settlement.specs.Accounts.{Account, account_of, family_of}
use Rattle.settlement.specs.Accumulators.{after}
use Rattle.settlement.specs.Opening.{opening}
use Rattle.settlement.specs.Settlement.{outcome}
use Rattle.settlement.specs.declared.acc.Acc.{Acc}
use Rattle.settlement.specs.declared.claim.Claim.{Claim}
use Rattle.settlement.specs.declared.outcome.Outcome.{Outcome}
use Rattle.journal.specs.Events.{Book, Filed, claim_filed, noted}
use Rattle.journal.specs.Settled.{accumulated, outcome_of}
use Rattle.journal.specs.Terms.{Terms}
use Rattle.claim_gate.specs.Terms.{TermsParts}
use Rattle.journal.specs.Places.{merge_acc}
use Rattle.orders.specs.Order.{before_by, claims_by}
use Rattle.explanation.specs.Cases.{IsPlaceOf, is_of_account, last_of, last_with}
use Rattle.explanation.specs.Families.{IsStanding, begun_with, left_after, left_by, present_for}
use Rattle.explanation.specs.declared.family.LastClaim.{LastClaim}
use Rattle.explanation.specs.declared.family.Standing.{Standing}
use Rattle.explanation.specs.declared.row.Place.{Place}
use Rattle.explanation.proofs.Sharing.{all_grown, none_grown, own_stays, same_acc, same_outcome, shared_after, shared_grows}

-- the accounts after all these claims
abbrev pub book_of : Terms → List Filed → Book
book_of T claims = fold (noted T.plan) (opening T.balances) (claims_by T claims)

-- the account has these accumulators and this last claim after all these claims
abbrev pub IsAfterAll : TermsParts → Terms → List Filed → Account → Standing → Type 0
IsAfterAll parts T claims a standing = (standing.acc ≡ book_of T claims a) × IsPlaceOf parts T (last_of T a claims) standing.last

module _ (parts : TermsParts) (T : Terms) (claims : List Filed) (n : ℕ) (a : Account) (standing : Standing) where
  whole_book : length claims ≤ n → before_by T claims n a ≡ book_of T claims a
  whole_book long =
      let size = length-map claims (claim_filed T) in
      ap (λ cs. fold (noted T.plan) (opening T.balances) cs a) (take_all n (claims_by T claims) (omega (arith, long, size)))

  pub to_all : length claims ≤ n → IsStanding parts T claims n a standing → IsAfterAll parts T claims a standing
  to_all long s = (s.acc ∙ whole_book long, subst (λ cs. IsPlaceOf parts T (last_of T a cs) standing.last) (take_all n claims long) s.last)

  pub from_all : length claims ≤ n → IsAfterAll parts T claims a standing → IsStanding parts T claims n a standing
  from_all long s = record {
    acc = s.0 ∙ sym (whole_book long);
    last = subst (λ cs. IsPlaceOf parts T (last_of T a cs) standing.last) (sym (take_all n claims long)) s.1;
  }

  -- a claim that is not counted changes nothing
  pub not_counted : (filed : Filed) → n ≤ length claims → IsStanding parts T claims n a standing → IsStanding parts T (claims ++ filed ∷ []) n a standing
  not_counted filed within s =
      let size = length-map claims (claim_filed T) in
      let book = ap (λ cs. fold (noted T.plan) (opening T.balances) cs a)
      (ap (take n) (map-append (claim_filed T) claims (filed ∷ [])) ∙ take-append-le n (claims_by T claims) (claim_filed T filed ∷ []) (omega (arith, within, size))) in
      record {
        acc = s.acc ∙ sym book;
        last = subst (λ cs. IsPlaceOf parts T (last_of T a cs) standing.last) (sym (take-append-le n claims (filed ∷ []) within)) s.last;
      }

-- before the first claim
pub none_left : (parts : TermsParts) (T : Terms) (a : Account) → IsAfterAll parts T [] a (begun_with (opening T.balances a))
none_left parts T a = (refl, tt)

place_cases : (parts : TermsParts) (T : Terms) (b : Bool) (filed : Filed) (place : Place) (last : Option Filed) (at : Option Place) → IsPlaceOf parts T last at → IsPlaceOf parts T (Some filed) (Some place)
    → IsPlaceOf parts T (cond b (Some filed) last) (cond b (Some place) at)
place_cases parts T true filed place last at old new = new
place_cases parts T false filed place last at old new = old

module _ (parts : TermsParts) (T : Terms) (claims : List Filed) (filed : Filed) (claim : Claim) (located : claim_filed T filed ≡ Some claim) where
  abbrev k : Account
  k = account_of T.plan claim

  abbrev o : Outcome
  o = outcome_of T.plan claim (book_of T claims k)

  book_more : (a : Account) → book_of T (claims ++ filed ∷ []) a ≡ noted T.plan (book_of T claims) (Some claim) a
  book_more a =
      ap (λ cs. fold (noted T.plan) (opening T.balances) cs a) (map-append (claim_filed T) claims (filed ∷ []))
      ∙ ap (λ (b : Book). b a) (fold-append (noted T.plan) (opening T.balances) (claims_by T claims) (claim_filed T filed ∷ []))
      ∙ ap (λ c. noted T.plan (book_of T claims) c a) located

  last_more : (a : Account) → last_of T a (claims ++ filed ∷ []) ≡ cond ((bytes_eq k.family a.family && (k.year == a.year)) && bytes_eq k.member a.member) (Some filed) (last_of T a claims)
  last_more a =
      fold-append (last_with T a) None claims (filed ∷ [])
      ∙ ap (λ c. cond (is_of_account T.plan a c) (Some filed) (last_of T a claims)) located

  module _ (a : Account) (family : List ℕ) (of_family : a.family ≡ family) where
    -- a claim of another family changes nothing
    pub other_after : (standing : Standing) → bytes_eq (family_of claim) family ≡ false → IsAfterAll parts T claims a standing → IsAfterAll parts T (claims ++ filed ∷ []) a standing
    other_after standing other s =
        let apart : bytes_eq k.family a.family ≡ false = ap (bytes_eq k.family) of_family ∙ other in
        let none : noted T.plan (book_of T claims) (Some claim) a ≡ book_of T claims a =
        (λ i. accumulated ((apart i && (k.year == a.year)) && bytes_eq k.member a.member) (apart i && (k.year == a.year)) (book_of T claims a) o) ∙ none_grown o (book_of T claims a) in
        let last : last_of T a (claims ++ filed ∷ []) ≡ last_of T a claims =
        last_more a ∙ (λ i. cond ((apart i && (k.year == a.year)) && bytes_eq k.member a.member) (Some filed) (last_of T a claims)) in
        (s.0 ∙ sym none ∙ sym (book_more a), subst (λ l. IsPlaceOf parts T l standing.last) (sym last) s.1)

    module _ (own_family : family_of claim ≡ family) where
      step_by : (h m : Bool) → (k.year == a.year) ≡ h → bytes_eq k.member a.member ≡ m
          → merge_acc (h && m) h (after (book_of T claims k) o) (book_of T claims a) ≡ accumulated (h && m) h (book_of T claims a) o
      step_by false m year member =
          same_acc (merge_acc false false (after (book_of T claims k) o) (book_of T claims a)) (book_of T claims a) refl refl refl refl refl ∙ sym (none_grown o (book_of T claims a))
      step_by true true year member =
          let f : k.family ≡ a.family = own_family ∙ sym of_family in
          let y : k.year ≡ a.year = eqb-true k.year a.year year in
          let n : k.member ≡ a.member = (bytes_eq-Decides k.member a.member).0 member in
          let same : k ≡ a = λ i. record { family = f i; member = n i; year = y i } in
          same_acc (merge_acc true true (after (book_of T claims k) o) (book_of T claims a)) (after (book_of T claims k) o) refl refl refl refl refl
          ∙ sym (all_grown o (book_of T claims k))
          ∙ ap (λ (account : Account). accumulated true true (book_of T claims account) o) same
      step_by true false year member =
          let f : k.family ≡ a.family = own_family ∙ sym of_family in
          let y : k.year ≡ a.year = eqb-true k.year a.year year in
          let own = own_stays o (book_of T claims a) in
          let shared = shared_after T.plan T.balances (claims_by T claims) k a f y in
          let grows = shared_grows true false true (book_of T claims k) (book_of T claims a) o shared.0 shared.1 in
          let grown = all_grown o (book_of T claims k) in
          same_acc (merge_acc false true (after (book_of T claims k) o) (book_of T claims a)) (accumulated false true (book_of T claims a) o) (sym own.0) (sym own.1) (sym own.2)
          (sym (ap (λ (x : Acc). x.fmet) grown) ∙ grows.0) (sym (ap (λ (x : Acc). x.foop) grown) ∙ grows.1)

      -- a claim of the family
      pub own_after : (begun : Book) (lasts : List LastClaim) (place : Place) (standing : Standing) → (present_for T.plan begun lasts claim).acc ≡ book_of T claims k
          → IsPlaceOf parts T (Some filed) (Some place) → IsAfterAll parts T claims a standing
          → IsAfterAll parts T (claims ++ filed ∷ []) a (left_by a standing (left_after T.plan begun lasts place claim))
      own_after begun lasts place standing before at s =
          let left = left_after T.plan begun lasts place claim in
          let h = k.year == a.year in
          let m = bytes_eq k.member a.member in
          let same : bytes_eq k.family a.family ≡ true = (bytes_eq-Decides k.family a.family).1 (own_family ∙ sym of_family) in
          let left_acc : left.acc ≡ after (book_of T claims k) o =
          ap (λ acc. after acc (outcome T.plan claim acc)) before ∙ ap (after (book_of T claims k)) (sym (same_outcome T.plan claim (book_of T claims k))) in
          let acc = ap (λ acc. merge_acc (h && m) h left.acc acc) s.0
          ∙ ap (λ l. merge_acc (h && m) h l (book_of T claims a)) left_acc
          ∙ step_by h m refl refl
          ∙ (λ i. accumulated ((sym same i && h) && m) (sym same i && h) (book_of T claims a) o)
          ∙ sym (book_more a) in
          let last : cond (h && m) (Some filed) (last_of T a claims) ≡ last_of T a (claims ++ filed ∷ []) =
          (λ i. cond ((sym same i && h) && m) (Some filed) (last_of T a claims)) ∙ sym (last_more a) in
          (acc, subst (λ l. IsPlaceOf parts T l (cond (h && m) (Some place) standing.last)) last (place_cases parts T (h && m) filed place (last_of T a claims) standing.last s.1 at))
