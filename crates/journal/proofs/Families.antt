-- The accumulators of a family are the sums over its members.
use Rattle.std.proofs.Common.{◌≡◌, ℕ, suc, ℤ, pos, ◌+ℤ◌, ◌==◌, ◌&&◌, Bool, true, false, cond, List, [], ◌∷◌, Option, Some, None, fold, refl, sym, ap, ◌∙◌, subst, arith, eqb-true}
use Rattle.std.specs.Str.{bytes_eq}
use Rattle.std.proofs.lemmas.Bool.{and_parts, cond-false}
use Rattle.std.proofs.lemmas.Int.{ints}
use Rattle.std.proofs.lemmas.Slice.Eq.{bytes_eq-Decides}
use Rattle.tables.specs.Plan.{PlanParts}
use Rattle.settlement.specs.Accounts.{Account, account_of, is_same, part, grown}
use Rattle.settlement.specs.Opening.{opening}
use Rattle.settlement.specs.declared.acc.Acc.{Acc}
use Rattle.settlement.specs.declared.account.Balance.{Balance}
use Rattle.settlement.specs.declared.claim.Claim.{Claim}
use Rattle.settlement.specs.declared.outcome.Outcome.{Outcome}
use Rattle.journal.specs.Settled.{outcome_of, accumulated}
use Rattle.journal.specs.Events.{Book, noted}
use Rattle.journal.specs.Families.{sum_over, times, member_of, is_in, IsSummed, IsAmong, AreAmong, IsAbsent, AreOpenings}

-- what one of the members receives is added to the sum over all of them
none_by : (b : Bool) (g d left right : ℤ) (n : ℕ) → cond b (suc n) n ≡ 0 → (n ≡ 0 → left ≡ right) → (g +ℤ part b d) +ℤ left ≡ g +ℤ right
none_by true g d left right n h rest = absurd (let never : suc n ≡ 0 = h in omega (arith, never))
none_by false g d left right n h rest = let same : left ≡ right = rest h in omega (arith, ints, same)

sum_none : (g : List ℕ → ℤ) (x : List ℕ) (d : ℤ) (ms : List (List ℕ)) → times x ms ≡ 0 → sum_over (λ m. g m +ℤ part (bytes_eq x m) d) ms ≡ sum_over g ms
sum_none g x d [] h = refl
sum_none g x d (m ∷ ms) h =
    none_by (bytes_eq x m) (g m) d (sum_over (λ y. g y +ℤ part (bytes_eq x y) d) ms) (sum_over g ms) (times x ms) h (sum_none g x d ms)

once_by : (b : Bool) (g d left right : ℤ) (n : ℕ) → cond b (suc n) n ≡ 1 → (n ≡ 0 → left ≡ right) → (n ≡ 1 → left ≡ right +ℤ d) → (g +ℤ part b d) +ℤ left ≡ (g +ℤ right) +ℤ d
once_by true g d left right n h none once =
    let is : suc n ≡ 1 = h in
    let zero_is : n ≡ 0 = omega (arith, is) in
    let same : left ≡ right = none zero_is in
    omega (arith, ints, same)
once_by false g d left right n h none once = let same : left ≡ right +ℤ d = once h in omega (arith, ints, same)

sum_once : (g : List ℕ → ℤ) (x : List ℕ) (d : ℤ) (ms : List (List ℕ)) → times x ms ≡ 1 → sum_over (λ m. g m +ℤ part (bytes_eq x m) d) ms ≡ sum_over g ms +ℤ d
sum_once g x d [] h = absurd (let never : 0 ≡ 1 = h in omega (arith, never))
sum_once g x d (m ∷ ms) h =
    once_by (bytes_eq x m) (g m) d (sum_over (λ y. g y +ℤ part (bytes_eq x y) d) ms) (sum_over g ms) (times x ms) h (sum_none g x d ms) (sum_once g x d ms)

sum_same : (f g : List ℕ → ℤ) (ms : List (List ℕ)) → ((m : List ℕ) → f m ≡ g m) → sum_over f ms ≡ sum_over g ms
sum_same f g [] h = refl
sum_same f g (m ∷ ms) h = λ i. h m i +ℤ sum_same f g ms h i

plus_none : (x : ℤ) → x +ℤ pos 0 ≡ x
plus_none x = omega (arith, ints)

-- one member's part of an outcome is added to the sum, if the account is of the family in the year
shares : (h : Bool) (g : List ℕ → ℤ) (x : List ℕ) (d total : ℤ) (ms : List (List ℕ)) → total ≡ sum_over g ms → (h ≡ true → times x ms ≡ 1)
    → total +ℤ part h d ≡ sum_over (λ m. g m +ℤ part (h && bytes_eq x m) d) ms
shares true g x d total ms is among = ap (λ t. t +ℤ d) is ∙ sym (sum_once g x d ms (among refl))
shares false g x d total ms is among = plus_none total ∙ is ∙ sym (sum_same (λ m. g m +ℤ pos 0) g ms (λ m. plus_none (g m)))

-- the definition of the accumulators after an outcome
grows : (own shared : Bool) (acc : Acc) (o : Outcome) → accumulated own shared acc o ≡ grown own shared acc o
unfolding accumulated
grows own shared acc o = refl

module _ (plan : PlanParts) (family : List ℕ) (year : ℕ) (members : List (List ℕ)) where
  summed_noted : (book : Book) (c : Claim) → IsSummed family year members book → IsAmong family year members (account_of plan c) → IsSummed family year members (noted plan book (Some c))
  summed_noted book c is among =
      let k = account_of plan c in
      let o = outcome_of plan c (book k) in
      let h : Bool = is_in family year k in
      let made : (x : List ℕ) → noted plan book (Some c) (member_of family year x) ≡ grown (h && bytes_eq k.member x) h (book (member_of family year x)) o =
      λ x. grows (h && bytes_eq k.member x) h (book (member_of family year x)) o in
      record {
        met = λ m.
            ap (λ (a : Acc). a.fmet) (made m)
            ∙ shares h (λ x. (book (member_of family year x)).met) k.member o.ded (book (member_of family year m)).fmet members (is.met m) among
            ∙ sym (sum_same (λ x. (noted plan book (Some c) (member_of family year x)).met) (λ x. (book (member_of family year x)).met +ℤ part (h && bytes_eq k.member x) o.ded) members
            (λ x. ap (λ (a : Acc). a.met) (made x)));
        oop = λ m.
            ap (λ (a : Acc). a.foop) (made m)
            ∙ shares h (λ x. (book (member_of family year x)).oop) k.member o.share (book (member_of family year m)).foop members (is.oop m) among
            ∙ sym (sum_same (λ x. (noted plan book (Some c) (member_of family year x)).oop) (λ x. (book (member_of family year x)).oop +ℤ part (h && bytes_eq k.member x) o.share) members
            (λ x. ap (λ (a : Acc). a.oop) (made x)));
      }

  pub summed_fold : (cs : List (Option Claim)) (book : Book) → IsSummed family year members book → AreAmong plan family year members cs → IsSummed family year members (fold (noted plan) book cs)
  summed_fold [] book is among = is
  summed_fold (None ∷ cs) book is among = summed_fold cs (noted plan book None) (record { met = is.met; oop = is.oop }) among
  summed_fold (Some c ∷ cs) book is among = summed_fold cs (noted plan book (Some c)) (summed_noted book c is among.0) among.1

absent_none : (a : Account) (es : List (Account × Balance)) → IsAbsent a es → ((opening es a).met ≡ pos 0) × ((opening es a).oop ≡ pos 0)
absent_none a [] h = (refl, refl)
absent_none a (e ∷ es) h =
    let rest = absent_none a es h.1 in
    (cond-false (is_same e.0 a) e.1.met (opening es a).met h.0 ∙ rest.0, cond-false (is_same e.0 a) e.1.oop (opening es a).oop h.0 ∙ rest.1)

cond_part : (b : Bool) (d g : ℤ) → (b ≡ true → g ≡ pos 0) → cond b d g ≡ g +ℤ part b d
cond_part true d g none = let zero_is : g ≡ pos 0 = none refl in omega (arith, ints, zero_is)
cond_part false d g none = sym (plus_none g)

sum_nothing : (ms : List (List ℕ)) → pos 0 ≡ sum_over (λ m. pos 0) ms
sum_nothing [] = refl
sum_nothing (m ∷ ms) = let rest = sum_nothing ms in omega (arith, ints, rest)

module _ (family : List ℕ) (year : ℕ) (members : List (List ℕ)) where
  one_account : (a : Account) (m : List ℕ) → (bytes_eq a.family family && (a.year == year)) ≡ true → bytes_eq a.member m ≡ true → a ≡ member_of family year m
  one_account a m h n =
      let parts = and_parts (bytes_eq a.family family) (a.year == year) h in
      let f : a.family ≡ family = (bytes_eq-Decides a.family family).0 parts.0 in
      let y : a.year ≡ year = eqb-true a.year year parts.1 in
      let s : a.member ≡ m = (bytes_eq-Decides a.member m).0 n in
      λ i. record { family = f i; member = s i; year = y i }

  pub summed_opening : (es : List (Account × Balance)) → AreOpenings family year members es → IsSummed family year members (opening es)
  summed_opening [] h = record { met = λ m. sum_nothing members; oop = λ m. sum_nothing members }
  summed_opening (e ∷ es) h =
      let rest = summed_opening es h.2 in
      let b : Bool = is_in family year e.0 in
      let none : (m : List ℕ) → (b && bytes_eq e.0.member m) ≡ true → ((opening es (member_of family year m)).met ≡ pos 0) × ((opening es (member_of family year m)).oop ≡ pos 0) =
      λ m is. let parts = and_parts b (bytes_eq e.0.member m) is in
      subst (λ a. ((opening es a).met ≡ pos 0) × ((opening es a).oop ≡ pos 0)) (one_account e.0 m parts.0 parts.1) (absent_none e.0 es h.1) in
      record {
        met = λ m.
            shares b (λ x. (opening es (member_of family year x)).met) e.0.member e.1.met (opening es (member_of family year m)).fmet members (rest.met m) h.0
            ∙ sym (sum_same (λ x. (opening (e ∷ es) (member_of family year x)).met) (λ x. (opening es (member_of family year x)).met +ℤ part (b && bytes_eq e.0.member x) e.1.met) members
            (λ x. cond_part (b && bytes_eq e.0.member x) e.1.met (opening es (member_of family year x)).met (λ is. (none x is).0)));
        oop = λ m.
            shares b (λ x. (opening es (member_of family year x)).oop) e.0.member e.1.oop (opening es (member_of family year m)).foop members (rest.oop m) h.0
            ∙ sym (sum_same (λ x. (opening (e ∷ es) (member_of family year x)).oop) (λ x. (opening es (member_of family year x)).oop +ℤ part (b && bytes_eq e.0.member x) e.1.oop) members
            (λ x. cond_part (b && bytes_eq e.0.member x) e.1.oop (opening es (member_of family year x)).oop (λ is. (none x is).1)));
      }
