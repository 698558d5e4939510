-- The totals of entries are sums, and the opening accumulators where no account is repeated.
use Rattle.std.proofs.Common.{◌≡◌, ◌==◌, ℤ, pos, ◌+ℤ◌, Bool, true, false, cond, List, [], ◌∷◌, ◌++◌, refl, sym, ap, ◌∙◌, subst, arith, eqb-true}
use Rattle.std.specs.Str.{bytes_eq}
use Rattle.std.proofs.lemmas.Bool.{and_parts}
use Rattle.std.proofs.lemmas.Int.{ints}
use Rattle.std.proofs.lemmas.Slice.Eq.{bytes_eq-Decides}
use Rattle.settlement.specs.Accounts.{Account, is_family_year, is_same, part}
use Rattle.settlement.specs.Claim.{nothing_yet}
use Rattle.settlement.specs.Opening.{joins, opening}
use Rattle.settlement.specs.declared.acc.Acc.{Acc}
use Rattle.settlement.specs.declared.account.Balance.{Balance}
use Rattle.intake_csv.specs.Balances.{Entry}
use Rattle.journal.specs.Families.{IsAbsent}
use Rattle.run_lists.specs.Charges.{Posts, adds, plus, totals}

pub same_acc : (a b : Acc) → a.met ≡ b.met → a.oop ≡ b.oop → a.paid ≡ b.paid → a.fmet ≡ b.fmet → a.foop ≡ b.foop → a ≡ b
same_acc a b m o p f g = λ i. record { met = m i; oop = o i; paid = p i; fmet = f i; foop = g i }

sums_assoc : (x y z : ℤ) → (x +ℤ y) +ℤ z ≡ x +ℤ (y +ℤ z)
sums_assoc x y z = omega (arith, ints)

sums_comm : (x y : ℤ) → x +ℤ y ≡ y +ℤ x
sums_comm x y = omega (arith, ints)

sums_swap : (x y z : ℤ) → x +ℤ (y +ℤ z) ≡ y +ℤ (x +ℤ z)
sums_swap x y z = omega (arith, ints)

none_after : (x : ℤ) → x +ℤ pos 0 ≡ x
none_after x = omega (arith, ints)

none_before : (x : ℤ) → x ≡ pos 0 +ℤ x
none_before x = omega (arith, ints)

none_between : (x y : ℤ) → x +ℤ y ≡ x +ℤ (pos 0 +ℤ y)
none_between x y = omega (arith, ints)

turned : (x y z : ℤ) → (x +ℤ y) +ℤ z ≡ (x +ℤ z) +ℤ y
turned x y z = omega (arith, ints)

pub plus_assoc : (a b c : Acc) → plus (plus a b) c ≡ plus a (plus b c)
plus_assoc a b c =
    same_acc (plus (plus a b) c) (plus a (plus b c)) (sums_assoc a.met b.met c.met) (sums_assoc a.oop b.oop c.oop) (sums_assoc a.paid b.paid c.paid) (sums_assoc a.fmet b.fmet c.fmet)
    (sums_assoc a.foop b.foop c.foop)

pub plus_swap : (a b c : Acc) → plus a (plus b c) ≡ plus b (plus a c)
plus_swap a b c =
    same_acc (plus a (plus b c)) (plus b (plus a c)) (sums_swap a.met b.met c.met) (sums_swap a.oop b.oop c.oop) (sums_swap a.paid b.paid c.paid) (sums_swap a.fmet b.fmet c.fmet)
    (sums_swap a.foop b.foop c.foop)

pub plus_none : (a : Acc) → plus a nothing_yet ≡ a
plus_none a = same_acc (plus a nothing_yet) a (none_after a.met) (none_after a.oop) (none_after a.paid) (none_after a.fmet) (none_after a.foop)

pub none_plus : (a : Acc) → a ≡ plus nothing_yet a
none_plus a = same_acc a (plus nothing_yet a) (none_before a.met) (none_before a.oop) (none_before a.paid) (none_before a.fmet) (none_before a.foop)

-- a balance adds the same to all accumulators
pub adds_apart : (own shared : Bool) (b : Balance) (acc : Acc) → adds own shared b acc ≡ plus acc (adds own shared b nothing_yet)
adds_apart own shared b acc =
    same_acc (adds own shared b acc) (plus acc (adds own shared b nothing_yet)) (none_between acc.met (part own b.met)) (none_between acc.oop (part own b.oop)) (none_between acc.paid (part own b.paid))
    (none_between acc.fmet (part shared b.met)) (none_between acc.foop (part shared b.oop))

pub adds_within : (own shared : Bool) (b : Balance) (one other : Acc) → adds own shared b (plus one other) ≡ plus (adds own shared b one) other
adds_within own shared b one other =
    same_acc (adds own shared b (plus one other)) (plus (adds own shared b one) other) (turned one.met other.met (part own b.met)) (turned one.oop other.oop (part own b.oop))
    (turned one.paid other.paid (part own b.paid)) (turned one.fmet other.fmet (part shared b.met)) (turned one.foop other.foop (part shared b.oop))

pub totals_append : (xs ys : List Entry) (account : Account) → totals (xs ++ ys) account ≡ plus (totals xs account) (totals ys account)
totals_append [] ys account = none_plus (totals ys account)
totals_append (x ∷ xs) ys account =
    let own = is_same x.0 account in
    let shared = is_family_year x.0 account in
    ap (adds own shared x.1) (totals_append xs ys account) ∙ adds_within own shared x.1 (totals xs account) (totals ys account)

pub posts_none : (entries : List Entry) → Posts [] entries entries
posts_none entries account = sym (plus_none (totals entries account))

pub posts_then : (xs ys old between new : List Entry) → Posts xs old between → Posts ys between new → Posts (xs ++ ys) old new
posts_then xs ys old between new first second account =
    second account ∙ ap (λ acc. plus acc (totals ys account)) (first account)
    ∙ plus_assoc (totals old account) (totals xs account) (totals ys account)
    ∙ ap (plus (totals old account)) (sym (totals_append xs ys account))

-- accounts that are found the same are equal
pub one_account : (a b : Account) → is_same a b ≡ true → a ≡ b
one_account a b h =
    let parts = and_parts (is_family_year a b) (bytes_eq a.member b.member) h in
    let front = and_parts (bytes_eq a.family b.family) (a.year == b.year) parts.0 in
    let family : a.family ≡ b.family = (bytes_eq-Decides a.family b.family).0 front.0 in
    let year : a.year ≡ b.year = eqb-true a.year b.year front.1 in
    let member : a.member ≡ b.member = (bytes_eq-Decides a.member b.member).0 parts.1 in
    λ i. record { family = family i; member = member i; year = year i }

-- the member's own amounts are zero
record HasNone (acc : Acc) : Type 0 where
  pub met : acc.met ≡ pos 0
  pub oop : acc.oop ≡ pos 0
  pub paid : acc.paid ≡ pos 0

skipped : (own : Bool) (x y : ℤ) → own ≡ false → x ≡ pos 0 → x +ℤ part own y ≡ pos 0
skipped own x y other none = ap (λ (b : Bool). x +ℤ part b y) other ∙ none_after x ∙ none

absent_none : (account : Account) (entries : List Entry) → IsAbsent account entries → HasNone (totals entries account)
absent_none account [] h = record { met = refl; oop = refl; paid = refl }
absent_none account (e ∷ es) h =
    let rest = absent_none account es h.1 in
    let acc = totals es account in
    let own = is_same e.0 account in
    record {
      met = skipped own acc.met e.1.met h.0 rest.met;
      oop = skipped own acc.oop e.1.oop h.0 rest.oop;
      paid = skipped own acc.paid e.1.paid h.0 rest.paid;
    }

-- no account is repeated
abbrev pub AreApart : List Entry → Type 0
AreApart [] = Unit {0}
AreApart (entry ∷ rest) = IsAbsent entry.0 rest × AreApart rest

set_or_added : (own : Bool) (x y : ℤ) → (own ≡ true → x ≡ pos 0) → x +ℤ part own y ≡ cond own y x
set_or_added true x y none = let is : x ≡ pos 0 = none refl in omega (arith, ints, is)
set_or_added false x y none = none_after x

joined : (own shared : Bool) (b : Balance) (acc : Acc) → (own ≡ true → HasNone acc) → adds own shared b acc ≡ joins own shared b acc
joined own shared b acc none =
    same_acc (adds own shared b acc) (joins own shared b acc) (set_or_added own acc.met b.met (λ is. (none is).met)) (set_or_added own acc.oop b.oop (λ is. (none is).oop))
    (set_or_added own acc.paid b.paid (λ is. (none is).paid)) refl refl

-- if no account is repeated, the totals are the opening accumulators
pub totals_opening : (entries : List Entry) → AreApart entries → (account : Account) → totals entries account ≡ opening entries account
totals_opening [] apart account = refl
totals_opening (e ∷ es) apart account =
    let own = is_same e.0 account in
    let shared = is_family_year e.0 account in
    joined own shared e.1 (totals es account)
    (λ is. absent_none account es (subst (λ a. IsAbsent a es) (one_account e.0 account is) apart.0))
    ∙ ap (joins own shared e.1) (totals_opening es apart.1 account)
