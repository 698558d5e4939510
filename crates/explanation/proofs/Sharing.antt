-- What a claim adds to the accounts of its family and to others.
use Rattle.std.proofs.Common.{◌≡◌, ◌==◌, ◌&&◌, ℤ, pos, ◌+ℤ◌, Bool, true, false, List, [], ◌∷◌, Option, Some, None, fold, refl, ap, ◌∙◌, arith}
use Rattle.std.specs.Str.{bytes_eq}
use Rattle.std.proofs.lemmas.Int.{ints}
use Rattle.tables.specs.Plan.{PlanParts}
use Rattle.settlement.specs.Accounts.{Account, account_of, grown, is_family_year, is_same, part}
use Rattle.settlement.specs.Accumulators.{after}
use Rattle.settlement.specs.Opening.{opening}
use Rattle.settlement.specs.Settlement.{outcome}
use Rattle.settlement.specs.declared.acc.Acc.{Acc}
use Rattle.settlement.specs.declared.account.Balance.{Balance}
use Rattle.settlement.specs.declared.claim.Claim.{Claim}
use Rattle.settlement.specs.declared.outcome.Outcome.{Outcome}
use Rattle.journal.specs.Events.{Book, noted}
use Rattle.journal.specs.Settled.{accumulated, outcome_of}

plus_none : (x : ℤ) → x +ℤ pos 0 ≡ x
plus_none x = omega (arith, ints)

pub same_acc : (a b : Acc) → a.met ≡ b.met → a.oop ≡ b.oop → a.paid ≡ b.paid → a.fmet ≡ b.fmet → a.foop ≡ b.foop → a ≡ b
same_acc a b m o p f g = λ i. record { met = m i; oop = o i; paid = p i; fmet = f i; foop = g i }

-- the settlement, as journals use it
pub same_outcome : (plan : PlanParts) (claim : Claim) (acc : Acc) → outcome_of plan claim acc ≡ outcome plan claim acc
unfolding outcome_of
same_outcome plan claim acc = refl

-- a claim adds nothing to an account of another family or year, only the family's sums to another member's account, and all to its own
pub none_grown : (o : Outcome) (acc : Acc) → accumulated false false acc o ≡ acc
unfolding accumulated
none_grown o acc = same_acc (grown false false acc o) acc (plus_none acc.met) (plus_none acc.oop) (plus_none acc.paid) (plus_none acc.fmet) (plus_none acc.foop)

pub own_stays : (o : Outcome) (acc : Acc) → ((accumulated false true acc o).met ≡ acc.met) × ((accumulated false true acc o).oop ≡ acc.oop) × ((accumulated false true acc o).paid ≡ acc.paid)
unfolding accumulated
own_stays o acc = (plus_none acc.met, plus_none acc.oop, plus_none acc.paid)

pub all_grown : (o : Outcome) (acc : Acc) → accumulated true true acc o ≡ after acc o
unfolding accumulated
all_grown o acc = same_acc (grown true true acc o) (after acc o) refl refl refl refl refl

-- the sums of the family grow alike for both members
pub shared_grows : (one other shared : Bool) (a b : Acc) (o : Outcome) → a.fmet ≡ b.fmet → a.foop ≡ b.foop
    → ((accumulated one shared a o).fmet ≡ (accumulated other shared b o).fmet) × ((accumulated one shared a o).foop ≡ (accumulated other shared b o).foop)
unfolding accumulated
shared_grows one other shared a b o f g = (ap (λ x. x +ℤ part shared o.ded) f, ap (λ x. x +ℤ part shared o.share) g)

-- both accounts have the same sums of their family
abbrev pub AreShared : Book → Type 0
AreShared book = (a b : Account) → a.family ≡ b.family → a.year ≡ b.year → ((book a).fmet ≡ (book b).fmet) × ((book a).foop ≡ (book b).foop)

shared_noted : (plan : PlanParts) (book : Book) (c : Option Claim) → AreShared book → AreShared (noted plan book c)
shared_noted plan book None h a b f y = h a b f y
shared_noted plan book (Some c) h a b f y =
    let k = account_of plan c in
    let o = outcome_of plan c (book k) in
    let same : is_family_year k a ≡ is_family_year k b = (λ i. bytes_eq k.family (f i) && (k.year == y i)) in
    let old = h a b f y in
    let grows = shared_grows (is_same k a) (is_same k b) (is_family_year k b) (book a) (book b) o old.0 old.1 in (
      ap (λ s. (accumulated (is_same k a) s (book a) o).fmet) same ∙ grows.0,
      ap (λ s. (accumulated (is_same k a) s (book a) o).foop) same ∙ grows.1,
    )

shared_fold : (plan : PlanParts) (cs : List (Option Claim)) (book : Book) → AreShared book → AreShared (fold (noted plan) book cs)
shared_fold plan [] book h = h
shared_fold plan (c ∷ cs) book h = shared_fold plan cs (noted plan book c) (shared_noted plan book c h)

shared_opening : (es : List (Account × Balance)) → AreShared (opening es)
shared_opening [] a b f y = (refl, refl)
shared_opening (e ∷ es) a b f y =
    let old = shared_opening es a b f y in (
      λ i. old.0 i +ℤ part (bytes_eq e.0.family (f i) && (e.0.year == y i)) e.1.met,
      λ i. old.1 i +ℤ part (bytes_eq e.0.family (f i) && (e.0.year == y i)) e.1.oop,
    )

-- all members of a family have the same sums, after any claims
pub shared_after : (plan : PlanParts) (es : List (Account × Balance)) (cs : List (Option Claim)) → AreShared (fold (noted plan) (opening es) cs)
shared_after plan es cs = shared_fold plan cs (opening es) (shared_opening es)
