-- Comparisons of whole numbers.
use Rattle.std.proofs.Common.{◌≡◌, ℤ, pos, negsuc, ◌≤ℤ◌, ◌<ℤ◌, Bool, true, false, not, cond, Less, Equal, Greater, refl, ap, sym, ◌∙◌, arith}
use Rattle.std.specs.Prelude.{int_lt, int_le}
use Rattle.std.specs.Ordering.{is_eq, int_eq}
use Rattle.std.proofs.lemmas.Int.{ints, by_lt_z}
use Rattle.std.proofs.lemmas.Bool.{lt-ltb, le-ltb, both_ways}
use Rattle.std.proofs.lemmas.Bool.Decides.{Decides-int_eq}

pub lt_true : (a b : ℤ) → a <ℤ b → int_lt a b ≡ true
lt_true (pos m) (pos n) h = lt-ltb m n (omega (arith, ints, h))
lt_true (pos m) (negsuc n) h = absurd (omega (arith, ints, h))
lt_true (negsuc m) (pos n) h = refl
lt_true (negsuc m) (negsuc n) h = lt-ltb n m (omega (arith, ints, h))

pub lt_false : (a b : ℤ) → b ≤ℤ a → int_lt a b ≡ false
lt_false (pos m) (pos n) h = le-ltb m n (omega (arith, ints, h))
lt_false (pos m) (negsuc n) h = refl
lt_false (negsuc m) (pos n) h = absurd (omega (arith, ints, h))
lt_false (negsuc m) (negsuc n) h = le-ltb n m (omega (arith, ints, h))

pub lt_from : (a b : ℤ) → int_lt a b ≡ true → a <ℤ b
lt_from a b e = by_lt_z a b (λ h. h) (λ h. absurd (both_ways (int_lt a b) (lt_false a b h) e))

pub le_from : (a b : ℤ) → int_lt a b ≡ false → b ≤ℤ a
le_from a b e = by_lt_z a b (λ h. absurd (both_ways (int_lt a b) e (lt_true a b h))) (λ h. h)

pub le_is : (a b : ℤ) → int_le a b ≡ not (int_lt b a)
le_is a b = by_lt_z b a (λ h. grind (arith, ints)) (λ h. grind (arith, ints))

-- equality, computed from the order
abbrev from_order : Bool → Bool → Bool
from_order less more = is_eq (cond less Less (cond more Greater Equal))

-- two numbers compare in the same way with a third
pub record Beside (a b c : ℤ) : Type 0 where
  pub less : int_lt a c ≡ int_lt b c
  pub more : int_lt c a ≡ int_lt c b

pub beside_same : (a b c : ℤ) → a ≡ b → Beside a b c
beside_same a b c e = record { less = ap (λ x. int_lt x c) e; more = ap (λ x. int_lt c x) e }

pub beside_below : (a b c : ℤ) → a <ℤ c → b <ℤ c → Beside a b c
beside_below a b c h k = record {
  less = lt_true a c h ∙ sym (lt_true b c k);
  more = lt_false c a (omega (arith, ints)) ∙ sym (lt_false c b (omega (arith, ints)));
}

pub beside_above : (a b c : ℤ) → c <ℤ a → c <ℤ b → Beside a b c
beside_above a b c h k = record {
  less = lt_false a c (omega (arith, ints)) ∙ sym (lt_false b c (omega (arith, ints)));
  more = lt_true c a h ∙ sym (lt_true c b k);
}

pub equal_beside : {a b c : ℤ} → Beside a b c → int_eq a c ≡ int_eq b c
equal_beside {a} {b} {c} s = ap (λ x. from_order x (int_lt c a)) s.less ∙ ap (λ y. from_order (int_lt b c) y) s.more

pub at_most_beside : {a b c : ℤ} → Beside a b c → int_le a c ≡ int_le b c
at_most_beside {a} {b} {c} s = le_is a c ∙ ap not s.more ∙ sym (le_is b c)

pub at_least_beside : {a b c : ℤ} → Beside a b c → int_le c a ≡ int_le c b
at_least_beside {a} {b} {c} s = le_is c a ∙ ap not s.less ∙ sym (le_is c b)

pub same_from : (a b : ℤ) → int_eq a b ≡ true → a ≡ b
same_from a b e = (Decides-int_eq a b).0 e

pub eq_true : (a b : ℤ) → a ≡ b → int_eq a b ≡ true
eq_true a b e = (Decides-int_eq a b).1 e

pub eq_below : (a b : ℤ) → a <ℤ b → int_eq a b ≡ false
eq_below a b h = ap (λ x. from_order x (int_lt b a)) (lt_true a b h)

pub eq_above : (a b : ℤ) → b <ℤ a → int_eq a b ≡ false
eq_above a b h = ap (λ x. from_order x (int_lt b a)) (lt_false a b (omega (arith, ints))) ∙ ap (λ y. from_order false y) (lt_true b a h)

pub le_true : (a b : ℤ) → a ≤ℤ b → int_le a b ≡ true
le_true a b h = le_is a b ∙ ap not (lt_false b a h)

pub le_so : (a b : ℤ) → int_le a b ≡ true → a ≤ℤ b
le_so a b e = le_from b a (not_back (int_lt b a) (sym (le_is a b) ∙ e)) where
  not_back : (t : Bool) → not t ≡ true → t ≡ false
  not_back true e = sym e
  not_back false e = refl

pub le_not : (a b : ℤ) → b <ℤ a → int_le a b ≡ false
le_not a b h = le_is a b ∙ ap not (lt_true b a h)
