-- Terms are compared part by part.
use Rattle.std.proofs.Common.{◌≡◌, ◌↔◌, ℤ, ◌&&◌, Bool, true, false, IsTrue, Option, Some, None, refl, ap, sym, ◌∙◌, subst}
use Rattle.std.specs.Ordering.{int_eq}
use Rattle.std.proofs.lemmas.Bool.{and_from, and_parts, both_ways}
use Rattle.regions.proofs.Integers.{eq_true, same_from}
use Rattle.plan_zones.specs.declared.terms.FamilyTerms.{FamilyTerms}
use Rattle.plan_zones.specs.declared.terms.Terms.{Terms}
use Rattle.plan_zones.specs.Terms.{same_family, same_terms}

family_from : (one other : Option FamilyTerms) → same_family one other ≡ true → one ≡ other
family_from None None e = refl
family_from None (Some other) e = absurd (both_ways false refl e)
family_from (Some one) None e = absurd (both_ways false refl e)
family_from (Some one) (Some other) e =
    let both = and_parts (int_eq one.deductible other.deductible) (int_eq one.oop_max other.oop_max) e in
    ap (λ x. Some (record { deductible = x; oop_max = one.oop_max })) (same_from one.deductible other.deductible both.0)
    ∙ ap (λ x. Some (record { deductible = other.deductible; oop_max = x })) (same_from one.oop_max other.oop_max both.1)

family_itself : (one : Option FamilyTerms) → same_family one one ≡ true
family_itself None = refl
family_itself (Some one) = and_from (int_eq one.deductible one.deductible) (int_eq one.oop_max one.oop_max) (eq_true one.deductible one.deductible refl) (eq_true one.oop_max one.oop_max refl)

module _ (one other : Terms) where
  abbrev fee : Bool
  fee = int_eq one.fee other.fee

  abbrev deductible : Bool
  deductible = int_eq one.deductible other.deductible

  abbrev copay : Bool
  copay = int_eq one.copay other.copay

  abbrev rate : Bool
  rate = int_eq one.rate other.rate

  abbrev most : Bool
  most = int_eq one.oop_max other.oop_max

  terms_from : same_terms one other ≡ true → one ≡ other
  terms_from e =
      let a = and_parts ((((fee && deductible) && copay) && rate) && most) (same_family one.family other.family) e in
      let b = and_parts (((fee && deductible) && copay) && rate) most a.0 in
      let c = and_parts ((fee && deductible) && copay) rate b.0 in
      let d = and_parts (fee && deductible) copay c.0 in
      let f = and_parts fee deductible d.0 in
      ap (λ x. record { fee = x; deductible = one.deductible; copay = one.copay; rate = one.rate; oop_max = one.oop_max; family = one.family }) (same_from one.fee other.fee f.0)
      ∙ ap (λ x. record { fee = other.fee; deductible = x; copay = one.copay; rate = one.rate; oop_max = one.oop_max; family = one.family }) (same_from one.deductible other.deductible f.1)
      ∙ ap (λ x. record { fee = other.fee; deductible = other.deductible; copay = x; rate = one.rate; oop_max = one.oop_max; family = one.family }) (same_from one.copay other.copay d.1)
      ∙ ap (λ x. record { fee = other.fee; deductible = other.deductible; copay = other.copay; rate = x; oop_max = one.oop_max; family = one.family }) (same_from one.rate other.rate c.1)
      ∙ ap (λ x. record { fee = other.fee; deductible = other.deductible; copay = other.copay; rate = other.rate; oop_max = x; family = one.family }) (same_from one.oop_max other.oop_max b.1)
      ∙ ap (λ x. record { fee = other.fee; deductible = other.deductible; copay = other.copay; rate = other.rate; oop_max = other.oop_max; family = x })
      (family_from one.family other.family a.1)

terms_itself : (t : Terms) → same_terms t t ≡ true
terms_itself t =
    let itself = λ (units : ℤ). eq_true units units refl in
    and_from _ _ (and_from _ _ (and_from _ _ (and_from _ _ (and_from _ _ (itself t.fee) (itself t.deductible)) (itself t.copay)) (itself t.rate)) (itself t.oop_max)) (family_itself t.family)

pub terms_decided : (same : Bool) (one other : Terms) → same ≡ same_terms one other → IsTrue same ↔ (one ≡ other)
terms_decided same one other is = (
  λ holds. terms_from one other (sym is ∙ holds),
  λ equal. is ∙ subst (λ t. same_terms one t ≡ true) equal (terms_itself one),
)
