-- The parts of two benefits of covered claims that differ.
use Rattle.std.proofs.Common.{◌≡◌, ◌↔◌, inl, inr, ℕ, Bool, true, false, if◌then◌else◌, IsTrue, List, [], refl, ap, sym, ◌∙◌, subst}
use Rattle.std.proofs.lemmas.Bool.{both_ways}
use Rattle.faults.specs.declared.reason.Reason.{Reason}
use Rattle.settlement.specs.declared.determination.Determination.TheVariants as determined
use Rattle.plan_zones.specs.declared.benefit.Benefit.{Benefit}
use Rattle.plan_zones.specs.declared.benefit.Benefit.TheVariants.{Covered, Denied, Pends}
use Rattle.plan_zones.specs.declared.terms.Terms.{Terms}
use Rattle.plan_zones.specs.Changes.{AreApart, IsPart, determination_by, terms_apart}
use Rattle.plan_zones.specs.Terms.{cost_sharing_by}

apart_by : (one other apart : List (List ℕ)) (same : Bool) → IsTrue same ↔ (one ≡ other) → apart ≡ (if same then [] else one) → AreApart one other apart
apart_by one other apart same decides is =
    elim same as (λ b. same ≡ b → AreApart one other apart) [
      | true ↦ λ e. inl (decides.0 e, is ∙ ap (λ b. if b then [] else one) e)
      | false ↦ λ e. inr ((λ equal. both_ways same e (decides.1 equal)), is ∙ ap (λ b. if b then [] else one) e)
    ] refl

module _ (terms others : Terms) (remarks theirs : List (List ℕ)) (same : Bool) (decides : IsTrue same ↔ (remarks ≡ theirs)) (found : Terms) (apart : List (List ℕ)) where
  pub old_part : cost_sharing_by found ≡ terms_apart (cost_sharing_by terms) (cost_sharing_by others) → apart ≡ (if same then [] else remarks)
      → IsPart (determination_by (Covered terms remarks)) (determination_by (Covered others theirs)) (Covered found apart)
  old_part terms_is is = (apart, apart_by remarks theirs apart same decides is, ap (λ sharing. determined.Covered sharing apart) terms_is)

  pub new_part : cost_sharing_by found ≡ terms_apart (cost_sharing_by others) (cost_sharing_by terms) → apart ≡ (if same then [] else theirs)
      → IsPart (determination_by (Covered others theirs)) (determination_by (Covered terms remarks)) (Covered found apart)
  new_part terms_is is = (
    apart,
    apart_by theirs remarks apart same ((λ holds. sym (decides.0 holds)), λ equal. decides.1 (sym equal)) is,
    ap (λ sharing. determined.Covered sharing apart) terms_is,
  )

-- against a benefit that is not of a covered claim the part of a benefit is all of it
whole_denied : (b : Benefit) (remarks : List (List ℕ)) → IsPart (determination_by b) (determination_by (Denied remarks)) b
whole_denied (Pends reason) remarks = refl
whole_denied (Denied own) remarks = refl
whole_denied (Covered t own) remarks = refl

whole_pended : (b : Benefit) (reason : Reason) → IsPart (determination_by b) (determination_by (Pends reason)) b
whole_pended (Pends own) reason = refl
whole_pended (Denied remarks) reason = refl
whole_pended (Covered t remarks) reason = refl

module _ (b other : Benefit) where
  pub denied_old : (remarks : List (List ℕ)) → b ≡ Denied remarks → IsPart (determination_by b) (determination_by other) (Denied remarks)
  denied_old remarks is = subst (λ x. IsPart (determination_by x) (determination_by other) (Denied remarks)) (sym is) refl

  pub denied_new : (remarks : List (List ℕ)) → b ≡ Denied remarks → IsPart (determination_by other) (determination_by b) other
  denied_new remarks is = subst (λ x. IsPart (determination_by other) (determination_by x) other) (sym is) (whole_denied other remarks)

  pub pended_old : (reason : Reason) → b ≡ Pends reason → IsPart (determination_by b) (determination_by other) (Pends reason)
  pended_old reason is = subst (λ x. IsPart (determination_by x) (determination_by other) (Pends reason)) (sym is) refl

  pub pended_new : (reason : Reason) → b ≡ Pends reason → IsPart (determination_by other) (determination_by b) other
  pended_new reason is = subst (λ x. IsPart (determination_by other) (determination_by x) other) (sym is) (whole_pended other reason)

  pub part_as : (known found : Benefit) → b ≡ known → IsPart (determination_by known) (determination_by other) found → IsPart (determination_by b) (determination_by other) found
  part_as known found is part = subst (λ x. IsPart (determination_by x) (determination_by other) found) (sym is) part

  pub part_against : (known found : Benefit) → b ≡ known → IsPart (determination_by other) (determination_by known) found → IsPart (determination_by other) (determination_by b) found
  part_against known found is part = subst (λ x. IsPart (determination_by other) (determination_by x) found) (sym is) part
