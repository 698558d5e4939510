-- Benefits are the determinations of settlement, and are compared as these are.
use Rattle.std.proofs.Common.{◌≡◌, ◌↔◌, ℕ, Bool, true, false, ◌&&◌, if◌then◌else◌, IsTrue, List, [], ◌∷◌, Option, Some, None, Result, Ok, Err, refl, ap, ap₂, sym, ◌∙◌, subst}
use Rattle.std.specs.Prelude.{option_map}
use Rattle.std.specs.Str.{bytes_eq}
use Rattle.std.specs.Cmp.Lexicographic.{bytes_decides}
use Rattle.std.proofs.lemmas.Bool.{and_from, and_parts, both_ways}
use Rattle.faults.specs.declared.fault.Fault.{Fault}
use Rattle.faults.specs.declared.reason.Reason.{Reason}
use Rattle.faults.specs.declared.reason.Reason.TheVariants.{Term}
use Rattle.faults.specs.declared.role.Role.{Role}
use Rattle.faults.specs.Reason.{reason_of}
use Rattle.tables.specs.declared.environment.Answer.{Answer}
use Rattle.tables.specs.declared.roles.Roles.{Roles}
use Rattle.tables.specs.Environment.{Environment}
use Rattle.tables.specs.Plan.{PlanParts}
use Rattle.settlement.specs.declared.cost_sharing.CostSharing.{CostSharing}
use Rattle.settlement.specs.declared.cost_sharing.FamilyLimits.{FamilyLimits}
use Rattle.settlement.specs.declared.determination.Determination.{Determination}
use Rattle.settlement.specs.declared.determination.Determination.TheVariants as determined
use Rattle.settlement.specs.Roles.{is_true_flag, remarks_of, terms, value_of}
use Rattle.settlement.specs.Settlement.{by_fault, by_roles, by_tables, by_terms}
use Rattle.regions.specs.declared.region.Region.{Region}
use Rattle.plan_zones.specs.declared.benefit.Benefit.{Benefit}
use Rattle.plan_zones.specs.declared.benefit.Benefit.TheVariants.{Pends, Denied, Covered}
use Rattle.plan_zones.specs.declared.change.Change.{Change}
use Rattle.plan_zones.specs.declared.terms.FamilyTerms.{FamilyTerms}
use Rattle.plan_zones.specs.declared.terms.Terms.{Terms}
use Rattle.plan_zones.specs.Changes.{HasChange, IsPart, determination_by, looked_at, remarks_looked_at}
use Rattle.plan_zones.specs.Determined.{determination_in, environment_by}
use Rattle.plan_zones.specs.Terms.{cost_sharing_by, limits_by}
use Rattle.plan_zones.specs.Zones.{value_in}
use Rattle.plan_zones.proofs.JointLists.{first_or, rest_of}

-- a test for being equal to a value that is another one, too
pub same_turned : {X : Type 0} (b : Bool) (one other known : X) → one ≡ known → IsTrue b ↔ (other ≡ known) → IsTrue b ↔ (one ≡ other)
same_turned b one other known is decides = (λ holds. is ∙ sym (decides.0 holds), λ same. decides.1 (sym same ∙ is))

-- lists of texts are equal if their first texts and their other texts are
pub same_texts : (a b : List ℕ) (more others : List (List ℕ)) (rest : Bool) → IsTrue rest ↔ (more ≡ others) → IsTrue (bytes_eq a b && rest) ↔ (a ∷ more ≡ b ∷ others)
same_texts a b more others rest decides = (
  λ holds. (let both = and_parts (bytes_eq a b) rest holds in ap₂ (λ x xs. x ∷ xs) ((bytes_decides a b).0 both.0) (decides.0 both.1)),
  λ same. and_from (bytes_eq a b) rest ((bytes_decides a b).1 (ap (first_or a) same)) (decides.1 (ap rest_of same)),
)

-- the remarks of a benefit
abbrev remarks_in : Benefit → List (List ℕ)
remarks_in (Pends reason) = []
remarks_in (Denied remarks) = remarks
remarks_in (Covered t remarks) = remarks

-- a benefit is that of other terms and remarks if the terms are the same and the remarks are
pub covered_same : (b : Benefit) (own others : Terms) (texts remarks : List (List ℕ)) (same : Bool) → b ≡ Covered own texts → own ≡ others → IsTrue same ↔ (texts ≡ remarks)
    → IsTrue same ↔ (b ≡ Covered others remarks)
covered_same b own others texts remarks same is terms_are decides = (
  λ holds. is ∙ ap₂ (λ t rs. Covered t rs) terms_are (decides.0 holds),
  λ equal. decides.1 (ap remarks_in (sym is ∙ equal)),
)

-- the terms of a benefit, if it has any
abbrev terms_in : Terms → Benefit → Terms
terms_in d (Covered t remarks) = t
terms_in d b = d

-- a benefit is not that of other terms
pub covered_apart : (b : Benefit) (own others : Terms) (texts remarks : List (List ℕ)) (same : Bool) → b ≡ Covered own texts → IsTrue same ↔ (own ≡ others) → same ≡ false
    → IsTrue same ↔ (b ≡ Covered others remarks)
covered_apart b own others texts remarks same is decides not_same = (
  λ holds. absurd (both_ways same not_same holds),
  λ equal. decides.1 (ap (terms_in own) (sym is ∙ equal)),
)

no_remarks : (terms_only : Bool) → [] ≡ remarks_looked_at terms_only []
no_remarks true = refl
no_remarks false = refl

module _ (terms_only : Bool) (roles : Roles) (env : Environment) where
  abbrev all_remarks : List (List ℕ)
  all_remarks = remarks_of env roles.remarks

  by_cover : (covered : Bool) → is_true_flag (value_of [] env roles.cover) ≡ covered
      → looked_at terms_only (if covered then by_terms all_remarks (terms [] env roles) else determined.Denied all_remarks) ≡ looked_at terms_only (by_roles roles [] env)
  by_cover covered is = ap (λ b. looked_at terms_only (if b then by_terms all_remarks (terms [] env roles) else determined.Denied all_remarks)) (sym is)

  pub denied_by : (remarks : List (List ℕ)) → is_true_flag (value_of [] env roles.cover) ≡ false → remarks ≡ remarks_looked_at terms_only (remarks_of env roles.remarks)
      → determination_by (Denied remarks) ≡ looked_at terms_only (by_roles roles [] env)
  denied_by remarks cover is = ap determined.Denied is ∙ by_cover false cover

  pub covered_by : (t : Terms) (remarks : List (List ℕ)) → is_true_flag (value_of [] env roles.cover) ≡ true → terms [] env roles ≡ Ok (cost_sharing_by t)
      → remarks ≡ remarks_looked_at terms_only (remarks_of env roles.remarks) → determination_by (Covered t remarks) ≡ looked_at terms_only (by_roles roles [] env)
  covered_by t remarks cover valid is =
      ap (determined.Covered (cost_sharing_by t)) is ∙ ap (λ (found : Result CostSharing Role). looked_at terms_only (by_terms all_remarks found)) (sym valid) ∙ by_cover true cover

  pub invalid_by : (role : Role) → is_true_flag (value_of [] env roles.cover) ≡ true → terms [] env roles ≡ Err role
      → determination_by (Pends (Term role)) ≡ looked_at terms_only (by_roles roles [] env)
  invalid_by role cover invalid = ap (λ (found : Result CostSharing Role). looked_at terms_only (by_terms all_remarks found)) (sym invalid) ∙ by_cover true cover

module _ (terms_only : Bool) (p : PlanParts) (regions : List (List Region)) (zone : List ℕ) where
  pub without_roles : None ≡ p.roles → determination_by (Denied []) ≡ looked_at terms_only (determination_in p regions zone)
  without_roles none =
      ap determined.Denied (no_remarks terms_only)
      ∙ ap (λ (roles : Option Roles). looked_at terms_only (by_tables roles [] (environment_by p.tables (value_in p regions zone)))) none

  pub pended_by : (roles : Roles) (fault : Fault) (reason : Reason) → Some roles ≡ p.roles → value_in p regions zone ≡ Err fault → Some reason ≡ reason_of fault
      → determination_by (Pends reason) ≡ looked_at terms_only (determination_in p regions zone)
  pended_by roles fault reason has is found =
      ap (λ (r : Option Reason). looked_at terms_only (by_fault r)) found
      ∙ ap (λ (answers : Result (List (List Answer)) Fault). looked_at terms_only (by_tables (Some roles) [] (environment_by p.tables answers))) (sym is)
      ∙ ap (λ (r : Option Roles). looked_at terms_only (by_tables r [] (environment_by p.tables (value_in p regions zone)))) has

  pub answered_by : (roles : Roles) (answers : List (List Answer)) (found : Benefit) → Some roles ≡ p.roles → value_in p regions zone ≡ Ok answers
      → determination_by found ≡ looked_at terms_only (by_roles roles [] (record { tables = p.tables; answers = answers }))
      → determination_by found ≡ looked_at terms_only (determination_in p regions zone)
  answered_by roles answers found has is by =
      by ∙ ap (λ (found : Result (List (List Answer)) Fault). looked_at terms_only (by_tables (Some roles) [] (environment_by p.tables found))) (sym is)
      ∙ ap (λ (r : Option Roles). looked_at terms_only (by_tables r [] (environment_by p.tables (value_in p regions zone)))) has

-- the benefit of a determination
abbrev family_by : FamilyLimits → FamilyTerms
family_by limits = record { deductible = limits.deductible; oop_max = limits.oop_max }

abbrev terms_by : CostSharing → Terms
terms_by s = record { fee = s.fee; deductible = s.deductible; copay = s.copay; rate = s.rate; oop_max = s.oop_max; family = option_map family_by s.family }

abbrev benefit_by : Determination → Benefit
benefit_by (determined.Pended reason) = Pends reason
benefit_by (determined.Denied remarks) = Denied remarks
benefit_by (determined.Covered sharing remarks) = Covered (terms_by sharing) remarks

family_back : (family : Option FamilyTerms) → option_map family_by (option_map limits_by family) ≡ family
family_back None = refl
family_back (Some family) = refl

benefit_back : (b : Benefit) → benefit_by (determination_by b) ≡ b
benefit_back (Pends reason) = refl
benefit_back (Denied remarks) = refl
benefit_back (Covered t remarks) =
    ap (λ family. Covered (record { fee = t.fee; deductible = t.deductible; copay = t.copay; rate = t.rate; oop_max = t.oop_max; family = family }) remarks) (family_back t.family)

module _ (same : Bool) (one other : Benefit) (d e : Determination) (is_one : determination_by one ≡ d) (is_other : determination_by other ≡ e) (decides : IsTrue same ↔ (one ≡ other)) where
  pub unchanged : same ≡ true → HasChange d e None
  unchanged holds = sym is_one ∙ ap determination_by (decides.0 holds) ∙ is_other

  pub changed : (change : Change) → same ≡ false → IsPart (determination_by one) (determination_by other) change.old → IsPart (determination_by other) (determination_by one) change.new
      → HasChange d e (Some change)
  changed change not_same old new = (
    (
      subst (λ x. IsPart x e change.old) is_one (subst (λ x. IsPart (determination_by one) x change.old) is_other old),
      subst (λ x. IsPart x d change.new) is_other (subst (λ x. IsPart (determination_by other) x change.new) is_one new),
    ),
    λ equal.
        let back = sym (benefit_back one) ∙ ap benefit_by (is_one ∙ equal ∙ sym is_other) ∙ benefit_back other in
        both_ways same not_same (decides.1 back),
  )
