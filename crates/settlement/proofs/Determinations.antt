-- The claims that share a determination.
use Rattle.std.proofs.Common.{◌≡◌, ◌⊎◌, inl, inr, ◌||◌, ℕ, Bool, true, false, List, Option, Some, None, refl, ap, sym, ◌∙◌, subst}
use Rattle.std.proofs.lemmas.Bool.{both_ways, or_left, or_right}
use Rattle.tables.specs.declared.inputs.Slot.{Slot}
use Rattle.tables.specs.declared.roles.FamilyRoles.{FamilyRoles}
use Rattle.tables.specs.declared.roles.Roles.{Roles}
use Rattle.tables.specs.declared.roles.Source.{Source}
use Rattle.tables.specs.declared.roles.Source.TheVariants.{Literal, Input as Place, Output}
use Rattle.tables.specs.Environment.{env}
use Rattle.tables.specs.Plan.{PlanParts}
use Rattle.settlement.specs.declared.determination.Determination.{Determination}
use Rattle.settlement.specs.declared.determination_cache.CacheEntry.{CacheEntry}
use Rattle.settlement.specs.Determinations.{IsAlike, IsShared, IsTrueOf, IsCached}
use Rattle.settlement.specs.Reads.{source_reads, limits_read, roles_read, any_role_reads}
use Rattle.settlement.specs.Settlement.{by_tables, determination_of}
use Rattle.settlement.proofs.ReadAlike.{tables_alike}

either_passes : (a b c d : Bool) → (a ≡ true → c ≡ true) → (b ≡ true → d ≡ true) → (a || b) ≡ true → (c || d) ≡ true
either_passes true b c d first second passes = or_left c d (first refl)
either_passes false b c d first second passes = or_right c d (second passes)

source_given : (place : ℕ) (source : Source) → source_reads (Some place) source ≡ true → source_reads None source ≡ true
source_given place (Literal value) reads = reads
source_given place (Place name) reads = refl
source_given place (Output name) reads = reads

limits_given : (place : ℕ) (limits : Option FamilyRoles) → limits_read (Some place) limits ≡ true → limits_read None limits ≡ true
limits_given place None reads = reads
limits_given place (Some limits) reads =
    either_passes (source_reads (Some place) limits.deductible) (source_reads (Some place) limits.oop_max) (source_reads None limits.deductible) (source_reads None limits.oop_max)
    (source_given place limits.deductible) (source_given place limits.oop_max) reads

roles_given : (place : ℕ) (roles : Roles) → roles_read (Some place) roles ≡ true → roles_read None roles ≡ true
roles_given place roles =
    either_passes _ _ _ _ (source_given place roles.cover) (either_passes _ _ _ _ (source_given place roles.fee)
    (either_passes _ _ _ _ (source_given place roles.deductible) (either_passes _ _ _ _ (source_given place roles.copay)
    (either_passes _ _ _ _ (source_given place roles.rate) (either_passes _ _ _ _ (source_given place roles.oop_max) (limits_given place roles.family))))))

-- a plan that reads a name at some place for a role reads some name for a role
any_given : (place : ℕ) (roles : Option Roles) → any_role_reads (Some place) roles ≡ true → any_role_reads None roles ≡ true
any_given place None reads = reads
any_given place (Some roles) reads = roles_given place roles reads

-- if the tables have the same answers and no role has the value of an input, the determination is
-- the same
shared_where_alike : (in_class : List Slot → ℕ → Type 0) (plan : PlanParts) (given : List Slot) (input_class : ℕ) → any_role_reads None plan.roles ≡ false → IsAlike in_class plan given input_class → IsShared in_class plan given input_class
shared_where_alike in_class plan given input_class none alike other inside =
    tables_alike plan.roles given other (env plan given) (λ place reads. absurd (both_ways (any_role_reads None plan.roles) none (any_given place plan.roles reads)))
    ∙ ap (by_tables plan.roles other) (sym (alike other inside))

-- the cache stays correct with one more correct entry
pub kept_true : (in_class : List Slot → ℕ → Type 0) (plan : PlanParts) (old new : List (Option CacheEntry)) (given : List Slot) (input_class : ℕ) (determination : Determination) → IsTrueOf in_class plan old
    → determination ≡ determination_of plan given → any_role_reads None plan.roles ≡ false → IsAlike in_class plan given input_class
    → ((other : ℕ) (found : Determination) → IsCached new other found → IsCached old other found ⊎ ((other ≡ input_class) × (found ≡ determination))) → IsTrueOf in_class plan new
kept_true in_class plan old new given input_class determination is_true made none alike kept other found entry here inside =
    let shared = shared_where_alike in_class plan given input_class none alike in
    elim (kept other found entry) [
      | inl before ↦ is_true other found before here inside
      | inr now ↦ now.1 ∙ made ∙ shared here (subst (λ z. in_class here z) now.0 inside)
    ]

-- an empty cache is correct
pub none_true : (in_class : List Slot → ℕ → Type 0) (plan : PlanParts) (slots : List (Option CacheEntry)) → ((input_class : ℕ) (determination : Determination) → IsCached slots input_class determination → ⊥) → IsTrueOf in_class plan slots
none_true in_class plan slots none input_class determination entry given inside = absurd (none input_class determination entry)
