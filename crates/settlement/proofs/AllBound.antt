-- A claim that fits a plan gives each name of the plan a value of its kind.
use Rattle.std.proofs.Common.{◌≡◌, ℕ, ◌<◌, ◌≤◌, zero, suc, Bool, true, false, inl, inr, List, [], ◌∷◌, ◌++◌, map, length, slice_get, Option, Some, None, is_some, ◌⊎◌, refl, sym, ap, subst, ◌∙◌, arith}
use Rattle.std.specs.List.{range_with_len, All}
use Rattle.std.specs.Option.{option_and_then}
use Rattle.std.proofs.lemmas.Bool.{or_left}
use Rattle.std.proofs.lemmas.List.{length-map, map-append}
use Rattle.std.proofs.lemmas.List.Elements.{All-same, All-filter}
use Rattle.std.proofs.lemmas.List.FromFn.{length-range_with_len, get_or-range_with_len}
use Rattle.std.proofs.lemmas.Option.{slice_get_past}
use Rattle.feel_tests.specs.declared.kind.Kind.{Kind}
use Rattle.feel_tests.specs.declared.kind.Kind.TheVariants.{Number, Text, Day}
use Rattle.feel_tests.specs.declared.value.Value.{Value}
use Rattle.feel_tests.specs.declared.value.Value.TheVariants as values
use Rattle.feel_tests.specs.Value.{kind_of}
use Rattle.tables.specs.declared.table.InputData.{InputData}
use Rattle.tables.specs.declared.inputs.Slot.{Slot}
use Rattle.tables.specs.Inputs.{value_at, needs, IsReady}
use Rattle.tables.specs.Names.{accumulator_names, names_of}
use Rattle.tables.specs.Plan.{PlanParts, IsPlan, keeps_families}
use Rattle.tables.proofs.NeededNames.{within_names}
use Rattle.settlement.specs.declared.acc.Acc.{Acc}
use Rattle.settlement.specs.declared.claim.Claim.{Claim}
use Rattle.settlement.specs.declared.workspace.Workspace.{Workspace}
use Rattle.settlement.specs.Claim.{IsClaimOf}
use Rattle.settlement.proofs.Binding.{at_each}
use Rattle.settlement.specs.Bindings.{accumulator_values, after_family, values_from_member, values_given, slot_kinds, slot_of, given_by}
use Rattle.settlement.specs.Reads.{any_role_reads, is_read, places_read, HasItsValue, IsLaidOut, Serves}
use Rattle.settlement.specs.Workspace.{IsWorkspaceOf}

-- the kinds of the accumulators' names are those of their values, with and without a family
accumulator_kinds :
    (families : Bool) (family : Option (List ℕ)) (acc : Acc) → is_some family ≡ families
    → map (λ (d : InputData). d.kind) (accumulator_names families) ≡ map kind_of (accumulator_values family acc)
accumulator_kinds false None acc has = refl
accumulator_kinds false (Some family) acc has = cc
accumulator_kinds true None acc has = cc
accumulator_kinds true (Some family) acc has = refl

-- the kinds of the names of the fields and accumulators are those of their values
kinds_after :
    (families : Bool) (claim : Claim) (fields : List InputData) (acc : Acc) → is_some claim.family ≡ families → map kind_of claim.fields ≡ map (λ (d : InputData). d.kind) fields
    → map (λ (d : InputData). d.kind) (fields ++ accumulator_names families) ≡ map kind_of (claim.fields ++ accumulator_values claim.family acc)
kinds_after families claim fields acc has kinds =
    let kind = λ (d : InputData). d.kind in
    map-append kind fields (accumulator_names families) ∙ ap (λ (l : List Kind). l ++ map kind (accumulator_names families)) (sym kinds)
    ∙ ap (λ (l : List Kind). map kind_of claim.fields ++ l) (accumulator_kinds families claim.family acc has) ∙ sym (map-append kind_of claim.fields (accumulator_values claim.family acc))

-- the kinds of all names are those of their values, if it is so for the fields and accumulators
kinds_in_front :
    (families : Bool) (family : Option (List ℕ)) (fields : List InputData) (claim : Claim) (acc : Acc) → is_some family ≡ families
    → map (λ (d : InputData). d.kind) (fields ++ accumulator_names families) ≡ map kind_of (claim.fields ++ accumulator_values claim.family acc)
    → map (λ (d : InputData). d.kind) (names_of families fields) ≡ map kind_of (values.Text claim.id ∷ after_family family (values_from_member claim acc))
kinds_in_front false None fields claim acc has same = ap (λ (l : List Kind). Text ∷ Text ∷ Day ∷ Number ∷ l) same
kinds_in_front false (Some family) fields claim acc has same = cc
kinds_in_front true None fields claim acc has same = cc
kinds_in_front true (Some family) fields claim acc has same = ap (λ (l : List Kind). Text ∷ Text ∷ Text ∷ Day ∷ Number ∷ l) same

-- the kinds of a plan's names are those of the values of a claim that fits the plan
pub kinds_given : (plan : PlanParts) (claim : Claim) (acc : Acc) → IsClaimOf plan claim → map (λ (d : InputData). d.kind) plan.names ≡ map kind_of (values_given claim acc)
kinds_given plan claim acc is =
    let following = kinds_after (keeps_families plan) claim is.fields acc is.family is.kinds in
    ap (map (λ (d : InputData). d.kind)) is.names ∙ kinds_in_front (keeps_families plan) claim.family is.fields claim acc is.family following

given_below : (values : List Value) (place : ℕ) → place < length values → is_some (value_at (map slot_of values) place) ≡ true
given_below [] place below = absurd (omega arith)
given_below (v ∷ vs) zero below = refl
given_below (v ∷ vs) (suc place) below = given_below vs place (omega arith)

same_length : (plan : PlanParts) (claim : Claim) (acc : Acc) → IsClaimOf plan claim → length plan.names ≡ length (values_given claim acc)
same_length plan claim acc is =
    sym (length-map plan.names (λ (d : InputData). d.kind)) ∙ ap length (kinds_given plan claim acc is) ∙ length-map (values_given claim acc) kind_of

-- a claim that fits a plan has a value for every name that its tables read
ready_for_claim : (plan : PlanParts) (claim : Claim) (acc : Acc) → IsPlan plan → IsClaimOf plan claim → IsReady plan.tables (given_by claim acc)
ready_for_claim plan claim acc sound is place needed =
    let below = within_names plan place sound needed in
    given_below (values_given claim acc) place (subst (λ (n : ℕ). place < n) (same_length plan claim acc is) below)

-- the value in a slot is the value at its place
pub bound_value : (values : List Value) (place : ℕ) → value_at (map slot_of values) place ≡ slice_get values place
bound_value [] place = refl
bound_value (v ∷ vs) zero = refl
bound_value (v ∷ vs) (suc place) = bound_value vs place

below_or_past : (place n : ℕ) → (place < n) ⊎ (n ≤ place)
below_or_past place n = grind arith

-- slots with their values at all places that the plan reads serve the plan
pub served :
    (plan : PlanParts) (claim : Claim) (acc : Acc) (places : List ℕ) (given : List Slot) → IsLaidOut plan places given → IsClaimOf plan claim
    → All (HasItsValue claim acc given) places → Serves plan claim acc given
served plan claim acc places given laid is all place read =
    let values = values_given claim acc in
    let names = length plan.names in
    let slots : length given ≡ names =
    sym (length-map given (λ (s : Slot). s.kind)) ∙ ap length laid.kinds ∙ length-map plan.names (λ (d : InputData). d.kind) in
    elim (below_or_past place names) [
      | inl below ↦
          let each : All (HasItsValue claim acc given) (places_read plan) = subst (All (HasItsValue claim acc given)) laid.read all in
          at_each (is_read plan) (HasItsValue claim acc given) 0 names place each (omega arith) (omega (arith, below)) read
      | inr past ↦
          let none : slice_get given place ≡ None = slice_get_past given place (omega (arith, past, slots)) in
          let nothing : slice_get values place ≡ None = slice_get_past values place (omega (arith, past, same_length plan claim acc is)) in
          ap (option_and_then (λ (s : Slot). s.value)) none ∙ sym nothing
    ]

-- each place that the plan reads has a value
pub places_within :
    (plan : PlanParts) (claim : Claim) (acc : Acc) (places : List ℕ) (given : List Slot) → IsLaidOut plan places given → IsClaimOf plan claim
    → All (λ place. place < length (values_given claim acc)) places
places_within plan claim acc places given laid is =
    let P : ℕ → Type 0 = λ place. place < length (values_given claim acc) in
    let names = length plan.names in
    let numbers = range_with_len 0 names in
    let each : All P numbers =
    λ k d below.
    let under : k < names = omega (arith, below, length-range_with_len 0 names) in
    omega (arith, under, get_or-range_with_len 0 names k d under, same_length plan claim acc is) in
    All-same P places (places_read plan) laid.read (All-filter (is_read plan) P numbers each)

-- the tables are ready for slots that serve their plan
pub ready_where_served :
    (plan : PlanParts) (claim : Claim) (acc : Acc) (given : List Slot) → IsPlan plan → IsClaimOf plan claim → Serves plan claim acc given
    → IsReady plan.tables given
ready_where_served plan claim acc given sound is serves place needed =
    let same = serves place (or_left (needs plan.tables place) (any_role_reads (Some place) plan.roles) needed) in
    subst (λ (value : Option Value). is_some value ≡ true) (bound_value (values_given claim acc) place ∙ sym same)
    (ready_for_claim plan claim acc sound is place needed)

-- a claim fits every plan that equals its plan
pub claim_of_seen : (plan seen : PlanParts) (claim : Claim) → plan ≡ seen → IsClaimOf seen claim → IsClaimOf plan claim
claim_of_seen plan seen claim same is = subst (λ (p : PlanParts). IsClaimOf p claim) (sym same) is

-- a workspace is that of every plan that equals its plan
pub workspace_of_seen : (plan seen : PlanParts) (workspace : Workspace) → seen ≡ plan → IsWorkspaceOf seen workspace → IsWorkspaceOf plan workspace
workspace_of_seen plan seen workspace same is = subst (λ (p : PlanParts). IsWorkspaceOf p workspace) same is

-- slots stay laid out while their kinds do not change
pub kept_laid_out :
    (plan : PlanParts) (places shown : List ℕ) (before given : List Slot) → IsLaidOut plan places before → shown ≡ places
    → slot_kinds given ≡ slot_kinds before → IsLaidOut plan shown given
kept_laid_out plan places shown before given laid same kinds = record { sound = laid.sound; read = same ∙ laid.read; kinds = kinds ∙ laid.kinds }
