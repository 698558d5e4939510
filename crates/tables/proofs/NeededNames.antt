-- The names of a plan that its tables read.
use Rattle.std.proofs.Common.{◌≡◌, ℕ, ◌<◌, true, List, [], ◌∷◌, ◌++◌, length, ⊎_elim, subst}
use Rattle.std.specs.List.{list_any, list_all}
use Rattle.std.proofs.lemmas.Bool.{false≢true, ltb-true, eqb-true, and_parts, or_cases}
use Rattle.tables.specs.declared.table.Input.{Input}
use Rattle.tables.specs.declared.table.InputData.{InputData}
use Rattle.tables.specs.declared.table.Origin.{Origin}
use Rattle.tables.specs.declared.table.Origin.TheVariants.{Given, Earlier}
use Rattle.tables.specs.declared.table.Table.{Table}
use Rattle.tables.specs.Inputs.{reads, needs}
use Rattle.tables.specs.Plan.{PlanParts, IsPlan, is_known, are_known}

origin_within : (names : List InputData) (earlier : List Table) (place : ℕ) (o : Origin) → is_known names earlier o ≡ true → reads place o ≡ true → place < length names
origin_within names earlier place (Given p) known read = subst (λ n. n < length names) (eqb-true p place read) (ltb-true p (length names) known)
origin_within names earlier place (Earlier table column) known read = absurd (false≢true read)

inputs_within : (names : List InputData) (earlier : List Table) (place : ℕ) (inputs : List Input) → list_all (λ i. is_known names earlier i.origin) inputs ≡ true
    → list_any (λ i. reads place i.origin) inputs ≡ true → place < length names
inputs_within names earlier place [] known read = absurd (false≢true read)
inputs_within names earlier place (i ∷ is) known read =
    let both = and_parts (is_known names earlier i.origin) (list_all (λ i. is_known names earlier i.origin) is) known in
    ⊎_elim (λ here. origin_within names earlier place i.origin both.0 here) (λ following. inputs_within names earlier place is both.1 following)
    (or_cases (reads place i.origin) (list_any (λ i. reads place i.origin) is) read)

tables_within : (names : List InputData) (earlier tables : List Table) (place : ℕ) → are_known names earlier tables ≡ true → needs tables place ≡ true → place < length names
tables_within names earlier [] place known read = absurd (false≢true read)
tables_within names earlier (t ∷ ts) place known read =
    let both = and_parts (list_all (λ i. is_known names earlier i.origin) t.inputs) (are_known names (earlier ++ t ∷ []) ts) known in
    ⊎_elim (λ here. inputs_within names earlier place t.inputs both.0 here) (λ following. tables_within names (earlier ++ t ∷ []) ts place both.1 following)
    (or_cases (list_any (λ i. reads place i.origin) t.inputs) (needs ts place) read)

-- a name that the tables of a plan read is one of its names
pub within_names : (plan : PlanParts) (place : ℕ) → IsPlan plan → needs plan.tables place ≡ true → place < length plan.names
within_names plan place sound needed = tables_within plan.names [] plan.tables place sound.origins needed
