-- The index of input data by its name.
use Rattle.std.proofs.Common.{◌≡◌, ◌≢◌, ℕ, ◌+◌, ◌<◌, ◌≤◌, List, length, get_or, Some, ap, sym, refl, ◌∙◌, below_more, Contains, slice_get, arith}
use Rattle.std.proofs.lemmas.List.{length-map}
use Rattle.std.specs.Option.{option_map}
use Rattle.std.proofs.lemmas.Option.{slice_get-map, slice_get_read, slice_get-get_or, same_Some}
use Rattle.tables.specs.declared.table.InputData.{InputData}
use Rattle.dtable.specs.Scope.{data_names}

-- the name at an index
pub data_names-at : (names : List InputData) (place : ℕ) (input : InputData) → place < length names → input ≡ get_or names place input → slice_get (data_names names) place ≡ Some input.name
data_names-at names place input within present =
    slice_get-map (λ (d : InputData). d.name) names place ∙ ap (λ o. option_map (λ (d : InputData). d.name) o) (slice_get_read names (length names) place input refl within present)

-- if neither the data before an index nor the data at the index has the name, none of them has it
pub unnamed_more : (names : List InputData) (name : List ℕ) (place : ℕ) (input : InputData) → place < length names → input ≡ get_or names place input → input.name ≢ name
    → ((k : ℕ) → k < place → slice_get (data_names names) k ≢ Some name) → (k : ℕ) → k < place + 1 → slice_get (data_names names) k ≢ Some name
unnamed_more names name place input within present other below =
    below_more (λ k. slice_get (data_names names) k ≢ Some name) place below
    (λ e. other (same_Some _ _ (sym (data_names-at names place input within present) ∙ e)))

-- a name at no index is not among the names
pub unknown_name : (names : List InputData) (name : List ℕ) (place : ℕ) → length names ≤ place
    → ((k : ℕ) → k < place → slice_get (data_names names) k ≢ Some name) → ¬ Contains (data_names names) name
unknown_name names name place all below there =
    below there.0 (omega (arith, there.1, length-map names (λ (d : InputData). d.name)))
    (slice_get-get_or (data_names names) there.0 name there.1 ∙ ap Some there.2)
