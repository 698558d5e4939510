-- The names of fields and outputs, as a plan may write them.
use Rattle.std.specs.Prelude.{ℕ, Bool, true, false, ◌&&◌, List, [], ◌∷◌, ◌++◌, codes}
use Rattle.std.specs.List.{list_all, list_any}
use Rattle.std.specs.Str.{bytes_eq}
use Rattle.faults.specs.BuiltInNames.{claim_name, family_name, member_name, service_name, billed_name, met_name, oop_name, paid_name, family_met_name, family_oop_name}
use Rattle.feel_tests.specs.Words.{is_name_start, is_name_byte}

-- a letter or `_`, then letters, digits or `_`
abbrev pub has_name_form : List ℕ → Bool
has_name_form [] = false
has_name_form (byte ∷ bytes) = is_name_start byte && list_all is_name_byte bytes

-- the reserved names: a claim's own columns, a member's accumulators, and the words of cells
unfoldable pub reserved_names : List (List ℕ)
reserved_names =
    claim_name ∷ member_name ∷ service_name ∷ billed_name ∷ met_name ∷ oop_name ∷ paid_name
    ∷ codes "true" ∷ codes "false" ∷ codes "not" ∷ codes "date" ∷ []

-- the names that are reserved in addition if accumulators are kept for families
unfoldable pub family_names : List (List ℕ)
family_names = family_name ∷ family_met_name ∷ family_oop_name ∷ []

-- the reserved names of a plan that keeps accumulators for families, or of one that does not
abbrev pub names_taken : Bool → List (List ℕ)
names_taken false = reserved_names
names_taken true = family_names ++ reserved_names

-- the name is among the names
abbrev pub is_among : List ℕ → List (List ℕ) → Bool
is_among name names = list_any (λ other. bytes_eq other name) names
