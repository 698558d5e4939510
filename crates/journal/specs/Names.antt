-- The numbers of names, and the map from names to numbers.
use Rattle.std.specs.Prelude.{◌≡◌, ℕ, List, ◌++◌, Option, Some}
use Rattle.std.specs.List.{slice_get}
use Rattle.std.specs.BTreeMap.{BTreeMap, get_by}
use Rattle.std.specs.Cmp.Lexicographic.{slice_cmp}
use Rattle.std.specs.Ordering.{nat_cmp}

-- the names are pairwise distinct
abbrev pub AreDistinct : List (List ℕ) → Type 0
AreDistinct names = (i j : ℕ) (name : List ℕ) → slice_get names i ≡ Some name → slice_get names j ≡ Some name → i ≡ j

-- the name is not among these
abbrev pub IsAbsent : List (List ℕ) → List ℕ → Type 0
IsAbsent names name = (number : ℕ) → ¬ (slice_get names number ≡ Some name)

-- the new list is the old one with more names appended, or none
pub record Grows (old new : List (List ℕ)) : Type 0 where
  pub more : List (List ℕ)
  pub following : new ≡ old ++ more

-- the number of a name
abbrev pub number_in : BTreeMap (List ℕ) ℕ → List ℕ → Option ℕ
number_in numbers name = get_by (slice_cmp nat_cmp name) numbers

-- the map has exactly the names of the list, with their numbers
pub record AreNumbered (names : List (List ℕ)) (numbers : BTreeMap (List ℕ) ℕ) : Type 0 where
  pub found : (name : List ℕ) (number : ℕ) → number_in numbers name ≡ Some number → slice_get names number ≡ Some name
  pub each : (name : List ℕ) (number : ℕ) → slice_get names number ≡ Some name → number_in numbers name ≡ Some number
