-- The search for the matching rules by the masks of a table's columns. Tables, rules, columns and
-- regions are numbered from 0 here.
use Rattle.std.specs.Prelude.{◌≡◌, ℕ, ◌-◌, ◌==◌, nat_lt, Bool, false, ◌&&◌, List, length, [], filter, None, Contains, slice_get, IsTrue}
use Rattle.std.specs.List.{range_with_len}
use Rattle.std.specs.Int.{bit_at}
use Rattle.std.specs.List.Sorted.{IsSortedBy}
use Rattle.std.specs.Ordering.{nat_cmp, is_lt}
use Rattle.std.specs.Cmp.Lexicographic.{slice_cmp}
use Rattle.std.specs.Option.{option_map_or}
use Rattle.feel_tests.specs.declared.kind.Kind.TheVariants as kinds
use Rattle.feel_tests.specs.declared.value.Value.{Value}
use Rattle.feel_tests.specs.declared.value.Value.TheVariants.{Text}
use Rattle.tables.specs.declared.environment.Answer.{Answer}
use Rattle.tables.specs.declared.inputs.Slot.{Slot}
use Rattle.tables.specs.declared.table.Table.{Table}
use Rattle.tables.specs.Matching.{rule_matches, first_outside}
use Rattle.tables.specs.Plan.{has_kind}
use Rattle.cutplan.specs.declared.partition.Partition.{Partition}
use Rattle.regions.specs.declared.region.Region.{Region}
use Rattle.regions.specs.declared.region.Region.TheVariants.{Other}
use Rattle.regions.specs.Regions.{is_in}
use Rattle.regions.specs.Values.{is_value}
use Rattle.cutplan.specs.Masks.{Marks}

-- the region at this index exists and contains the value
abbrev pub has_at : List Region → ℕ → Value → Bool
has_at regions place v = option_map_or (λ r. is_in r v) (slice_get regions place) false

-- the value is of the partition's kind, and the region at this index contains it
pub record IsPlaceOf (partition : Partition) (v : Value) (place : ℕ) : Type 0 where
  pub of_kind : IsTrue (is_value partition.kind v)
  pub inside : IsTrue (has_at partition.regions.items place v)

-- the bytes of a text; any other value has none
abbrev pub bytes_of : Value → List ℕ
bytes_of (Text bytes) = bytes
bytes_of _ = []

-- the values are texts in increasing byte order
pub record AreRisingTexts (names : List Value) : Type 0 where
  pub texts : (name : Value) → Contains names name → IsTrue (has_kind kinds.Text name)
  pub rise : IsSortedBy (λ a b. is_lt (slice_cmp nat_cmp (bytes_of a) (bytes_of b))) names

-- if one of the regions consists of all other texts, the texts that it excludes are in increasing
-- order
abbrev pub OthersRise : List Region → Type 0
OthersRise regions = (names : List Value) → Contains regions (Other names) → AreRisingTexts names

-- the values that the table reads are allowed, and the mask has exactly the matching rules
pub record IsMatchingMask (given : List Slot) (earlier : List (List Answer)) (t : Table) (mask : List ℕ) : Type 0 where
  pub inside : first_outside given earlier t ≡ None
  pub marks : Marks (λ place. nat_lt place (length t.rules) && rule_matches given earlier t place) mask

-- the indices of the bits that are set among the lowest `width` bits of a word, where the lowest
-- bit has the index `first`
abbrev pub places_set : ℕ → ℕ → ℕ → List ℕ
places_set word first width = filter (λ place. bit_at word (place - first) == 1) (range_with_len first width)
