-- Masks: sets of the rules of a table, as 256 bits in four words. Rules are numbered from 0 here.
use Rattle.std.specs.Prelude.{◌≡◌, ℕ, ◌-◌, ◌/◌, ◌%◌, ◌<◌, ◌≤◌, ◌==◌, nat_lt, Bool, false, ◌&&◌, List, length, filter, Some, slice_get, slice_index}
use Rattle.std.specs.List.{range_with_len, AllZip}
use Rattle.std.specs.Option.{option_map_or}
use Rattle.std.specs.Int.{bit_at}
use Rattle.tables.specs.declared.environment.Answer.{Answer}
use Rattle.tables.specs.declared.inputs.Slot.{Slot}
use Rattle.tables.specs.declared.table.Table.{Table}
use Rattle.tables.specs.Matching.{matching, rule_matches}
use Rattle.tables.specs.Plan.{PlanParts}
use Rattle.regions.specs.declared.region.Region.{Region}
use Rattle.regions.specs.Regions.{table_regions}
use Rattle.cutplan.specs.Check.{holds_at}

-- the bit of the rule is set in the mask
abbrev pub has_rule : List ℕ → ℕ → Bool
has_rule mask place = bit_at (slice_index mask (place / 64)) (place % 64) == 1

-- those of the first `count` rules that are in the mask, in order
abbrev pub rules_in : ℕ → List ℕ → List ℕ
rules_in count mask = filter (has_rule mask) (range_with_len 0 count)

-- the mask has no rule at the index `count` or after it
abbrev pub HasOnlyFirst : ℕ → List ℕ → Type 0
HasOnlyFirst count mask = (place : ℕ) → count ≤ place → place < 256 → has_rule mask place ≡ false

-- the mask has four words and exactly the rules that pass the test
pub record Marks (test : ℕ → Bool) (mask : List ℕ) : Type 0 where
  pub words : length mask ≡ 4
  pub has : (place : ℕ) → place < 256 → has_rule mask place ≡ test place

-- the rule exists, and its cell in the column holds in the region
abbrev pub is_marked : Table → ℕ → Region → ℕ → Bool
is_marked t column region place = nat_lt place (length t.rules) && holds_at t place column region

-- the masks of a column, one for each of its regions, in the order of the regions
abbrev pub AreMasks : Table → ℕ → List Region → List (List ℕ) → Type 0
AreMasks t column regions masks = AllZip (λ region mask. Marks (is_marked t column region) mask) regions masks

-- a mask with exactly the matching rules lists them
abbrev pub MasksListMatches : Type 0
MasksListMatches = (mask : List ℕ) (given : List Slot) (earlier : List (List Answer)) (t : Table) → length t.rules ≤ 256
    → ((place : ℕ) → place < 256 → has_rule mask place ≡ (nat_lt place (length t.rules) && rule_matches given earlier t place))
    → rules_in (length t.rules) mask ≡ matching given earlier t

-- the table of this number has an input column of this number, both from 1
abbrev pub IsColumnNumber : PlanParts → ℕ → ℕ → Type 0
IsColumnNumber p table column = (1 ≤ column) × (column ≤ option_map_or (λ t. length t.inputs) (slice_get p.tables (table - 1)) 0)

-- the masks of a column, one for each of its regions, by the numbers of the table and the column,
-- both from 1
abbrev pub AreMasksOf : PlanParts → ℕ → ℕ → List (List ℕ) → Type 0
AreMasksOf p table column masks = (t : Table) (regions : List Region) → slice_get p.tables (table - 1) ≡ Some t → slice_get (table_regions p t) (column - 1) ≡ Some regions
    → AreMasks t (column - 1) regions masks
