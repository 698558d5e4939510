-- The cache of determinations. Claims with the same answers of the tables have the same determination,
-- unless a role has the value of an input.
use Rattle.std.specs.Prelude.{◌≡◌, ℕ, List, Option, Some, slice_get}
use Rattle.tables.specs.declared.inputs.Slot.{Slot}
use Rattle.tables.specs.Environment.{env}
use Rattle.tables.specs.Plan.{PlanParts}
use Rattle.settlement.specs.declared.determination.Determination.{Determination}
use Rattle.settlement.specs.declared.determination_cache.CacheEntry.{CacheEntry}
use Rattle.settlement.specs.Settlement.{determination_of}

-- the cache has this determination for the input class
abbrev pub IsCached : List (Option CacheEntry) → ℕ → Determination → Type 0
IsCached slots input_class determination = (room : ℕ) × (slice_get slots room ≡ Some (Some (record { input_class = input_class; determination = determination })))

-- the cache is correct: its determination for a class is that of every claim in the class
abbrev pub IsTrueOf : (List Slot → ℕ → Type 0) → PlanParts → List (Option CacheEntry) → Type 0
IsTrueOf in_class plan slots = (input_class : ℕ) (determination : Determination) → IsCached slots input_class determination → (given : List Slot) → in_class given input_class → determination ≡ determination_of plan given

-- the tables have the same answers for every claim in the class as for these inputs
abbrev pub IsAlike : (List Slot → ℕ → Type 0) → PlanParts → List Slot → ℕ → Type 0
IsAlike in_class plan given input_class = (other : List Slot) → in_class other input_class → env plan other ≡ env plan given

-- every claim in the class has the same determination as these inputs
abbrev pub IsShared : (List Slot → ℕ → Type 0) → PlanParts → List Slot → ℕ → Type 0
IsShared in_class plan given input_class = (other : List Slot) → in_class other input_class → determination_of plan given ≡ determination_of plan other
