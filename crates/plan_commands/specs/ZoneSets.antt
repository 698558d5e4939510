-- Sets of zones, and how they are joined.
use Rattle.std.specs.Prelude.{◌≡◌, ◌↔◌, ◌⊎◌, ℕ, List}
use Rattle.plan_commands.specs.declared.zone_sets.ZoneSet.{ZoneSet}
use Rattle.plan_zones.specs.Boxes.{IsInside, OneOf}

-- the region is on the side
abbrev pub IsOn : List ℕ → ℕ → Type 0
IsOn side region = OneOf (λ listed. listed ≡ region) side

-- the side has exactly the regions of these two sides
abbrev pub IsUnion : List ℕ → List ℕ → List ℕ → Type 0
IsUnion one other both = (region : ℕ) → IsOn both region ↔ (IsOn one region ⊎ IsOn other region)

-- these sides have exactly the zones of the two others
abbrev pub HasBoth : List (List ℕ) → List (List ℕ) → List (List ℕ) → Type 0
HasBoth one other both = (zone : List ℕ) → IsInside both zone ↔ (IsInside one zone ⊎ IsInside other zone)

-- the zone is in one of the sets
abbrev pub AreIn : List ZoneSet → List ℕ → Type 0
AreIn sets zone = OneOf (λ s. IsInside s.sides zone) sets

-- the lists of sets have the same zones
abbrev pub HaveSameZones : List ZoneSet → List ZoneSet → Type 0
HaveSameZones one other = (zone : List ℕ) → AreIn one zone ↔ AreIn other zone

-- the sets have exactly the zones of the other sets, and of one set more
abbrev pub HaveAlso : List ZoneSet → ZoneSet → List ZoneSet → Type 0
HaveAlso old more new = (zone : List ℕ) → AreIn new zone ↔ (AreIn old zone ⊎ IsInside more.sides zone)
