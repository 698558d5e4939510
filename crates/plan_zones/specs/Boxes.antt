-- Boxes of zones: for each name, some of its regions. All zones of a box have the same outcome.
use Rattle.std.specs.Prelude.{◌≡◌, ◌⊎◌, ℕ, List, [], ◌∷◌, ◌++◌, length, map, slice_get, slice_set, ◌<◌, Option, Some}
use Rattle.std.specs.List.{AllZip, AllByRecursion}
use Rattle.feel_tests.specs.declared.value.Value.{Value}
use Rattle.regions.specs.declared.region.Region.{Region}
use Rattle.plan_zones.specs.declared.zone_box.ZoneBox.{ZoneBox}
use Rattle.plan_zones.specs.declared.zone_box.RegionGroup.{RegionGroup}
use Rattle.plan_zones.specs.Zones.{IsZone, LieIn}

-- P holds of an element of the list
abbrev pub OneOf : {X : Type 0} → (X → Type 0) → List X → Type 0
OneOf P [] = ⊥
OneOf P (x ∷ xs) = P x ⊎ OneOf P xs

-- the list begins with the other list
abbrev pub Extends : {X : Type 0} → List X → List X → Type 0
Extends {X} old new = (more : List X) × (new ≡ old ++ more)

-- the zone is in the box: the region of each name is on the box's side for the name
abbrev pub IsInside : List (List ℕ) → List ℕ → Type 0
IsInside sides zone = AllZip (λ side region. OneOf (λ listed. listed ≡ region) side) sides zone

-- the zone is in a box with this outcome
abbrev pub IsListed : {X : Type 0} → List X → List ZoneBox → List ℕ → X → Type 0
IsListed outcomes boxes zone outcome = OneOf (λ b. (slice_get outcomes b.outcome ≡ Some outcome) × IsInside b.sides zone) boxes

-- the values lie in a zone of the box
pub record LieInBox (regions : List (List Region)) (sides : List (List ℕ)) (values : List Value) : Type 0 where
  pub zone : List ℕ
  pub inside : IsInside sides zone
  pub lie : LieIn regions zone values

-- the zone has an outcome, and is in a box with it; or it has none
pub record IsBoxed {X : Type 0} (outcomes : List X) (HasOutcome : List ℕ → Option X → Type 0) (boxes : List ZoneBox) (zone : List ℕ) : Type 0 where
  pub outcome : Option X
  pub is : HasOutcome zone outcome
  pub listed : (found : X) → outcome ≡ Some found → IsListed outcomes boxes zone found

-- the boxes have exactly the zones of these regions with an outcome
pub record AreBoxesOf {X : Type 0} (outcomes : List X) (HasOutcome : List ℕ → Option X → Type 0) (regions : List (List Region)) (boxes : List ZoneBox) : Type 0 where
  -- each zone with an outcome is in a box with that outcome
  pub each : (zone : List ℕ) → IsZone regions zone → IsBoxed outcomes HasOutcome boxes zone
  -- what is in a box is a zone with the box's outcome
  pub right : (zone : List ℕ) (found : X) → IsListed outcomes boxes zone found → IsZone regions zone × HasOutcome zone (Some found)
  -- the outcome of each box is in the list
  pub known : AllByRecursion (λ b. b.outcome < length outcomes) boxes
  -- no box is empty
  pub held : AllByRecursion (λ b. (zone : List ℕ) × IsInside b.sides zone) boxes

-- regions of the first name whose zones have the same boxes of the other names
abbrev pub new_group : ℕ → List ZoneBox → RegionGroup
new_group region boxes = record { side = region ∷ []; boxes = boxes }

-- the group with one more region
abbrev pub with_region : RegionGroup → ℕ → RegionGroup
with_region group region = record { side = group.side ++ region ∷ []; boxes = group.boxes }

-- the region has joined the group at this index, whose boxes are equal to its own
pub record IsInGroup (old : List RegionGroup) (region : ℕ) (boxes : List ZoneBox) (new : List RegionGroup) : Type 0 where
  pub place : ℕ
  pub group : RegionGroup
  pub at : slice_get old place ≡ Some group
  pub alike : group.boxes ≡ boxes
  pub joined : new ≡ slice_set old place (with_region group region)

-- the region has joined a group with equal boxes, or is a new group
abbrev pub IsJoined : List RegionGroup → ℕ → List ZoneBox → List RegionGroup → Type 0
IsJoined old region boxes new = (new ≡ old ++ new_group region boxes ∷ []) ⊎ IsInGroup old region boxes new

-- the box with one more name before its other names
abbrev pub with_side : List ℕ → ZoneBox → ZoneBox
with_side side b = record { outcome = b.outcome; sides = side ∷ b.sides }

-- the boxes of a group, over the first name too
abbrev pub group_boxes : RegionGroup → List ZoneBox
group_boxes group = map (with_side group.side) group.boxes

-- the groups have each region below the count, with the boxes that are right for it
pub record AreGroupsOf (right_for : ℕ → List ZoneBox → Type 0) (count : ℕ) (groups : List RegionGroup) : Type 0 where
  pub each : AllByRecursion (λ g. AllByRecursion (λ region. (region < count) × right_for region g.boxes) g.side) groups
  pub used : AllByRecursion (λ g. (region : ℕ) × OneOf (λ listed. listed ≡ region) g.side) groups
  pub whole : (region : ℕ) → region < count → OneOf (λ g. OneOf (λ listed. listed ≡ region) g.side) groups
