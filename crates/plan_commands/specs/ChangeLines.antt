-- The lines of a comparison: parts of changes, and the zones in which the plans differ in them.
use Rattle.std.specs.Prelude.{◌≡◌, ◌↔◌, ◌⊎◌, ◌<◌, ℕ, List, Some, slice_get}
use Rattle.plan_zones.specs.Boxes.{IsInside, OneOf}
use Rattle.plan_commands.specs.ZoneSets.{AreIn, IsOn}
use Rattle.plan_commands.specs.declared.change_lines.Line.{Line}
use Rattle.plan_zones.specs.declared.zone_box.ZoneBox.{ZoneBox}
use Rattle.plan_commands.specs.declared.zone_sets.ZoneSet.{ZoneSet}

-- the change with this index has the part
pub record HasPart (parts : List (List ℕ)) (change part : ℕ) : Type 0 where
  pub own : List ℕ
  pub at : slice_get parts change ≡ Some own
  pub on : IsOn own part

-- the zone is in a box whose change has the part
abbrev pub DifferIn : List (List ℕ) → List ZoneBox → ℕ → List ℕ → Type 0
DifferIn parts boxes part zone = OneOf (λ b. HasPart parts b.outcome part × IsInside b.sides zone) boxes

-- a line has the part and the zone
abbrev pub IsOnLine : List Line → ℕ → List ℕ → Type 0
IsOnLine lines part zone = OneOf (λ l. IsOn l.parts part × IsInside l.zones.sides zone) lines

-- the sets have exactly the zones of the boxes whose change has the part
abbrev pub HaveZonesWith : List (List ℕ) → List ZoneBox → ℕ → List ZoneSet → Type 0
HaveZonesWith parts boxes part sets = (zone : List ℕ) → AreIn sets zone ↔ DifferIn parts boxes part zone

-- the lines have what they had, and the part with these zones
abbrev pub HavePart : List Line → ℕ → (List ℕ → Type 0) → List Line → Type 0
HavePart old part HasZone new = (own : ℕ) (zone : List ℕ) → IsOnLine new own zone ↔ (IsOnLine old own zone ⊎ ((own ≡ part) × HasZone zone))

-- the lines have exactly the parts below the count, each with the zones in which the plans differ in it
abbrev pub AreLinesOf : List (List ℕ) → List ZoneBox → ℕ → List Line → Type 0
AreLinesOf parts boxes count lines = (part : ℕ) (zone : List ℕ) → IsOnLine lines part zone ↔ ((part < count) × DifferIn parts boxes part zone)
