-- What a walk over zones leaves of a list of parts.
use Rattle.std.specs.Prelude.{◌≡◌, ◌↔◌, ◌<◌, ℕ, Bool, false, List, [], ◌∷◌, ◌++◌, filter, Contains, IsTrue}
use Rattle.regions.specs.declared.region.Region.{Region}
use Rattle.plan_zones.specs.Zones.{IsZone}

-- the zone begins with these regions, and has one of these regions for each other name
pub record Begins (first : List ℕ) (more : List (List Region)) (zone : List ℕ) : Type 0 where
  pub rest : List ℕ
  pub is : zone ≡ first ++ rest
  pub is_zone : IsZone more rest

-- the parts of a list that are used in none of the zones that were passed, in order
pub record IsLeft {X : Type 0} (is_used : List ℕ → X → Bool) (IsPassed : List ℕ → Type 0) (old new : List X) : Type 0 where
  pub keeps : X → Bool
  pub is : new ≡ filter keeps old
  pub right : (x : X) → Contains old x → IsTrue (keeps x) ↔ ((zone : List ℕ) → IsPassed zone → is_used zone x ≡ false)

-- the zone begins with the regions `first` and a region of the next name below this index
abbrev pub BeginsBelow : List ℕ → List (List Region) → ℕ → List ℕ → Type 0
BeginsBelow first more region zone = (k : ℕ) × (k < region) × Begins (first ++ k ∷ []) more zone
