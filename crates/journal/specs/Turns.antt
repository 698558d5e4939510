-- The claims of a family, those of all its members, are decided one after another.
use Rattle.std.specs.Prelude.{◌≡◌, ℕ, cond, List, [], ◌∷◌, ◌++◌, get_or, flat_map, Option, None}
use Rattle.settlement.specs.declared.claim.Claim.{Claim}
use Rattle.journal.specs.Terms.{Terms}
use Rattle.journal.specs.Events.{claims, is_of, positions}
use Rattle.journal.specs.Lawful.{Lawful}
use Rattle.journal.specs.declared.event.Event.{Event}
use Rattle.journal.specs.declared.event.Event.TheVariants.{Take, Decide}

-- a step of the claim at a position: the claim is taken, or it is decided
pub data Step : Type 0 where
  TakeOf : ℕ → Step
  DecisionOf : ℕ → Step

abbrev pub steps_in : List (Option Claim) → List ℕ → Event → List Step
steps_in cs lane (Take k) = cond (is_of lane (get_or cs k None)) (TakeOf k ∷ []) []
steps_in cs lane (Decide k decision) = cond (is_of lane (get_or cs k None)) (DecisionOf k ∷ []) []
steps_in cs lane _ = []

-- the steps of a family's claims, in order
abbrev pub steps : Terms → List Event → List ℕ → List Step
steps T J lane = flat_map (steps_in (claims T J) lane) J

-- each of these positions is taken and then decided, before the next one is taken
abbrev pub one_by_one : List ℕ → List Step
one_by_one [] = []
one_by_one (k ∷ ks) = TakeOf k ∷ DecisionOf k ∷ one_by_one ks

-- the list begins with this prefix
pub record BeginsWith (front whole : List Step) : Type 0 where
  pub rest : List Step
  pub is : whole ≡ front ++ rest

-- in a lawful journal the steps of a family's claims are these: the first claim is taken, the first
-- is decided, the second is taken, and so on, as far as the journal goes
abbrev pub TakeTurns : Type 0
TakeTurns = (T : Terms) (J : List Event) (lane : List ℕ) → Lawful T J → BeginsWith (steps T J lane) (one_by_one (positions T J lane))
