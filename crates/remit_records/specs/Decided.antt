-- A journal's decision on a provider's claim, and the outcomes of all paid claims.
use Rattle.std.specs.Prelude.{ℕ, suc, ℤ, pos, ◌+ℤ◌, ◌==◌, ◌&&◌, cond, List, [], ◌∷◌, flat_map, slice_get, Option, Some, None}
use Rattle.std.specs.Option.{option_and_then}
use Rattle.settlement.specs.declared.outcome.Outcome.{Outcome}
use Rattle.settlement.specs.declared.outcome.Verdict.{Verdict}
use Rattle.settlement.specs.declared.outcome.Verdict.TheVariants.{Paid, Denied, Pended}
use Rattle.journal.specs.Events.{Filed, accepts}
use Rattle.journal.specs.declared.event.Event.{Event}
use Rattle.journal.specs.declared.event.Event.TheVariants.{Decide}

-- the position of a provider's claim at a place among accepted claims, the first of which has the given position
abbrev pub position_from : ℕ → List Filed → ℕ → ℕ → Option ℕ
position_from position [] provider place = None
position_from position (filed ∷ rest) provider place =
    cond ((filed.provider == provider) && (filed.place == place)) (Some position) (position_from (suc position) rest provider place)

-- the position of a provider's claim at a place, if it is accepted
abbrev pub position_of : List Event → ℕ → ℕ → Option ℕ
position_of J provider place = position_from 0 (accepts J) provider place

-- the outcome that an event records for the claim at a position, as a list of at most one
abbrev pub decision_in : ℕ → Event → List Outcome
decision_in position (Decide k decision) = cond (k == position) (decision ∷ []) []
decision_in position _ = []

-- the outcome of the claim at a position, if the journal decides it
abbrev pub decision_at : List Event → ℕ → Option Outcome
decision_at J position = slice_get (flat_map (decision_in position) J) 0

-- the outcome of a provider's claim at a place, if the journal accepts and decides it
abbrev pub decided_as : List Event → ℕ → ℕ → Option Outcome
decided_as J provider place = option_and_then (decision_at J) (position_of J provider place)

-- the outcome of a claim, if its verdict is that it is paid
abbrev pub paid_by : Verdict → Outcome → List Outcome
paid_by Paid decision = decision ∷ []
paid_by Denied decision = []
paid_by (Pended reason) decision = []

-- the outcome that an event records, if the event decides a claim that is paid
abbrev pub paid_in : Event → List Outcome
paid_in (Decide position decision) = paid_by decision.verdict decision
paid_in _ = []

-- the outcomes of the paid claims, in the order of their decisions
abbrev pub paid_outcomes : List Event → List Outcome
paid_outcomes J = flat_map paid_in J

-- the sum of an amount over outcomes, in units
abbrev pub sum_of : (Outcome → ℤ) → List Outcome → ℤ
sum_of amount [] = pos 0
sum_of amount (decision ∷ rest) = amount decision +ℤ sum_of amount rest
