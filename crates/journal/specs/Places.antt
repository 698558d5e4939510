-- The places of accepted claims, by position, and the phase of each claim.
use Rattle.std.specs.Prelude.{◌≡◌, ℕ, Bool, true, false, cond, not, ◌||◌, List, take, fold, option_map, slice_get, Option, Some, None}
use Rattle.std.specs.List.{list_all}
use Rattle.std.specs.Option.{unwrap_or}
use Rattle.std.specs.Str.{bytes_eq}
use Rattle.settlement.specs.Accounts.{Account, is_family_year, is_same}
use Rattle.settlement.specs.declared.acc.Acc.{Acc}
-- the phases of a claim: it waits for an earlier claim of its family, is ready to be taken, is
-- taken, or is decided
pub use Rattle.journal.specs.declared.phase.Phase.{Phase}
pub use Rattle.journal.specs.declared.phase.Phase.TheVariants.{Waiting, Ready, InWork, Decided}

-- the place of a claim: its account and its phase
pub record Place : Type 0 where
  pub account : Account
  pub phase : Phase

-- the claim waits for an earlier claim of its family
abbrev pub is_waiting : Phase → Bool
is_waiting (Waiting claim) = true
is_waiting _ = false

-- the claim is ready to be taken
abbrev pub is_ready : Phase → Bool
is_ready (Ready claim) = true
is_ready _ = false

-- the claim is decided
abbrev pub is_decided : Phase → Bool
is_decided (Decided left) = true
is_decided _ = false

-- the accumulators after a decided claim
abbrev pub left_of : Phase → Option Acc
left_of (Decided left) = Some left
left_of _ = None

-- the accumulators after a decided claim; the given ones for any other claim
abbrev pub left_in : Phase → Acc → Acc
left_in (Decided left) acc = left
left_in _ acc = acc

-- the claim at the place is of the family
abbrev pub is_of : List ℕ → Place → Bool
is_of family place = bytes_eq place.account.family family

-- each claim of the family is decided
abbrev pub all_decided : List ℕ → List Place → Bool
all_decided family places = list_all (λ place. not (is_of family place) || is_decided place.phase) places

-- the accumulators after a claim: the member's own amounts are replaced if `own` is true, and the
-- family's sums if `shared` is true
abbrev pub merge_acc : Bool → Bool → Acc → Acc → Acc
merge_acc own shared left acc = record {
  met = cond own left.met acc.met;
  oop = cond own left.oop acc.oop;
  paid = cond own left.paid acc.paid;
  fmet = cond shared left.fmet acc.fmet;
  foop = cond shared left.foop acc.foop;
}

-- the accumulators of an account after the claim at a place
abbrev pub left_by : Account → Acc → Place → Acc
left_by account acc place = merge_acc (is_same place.account account) (is_family_year place.account account) (left_in place.phase acc) acc

-- the accumulators of an account after these places: its own amounts are those after its last
-- decided claim, the family's sums are those after the last decided claim of its family and year,
-- and without such a claim they are the opening ones
abbrev pub present : Account → Acc → List Place → Acc
present account opening places = fold (left_by account) opening places

-- the accumulators with the own amounts of `own` and the family's sums of `family_year`, or the
-- opening ones without these
abbrev pub started : Acc → Option Acc → Option Acc → Acc
started opening own family_year = record {
  met = (unwrap_or own opening).met;
  oop = (unwrap_or own opening).oop;
  paid = (unwrap_or own opening).paid;
  fmet = (unwrap_or family_year opening).fmet;
  foop = (unwrap_or family_year opening).foop;
}

-- the phase of the place at a position
abbrev pub phase_at : List Place → ℕ → Option Phase
phase_at places position = option_map (λ place. place.phase) (slice_get places position)

-- the order within families: a claim waits if and only if an earlier claim of its family is not
-- decided
pub record InTurn (places : List Place) : Type 0 where
  pub waits : (position : ℕ) (place : Place) → slice_get places position ≡ Some place
      → is_waiting place.phase ≡ not (all_decided place.account.family (take position places))
