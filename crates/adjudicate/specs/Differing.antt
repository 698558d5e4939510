-- The first record in which two remittances differ.
use Rattle.std.specs.Prelude.{◌≡◌, ◌≢◌, ℕ, List, length, take, drop}
use Rattle.std.specs.List.{All, concat}
use Rattle.adjudicate.specs.RecordEnds.{IsFirstRecord, IsRecord}
use Rattle.adjudicate.specs.declared.audit.difference.Difference.{Difference}

-- both texts begin with the same whole records, `number` of them, and their next records differ
pub record IsFirstDifference (given due : List ℕ) (difference : Difference) : Type 0 where
  pub before : List (List ℕ)
  pub each : All IsRecord before
  pub counted : difference.number ≡ length before
  pub given_begins : take difference.start given ≡ concat before
  pub due_begins : take difference.start due ≡ concat before
  pub start : difference.start ≡ length (concat before)
  pub found : IsFirstRecord (drop difference.start given) difference.found_bytes
  pub expected : IsFirstRecord (drop difference.start due) difference.expected_bytes
  pub differ : take difference.found_bytes (drop difference.start given) ≢ take difference.expected_bytes (drop difference.start due)
