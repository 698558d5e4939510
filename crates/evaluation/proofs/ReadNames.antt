-- The names that the tables of a plan read.
use Rattle.std.proofs.Common.{ℕ, ◌≤◌, List, length, arith}
use Rattle.tables.specs.declared.inputs.Slot.{Slot}
use Rattle.tables.specs.Inputs.{IsReady}
use Rattle.tables.specs.Plan.{PlanParts, IsPlan}
use Rattle.tables.proofs.NeededNames.{within_names}
use Rattle.evaluation.specs.Arguments.{IsReadyBelow}

-- the tables of a plan read only its names
pub IsReady-from_below : (plan : PlanParts) (given : List Slot) (end : ℕ) → IsPlan plan → length plan.names ≤ end → IsReadyBelow end plan.tables given → IsReady plan.tables given
IsReady-from_below plan given end sound all below place read =
    let within = within_names plan place sound read in
    below place (omega (arith, within, all)) read
