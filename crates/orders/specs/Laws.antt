-- The laws of the order of acceptance.
use Rattle.std.specs.Prelude.{◌≡◌, ◌≢◌, ◌<◌, ℕ, ℤ, List}
use Rattle.settlement.specs.declared.outcome.Outcome.{Outcome}
use Rattle.intake_csv.specs.declared.rows.Row.{Row}
use Rattle.journal.specs.Terms.{Terms}
use Rattle.journal.specs.Events.{accepted_count, accepts}
use Rattle.journal.specs.Lawful.{Finished}
use Rattle.journal.specs.declared.event.Event.{Event}
use Rattle.remit_records.specs.Decided.{decision_at, paid_outcomes, sum_of}
use Rattle.remit_records.specs.Report.{report_records}
use Rattle.journal.specs.InOrder.{AreFirstInOrder}
use Rattle.journal.specs.declared.order.Order.{Order}
use Rattle.journal.specs.declared.order.Order.TheVariants.{Any}
use Rattle.orders.specs.Order.{outcome_by, report_by, total_by}

-- in a finished journal the outcome at each position is the one that the order of acceptance
-- determines
abbrev pub DecidedByOrder : Type 0
DecidedByOrder = (T : Terms) (J : List Event) (position : ℕ) → Finished T J → position < accepted_count J → decision_at J position ≡ outcome_by T (accepts J) position

-- in a finished journal the totals are those that the order of acceptance determines
abbrev pub TotalsByOrder : Type 0
TotalsByOrder = (T : Terms) (J : List Event) (amount : Outcome → ℤ) → Finished T J → sum_of amount (paid_outcomes J) ≡ total_by T (accepts J) amount

-- in a finished journal the records of the remittance are those that the order of acceptance
-- determines
abbrev pub ReportIsOfItsOrder : Type 0
ReportIsOfItsOrder = (version : ℕ) (T : Terms) (J : List Event) (files : List (List Row)) → Finished T J → report_records version J files ≡ report_by version T (accepts J) files

-- journals that are finished under the same terms, and accept in the same order, accept the same
-- claims in the same order
abbrev pub AcceptAlike : Type 0
AcceptAlike = (order : Order) (T : Terms) (J K : List Event) → order ≢ Any → Finished T J → Finished T K
    → AreFirstInOrder order T.files (accepts J) → AreFirstInOrder order T.files (accepts K) → accepts J ≡ accepts K
