-- The numbers of causes have at most two digits.
use Rattle.std.proofs.Common.{◌<◌, lit<}
use Rattle.faults.specs.declared.cell_fault.CellCause.{CellCause}
use Rattle.faults.specs.declared.cell_fault.CellCause.TheVariants as cell
use Rattle.faults.specs.CellCauseNumber.{number_of as cell_cause_number}
use Rattle.faults.specs.declared.plan_fault.PlanCause.{PlanCause}
use Rattle.faults.specs.declared.plan_fault.PlanCause.TheVariants as cause
use Rattle.faults.specs.PlanCauseNumber.{number_of as plan_cause_number}

pub cell_cause_small : (c : CellCause) → cell_cause_number c < 100
cell_cause_small cell.Token = lit< tt
cell_cause_small cell.Literal = lit< tt
cell_cause_small cell.WrongKind = lit< tt
cell_cause_small cell.BadEscape = lit< tt
cell_cause_small cell.BadDate = lit< tt
cell_cause_small cell.TooMany = lit< tt
cell_cause_small cell.Trailing = lit< tt
cell_cause_small cell.OutOfMemory = lit< tt

pub plan_cause_small : (c : PlanCause) → plan_cause_number c < 100
plan_cause_small cause.Toml = lit< tt
plan_cause_small cause.Missing = lit< tt
plan_cause_small cause.Unknown = lit< tt
plan_cause_small cause.Duplicate = lit< tt
plan_cause_small cause.Kind = lit< tt
plan_cause_small cause.Hit = lit< tt
plan_cause_small cause.Priority = lit< tt
plan_cause_small cause.Role = lit< tt
plan_cause_small cause.Money = lit< tt
plan_cause_small cause.Limit = lit< tt
plan_cause_small (cause.Cell fault) = lit< tt
plan_cause_small cause.OutOfMemory = lit< tt
