-- The settlement of a claim: its determination, from the plan's roles and the answers of the plan's
-- tables, and its outcome, from the determination, the billed amount and the accumulators.
use Rattle.std.specs.Prelude.{ℤ, pos, ◌+ℤ◌, ◌-ℤ◌, ℕ, List, [], Option, Some, None, option_map, Result, Ok, Err, if◌then◌else◌}
use Rattle.std.specs.Int.{int_min, int_max}
use Rattle.fixpoint.specs.Money.{cents_of_product}
use Rattle.faults.specs.declared.fault.Fault.{Fault}
use Rattle.tables.specs.declared.inputs.Slot.{Slot}
use Rattle.tables.specs.declared.roles.Roles.{Roles}
use Rattle.tables.specs.Environment.{Environment, env}
use Rattle.tables.specs.Plan.{PlanParts}
use Rattle.faults.specs.Reason.{reason_of}
use Rattle.settlement.specs.declared.acc.Acc.{Acc}
use Rattle.settlement.specs.declared.amounts.Amounts.{Amounts}
use Rattle.settlement.specs.declared.claim.Claim.{Claim}
use Rattle.settlement.specs.declared.determination.Determination.{Determination}
use Rattle.settlement.specs.declared.determination.Determination.TheVariants as determined
use Rattle.settlement.specs.declared.outcome.Outcome.{Outcome}
use Rattle.faults.specs.declared.reason.Reason.{Reason}
use Rattle.faults.specs.declared.reason.Reason.TheVariants.{Range, Term}
use Rattle.settlement.specs.declared.outcome.Verdict.{Verdict}
use Rattle.settlement.specs.declared.outcome.Verdict.TheVariants.{Paid, Denied, Pended}
use Rattle.faults.specs.declared.role.Role.{Role}
use Rattle.settlement.specs.declared.cost_sharing.CostSharing.{CostSharing}
use Rattle.settlement.specs.Accumulators.{after, are_in_range}
use Rattle.settlement.specs.Bindings.{given_by}
use Rattle.settlement.specs.Roles.{value_of, is_true_flag, terms, remarks_of}

-- what remains of a limit after the used amount, which is never negative
abbrev pub remaining : ℤ → ℤ → ℤ
remaining limit used = int_max (pos 0) (limit -ℤ used)

-- an amount, but at most what remains of the family's limit, if there is one
abbrev pub within_limit : Option ℤ → ℤ → ℤ → ℤ
within_limit None used amount = amount
within_limit (Some limit) used amount = int_min amount (remaining limit used)

-- the deductible of the family, if there is one
abbrev pub family_deductible : CostSharing → Option ℤ
family_deductible terms = option_map (λ f. f.deductible) terms.family

-- the out-of-pocket maximum of the family, if there is one
abbrev pub family_oop_max : CostSharing → Option ℤ
family_oop_max terms = option_map (λ f. f.oop_max) terms.family

-- the amounts of a covered claim, from its billed amount, its cost sharing and the accumulators
abbrev pub amounts : ℤ → CostSharing → Acc → Amounts
amounts billed terms acc =
    -- the allowed amount is the billed amount, but at most the fee
    let allowed = int_min billed terms.fee in
    -- the deductible is the part of it that the member and the family have not met yet
    let ded = within_limit (family_deductible terms) acc.fmet (int_min allowed (remaining terms.deductible acc.met)) in
    -- the copay is taken from the rest
    let copay = int_min (allowed -ℤ ded) terms.copay in
    -- the coinsurance is what remains then times the rate, rounded once to whole cents, half to
    -- even
    let coins = cents_of_product (allowed -ℤ ded -ℤ copay) terms.rate in
    -- the member's cost share is the sum of these three, but at most what remains of the
    -- out-of-pocket maximums of the member and of the family
    let share = within_limit (family_oop_max terms) acc.foop (int_min (ded +ℤ copay +ℤ coins) (remaining terms.oop_max acc.oop)) in
    -- the plan pays the rest of the allowed amount
    record { allowed = allowed; ded = ded; copay = copay; coins = coins; share = share; paid = allowed -ℤ share }

-- the outcome of a paid claim
abbrev pub paid_outcome : Amounts → List (List ℕ) → Outcome
paid_outcome a remarks = record {
  verdict = Paid;
  allowed = a.allowed;
  ded = a.ded;
  copay = a.copay;
  coins = a.coins;
  share = a.share;
  paid = a.paid;
  remarks = remarks;
}

-- the outcome of a claim that is not paid, whose amounts are all zero
abbrev pub unpaid_outcome : Verdict → List (List ℕ) → Outcome
unpaid_outcome verdict remarks = record {
  verdict = verdict;
  allowed = pos 0;
  ded = pos 0;
  copay = pos 0;
  coins = pos 0;
  share = pos 0;
  paid = pos 0;
  remarks = remarks;
}

-- the outcome of a denied claim, with its remarks
abbrev pub denied_outcome : List (List ℕ) → Outcome
denied_outcome remarks = unpaid_outcome Denied remarks

-- the outcome of a claim that is pended for review by a person, without remarks
abbrev pub pended_outcome : Reason → Outcome
pended_outcome reason = unpaid_outcome (Pended reason) []

-- a claim after which an accumulator would be out of range is pended instead; table 0 means that no
-- table caused it
abbrev pub within_range : Acc → Outcome → Outcome
within_range acc outcome = if are_in_range (after acc outcome) then outcome else pended_outcome (Range 0)

-- the determination of a covered claim; a role with an invalid value pends it
abbrev pub by_terms : List (List ℕ) → Result CostSharing Role → Determination
by_terms remarks (Err role) = determined.Pended (Term role)
by_terms remarks (Ok terms) = determined.Covered terms remarks

-- the determination from the answers of the tables: a claim that is not covered is denied, whatever
-- the other roles are
abbrev pub by_roles : Roles → List Slot → Environment → Determination
by_roles roles given env =
    let remarks = remarks_of env roles.remarks in
    if is_true_flag (value_of given env roles.cover) then by_terms remarks (terms given env roles) else determined.Denied remarks

-- a fault of the tables pends the claim and is the reason; the case `None` does not occur, since
-- `env` never runs out of memory
abbrev pub by_fault : Option Reason → Determination
by_fault None = determined.Denied []
by_fault (Some reason) = determined.Pended reason

-- the determination from the result of the tables; a plan without roles covers nothing
abbrev pub by_tables : Option Roles → List Slot → Result Environment Fault → Determination
by_tables None given answers = determined.Denied []
by_tables (Some roles) given (Err fault) = by_fault (reason_of fault)
by_tables (Some roles) given (Ok env) = by_roles roles given env

-- the determination of a claim by a plan, from the values of the plan's names
abbrev pub determination_of : PlanParts → List Slot → Determination
determination_of plan given = by_tables plan.roles given (env plan given)

-- the outcome of a claim from its billed amount, the accumulators before it and its determination
abbrev pub outcome_from : ℤ → Acc → Determination → Outcome
outcome_from billed acc (determined.Pended reason) = pended_outcome reason
outcome_from billed acc (determined.Denied remarks) = denied_outcome remarks
outcome_from billed acc (determined.Covered terms remarks) = within_range acc (paid_outcome (amounts billed terms acc) remarks)

-- the outcome of a claim by a plan, with the accumulators of its member and of its family
abbrev pub outcome : PlanParts → Claim → Acc → Outcome
outcome plan claim acc = outcome_from claim.billed acc (determination_of plan (given_by claim acc))
