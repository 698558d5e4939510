-- The accumulators after an outcome are in the range of numbers.
use Rattle.std.proofs.Common.{◌≡◌, ℤ, pos, ◌+ℤ◌, Bool, true, false, if◌then◌else◌, Option, Some, None, refl, arith}
use Rattle.std.specs.Option.{SomeIff, IsSome}
use Rattle.std.proofs.lemmas.Int.{ints}
use Rattle.tables.specs.Plan.{PlanParts}
use Rattle.faults.specs.declared.reason.Reason.TheVariants.{Range}
use Rattle.settlement.specs.declared.acc.Acc.{Acc}
use Rattle.settlement.specs.declared.claim.Claim.{Claim}
use Rattle.settlement.specs.declared.determination.Determination.{Determination}
use Rattle.settlement.specs.declared.determination.Determination.TheVariants.{Pended, Denied, Covered}
use Rattle.settlement.specs.declared.outcome.Outcome.{Outcome}
use Rattle.settlement.specs.Accumulators.{add_amounts, after, are_in_range, AreInRange}
use Rattle.settlement.specs.Bindings.{given_by}
use Rattle.settlement.specs.Settlement.{amounts, determination_of, outcome, outcome_from, paid_outcome, pended_outcome}

-- adding zero leaves the accumulators in range
nothing_added : (acc : Acc) → AreInRange acc → AreInRange (add_amounts acc (pos 0) (pos 0) (pos 0))
nothing_added acc ranges =
    let met : acc.met +ℤ pos 0 ≡ acc.met = omega (arith, ints) in
    let oop : acc.oop +ℤ pos 0 ≡ acc.oop = omega (arith, ints) in
    let paid_outcome : acc.paid +ℤ pos 0 ≡ acc.paid = omega (arith, ints) in
    let fmet : acc.fmet +ℤ pos 0 ≡ acc.fmet = omega (arith, ints) in
    let foop : acc.foop +ℤ pos 0 ≡ acc.foop = omega (arith, ints) in
    rw (met, oop, paid_outcome, fmet, foop) ranges

range_kept : (acc : Acc) (o : Outcome) (fits : Bool) → are_in_range (after acc o) ≡ fits → AreInRange acc → AreInRange (after acc (if fits then o else pended_outcome (Range 0)))
range_kept acc o true is ranges = is
range_kept acc o false is ranges = nothing_added acc ranges

range_by : (billed : ℤ) (acc : Acc) (determination : Determination) → AreInRange acc → AreInRange (after acc (outcome_from billed acc determination))
range_by billed acc (Pended reason) ranges = nothing_added acc ranges
range_by billed acc (Denied remarks) ranges = nothing_added acc ranges
range_by billed acc (Covered terms remarks) ranges =
    let o = paid_outcome (amounts billed terms acc) remarks in
    range_kept acc o (are_in_range (after acc o)) refl ranges

-- the outcome of a settlement leaves the accumulators in range
pub settled_in_range : (plan : PlanParts) (claim : Claim) (acc : Acc) → AreInRange acc → AreInRange (after acc (outcome plan claim acc))
settled_in_range plan claim acc ranges = range_by claim.billed acc (determination_of plan (given_by claim acc)) ranges

pub some_where : {X : Type 0} (found : Option X) (P : Type 0) (x : X) → SomeIff found P x → P → IsSome found
some_where None P x never holds = absurd (never holds)
some_where (Some y) P x both holds = refl
