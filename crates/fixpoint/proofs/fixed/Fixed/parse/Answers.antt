use Rattle.std.proofs.lemmas.Grind.{common_steps}
use Rattle.std.proofs.Common.{arith}
use Rattle.std.proofs.lemmas.Int.{ints}
use Rattle.std.proofs.lemmas.Result.{err_from_is_err_and}
use Rattle.fixpoint.proofs.Numbers.{Denotes-from_count, IsAnswer-from_count, no_number_from_fault}
use Rattle.fixpoint.proofs.fixed.Fixed.parse.Goals as goal
use Rattle.fixpoint.proofs.fixed.Fixed.parse.Goals.{then-negative, else-negative}

pub returns-in_err-count-clause-answers : goal.returns-in_err-count-clause-answers
returns-in_err-count-clause-answers c =
    let p = err_from_is_err_and c.from_residual-in_err-count.result c.from_residual-in_err-count.ensures.1 in
    let parts = rw c.in_ok-negative.ensures.ok_part at c.parts.ensures in
    rw (p.1, p.2) (IsAnswer-from_count c.args.text.now c.in_ok-negative.negative c.in_ok-negative.whole.now c.in_ok-negative.fraction.now parts
    c.in_err-count.field-0.0 c.in_err-count.ensures)

pub returns-in_err-count-clause-refused : goal.returns-in_err-count-clause-refused
returns-in_err-count-clause-refused c =
    let p = err_from_is_err_and c.from_residual-in_err-count.result c.from_residual-in_err-count.ensures.1 in
    let parts = rw c.in_ok-negative.ensures.ok_part at c.parts.ensures in
    rw p.1 (no_number_from_fault c.args.text.now c.in_err-count.field-0.0
    (IsAnswer-from_count c.args.text.now c.in_ok-negative.negative c.in_ok-negative.whole.now c.in_ok-negative.fraction.now parts
    c.in_err-count.field-0.0 c.in_err-count.ensures))

pub returns-clause-answers : goal.returns-clause-answers
returns-clause-answers c =
    let parts = rw c.in_ok-negative.ensures.ok_part at c.parts.ensures in
    Denotes-from_count c.args.text.now c.in_ok-negative.negative c.in_ok-negative.whole.now c.in_ok-negative.fraction.now parts
    c.in_ok-count.count c.in_ok-count.ensures _
    (elim c.if-negative.branch [ then-negative w ↦ rw w.if-negative.true (omega (arith, ints)) | else-negative w ↦ rw w.if-negative.false (omega (arith, ints)) ])

pub invariant_of-result : goal.invariant_of-result
invariant_of-result c = grind (arith, common_steps)

pub ten_thousandths-requires-clause-whole : goal.ten_thousandths-requires-clause-whole
ten_thousandths-requires-clause-whole c = grind (arith, common_steps)

pub ten_thousandths-requires-clause-fraction : goal.ten_thousandths-requires-clause-fraction
ten_thousandths-requires-clause-fraction c = grind (arith, common_steps)

pub overflow_sub-units : goal.overflow_sub-units
overflow_sub-units c = grind (arith, common_steps)
