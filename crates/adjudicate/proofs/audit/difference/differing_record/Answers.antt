use Rattle.std.proofs.Common.{arith}
use Rattle.std.proofs.lemmas.Grind.{common_steps}
use Rattle.std.proofs.lemmas.List.{take_rest}
use Rattle.adjudicate.specs.declared.audit.difference.Difference.{Difference}
use Rattle.adjudicate.proofs.SharedRecords.{differ_from_ne, first_differs, same_from_ne, shares_more, shares_none}
use Rattle.adjudicate.proofs.audit.difference.differing_record.Goals as goal

pub returns-then-ne : goal.returns-then-ne
returns-then-ne c =
    let given = c.args.given.now in
    let due = c.args.due.now in
    let start = c.records.start in
    let difference : Difference = record {
      number = c.records.number;
      start = start;
      found_bytes = c.first_record-found_bytes.result;
      expected_bytes = c.first_record-expected_bytes.result;
    } in
    first_differs given due difference c.records.invariant (rw (take_rest given start) at c.first_record-found_bytes.ensures)
    (rw (take_rest due start) at c.first_record-expected_bytes.ensures) (differ_from_ne _ _ c.ne.result (rw (take_rest given start, take_rest due start) at c.ne.ensures) c.if-ne.true)

pub records-init : goal.records-init
records-init c = shares_none c.args.given.now c.args.due.now

pub records-preserved : goal.records-preserved
records-preserved c =
    let given = c.args.given.now in
    let due = c.args.due.now in
    let start = c.records.start in
    let more =
    shares_more given due c.requires c.records.number start c.records.invariant c.first_record-found_bytes.result c.first_record-expected_bytes.result
    (rw (take_rest given start) at c.first_record-found_bytes.ensures) (rw (take_rest due start) at c.first_record-expected_bytes.ensures)
    (same_from_ne _ _ c.ne.result (rw (take_rest given start, take_rest due start) at c.ne.ensures) c.if-ne.false) in
    more.shared

pub overflow_add-number : goal.overflow_add-number
overflow_add-number c = grind (arith, common_steps)

pub records-smaller : goal.records-smaller
records-smaller c = grind (arith, common_steps)

pub slice_bounds-due_rest-start : goal.slice_bounds-due_rest-start
slice_bounds-due_rest-start c = grind (arith, common_steps)

pub slice_bounds-due_rest-count : goal.slice_bounds-due_rest-count
slice_bounds-due_rest-count c = grind (arith, common_steps)

pub slice_bounds-given_rest-start : goal.slice_bounds-given_rest-start
slice_bounds-given_rest-start c = grind (arith, common_steps)

pub slice_bounds-given_rest-count : goal.slice_bounds-given_rest-count
slice_bounds-given_rest-count c = grind (arith, common_steps)
