use Rattle.std.proofs.Common.{◌-◌, [], get_or, arith}
use Rattle.std.proofs.lemmas.Grind.{common_steps}
use Rattle.explanation.proofs.RecordNumbers.{number_found, reader_more, row_given}
use Rattle.explanation.proofs.numbers.number_in.Goals as goal

pub returns-then-found-place-clause-number : goal.returns-then-found-place-clause-number
returns-then-found-place-clause-number c =
    let terms = c.args.terms.now in
    let text = get_or terms.files (c.args.provider - 1) [] in
    let given = rw (c.in-Some.is, c.in-Good.is) at c.in_ok-summary.ensures.gives in
    let row = row_given c.given_row_is_the_first.ensures terms.plan.names text c.records.rows c.next_summary.new.self c.records.invariant _ _ _ _ given in
    number_found terms c.args.provider c.args.place _ _ row.0 c.requires.least c.requires.most row.1 c.if-found-place.true

pub returns-then-found-place-clause-reader : goal.returns-then-found-place-clause-reader
returns-then-found-place-clause-reader c =
    let terms = c.args.terms.now in
    let given = rw c.in-Some.is at c.in_ok-summary.ensures.gives in
    reader_more c.given_row_is_the_first.ensures terms.plan.names (get_or terms.files (c.args.provider - 1) []) c.records.rows c.next_summary.new.self c.records.invariant _ _ given

pub records-preserved-else-found-place : goal.records-preserved-else-found-place
records-preserved-else-found-place c =
    let terms = c.args.terms.now in
    let given = rw c.in-Some.is at c.in_ok-summary.ensures.gives in
    reader_more c.given_row_is_the_first.ensures terms.plan.names (get_or terms.files (c.args.provider - 1) []) c.records.rows c.next_summary.new.self c.records.invariant _ _ given

pub records-preserved : goal.records-preserved
records-preserved c =
    let terms = c.args.terms.now in
    let given = rw c.in-Some.is at c.in_ok-summary.ensures.gives in
    reader_more c.given_row_is_the_first.ensures terms.plan.names (get_or terms.files (c.args.provider - 1) []) c.records.rows c.next_summary.new.self c.records.invariant _ _ given

pub records-smaller-else-found-place : goal.records-smaller-else-found-place
records-smaller-else-found-place c = grind (arith, common_steps)

pub records-smaller : goal.records-smaller
records-smaller c = grind (arith, common_steps)
