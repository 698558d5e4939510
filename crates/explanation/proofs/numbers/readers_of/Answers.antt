use Rattle.std.proofs.Common.{◌≡◌, ◌+◌, ◌-◌, [], get_or, subst, arith}
use Rattle.std.proofs.lemmas.Grind.{common_steps}
use Rattle.intake_csv.specs.Rows.{IsAtStart}
use Rattle.explanation.proofs.RecordNumbers.{begun_more, reader_first}
use Rattle.explanation.proofs.numbers.readers_of.Goals as goal

pub files-preserved : goal.files-preserved
files-preserved c =
    let terms = c.args.terms.now in
    let rows = c.in_ok-rows.field-0 in
    let file : (c.files.place + 1) - 1 ≡ c.files.place = omega arith in
    let start = subst (λ i. IsAtStart terms.plan.names (get_or terms.files i []) rows) file c.in_ok-rows.ensures.start in
    rw c.in_ok-push.ensures.items
    (begun_more terms c.files.place c.files.readers.items rows c.files.invariant
    (reader_first c.reader_begins_with_all_rows.ensures terms.plan.names (get_or terms.files c.files.place []) rows start c.in_ok-rows.ensures.apart))

pub returns : goal.returns
returns c = grind (arith, common_steps)

pub overflow_add-place : goal.overflow_add-place
overflow_add-place c = grind (arith, common_steps)

pub files-init : goal.files-init
files-init c = grind (arith, common_steps)

pub rows-requires-clause-most : goal.rows-requires-clause-most
rows-requires-clause-most c = grind (arith, common_steps)
