use Rattle.std.proofs.Common.{◌≡◌, ◌∙◌, Ok, Err, rules, arith}
use Rattle.std.proofs.lemmas.Grind.{common_steps}
use Rattle.tables.specs.Environment.{table_value}
use Rattle.explanation.proofs.TableFacts.{answered, faulty}
use Rattle.explanation.proofs.table.add_table.Goals as goal

pub returns-in-Ok-clause-facts : goal.returns-in-Ok-clause-facts
returns-in-Ok-clause-facts c =
    let value : table_value c.args.given.now c.args.earlier.now c.args.table.now ≡ Ok c.in-Ok.answers = c.in-Ok.ensures in
    answered c.args.given.now c.args.earlier.now c.args.table.now c.as_slice-step.result.now c.as_slice-rules.result.now (c.as_slice-step.ensures.value ∙ c.in_ok-step.ensures)
    (c.as_slice-rules.ensures ∙ c.in_ok-rules.ensures) c.args.facts.now c.add_values_read.new.facts c.add.new.self c.add_number.new.self c.add_rules.new.facts
    (rw c.as_slice.ensures at c.in_ok-add_values_read.ensures) (rw c.hit_text.ensures at c.in_ok-add.ensures) c.in_ok-add_number.ensures c.in_ok-add_rules.ensures
    c.add_answering.new.facts c.add_answers.new.facts c.in-Ok.answers value c.in_ok-add_answering-in-Ok.ensures
    (rw (c.as_slice-in-Ok.ensures, c.as_slice-in-Ok-2.ensures) at c.in_ok-add_answers-in-Ok.ensures)

pub returns-clause-facts : goal.returns-clause-facts
returns-clause-facts c =
    let value : table_value c.args.given.now c.args.earlier.now c.args.table.now ≡ Err c.in-Err.fault = search rules in
    faulty c.args.given.now c.args.earlier.now c.args.table.now c.as_slice-step.result.now c.as_slice-rules.result.now (c.as_slice-step.ensures.value ∙ c.in_ok-step.ensures)
    (c.as_slice-rules.ensures ∙ c.in_ok-rules.ensures) c.args.facts.now c.add_values_read.new.facts c.add.new.self c.add_number.new.self c.add_rules.new.facts
    (rw c.as_slice.ensures at c.in_ok-add_values_read.ensures) (rw c.hit_text.ensures at c.in_ok-add.ensures) c.in_ok-add_number.ensures c.in_ok-add_rules.ensures
    c.add_fault.new.facts c.in-Err.fault value c.in_ok-add_fault-in-Err.ensures

pub same-answers : goal.same-answers
same-answers c = grind (arith, common_steps)

pub add_fault-requires : goal.add_fault-requires
add_fault-requires c = grind (arith, common_steps)

pub returns-in-Ok-clause-answers : goal.returns-in-Ok-clause-answers
returns-in-Ok-clause-answers c = grind (arith, common_steps)
