use Rattle.std.proofs.lemmas.Grind.{common_steps}
use Rattle.std.proofs.Common.{sym, ◌∙◌, arith}
use Rattle.evaluation.proofs.Givens.{a_value, no_value, names_data}
use Rattle.evaluation.proofs.value.arguments.read_argument.Goals as goal

pub returns-in-Err-clause-refused : goal.returns-in-Err-clause-refused
returns-in-Err-clause-refused c =
    let input = c.in-Some-data_named.input.now in
    let found = c.in-Some-data_named.ensures in
    λ not_memory. (
      c.in-Some-data_named.place,
      input,
      c.in-Some.literal.now,
      names_data _ _ _ _ _ input c.in-Some.ensures.split found.present found.named,
      no_value c.get.result _ (sym c.is_some.ensures ∙ c.if-is_some.false) c.get.ensures,
      not_memory,
      c.in-Err.ensures.refused not_memory,
    )

pub returns-in-Ok-clause-assigned : goal.returns-in-Ok-clause-assigned
returns-in-Ok-clause-assigned c = grind (arith, common_steps)

pub returns-in-Ok-clause-fresh : goal.returns-in-Ok-clause-fresh
returns-in-Ok-clause-fresh c = no_value c.get.result _ (sym c.is_some.ensures ∙ c.if-is_some.false) c.get.ensures

pub returns-then-is_some-clause-refused : goal.returns-then-is_some-clause-refused
returns-then-is_some-clause-refused c =
    let input = c.in-Some-data_named.input.now in
    let found = c.in-Some-data_named.ensures in
    let given = a_value c.get.result _ (sym c.is_some.ensures ∙ c.if-is_some.true) c.get.ensures in
    λ not_memory. (
      c.in-Some-data_named.place,
      input,
      c.in-Some.literal.now,
      given.0,
      names_data _ _ _ _ _ input c.in-Some.ensures.split found.present found.named,
      given.1,
    )

pub returns-in_default-clause-refused : goal.returns-in_default-clause-refused
returns-in_default-clause-refused c = grind (arith, common_steps)

pub returns-in_default-data_named-clause-refused : goal.returns-in_default-data_named-clause-refused
returns-in_default-data_named-clause-refused c = grind (arith, common_steps)

pub read_value-requires-text-text : goal.read_value-requires-text-text
read_value-requires-text-text c = grind (arith, common_steps)
