use Rattle.std.proofs.Common.{arith}
use Rattle.std.proofs.lemmas.Grind.{common_steps}
use Rattle.std.proofs.lemmas.Result.{err_from_is_err_and}
use Rattle.evaluation.specs.Arguments.{argument_texts}
use Rattle.evaluation.proofs.Answered.{AreAnswered-from_env}
use Rattle.evaluation.proofs.Refusals.{refuses_arguments, refuses_tables}
use Rattle.evaluation.proofs.value.plan_text.Goals as goal

pub returns-in_err-inputs-clause-refused : goal.returns-in_err-inputs-clause-refused
returns-in_err-inputs-clause-refused c =
    let stopped = err_from_is_err_and c.from_residual.result c.from_residual.ensures.1 in
    rw (stopped.1, stopped.2) (refuses_arguments (argument_texts c.args.arguments.now) c.args.plan.now _ c.in_err-inputs.ensures.refused)

pub new-requires : goal.new-requires
new-requires c = rw c.as_str.ensures.text c.as_str.ensures.short

pub returns-in_err-values-clause-refused : goal.returns-in_err-values-clause-refused
returns-in_err-values-clause-refused c =
    let stopped = err_from_is_err_and c.from_residual-in_err-values.result c.from_residual-in_err-values.ensures.1 in
    rw stopped.1
    (refuses_tables (argument_texts c.args.arguments.now) c.args.plan.now c.in_ok-inputs.inputs _ _ c.in_ok-inputs.ensures.given c.in_default.ensures.ready c.in_err-values.ensures.fault stopped.2)

pub returns-clause-text : goal.returns-clause-text
returns-clause-text c =
    let plan = c.args.plan.now in
    let values = c.in_ok-values.values in
    record {
      given = c.in_ok-inputs.inputs;
      gives = c.in_ok-inputs.ensures.given;
      ready = c.in_default.ensures.ready;
      values = values;
      valued = c.in_ok-values.ensures.value;
      answered = AreAnswered-from_env plan c.in_ok-inputs.inputs values c.tables.ensures.sound c.in_ok-values.ensures.value;
      lines = rw c.tables.ensures.tables at c.in_ok-value_lines.ensures;
    }

pub returns-in-Some-clause-refused : goal.returns-in-Some-clause-refused
returns-in-Some-clause-refused c = grind (arith, common_steps)

pub value-requires : goal.value-requires
value-requires c = grind (arith, common_steps)
