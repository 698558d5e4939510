use Rattle.std.proofs.Common.{◌≢◌, refl, rules, subst}
use Rattle.console.specs.declared.exit_status.ExitStatus.TheVariants.{Done}
use Rattle.evaluation.specs.Arguments.{argument_texts}
use Rattle.evaluation.specs.declared.stop.ValueStop.TheVariants.{NoMemory}
use Rattle.evaluation.specs.Stop.{IsReason, status_of}
use Rattle.evaluation.specs.ValueText.{IsValueText}
use Rattle.value_command.specs.Ends.{IsStatusOfRefusal}
use Rattle.value_command.proofs.Ends.{resource_refused, text_by_words}
use Rattle.value_command.proofs.value.value_plan.Goals as goal

pub returns-in-Ok-Some-clause-done : goal.returns-in-Ok-Some-clause-done
returns-in-Ok-Some-clause-done g c =
    text_by_words (IsValueText c.args.plan.now) (argument_texts c.unwrap_or-assignments.result.now) _ _ (search rules) c.value_into.ensures.done

pub returns-in-Ok-Some-clause-refused : goal.returns-in-Ok-Some-clause-refused
returns-in-Ok-Some-clause-refused g c =
    subst (λ words. c.value_into.result ≢ Done → IsStatusOfRefusal (IsReason c.args.plan.now words) c.value_into.result) (search rules) c.value_into.ensures.refused

pub returns-in-Ok-None-clause-done : goal.returns-in-Ok-None-clause-done
returns-in-Ok-None-clause-done g c = text_by_words (IsValueText c.args.plan.now) _ _ _ (search rules) c.value.ensures.done

pub returns-in-Ok-None-clause-refused : goal.returns-in-Ok-None-clause-refused
returns-in-Ok-None-clause-refused g c =
    subst (λ words. c.value.result ≢ Done → IsStatusOfRefusal (IsReason c.args.plan.now words) c.value.result) (search rules) c.value.ensures.refused

pub returns-in-Err-clause-done : goal.returns-in-Err-clause-done
returns-in-Err-clause-done g c = λ is_done. absurd (cc (is_done, c.in-Err.ensures))

pub returns-in-Err-clause-refused : goal.returns-in-Err-clause-refused
returns-in-Err-clause-refused g c = λ not_done. resource_refused status_of _ NoMemory refl tt _ c.in-Err.ensures
