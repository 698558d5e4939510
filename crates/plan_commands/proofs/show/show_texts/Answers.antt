use Rattle.std.proofs.Common.{inl, inr, arith}
use Rattle.std.proofs.lemmas.Grind.{common_steps}
use Rattle.plan_commands.proofs.PageStatuses.{spelling_refuses}
use Rattle.plan_commands.proofs.show.show_texts.Goals as goal

pub returns-in-Ok-clause-refused : goal.returns-in-Ok-clause-refused
returns-in-Ok-clause-refused g c = λ not_done. inl (c.put_page-status.ensures.refused not_done)

pub returns-in-Err-clause-refused : goal.returns-in-Err-clause-refused
returns-in-Err-clause-refused g c =
    λ not_done. inr (record { stop = c.from.result; reason = spelling_refuses _ _ _ c.in-Err.ensures.refused c.from.ensures; is_status = c.refuse_old.ensures.status })

pub returns-in-Ok-clause-done : goal.returns-in-Ok-clause-done
returns-in-Ok-clause-done c = grind (arith, common_steps)

pub returns-in-Err-clause-done : goal.returns-in-Err-clause-done
returns-in-Err-clause-done c = grind (arith, common_steps)
