use Rattle.plan_rows.proofs.Claims.{is_a_day}
use Rattle.plan_rows.proofs.filing.day_of.Goals as goal

pub unreachable-requires : goal.unreachable-requires
unreachable-requires c = is_a_day c.args.value.now c.requires c.in_default.not-Day
