use Rattle.std.proofs.Common.{◌≡◌, ◌&&◌, true, is_some, ap, sym, ◌∙◌}
use Rattle.std.specs.Option.{option_copied}
use Rattle.plan_rows.specs.Columns.{expects_settlement}
use Rattle.plan_rows.proofs.columns.settles.Goals as goal

pub returns-in-Some : goal.returns-in-Some
returns-in-Some c =
    let known : is_some c.args.plan.now.roles ≡ true = ap is_some (sym c.roles.ensures.roles) ∙ ap (λ r. is_some (option_copied r)) c.in-Some.is in
    c.expects_settlement.ensures ∙ ap (λ b. b && expects_settlement c.args.columns.now) (sym known)
