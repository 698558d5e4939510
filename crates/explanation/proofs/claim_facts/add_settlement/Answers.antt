use Rattle.std.proofs.Common.{ap, sym, ◌∙◌}
use Rattle.std.specs.Option.{option_copied}
use Rattle.std.proofs.lemmas.Result.{on_ok_weaker}
use Rattle.explanation.proofs.Appending.{settled_added}
use Rattle.explanation.proofs.claim_facts.add_settlement.Goals as goal

pub returns : goal.returns
returns c =
    on_ok_weaker c.add_amounts.result
    (λ last. settled_added c.args.facts.now c.add_roles.new.facts c.add_amounts.new.facts c.args.given.now c.args.env.now c.args.plan.now c.in-Some.roles.now c.args.acc.now c.args.decided.now
    (sym c.roles.ensures.roles ∙ ap option_copied c.in-Some.is) c.requires c.in_ok-add_roles.ensures last)
    c.add_amounts.ensures
