use Rattle.std.proofs.Common.{rules, sym, ◌∙◌}
use Rattle.claim_gate.proofs.Replying.{begun_alike}
use Rattle.claim_gate.proofs.state.start_of.Goals as goal

pub returns-then-has_begun : goal.returns-then-has_begun
returns-then-has_begun c =
    c.start.ensures
    ∙ begun_alike c.args.picked.now.own c.args.picked.now.family_year c.zero.result _ (sym c.has_begun.ensures ∙ c.if-has_begun.true)

pub returns : goal.returns
returns c = search rules
