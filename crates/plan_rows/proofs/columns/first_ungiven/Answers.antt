use Rattle.std.proofs.Common.{◌≤◌, length, subst, arith}
use Rattle.std.proofs.lemmas.Grind.{elements}
use Rattle.plan_rows.proofs.HeaderColumns.{needed_within}
use Rattle.plan_rows.proofs.columns.first_ungiven.Goals as goal

pub returns-clause-given : goal.returns-clause-given
returns-clause-given c =
    let end = subst (λ names. length names ≤ c.loop-place.place) c.names-input-items.ensures.names c.loop-place-test.false in
    λ place read. c.loop-place.invariant place (let within = needed_within c.args.plan.now c.args.columns.now place c.names-input-items.ensures.sound read in omega (arith, within, end)) read

pub returns-then-not-gives-clause-missing : goal.returns-then-not-gives-clause-missing
returns-then-not-gives-clause-missing c = grind (arith, elements)
