use Rattle.std.proofs.Common.{ap, arith, length, ◌-◌}
use Rattle.claim_gate.specs.Terms.{texts_of}
use Rattle.claim_gate.proofs.Files.{as-many, gives-at, starts-at}
use Rattle.claim_gate.proofs.terms.Terms.rows.Goals as goal

pub bounds-as_slice-provider : goal.bounds-as_slice-provider
bounds-as_slice-provider c =
    let i = c.self.inside in
    let most = rw (← c.self.view_is) at c.requires.most in
    let long = as-many i.plan.now.names (texts_of i.files.now) i.validated c.self.invariant.1 in
    let size = ap length c.as_slice.ensures in
    omega (arith, c.requires.least, most, long, size)

pub returns-clause-start : goal.returns-clause-start
returns-clause-start c =
    let i = c.self.inside in
    let most = rw (← c.self.view_is) at c.requires.most in
    rw (← c.self.view_is)
    (starts-at i.plan.now.names (texts_of i.files.now) i.validated (c.args.provider - 1) c.index-as_slice-provider.result c.index-as_slice-provider.result _ c.rows.result
    c.self.invariant.1 (omega (arith, c.requires.least, most)) (rw c.as_slice.ensures at c.index-as_slice-provider.is) c.rows.ensures.start)

pub returns-clause-rows : goal.returns-clause-rows
returns-clause-rows c =
    let i = c.self.inside in
    let most = rw (← c.self.view_is) at c.requires.most in
    rw (← c.self.view_is)
    (gives-at i.plan.now.names (texts_of i.files.now) i.validated (c.args.provider - 1) c.index-as_slice-provider.result c.index-as_slice-provider.result _ c.rows.result
    c.self.invariant.1 (omega (arith, c.requires.least, most)) (rw c.as_slice.ensures at c.index-as_slice-provider.is) c.rows.ensures.start)
