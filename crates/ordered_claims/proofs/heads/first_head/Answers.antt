use Rattle.std.proofs.Common.{◌≡◌, arith, length, subst}
use Rattle.ordered_claims.specs.FirstHead.{IsFirstOf}
use Rattle.ordered_claims.proofs.heads.first_head.Goals as goal

pub loop-index-init : goal.loop-index-init
loop-index-init c = λ index claim within has. omega (arith, within)

pub loop-index-preserved : goal.loop-index-preserved
loop-index-preserved c = c.first_with-first.ensures

pub returns : goal.returns
returns c =
    let all : c.loop-index.index ≡ length c.args.files.now = omega (arith, c.loop-index.auto.index-end, c.loop-index-test.false) in
    subst (λ n. IsFirstOf c.args.order c.args.files.now n c.loop-index.first) all c.loop-index.invariant
