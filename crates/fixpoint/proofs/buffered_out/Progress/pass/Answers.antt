use Rattle.std.proofs.lemmas.Grind.{common_steps}
use Rattle.std.proofs.Common.{refl, rules, arith}
use Rattle.fixpoint.proofs.Buffering.{cut-passes, part-passes, stays-failed, stays-same, stays-whole, whole-passes}
use Rattle.fixpoint.proofs.buffered_out.Progress.pass.Goals as goal

pub returns-then-self-clause-passes : goal.returns-then-self-clause-passes
returns-then-self-clause-passes g c = cut-passes _ _ c.args.self.now c.args.text.now c.if-self.true

pub returns-then-self-clause-stays : goal.returns-then-self-clause-stays
returns-then-self-clause-stays g c = stays-same _ _

pub returns-in-Ok-clause-passes : goal.returns-in-Ok-clause-passes
returns-in-Ok-clause-passes g c = whole-passes _ _ _ _ c.args.self.now _ c.args.text.now c.if-self.false c.if-self.false c.in-Ok.ensures.all (search rules) c.in-Ok.ensures.ok

pub returns-in-Ok-clause-stays : goal.returns-in-Ok-clause-stays
returns-in-Ok-clause-stays g c = stays-whole _ _ _ _ c.if-self.false c.in-Ok.ensures.ok

pub returns-in-Err-clause-passes : goal.returns-in-Err-clause-passes
returns-in-Err-clause-passes g c = part-passes _ _ _ _ c.args.self.now _ c.args.text.now _ c.if-self.false refl c.in-Err.ensures.front (search rules) c.in-Err.ensures.failed

pub returns-in-Err-clause-stays : goal.returns-in-Err-clause-stays
returns-in-Err-clause-stays g c = stays-failed _ _ _ _ refl c.in-Err.ensures.failed

pub returns-then-text-self-clause-passes : goal.returns-then-text-self-clause-passes
returns-then-text-self-clause-passes g c = grind (arith, common_steps)
