use Rattle.std.proofs.lemmas.Grind.{common_steps}
use Rattle.std.proofs.Common.{rules, ◌≡◌, sym, ◌∙◌, false, arith, length-drop, length-take, ℕ}
use Rattle.fixpoint.specs.Out.{has_failed}
use Rattle.fixpoint.proofs.Puts.{Appends-front}
use Rattle.fixpoint.proofs.whole_write.put_all.Goals as goal

pub loop-written-preserved : goal.loop-written-preserved
loop-written-preserved g c =
    let before = c.loop-written.invariant in
    let count_within = c.in-Ok.ensures.wrote in
    let sound : (has_failed c.loop-written.out ≡ false) × (has_failed c.put.new.self ≡ false) = c.in-Ok.ensures.ok in
    record {
      within = omega (arith, count_within.1, length-take {A = ℕ}, length-drop {A = ℕ});
      wrote = Appends-front _ _ _ _ _ _ before.wrote c.in-Ok.ensures.bytes;
      failed = sound.1 ∙ sym sound.0 ∙ before.failed;
    }

pub returns-in-Err-clause-front : goal.returns-in-Err-clause-front
returns-in-Err-clause-front g c = search rules

pub returns-clause-all : goal.returns-clause-all
returns-clause-all g c = grind (arith, common_steps)
