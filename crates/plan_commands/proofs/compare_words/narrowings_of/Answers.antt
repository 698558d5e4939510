use Rattle.std.proofs.Common.{arith}
use Rattle.std.proofs.lemmas.Grind.{common_steps}
use Rattle.std.proofs.lemmas.Result.{err_from_is_err_and}
use Rattle.plan_commands.specs.Comparing.{IsNarrowing}
use Rattle.plan_commands.proofs.OptionWords.{memory_stops, narrowing_stops, word_more}
use Rattle.plan_commands.proofs.compare_words.narrowings_of.Goals as goal

pub returns-in_err-narrowing-clause-refused : goal.returns-in_err-narrowing-clause-refused
returns-in_err-narrowing-clause-refused c =
    let p = err_from_is_err_and c.from_residual.result c.from_residual.ensures.1 in
    rw (p.1, p.2) (narrowing_stops c.args.old.now c.args.new.now c.args.words.now c.loop-word.word _ _ c.loop-word-test.true c.in_err-narrowing.ensures.refused)

pub returns-in_err-add-clause-refused : goal.returns-in_err-add-clause-refused
returns-in_err-add-clause-refused c =
    let p = err_from_is_err_and c.from_residual-in_err-add.result c.from_residual-in_err-add.ensures.1 in
    rw p.1 (memory_stops c.args.old.now c.args.new.now c.args.words.now c.loop-word.word _ c.loop-word-test.true p.2)

pub loop-word-preserved : goal.loop-word-preserved
loop-word-preserved c =
    word_more (IsNarrowing c.args.old.now c.args.new.now) c.args.words.now c.loop-word.word _ c.loop-word.narrowed.items c.add.new.items.items
    c.in_ok-narrowing.narrowing c.loop-word-test.true c.loop-word.invariant c.in_ok-narrowing.ensures.read c.in_ok-add.ensures

pub loop-word-init : goal.loop-word-init
loop-word-init c = grind (arith, common_steps)

pub returns-clause-read : goal.returns-clause-read
returns-clause-read c = grind (arith, common_steps)
