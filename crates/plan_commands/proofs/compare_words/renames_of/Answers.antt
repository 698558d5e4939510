use Rattle.std.proofs.Common.{arith}
use Rattle.std.proofs.lemmas.Grind.{common_steps}
use Rattle.plan_commands.specs.Comparing.{IsRename}
use Rattle.plan_commands.proofs.OptionWords.{no_equals, word_more}
use Rattle.plan_commands.proofs.compare_words.renames_of.Goals as goal

pub returns-in-None-clause-refused : goal.returns-in-None-clause-refused
returns-in-None-clause-refused c = no_equals c.args.words.now c.loop-word.word _ c.loop-word-test.true c.in-None.ensures.none

pub loop-word-preserved : goal.loop-word-preserved
loop-word-preserved c =
    word_more IsRename c.args.words.now c.loop-word.word _ c.loop-word.renames.items c.add.new.items.items
    (record { old = c.in-Some.old; new = c.in-Some.new }) c.loop-word-test.true c.loop-word.invariant c.in-Some.ensures.split c.in_ok-add-in-Some.ensures

pub loop-word-init : goal.loop-word-init
loop-word-init c = grind (arith, common_steps)

pub returns-clause-read : goal.returns-clause-read
returns-clause-read c = grind (arith, common_steps)
