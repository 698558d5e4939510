use Rattle.std.proofs.Common.{◌*◌, ◌++◌, get_or, ap, ◌∙◌, arith}
use Rattle.cutplan.specs.Matching.{places_set}
use Rattle.cutplan.proofs.MaskLists.{more_rules, all_rules}
use Rattle.cutplan.proofs.mask.RuleMask.list_rules.Goals as goal

pub words-preserved : goal.words-preserved
words-preserved c =
    more_rules c.args.self.now c.words.found.items c.push_places.new.found.items c.words.word c.words.invariant
    (λ width wide. c.in_ok-push_places.ensures width wide ∙ ap (λ mask. c.words.found.items ++ places_set (get_or mask c.words.word 0) (64 * c.words.word) width) c.self.view_is)

pub returns : goal.returns
returns c = all_rules c.args.self.now c.words.found.items c.words.word c.args.count (omega arith) c.requires.few c.requires.within c.words.invariant
