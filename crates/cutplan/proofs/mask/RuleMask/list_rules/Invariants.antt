use Rattle.cutplan.proofs.MaskLists.{AreFirstRules}
use Rattle.cutplan.proofs.mask.RuleMask.list_rules.Given as goal

abbrev pub invariant-words : goal.invariant-words
invariant-words l = AreFirstRules l.self l.word l.found.items
