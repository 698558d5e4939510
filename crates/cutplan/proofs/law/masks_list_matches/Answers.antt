use Rattle.cutplan.proofs.MaskRules.{rules_match}
use Rattle.cutplan.proofs.law.masks_list_matches.Goals as goal

pub returns : goal.returns
returns c = rules_match
