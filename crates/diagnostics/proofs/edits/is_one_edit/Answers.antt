use Rattle.diagnostics.proofs.OneEdits.{after_common}
use Rattle.diagnostics.proofs.edits.is_one_edit.Goals as goal

pub returns : goal.returns
returns c = after_common _ _ _ _ c.common_length-front.ensures.alike c.common_length-front.ensures.within_one c.common_length-front.ensures.within_other c.is_edit_of_front.ensures
