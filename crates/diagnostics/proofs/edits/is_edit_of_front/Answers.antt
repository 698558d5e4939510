use Rattle.std.proofs.Common.{refl}
use Rattle.diagnostics.proofs.OneEdits.{from_other_first, from_without, goes_back, last_front}
use Rattle.diagnostics.proofs.edits.is_edit_of_front.Goals as goal

pub returns-then-is_without_first : goal.returns-then-is_without_first
returns-then-is_without_first c = (λ _. from_without _ _ (c.is_without_first.ensures.0 c.if-is_without_first.true), λ _. refl)

pub returns-then-is_without_first-2 : goal.returns-then-is_without_first-2
returns-then-is_without_first-2 c = (λ _. goes_back _ _ (from_without _ _ (c.is_without_first-2.ensures.0 c.if-is_without_first-2.true)), λ _. refl)

pub returns-then-is_other_first : goal.returns-then-is_other_first
returns-then-is_other_first c = (λ _. from_other_first _ _ c.requires (c.is_other_first.ensures.0 c.if-is_other_first.true), λ _. refl)

pub returns : goal.returns
returns c = last_front _ _ _ _ _ _ c.requires c.is_without_first.ensures c.is_without_first-2.ensures c.is_other_first.ensures c.is_exchanged.ensures
    c.if-is_without_first.false c.if-is_without_first-2.false c.if-is_other_first.false
