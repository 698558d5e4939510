-- The text of no remarks and of one remark.
use Rattle.std.proofs.Common.{◌≡◌, ◌∙◌, ℕ, Some, None, List, [], ◌∷◌, length, slice_get, refl, append-nil}
use Rattle.remit_records.specs.FieldTexts.{remarks_text}

pub none_joined : (remarks : List (List ℕ)) → slice_get remarks 0 ≡ None → remarks_text remarks ≡ []
none_joined [] none = refl
none_joined (remark ∷ remarks) none = absurd (cc none)

pub one_joined : (remarks : List (List ℕ)) (only : List ℕ) → slice_get remarks 0 ≡ Some only → length remarks ≡ 1 → remarks_text remarks ≡ only
one_joined [] only first one = absurd (cc first)
one_joined (remark ∷ []) only first one =
    let same : remark ≡ only = cc first in
    append-nil remark ∙ same
one_joined (remark ∷ other ∷ remarks) only first one = absurd (cc one)
