-- The records of a file's text by their numbers, and the fields of a record.
use Rattle.std.proofs.Common.{◌≡◌, ◌+◌, ◌-◌, ◌<◌, ◌≤◌, ℕ, zero, suc, Bor, List, [], ◌∷◌, drop, get_or, length, None, refl, sym, ap, ◌∙◌, arith}
use Rattle.std.proofs.lemmas.List.{get_or-drop}
use Rattle.csv.specs.Records.{field_at}
use Rattle.intake_csv.specs.Records.{Fields}
use Rattle.claim_gate.specs.Terms.{texts_of}

-- the first of the records that are left has the number of those before it
pub record_found : (all : List Fields) (earlier number : ℕ) (fields : Fields) (rest : List Fields) → drop earlier all ≡ fields ∷ rest → earlier ≡ number
    → fields ≡ get_or all number []
record_found all earlier number fields rest left same =
    let sum : earlier + 0 ≡ number = omega (arith, same) in
    sym (ap (λ rs. get_or rs 0 []) left) ∙ get_or-drop earlier all 0 [] ∙ ap (λ n. get_or all n []) sum

-- no record has a number past the last one
pub no_record : (all : List Fields) (earlier number : ℕ) → drop earlier all ≡ [] → earlier ≤ number → get_or all number [] ≡ []
no_record all earlier number left past =
    let sum : earlier + (number - earlier) ≡ number = omega (arith, past) in
    sym (ap (λ n. get_or all n []) sum) ∙ sym (get_or-drop earlier all (number - earlier) []) ∙ ap (λ rs. get_or rs (number - earlier) []) left

-- the record has no field there
pub field_missing : (fields : Fields) (place : ℕ) → field_at fields place ≡ None → get_or fields place [] ≡ []
unfolding field_at
field_missing [] place none = refl
field_missing (field ∷ fields) zero none = absurd (cc none)
field_missing (field ∷ fields) (suc place) none = field_missing fields place none

-- the text that a reference in the list refers to
pub text_at : (files : List (Bor (List ℕ))) (place : ℕ) (other : Bor (List ℕ)) → place < length files → (get_or files place other).now ≡ get_or (texts_of files) place []
text_at [] place other within = absurd (omega (arith, within))
text_at (file ∷ files) zero other within = refl
text_at (file ∷ files) (suc place) other within = text_at files place other (omega (arith, within))
