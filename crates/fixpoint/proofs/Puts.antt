-- What a writer has taken after one more piece of a text.
use Rattle.std.proofs.Common.{◌≡◌, ℕ, ◌+◌, ◌-◌, ◌++◌, List, length, take, drop, Option, sym, ap, subst, ◌∙◌}
use Rattle.std.specs.Io.KnownBytes.{Appends}
use Rattle.std.proofs.KnownBytes.{Appends-trans}
use Rattle.std.proofs.Math.Seq.{take-add}
use Rattle.std.proofs.lemmas.List.{take_rest}

-- the first n bytes of a text, followed by the first m of the rest, are the first n + m bytes of
-- the text
pub Appends-front : (text : List ℕ) (written count : ℕ) (a b c : Option (List ℕ)) → Appends a b (take written text)
    → Appends b c (take count (take (length text - written) (drop written text))) → Appends a c (take (written + count) text)
Appends-front text written count a b c before now =
    let joined : take (written + count) text ≡ take written text ++ take count (take (length text - written) (drop written text)) =
    take-add written count text ∙ ap (λ rest. take written text ++ take count rest) (sym (take_rest text written)) in
    subst (Appends a c) (sym joined) (Appends-trans a b c _ _ before now)
