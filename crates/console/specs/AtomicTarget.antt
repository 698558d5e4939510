-- The text of a place before and after a replacement.
use Rattle.std.specs.Prelude.{◌≡◌, ℕ, List, [], Option, ⊤, None, Some}

-- the new text is empty; this says nothing if the place's text is not known
abbrev pub BeginsEmpty : Option (List ℕ) → Option (List ℕ) → Type 0
BeginsEmpty None written = ⊤
BeginsEmpty (Some current) written = written ≡ Some []

-- the place has the written text; this says nothing if its old text was not known
abbrev pub Becomes : Option (List ℕ) → Option (List ℕ) → Option (List ℕ) → Type 0
Becomes None new written = ⊤
Becomes (Some current) new written = new ≡ written
