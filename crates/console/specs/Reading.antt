-- The part of a text that is read.
use Rattle.std.specs.Prelude.{◌≡◌, ◌+◌, ◌-◌, ◌^◌, ℕ, List, Option, IfSome, map, min, take}
use Rattle.std.specs.Global.{Vec}
use Rattle.std.specs.List.{AllZip}
use denote.Ref.{Bor}

-- one more than the limit, at most the greatest number of 64 bits
abbrev pub one_beyond : ℕ → ℕ
one_beyond limit = min (limit + 1) (2 ^ 64 - 1)

-- the bytes are the text's first ones, at most one more than the limit; this says nothing if the text is not known
abbrev pub IsReadUpTo : ℕ → Option (List ℕ) → List ℕ → Type 0
IsReadUpTo limit whole bytes = IfSome whole (λ text. bytes ≡ take (one_beyond limit) text)

-- each of the texts is read from the text of its name
abbrev pub AreReadUpTo : ℕ → (List ℕ → Option (List ℕ)) → List (List ℕ) → List (List ℕ) → Type 0
AreReadUpTo limit whole names texts = AllZip (λ name bytes. IsReadUpTo limit (whole name) bytes) names texts

-- the bytes of borrowed names
abbrev pub names_of : List (Bor (List ℕ)) → List (List ℕ)
names_of names = map (λ name. name.now) names

-- the bytes of owned texts
abbrev pub texts_in : List (Vec ℕ) → List (List ℕ)
texts_in texts = map (λ text. text.items) texts
