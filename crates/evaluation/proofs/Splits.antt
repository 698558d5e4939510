-- The first `=` of an argument.
use Rattle.std.proofs.Common.{◌≡◌, ◌≢◌, ℕ, ◌<◌, List, ◌∷◌, ◌++◌, length, get_or, Option, Some, None, Contains, MatchOption, IfSome, ◌∙◌}
use Rattle.std.specs.Borrow.{Bor}
use Rattle.std.specs.Option.{IfNone}
use Rattle.std.proofs.lemmas.List.{get_or_default}
use Rattle.evaluation.specs.Arguments.{equals_sign, IsSplit}

-- a byte at no index is not contained
pub not_contained : (byte : ℕ) (bytes : List ℕ) → ((i : ℕ) → i < length bytes → get_or bytes i 0 ≢ byte) → ¬ Contains bytes byte
not_contained byte bytes absent there = absent there.0 there.1 (get_or_default bytes there.0 0 byte there.1 ∙ there.2)

-- the parts on both sides of a text's first `=`, if it has one
abbrev pub SplitsInParts : List ℕ → Option (Bor (List ℕ) × Bor (List ℕ)) → Type 0
SplitsInParts bytes parts =
    MatchOption parts ((i : ℕ) → i < length bytes → get_or bytes i 0 ≢ equals_sign)
    (λ x. (bytes ≡ x.0.now ++ (equals_sign ∷ x.1.now)) × ((i : ℕ) → i < length x.0.now → get_or x.0.now i 0 ≢ equals_sign))

pub IsSplit-from_parts : (bytes : List ℕ) (parts : Option (Bor (List ℕ) × Bor (List ℕ))) → SplitsInParts bytes parts → IfSome parts (λ x. IsSplit bytes x.0.now x.1.now)
IsSplit-from_parts bytes None reported = tt
IsSplit-from_parts bytes (Some x) reported = record { joined = reported.0; first = not_contained equals_sign x.0.now reported.1 }

pub no_split : (bytes : List ℕ) (parts : Option (Bor (List ℕ) × Bor (List ℕ))) → SplitsInParts bytes parts → IfNone parts (¬ Contains bytes equals_sign)
no_split bytes None reported = not_contained equals_sign bytes reported
no_split bytes (Some x) reported = tt
