-- Words that differ by one edit, as misspellings do.
use Rattle.std.specs.Prelude.{◌≡◌, ◌≢◌, ◌<◌, ℕ, List, [], ◌∷◌, ◌++◌, length, drop, slice_index}

-- one edit: a byte is inserted, removed or changed, or two neighbours are swapped
pub data IsEdit : List ℕ → List ℕ → Type 0 where
  more : (byte : ℕ) → IsEdit [] (byte ∷ [])
  less : (byte : ℕ) → IsEdit (byte ∷ []) []
  another : (old new : ℕ) → old ≢ new → IsEdit (old ∷ []) (new ∷ [])
  exchanged : (first second : ℕ) → first ≢ second → IsEdit (first ∷ second ∷ []) (second ∷ first ∷ [])

-- the words are equal but for one edit at one place
pub record IsOneEdit (one other : List ℕ) : Type 0 where
  pub front : List ℕ
  pub back : List ℕ
  pub old : List ℕ
  pub new : List ℕ
  pub edit : IsEdit old new
  pub one_is : one ≡ front ++ (old ++ back)
  pub other_is : other ≡ front ++ (new ++ back)

-- the words have no common first byte
abbrev pub DoNotMeet : List ℕ → List ℕ → Type 0
DoNotMeet one other = (byte : ℕ) (one_rest other_rest : List ℕ) → one ≡ byte ∷ one_rest → other ≢ byte ∷ other_rest

-- the second word is the first one without its first byte
abbrev pub IsWithoutFirst : List ℕ → List ℕ → Type 0
IsWithoutFirst one other = (0 < length one) × (drop 1 one ≡ other)

-- the words are equal after their first bytes
abbrev pub IsOtherFirst : List ℕ → List ℕ → Type 0
IsOtherFirst one other = (0 < length one) × (0 < length other) × (drop 1 one ≡ drop 1 other)

-- the words are equal after their first two bytes, and these are swapped
pub record IsExchanged (one other : List ℕ) : Type 0 where
  pub one_has : 1 < length one
  pub other_has : 1 < length other
  pub first : slice_index one 0 ≡ slice_index other 1
  pub second : slice_index one 1 ≡ slice_index other 0
  pub back : drop 2 one ≡ drop 2 other
