-- Two words of the same sort at one position are equal, and so is the text after them.
use Rattle.std.proofs.Common.{◌≡◌, ℕ, List}
use Rattle.feel_tests.specs.Words.{Sign, Digits, Quoted, Name, Begins}
use Rattle.feel_tests.specs.declared.symbol.Symbol.{Symbol}
use Rattle.feel_tests.proofs.FirstWord.{begins_one}

sign_is : (s t : Symbol) → Sign s ≡ Sign t → s ≡ t
sign_is s t e = cc

digits_is : (s t : List ℕ) → Digits s ≡ Digits t → s ≡ t
digits_is s t e = cc

quoted_is : (s t : List ℕ) → Quoted s ≡ Quoted t → s ≡ t
quoted_is s t e = cc

name_is : (s t : List ℕ) → Name s ≡ Name t → s ≡ t
name_is s t e = cc

-- the first symbol and the text after it are unique
pub one_sign : (text : List ℕ) (s : Symbol) (after : List ℕ) (t : Symbol) (following : List ℕ) → Begins text (Sign s) after → Begins text (Sign t) following → (s ≡ t) × (after ≡ following)
one_sign text s after t following b c = let one = begins_one text (Sign s) after (Sign t) following b c in (sign_is s t one.0, one.1)

-- the first number and the text after it are unique
pub one_number : (text digits after others following : List ℕ) → Begins text (Digits digits) after → Begins text (Digits others) following → (digits ≡ others) × (after ≡ following)
one_number text digits after others following b c = let one = begins_one text (Digits digits) after (Digits others) following b c in (digits_is digits others one.0, one.1)

-- the first string and the text after it are unique
pub one_string : (text bytes after others following : List ℕ) → Begins text (Quoted bytes) after → Begins text (Quoted others) following → (bytes ≡ others) × (after ≡ following)
one_string text bytes after others following b c = let one = begins_one text (Quoted bytes) after (Quoted others) following b c in (quoted_is bytes others one.0, one.1)

-- the first name and the text after it are unique
pub one_name : (text letters after others following : List ℕ) → Begins text (Name letters) after → Begins text (Name others) following → (letters ≡ others) × (after ≡ following)
one_name text letters after others following b c = let one = begins_one text (Name letters) after (Name others) following b c in (name_is letters others one.0, one.1)

-- a symbol is not a number
pub sign_number : (text : List ℕ) (s : Symbol) (after digits following : List ℕ) → Begins text (Sign s) after → Begins text (Digits digits) following → ⊥
sign_number text s after digits following b c = let one : Sign s ≡ Digits digits = (begins_one text (Sign s) after (Digits digits) following b c).0 in cc

-- a symbol is not a string
pub sign_string : (text : List ℕ) (s : Symbol) (after bytes following : List ℕ) → Begins text (Sign s) after → Begins text (Quoted bytes) following → ⊥
sign_string text s after bytes following b c = let one : Sign s ≡ Quoted bytes = (begins_one text (Sign s) after (Quoted bytes) following b c).0 in cc

-- a symbol is not a name
pub sign_name : (text : List ℕ) (s : Symbol) (after letters following : List ℕ) → Begins text (Sign s) after → Begins text (Name letters) following → ⊥
sign_name text s after letters following b c = let one : Sign s ≡ Name letters = (begins_one text (Sign s) after (Name letters) following b c).0 in cc

-- a number is not a string
pub number_string : (text digits after bytes following : List ℕ) → Begins text (Digits digits) after → Begins text (Quoted bytes) following → ⊥
number_string text digits after bytes following b c = let one : Digits digits ≡ Quoted bytes = (begins_one text (Digits digits) after (Quoted bytes) following b c).0 in cc

-- a number is not a name
pub number_name : (text digits after letters following : List ℕ) → Begins text (Digits digits) after → Begins text (Name letters) following → ⊥
number_name text digits after letters following b c = let one : Digits digits ≡ Name letters = (begins_one text (Digits digits) after (Name letters) following b c).0 in cc

-- a string is not a name
pub string_name : (text bytes after letters following : List ℕ) → Begins text (Quoted bytes) after → Begins text (Name letters) following → ⊥
string_name text bytes after letters following b c = let one : Quoted bytes ≡ Name letters = (begins_one text (Quoted bytes) after (Name letters) following b c).0 in cc
