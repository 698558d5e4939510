-- The first word of a text: the reader splits off a word, and the text begins with only one.
use Rattle.std.proofs.Common.{◌≡◌, ℕ, ◌<◌, ◌≤◌, List, [], ◌++◌, length, take, drop, Some, None, refl, sym, ap, subst, ◌∙◌, arith, Bool, true, false, cond, eqb, append_assoc, get_or, ◌≢◌, ◌+◌, ◌∷◌}
use Rattle.std.specs.Prelude.{find, nat_eq}
use Rattle.std.specs.List.{starts_with}
use Rattle.std.proofs.lemmas.List.{take_at, drop_at, take-append-drop, length-take, length-append}
use Rattle.std.specs.Char.{digit_value}
use Rattle.std.specs.Fmt.{sign_text}
use Rattle.std.specs.Str.Parse.{AllDigits}
use Rattle.std.proofs.lemmas.Str.Parse.{digit_from_value}
use Rattle.std.proofs.lemmas.Bool.Decides.{nat_tests}
use Rattle.fixpoint.specs.NumberText.{IsNumberText, dot_text}
use Rattle.feel_tests.specs.Words.{Word, Sign, Digits, Quoted, Name, Spells, Begins, IsName, is_name_start, escaped, quote_text, skip_white, symbol_text}
use Rattle.feel_tests.specs.Symbols.{symbols}
use Rattle.feel_tests.specs.Fronts.{number_len, name_len}
use Rattle.feel_tests.specs.declared.symbol.Symbol.{Symbol}
use Rattle.feel_tests.specs.declared.symbol.Symbol.TheVariants.{Less, AtMost, More, AtLeast, OpenRound, CloseRound, OpenSquare, CloseSquare, Dots, Comma, Dash}
use Rattle.feel_tests.proofs.NameFront.{name_most, name_is, name_some}
use Rattle.feel_tests.proofs.QuoteFront.{escaped_one}
use Rattle.feel_tests.proofs.NumberFront.{number_most, number_is, number_some}
use Rattle.feel_tests.proofs.SymbolFront.{symbol_found, symbol_longest, symbol_none, symbol_one, some_bytes}

-- at one position, a symbol is not longer than a number
sign_shorter : (s : Symbol) (after : List ℕ) → 0 < number_len (symbol_text s ++ after) → length (symbol_text s) ≤ number_len (symbol_text s ++ after)
sign_shorter Less after h = h
sign_shorter AtMost after h = absurd (omega (arith, h))
sign_shorter More after h = h
sign_shorter AtLeast after h = absurd (omega (arith, h))
sign_shorter OpenRound after h = h
sign_shorter CloseRound after h = h
sign_shorter OpenSquare after h = h
sign_shorter CloseSquare after h = h
sign_shorter Dots after h = absurd (omega (arith, h))
sign_shorter Comma after h = h
sign_shorter Dash after h = omega (arith, h)

-- a symbol is not a number
sign_no_number : (s : Symbol) → number_len (symbol_text s ++ []) ≡ 0
sign_no_number Less = refl
sign_no_number AtMost = refl
sign_no_number More = refl
sign_no_number AtLeast = refl
sign_no_number OpenRound = refl
sign_no_number CloseRound = refl
sign_no_number OpenSquare = refl
sign_no_number CloseSquare = refl
sign_no_number Dots = refl
sign_no_number Comma = refl
sign_no_number Dash = refl

-- the class of a word by its first byte: a quote, the start of a name, or neither
abbrev pub first_class : List ℕ → ℕ
first_class [] = 0
first_class (b ∷ bs) = cond (eqb b 34) 1 (cond (is_name_start b) 2 0)

abbrev pub class_of : Word → ℕ
class_of (Sign symbol) = 0
class_of (Digits digits) = 0
class_of (Quoted text) = 1
class_of (Name letters) = 2

sign_class : (s : Symbol) (after : List ℕ) → first_class (symbol_text s ++ after) ≡ 0
sign_class Less after = refl
sign_class AtMost after = refl
sign_class More after = refl
sign_class AtLeast after = refl
sign_class OpenRound after = refl
sign_class CloseRound after = refl
sign_class OpenSquare after = refl
sign_class CloseSquare after = refl
sign_class Dots after = refl
sign_class Comma after = refl
sign_class Dash after = refl

digit_class_byte : (w : ℕ) (bs : List ℕ) → digit_value w < 10 → first_class (w ∷ bs) ≡ 0
digit_class_byte w bs h =
    let range = digit_from_value w h in
    let low : 48 ≤ w = range.0 in
    let high : w ≤ 57 = range.1 in
    let q : eqb w 34 ≡ false = grind (arith, nat_tests) in
    let n : is_name_start w ≡ false = grind (arith, nat_tests) in
    rw (q, n) refl

digit_class_at : (negative : Bool) (whole fraction after : List ℕ) → AllDigits 10 whole → 0 < length whole + length fraction → first_class ((sign_text negative ++ (whole ++ dot_text fraction)) ++ after) ≡ 0
digit_class_at true whole fraction after h some = refl
digit_class_at false [] [] after h some = absurd (omega arith)
digit_class_at false [] (d ∷ ds) after h some = refl
digit_class_at false (w ∷ ws) fraction after h some = digit_class_byte w ((ws ++ dot_text fraction) ++ after) h.0

digit_class : (front after : List ℕ) → IsNumberText front → first_class (front ++ after) ≡ 0
digit_class front after h = subst (λ (f : List ℕ). first_class (f ++ after) ≡ 0) (sym h.spelled) (digit_class_at h.negative h.whole h.fraction after h.whole_digits h.has_digit)

name_no_quote : (b : ℕ) → is_name_start b ≡ true → eqb b 34 ≡ false
name_no_quote b e = grind (arith, nat_tests)

name_class : (front after : List ℕ) → IsName front → first_class (front ++ after) ≡ 2
name_class [] after h = absurd h
name_class (b ∷ bs) after h = let start : is_name_start b ≡ true = h.0 in rw (name_no_quote b start, start) refl

class_front : (front after : List ℕ) (word : Word) → Spells front word → first_class (front ++ after) ≡ class_of word
class_front front after (Sign symbol) e = rw e (sign_class symbol after)
class_front front after (Digits digits) e = digit_class front after e.1
class_front front after (Quoted text) e = rw e refl
class_front front after (Name letters) e = name_class front after e.1

-- words at one position have the same class
same_class : (bytes front rest : List ℕ) (word : Word) (other after : List ℕ) (longer : Word) → bytes ≡ front ++ rest → Spells front word → bytes ≡ other ++ after → Spells other longer → class_of word ≡ class_of longer
same_class bytes front rest word other after longer e spelled f also =
    sym (class_front front rest word spelled) ∙ ap first_class (sym e ∙ f) ∙ class_front other after longer also

no_number_class : (bytes other after : List ℕ) (longer : Word) → 0 < number_len bytes → bytes ≡ other ++ after → Spells other longer → 0 < class_of longer → ⊥
no_number_class bytes other after longer some e spelled more =
    let joined : bytes ≡ take (number_len bytes) bytes ++ drop (number_len bytes) bytes = sym (take-append-drop (number_len bytes) bytes) in
    let same : 0 ≡ class_of longer = same_class bytes (take (number_len bytes) bytes) (drop (number_len bytes) bytes) (Digits (take (number_len bytes) bytes)) other after longer joined (refl, number_is bytes some) e spelled in
    omega (arith, same, more)

over_number : (bytes other after : List ℕ) (longer : Word) → 0 < number_len bytes → bytes ≡ other ++ after → Spells other longer → length other ≤ number_len bytes
over_number bytes other after (Digits digits) some e spelled = rw e (number_most other after spelled.1)
over_number bytes other after (Sign symbol) some e spelled =
    let joined : bytes ≡ symbol_text symbol ++ after = e ∙ ap (λ (o : List ℕ). o ++ after) spelled in
    rw (joined, spelled) (sign_shorter symbol after (subst (λ (b : List ℕ). 0 < number_len b) joined some))
over_number bytes other after (Quoted text) some e spelled = absurd (no_number_class bytes other after (Quoted text) some e spelled (omega arith))
over_number bytes other after (Name letters) some e spelled = absurd (no_number_class bytes other after (Name letters) some e spelled (omega arith))

pub begins_number : (text bytes : List ℕ) → bytes ≡ skip_white text → 0 < number_len bytes → number_len bytes ≤ length bytes → Begins text (Digits (take (number_len bytes) bytes)) (drop (number_len bytes) bytes)
begins_number text bytes skipped some within =
    let len : length (take (number_len bytes) bytes) ≡ number_len bytes = omega (arith, length-take (number_len bytes) bytes) in
    record {
      front = take (number_len bytes) bytes;
      joined = sym skipped ∙ sym (take-append-drop (number_len bytes) bytes);
      spelled = (refl, number_is bytes some);
      longest = λ other after longer e spelled. rw len (over_number bytes other after longer some (skipped ∙ e) spelled);
    }

over_sign : (bytes : List ℕ) (symbol : Symbol) (other after : List ℕ) (longer : Word) → number_len bytes ≡ 0 → find (λ s. starts_with nat_eq bytes (symbol_text s)) symbols ≡ Some symbol → bytes ≡ other ++ after → Spells other longer → length other ≤ length (symbol_text symbol)
over_sign bytes symbol other after (Digits digits) none found e spelled =
    let most : length other ≤ number_len bytes = rw e (number_most other after spelled.1) in
    omega (arith, most, none)
over_sign bytes symbol other after (Sign s) none found e spelled =
    rw spelled (symbol_longest bytes symbol found s after (e ∙ ap (λ (o : List ℕ). o ++ after) spelled))
over_sign bytes symbol other after (Quoted text) none found e spelled =
    let same : 0 ≡ 1 = same_class bytes (symbol_text symbol) (drop (length (symbol_text symbol)) bytes) (Sign symbol) other after (Quoted text) (symbol_found bytes symbol found) refl e spelled in
    absurd (omega (arith, same))
over_sign bytes symbol other after (Name letters) none found e spelled =
    let same : 0 ≡ 2 = same_class bytes (symbol_text symbol) (drop (length (symbol_text symbol)) bytes) (Sign symbol) other after (Name letters) (symbol_found bytes symbol found) refl e spelled in
    absurd (omega (arith, same))

pub begins_sign : (text bytes : List ℕ) (symbol : Symbol) → bytes ≡ skip_white text → number_len bytes ≡ 0 → find (λ s. starts_with nat_eq bytes (symbol_text s)) symbols ≡ Some symbol → Begins text (Sign symbol) (drop (length (symbol_text symbol)) bytes)
begins_sign text bytes symbol skipped none found = record {
  front = symbol_text symbol;
  joined = sym skipped ∙ symbol_found bytes symbol found;
  spelled = refl;
  longest = λ other after longer e spelled. over_sign bytes symbol other after longer none found (skipped ∙ e) spelled;
}

-- ---- names and strings

no_name_class : (bytes other after : List ℕ) (longer : Word) → 0 < name_len bytes → bytes ≡ other ++ after → Spells other longer → class_of longer < 2 → ⊥
no_name_class bytes other after longer some e spelled less =
    let joined : bytes ≡ take (name_len bytes) bytes ++ drop (name_len bytes) bytes = sym (take-append-drop (name_len bytes) bytes) in
    let same : 2 ≡ class_of longer = same_class bytes (take (name_len bytes) bytes) (drop (name_len bytes) bytes) (Name (take (name_len bytes) bytes)) other after longer joined (refl, name_is bytes some) e spelled in
    omega (arith, same, less)

over_name : (bytes other after : List ℕ) (longer : Word) → 0 < name_len bytes → bytes ≡ other ++ after → Spells other longer → length other ≤ name_len bytes
over_name bytes other after (Name letters) some e spelled = rw e (name_most other after spelled.1)
over_name bytes other after (Sign symbol) some e spelled = absurd (no_name_class bytes other after (Sign symbol) some e spelled (omega arith))
over_name bytes other after (Digits digits) some e spelled = absurd (no_name_class bytes other after (Digits digits) some e spelled (omega arith))
over_name bytes other after (Quoted text) some e spelled = absurd (no_name_class bytes other after (Quoted text) some e spelled (omega arith))

pub begins_name : (text bytes : List ℕ) → bytes ≡ skip_white text → 0 < name_len bytes → name_len bytes ≤ length bytes → Begins text (Name (take (name_len bytes) bytes)) (drop (name_len bytes) bytes)
begins_name text bytes skipped some within =
    let len : length (take (name_len bytes) bytes) ≡ name_len bytes = omega (arith, length-take (name_len bytes) bytes) in
    record {
      front = take (name_len bytes) bytes;
      joined = sym skipped ∙ sym (take-append-drop (name_len bytes) bytes);
      spelled = (refl, name_is bytes some);
      longest = λ other after longer e spelled. rw len (over_name bytes other after longer some (skipped ∙ e) spelled);
    }

-- the bytes of a string, and the text after it
string_joined : (text rest : List ℕ) → quote_text text ++ rest ≡ 34 ∷ (escaped text ++ 34 ∷ rest)
string_joined text rest = ap (λ (t : List ℕ). 34 ∷ t) (append_assoc (escaped text) (34 ∷ []) rest)

tail_is : (a b : ℕ) (xs ys : List ℕ) → a ∷ xs ≡ b ∷ ys → xs ≡ ys
tail_is a b xs ys e = cc

no_string_class : (inside other after : List ℕ) (longer : Word) → 34 ∷ inside ≡ other ++ after → Spells other longer → class_of longer ≢ 1 → ⊥
no_string_class inside other after longer e spelled apart =
    let same : 1 ≡ class_of longer = ap first_class e ∙ class_front other after longer spelled in
    apart (sym same)

over_string : (inside bytes rest other after : List ℕ) (longer : Word) → inside ≡ escaped bytes ++ 34 ∷ rest → 34 ∷ inside ≡ other ++ after → Spells other longer → length other ≤ length (quote_text bytes)
over_string inside bytes rest other after (Quoted text) is e spelled =
    let there : 34 ∷ inside ≡ 34 ∷ (escaped text ++ 34 ∷ after) = e ∙ ap (λ (o : List ℕ). o ++ after) spelled ∙ string_joined text after in
    let one = (escaped_one bytes text rest after (sym is ∙ tail_is 34 34 inside (escaped text ++ 34 ∷ after) there)).0 in
    let len : length (quote_text text) ≡ length (quote_text bytes) = ap (λ (t : List ℕ). length (quote_text t)) (sym one) in
    rw spelled (omega (arith, len))
over_string inside bytes rest other after (Sign symbol) is e spelled = absurd (no_string_class inside other after (Sign symbol) e spelled (omega arith))
over_string inside bytes rest other after (Digits digits) is e spelled = absurd (no_string_class inside other after (Digits digits) e spelled (omega arith))
over_string inside bytes rest other after (Name letters) is e spelled = absurd (no_string_class inside other after (Name letters) e spelled (omega arith))

pub begins_quoted : (text inside bytes rest : List ℕ) → skip_white text ≡ 34 ∷ inside → inside ≡ escaped bytes ++ 34 ∷ rest → Begins text (Quoted bytes) rest
begins_quoted text inside bytes rest skipped is = record {
  front = quote_text bytes;
  joined = skipped ∙ ap (λ (t : List ℕ). 34 ∷ t) is ∙ sym (string_joined bytes rest);
  spelled = refl;
  longest = λ other after longer e spelled. over_string inside bytes rest other after longer is (sym skipped ∙ e) spelled;
}

-- after a quote, only a string is possible
pub quoted_inside : (text inside bytes rest : List ℕ) → skip_white text ≡ 34 ∷ inside → Begins text (Quoted bytes) rest → inside ≡ escaped bytes ++ 34 ∷ rest
quoted_inside text inside bytes rest skipped b =
    tail_is 34 34 inside (escaped bytes ++ 34 ∷ rest) (sym skipped ∙ b.joined ∙ ap (λ (o : List ℕ). o ++ rest) b.spelled ∙ string_joined bytes rest)

pub quote_class : (text inside : List ℕ) (word : Word) (rest : List ℕ) → skip_white text ≡ 34 ∷ inside → Begins text word rest → class_of word ≡ 1
quote_class text inside word rest skipped b = sym (class_front b.front rest word b.spelled) ∙ ap first_class (sym b.joined ∙ skipped)

pub not_quote : (bytes : List ℕ) (inside : List ℕ) → get_or bytes 0 0 ≢ 34 → bytes ≡ 34 ∷ inside → ⊥
not_quote bytes inside apart e = apart (ap (λ (b : List ℕ). get_or b 0 0) e)

pub word_no_quote : (text : List ℕ) (word : Word) (rest inside : List ℕ) → class_of word ≢ 1 → Begins text word rest → skip_white text ≡ 34 ∷ inside → ⊥
word_no_quote text word rest inside apart b skipped = apart (quote_class text inside word rest skipped b)

-- ---- no word

begins_none_at : (bytes front : List ℕ) (word : Word) (rest : List ℕ) → ((inside : List ℕ) → ¬ (bytes ≡ 34 ∷ inside)) → name_len bytes ≡ 0 → number_len bytes ≡ 0 → find (λ s. starts_with nat_eq bytes (symbol_text s)) symbols ≡ None → bytes ≡ front ++ rest → Spells front word → ⊥
begins_none_at bytes front (Digits digits) rest quote name none found e spelled =
    let most : length front ≤ number_len bytes = rw e (number_most front rest spelled.1) in
    omega (arith, most, none, number_some front spelled.1)
begins_none_at bytes front (Sign s) rest quote name none found e spelled =
    symbol_none bytes found s rest (e ∙ ap (λ (o : List ℕ). o ++ rest) spelled)
begins_none_at bytes front (Quoted text) rest quote name none found e spelled =
    quote (escaped text ++ 34 ∷ rest) (e ∙ ap (λ (o : List ℕ). o ++ rest) spelled ∙ string_joined text rest)
begins_none_at bytes front (Name letters) rest quote name none found e spelled =
    let most : length front ≤ name_len bytes = rw e (name_most front rest spelled.1) in
    omega (arith, most, name, name_some front spelled.1)

pub begins_none : (text bytes : List ℕ) → bytes ≡ skip_white text → ((inside : List ℕ) → ¬ (bytes ≡ 34 ∷ inside)) → name_len bytes ≡ 0 → number_len bytes ≡ 0 → find (λ s. starts_with nat_eq bytes (symbol_text s)) symbols ≡ None → (word : Word) (rest : List ℕ) → Begins text word rest → ⊥
begins_none text bytes skipped quote name none found word rest b = begins_none_at bytes b.front word rest quote name none found (skipped ∙ b.joined) b.spelled

-- ---- one word

sign_digits : (front : List ℕ) (s : Symbol) → front ≡ symbol_text s → IsNumberText front → ⊥
sign_digits front s e h =
    let most : length front ≤ number_len (front ++ []) = number_most front [] h in
    let is : number_len (front ++ []) ≡ 0 = rw e (sign_no_number s) in
    omega (arith, most, is, number_some front h)

same_word : (front : List ℕ) (one other : Word) → Spells front one → Spells front other → one ≡ other
same_word front (Sign s) (Sign t) e f = ap Sign (symbol_one s t (sym e ∙ f))
same_word front (Sign s) (Digits d) e f = absurd (sign_digits front s e f.1)
same_word front (Digits d) (Sign s) e f = absurd (sign_digits front s f e.1)
same_word front (Digits c) (Digits d) e f = ap Digits (sym e.0 ∙ f.0)
same_word front (Quoted t) (Quoted u) e f =
    ap Quoted (escaped_one t u [] [] (tail_is 34 34 (escaped t ++ 34 ∷ []) (escaped u ++ 34 ∷ []) (sym e ∙ f))).0
same_word front (Name a) (Name b) e f = ap Name (sym e.0 ∙ f.0)
same_word front one other e f =
    let same : class_of one ≡ class_of other = same_class (front ++ []) front [] one front [] other refl e refl f in
    absurd (omega (arith, same))

-- a text begins with at most one word
pub begins_one : (text : List ℕ) (one : Word) (after : List ℕ) (other : Word) (following : List ℕ) → Begins text one after → Begins text other following → (one ≡ other) × (after ≡ following)
begins_one text one after other following b c =
    let less : length b.front ≤ length c.front = c.longest b.front after one b.joined b.spelled in
    let more : length c.front ≤ length b.front = b.longest c.front following other c.joined c.spelled in
    let len : length b.front ≡ length c.front = omega (arith, less, more) in
    let fronts : b.front ≡ c.front = sym (take_at b.front after (length c.front) len) ∙ ap (λ (t : List ℕ). take (length c.front) t) (sym b.joined ∙ c.joined) ∙ take_at c.front following (length c.front) refl in
    let rests : after ≡ following = sym (drop_at b.front after (length c.front) len) ∙ ap (λ (t : List ℕ). drop (length c.front) t) (sym b.joined ∙ c.joined) ∙ drop_at c.front following (length c.front) refl in
    (same_word b.front one other b.spelled (subst (λ (f : List ℕ). Spells f other) (sym fronts) c.spelled), rests)

-- a word is not empty
some_front : (front : List ℕ) (word : Word) → Spells front word → 0 < length front
some_front front (Digits digits) spelled = number_some front spelled.1
some_front front (Sign symbol) spelled = rw spelled (some_bytes symbol)
some_front front (Quoted text) spelled = rw spelled (omega arith)
some_front front (Name letters) spelled = name_some front spelled.1

pub blank_no_front : (front rest : List ℕ) (word : Word) → front ++ rest ≡ [] → Spells front word → ⊥
blank_no_front front rest word e spelled =
    let len : length (front ++ rest) ≡ 0 = ap length e in
    omega (arith, len, length-append front rest, some_front front word spelled)
