-- If a part of a test cannot be read, the text does not begin with a test.
use Rattle.std.proofs.Common.{◌≡◌, ℕ, ◌<◌, ℤ, Bool, true, false, List, ◌∷◌, length, Some, None, refl, sym, ap, subst, ◌∙◌, arith}
use Rattle.std.specs.Prelude.{codes}
use Rattle.fixpoint.specs.NumberText.{Denotes}
use Rattle.feel_tests.specs.Words.{Word, Sign, Digits, Quoted, Name, Begins, IsBlank, skip_white}
use Rattle.feel_tests.specs.TextBytes.{IsText}
use Rattle.feel_tests.specs.Calendar.{IsDateText}
use Rattle.feel_tests.specs.Value.{flag_text}
use Rattle.feel_tests.specs.Grammar.{date_word, op_symbol, start_in, end_in, HasOrder, IsDate, IsLiteral, IsSpan, IsTest}
use Rattle.feel_tests.specs.Symbols.{op_of}
use Rattle.feel_tests.specs.Parts.{DeniesPart, IsStart, IsEnd, IsSpanTest}
use Rattle.feel_tests.specs.Cell.{SpellsValue}
use Rattle.feel_tests.specs.declared.symbol.Symbol.{Symbol}
use Rattle.feel_tests.specs.declared.symbol.Symbol.TheVariants as symbols
use Rattle.feel_tests.specs.declared.refusal.Refusal.{Refusal}
use Rattle.feel_tests.specs.declared.kind.Kind.{Kind}
use Rattle.feel_tests.specs.declared.kind.Kind.TheVariants as kinds
use Rattle.feel_tests.specs.declared.value.Value.{Value}
use Rattle.feel_tests.specs.declared.value.Value.TheVariants.{Number, Text, Flag, Day}
use Rattle.feel_tests.specs.declared.cell.Op.{Op}
use Rattle.feel_tests.specs.declared.cell.Op.TheVariants.{Less, AtMost, More, AtLeast}
use Rattle.feel_tests.specs.declared.cell.Test.{Test}
use Rattle.feel_tests.specs.declared.cell.Test.TheVariants.{Equal, Compare, Between}
use Rattle.feel_tests.proofs.FirstWord.{word_no_quote}
use Rattle.feel_tests.proofs.OneWord.{one_sign, one_number, one_string, one_name, number_name, string_name}
use Rattle.feel_tests.proofs.OneTest.{word_tag, kind_with, literal_first, literal_tag, literal_kind, literal_no_sign, literal_rest, no_bracket}

some_is : {X : Type 0} (x y : X) → Some x ≡ Some y → x ≡ y
some_is x y e = cc

-- ---- literals

pub number_denied : (kind : Kind) (text digits after : List ℕ) → Begins text (Digits digits) after → ((units : ℤ) → ¬ Denotes digits units) → (value : Value) (rest : List ℕ) → IsLiteral kind text value rest → ⊥
number_denied kind text digits after b none (Number units) rest h =
    none units (subst (λ (d : List ℕ). Denotes d units) (one_number text h.1 rest digits after h.2 b).0 h.3)
number_denied kind text digits after b none value rest h = omega (arith, literal_tag kind text value rest (Digits digits) after b h)

-- the text does not begin with a literal if the literal is of another kind
pub kind_denied : (kind : Kind) (text : List ℕ) (word : Word) (after : List ℕ) → Begins text word after → (kind ≡ kind_with (word_tag word) → ⊥) → (value : Value) (rest : List ℕ) → IsLiteral kind text value rest → ⊥
kind_denied kind text word after b wrong value rest h = wrong (literal_kind kind text value rest word after b h)

flag_kind : (flag : Bool) → kind_with (word_tag (Name (flag_text flag))) ≡ kinds.Flag
flag_kind true = refl
flag_kind false = refl

pub flag_denied : (kind : Kind) (text : List ℕ) (flag : Bool) (after : List ℕ) → Begins text (Name (flag_text flag)) after → (kind ≡ kinds.Flag → ⊥) → (value : Value) (rest : List ℕ) → IsLiteral kind text value rest → ⊥
flag_denied kind text flag after b wrong = kind_denied kind text (Name (flag_text flag)) after b (λ e. wrong (e ∙ flag_kind flag))

pub literal_nothing : (kind : Kind) (text : List ℕ) → ((word : Word) (after : List ℕ) → ¬ Begins text word after) → (value : Value) (rest : List ℕ) → IsLiteral kind text value rest → ⊥
literal_nothing kind text none value rest h = let first = literal_first kind text value rest h in none first.word first.after first.begins

pub text_denied : (kind : Kind) (text bytes after : List ℕ) → Begins text (Quoted bytes) after → ¬ IsText bytes → (value : Value) (rest : List ℕ) → IsLiteral kind text value rest → ⊥
text_denied kind text bytes after b none (Text others) rest h = none (subst (λ (t : List ℕ). IsText t) (one_string text others rest bytes after h.1 b).0 h.2)
text_denied kind text bytes after b none value rest h = omega (arith, literal_tag kind text value rest (Quoted bytes) after b h)

pub string_denied : (kind : Kind) (text inside : List ℕ) (f : Refusal) → skip_white text ≡ 34 ∷ inside → DeniesPart (λ bytes. Begins text (Quoted bytes)) f → DeniesPart (IsLiteral kind text) f
string_denied kind text inside f skipped d memory (Text bytes) rest h = d memory bytes rest h.1
string_denied kind text inside f skipped d memory (Number units) rest h = word_no_quote text (Digits h.1) rest inside (λ e. omega (arith, e)) h.2 skipped
string_denied kind text inside f skipped d memory (Flag flag) rest h = word_no_quote text (Name (flag_text flag)) rest inside (λ e. omega (arith, e)) h.1 skipped
string_denied kind text inside f skipped d memory (Day day) rest h = word_no_quote text (Name date_word) h.1.after_word inside (λ e. omega (arith, e)) h.1.word skipped

pub name_denied : (kind : Kind) (text letters after : List ℕ) → Begins text (Name letters) after → (letters ≡ codes "true" → ⊥) → (letters ≡ codes "false" → ⊥) → (letters ≡ date_word → ⊥) → (value : Value) (rest : List ℕ) → IsLiteral kind text value rest → ⊥
name_denied kind text letters after b no_true no_false no_date (Number units) rest h = number_name text h.1 rest letters after h.2 b
name_denied kind text letters after b no_true no_false no_date (Text bytes) rest h = string_name text bytes rest letters after h.1 b
name_denied kind text letters after b no_true no_false no_date (Flag true) rest h = no_true (one_name text letters after (flag_text true) rest b h.1).0
name_denied kind text letters after b no_true no_false no_date (Flag false) rest h = no_false (one_name text letters after (flag_text false) rest b h.1).0
name_denied kind text letters after b no_true no_false no_date (Day day) rest h = no_date (one_name text letters after date_word h.1.after_word b h.1.word).0

-- ---- dates

pub date_denied : (kind : Kind) (text after_word : List ℕ) → Begins text (Name date_word) after_word → ((day : ℤ) (rest : List ℕ) → ¬ IsDate text day rest) → (value : Value) (rest : List ℕ) → IsLiteral kind text value rest → ⊥
date_denied kind text after_word b none (Day day) rest h = none day rest h.1
date_denied kind text after_word b none value rest h = omega (arith, literal_tag kind text value rest (Name date_word) after_word b h)

pub date_no_open : (text after_word : List ℕ) → Begins text (Name date_word) after_word → ((rest : List ℕ) → ¬ Begins after_word (Sign symbols.OpenRound) rest) → (day : ℤ) (rest : List ℕ) → ¬ IsDate text day rest
date_no_open text after_word b none day rest h =
    let words = one_name text date_word h.after_word date_word after_word h.word b in
    none h.after_open (subst (λ (t : List ℕ). Begins t (Sign symbols.OpenRound) h.after_open) words.1 h.opens)

-- the text is not a date if no string follows the word and the parenthesis
date_string : (text after_word after_open : List ℕ) → Begins text (Name date_word) after_word → Begins after_word (Sign symbols.OpenRound) after_open → (day : ℤ) (rest : List ℕ) (h : IsDate text day rest) → Begins after_open (Quoted h.date) h.after_string
date_string text after_word after_open b o day rest h =
    let words = one_name text date_word h.after_word date_word after_word h.word b in
    let opens = one_sign after_word symbols.OpenRound h.after_open symbols.OpenRound after_open (subst (λ (t : List ℕ). Begins t (Sign symbols.OpenRound) h.after_open) words.1 h.opens) o in
    subst (λ (t : List ℕ). Begins t (Quoted h.date) h.after_string) opens.1 h.string

pub date_no_string : (text after_word after_open : List ℕ) → Begins text (Name date_word) after_word → Begins after_word (Sign symbols.OpenRound) after_open → ((bytes rest : List ℕ) → ¬ Begins after_open (Quoted bytes) rest) → (day : ℤ) (rest : List ℕ) → ¬ IsDate text day rest
date_no_string text after_word after_open b o none day rest h = none h.date h.after_string (date_string text after_word after_open b o day rest h)

pub date_no_close : (text after_word after_open date after_string : List ℕ) → Begins text (Name date_word) after_word → Begins after_word (Sign symbols.OpenRound) after_open → Begins after_open (Quoted date) after_string → ((rest : List ℕ) → ¬ Begins after_string (Sign symbols.CloseRound) rest) → (day : ℤ) (rest : List ℕ) → ¬ IsDate text day rest
date_no_close text after_word after_open date after_string b o q none day rest h =
    let strings = one_string after_open h.date h.after_string date after_string (date_string text after_word after_open b o day rest h) q in
    none rest (subst (λ (t : List ℕ). Begins t (Sign symbols.CloseRound) rest) strings.1 h.closes)

pub date_bad : (text after_word after_open date after_string : List ℕ) → Begins text (Name date_word) after_word → Begins after_word (Sign symbols.OpenRound) after_open → Begins after_open (Quoted date) after_string → ((day : ℤ) → ¬ IsDateText date day) → (day : ℤ) (rest : List ℕ) → ¬ IsDate text day rest
date_bad text after_word after_open date after_string b o q none day rest h =
    let strings = one_string after_open h.date h.after_string date after_string (date_string text after_word after_open b o day rest h) q in
    none day (subst (λ (t : List ℕ). IsDateText t day) strings.0 h.is_date)

pub date_long : (date : List ℕ) → 256 < length date → (day : ℤ) → ¬ IsDateText date day
date_long date long day h = let l : length date ≡ 10 = ap length h.spelled in omega (arith, l, long)

-- ---- tests

pub comparison_denied : (kind : Kind) (text : List ℕ) (op : Op) (literal : List ℕ) (f : Refusal) → Begins text (Sign (op_symbol op)) literal → DeniesPart (IsLiteral kind literal) f → DeniesPart (IsTest kind text) f
comparison_denied kind text op literal f b d memory (Equal value) rest h = literal_no_sign kind text value rest (op_symbol op) literal b h
comparison_denied kind text op literal f b d memory (Compare other value) rest h =
    let one = one_sign text (op_symbol op) literal (op_symbol other) h.literal b h.operator in
    d memory value rest (subst (λ (t : List ℕ). IsLiteral kind t value rest) (sym one.1) h.has_literal)
comparison_denied kind text op literal f b d memory (Between low low_in high high_in) rest h =
    no_bracket op h.bracket low_in (one_sign text (op_symbol op) literal h.bracket h.span b h.opens).0 h.start_is

pub unordered_denied : (kind : Kind) (text : List ℕ) (s : Symbol) (after : List ℕ) (f : Refusal) → Begins text (Sign s) after → ¬ HasOrder kind → DeniesPart (IsTest kind text) f
unordered_denied kind text s after f b none memory (Equal value) rest h = literal_no_sign kind text value rest s after b h
unordered_denied kind text s after f b none memory (Compare op value) rest h = none h.ordered
unordered_denied kind text s after f b none memory (Between low low_in high high_in) rest h = none h.ordered

pub interval_denied : (kind : Kind) (text : List ℕ) (low_in : Bool) (span : List ℕ) (f : Refusal) → IsStart text low_in span → DeniesPart (IsSpanTest kind low_in span) f → DeniesPart (IsTest kind text) f
interval_denied kind text low_in span f b d memory (Equal value) rest h = literal_no_sign kind text value rest b.0 span b.1 h
interval_denied kind text low_in span f b d memory (Compare op value) rest h =
    no_bracket op b.0 low_in (one_sign text (op_symbol op) h.literal b.0 span h.operator b.1).0 b.2
interval_denied kind text low_in span f b d memory (Between low in_low high high_in) rest h =
    let one = one_sign text h.bracket h.span b.0 span h.opens b.1 in
    let starts : in_low ≡ low_in = some_is in_low low_in (sym h.start_is ∙ ap start_in one.0 ∙ b.2) in
    d memory (Between low in_low high high_in) rest (starts, subst (λ (t : List ℕ). IsSpan kind t low high high_in rest) one.1 h.has_span)

pub interval_read : (kind : Kind) (text : List ℕ) (low_in : Bool) (span : List ℕ) (test : Test) (rest : List ℕ) → HasOrder kind → IsStart text low_in span → IsSpanTest kind low_in span test rest → IsTest kind text test rest
interval_read kind text low_in span (Equal value) rest ordered b s = absurd s
interval_read kind text low_in span (Compare op value) rest ordered b s = absurd s
interval_read kind text low_in span (Between low in_low high high_in) rest ordered b s = record {
  ordered = ordered;
  bracket = b.0;
  span = span;
  opens = b.1;
  start_is = b.2 ∙ ap Some (sym s.0);
  has_span = s.1;
}

op_back : (op : Op) → op_of (op_symbol op) ≡ Some op
op_back Less = refl
op_back AtMost = refl
op_back More = refl
op_back AtLeast = refl

pub sign_denied : (kind : Kind) (text : List ℕ) (s : Symbol) (after : List ℕ) → Begins text (Sign s) after → op_of s ≡ None → start_in s ≡ None → (test : Test) (rest : List ℕ) → IsTest kind text test rest → ⊥
sign_denied kind text s after b no_op no_start (Equal value) rest h = literal_no_sign kind text value rest s after b h
sign_denied kind text s after b no_op no_start (Compare op value) rest h =
    let one = one_sign text (op_symbol op) h.literal s after h.operator b in
    let back = op_back op in
    let there : op_of (op_symbol op) ≡ op_of s = ap op_of one.0 in
    cc
sign_denied kind text s after b no_op no_start (Between low low_in high high_in) rest h =
    let one = one_sign text h.bracket h.span s after h.opens b in
    let is = h.start_is in
    let there : start_in h.bracket ≡ start_in s = ap start_in one.0 in
    cc

pub plain_denied : (kind : Kind) (text : List ℕ) (f : Refusal) → ((s : Symbol) (after : List ℕ) → ¬ Begins text (Sign s) after) → DeniesPart (IsLiteral kind text) f → DeniesPart (IsTest kind text) f
plain_denied kind text f none d memory (Equal value) rest h = d memory value rest h
plain_denied kind text f none d memory (Compare op value) rest h = none (op_symbol op) h.literal h.operator
plain_denied kind text f none d memory (Between low low_in high high_in) rest h = none h.bracket h.span h.opens

-- ---- spans

pub span_no_low : (kind : Kind) (low_in : Bool) (text : List ℕ) (f : Refusal) → DeniesPart (IsLiteral kind text) f → DeniesPart (IsSpanTest kind low_in text) f
span_no_low kind low_in text f d memory (Equal value) rest h = h
span_no_low kind low_in text f d memory (Compare op value) rest h = h
span_no_low kind low_in text f d memory (Between low in_low high high_in) rest h = d memory low h.1.after_low h.1.has_low

pub span_no_dots : (kind : Kind) (low_in : Bool) (text : List ℕ) (from : Value) (after_low : List ℕ) (f : Refusal) → IsLiteral kind text from after_low → ((rest : List ℕ) → ¬ Begins after_low (Sign symbols.Dots) rest) → DeniesPart (IsSpanTest kind low_in text) f
span_no_dots kind low_in text from after_low f l d memory (Equal value) rest h = h
span_no_dots kind low_in text from after_low f l d memory (Compare op value) rest h = h
span_no_dots kind low_in text from after_low f l d memory (Between low in_low high high_in) rest h =
    let span = h.1 in
    let lows = literal_rest kind text low span.after_low from after_low span.has_low l in
    d span.after_dots (subst (λ (t : List ℕ). Begins t (Sign symbols.Dots) span.after_dots) lows span.dots)

pub span_no_high : (kind : Kind) (low_in : Bool) (text : List ℕ) (from : Value) (after_low after_dots : List ℕ) (f : Refusal) → IsLiteral kind text from after_low → Begins after_low (Sign symbols.Dots) after_dots → DeniesPart (IsLiteral kind after_dots) f → DeniesPart (IsSpanTest kind low_in text) f
span_no_high kind low_in text from after_low after_dots f l b d memory (Equal value) rest h = h
span_no_high kind low_in text from after_low after_dots f l b d memory (Compare op value) rest h = h
span_no_high kind low_in text from after_low after_dots f l b d memory (Between low in_low high high_in) rest h =
    let span = h.1 in
    let lows = literal_rest kind text low span.after_low from after_low span.has_low l in
    let dots = one_sign after_low symbols.Dots span.after_dots symbols.Dots after_dots (subst (λ (t : List ℕ). Begins t (Sign symbols.Dots) span.after_dots) lows span.dots) b in
    d memory high span.after_high (subst (λ (t : List ℕ). IsLiteral kind t high span.after_high) dots.1 span.has_high)

pub span_no_end : (kind : Kind) (low_in : Bool) (text : List ℕ) (from to : Value) (after_low after_dots after_high : List ℕ) (f : Refusal) → IsLiteral kind text from after_low → Begins after_low (Sign symbols.Dots) after_dots → IsLiteral kind after_dots to after_high → ((high_in : Bool) (rest : List ℕ) → ¬ IsEnd after_high high_in rest) → DeniesPart (IsSpanTest kind low_in text) f
span_no_end kind low_in text from to after_low after_dots after_high f l b m d memory (Equal value) rest h = h
span_no_end kind low_in text from to after_low after_dots after_high f l b m d memory (Compare op value) rest h = h
span_no_end kind low_in text from to after_low after_dots after_high f l b m d memory (Between low in_low high high_in) rest h =
    let span = h.1 in
    let lows = literal_rest kind text low span.after_low from after_low span.has_low l in
    let dots = one_sign after_low symbols.Dots span.after_dots symbols.Dots after_dots (subst (λ (t : List ℕ). Begins t (Sign symbols.Dots) span.after_dots) lows span.dots) b in
    let highs = literal_rest kind after_dots high span.after_high to after_high (subst (λ (t : List ℕ). IsLiteral kind t high span.after_high) dots.1 span.has_high) m in
    d high_in rest (span.bracket, subst (λ (t : List ℕ). Begins t (Sign span.bracket) rest) highs span.closes, span.end_is)

pub end_denied : (text : List ℕ) (s : Symbol) (after : List ℕ) → Begins text (Sign s) after → end_in s ≡ None → (high_in : Bool) (rest : List ℕ) → IsEnd text high_in rest → ⊥
end_denied text s after b none high_in rest h =
    let one = one_sign text h.0 rest s after h.1 b in
    let is = h.2 in
    let there : end_in h.0 ≡ end_in s = ap end_in one.0 in
    cc

-- ---- whole literals

pub value_trailing : (kind : Kind) (text : List ℕ) (value : Value) (rest : List ℕ) → IsLiteral kind text value rest → ¬ IsBlank rest → (other : Value) → SpellsValue kind text other → ⊥
value_trailing kind text value rest l more other h =
    more (subst (λ (t : List ℕ). IsBlank t) (literal_rest kind text other h.0 value rest h.1 l) h.2)
