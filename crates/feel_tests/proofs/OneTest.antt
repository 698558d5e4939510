-- A text begins with at most one literal, and with at most one test.
use Rattle.std.proofs.Common.{◌≡◌, ℕ, ℤ, ◌<◌, ◌≤◌, Bool, true, false, cond, eqb, List, Some, None, refl, sym, ap, subst, ◌∙◌, arith, length, ◌||◌}
use Rattle.std.specs.Prelude.{codes}
use Rattle.std.specs.Str.{bytes_eq}
use Rattle.fixpoint.specs.NumberText.{DenotesAtMostOne, Denotes}
use Rattle.feel_tests.specs.Words.{Word, Sign, Digits, Quoted, Name, Begins}
use Rattle.feel_tests.specs.Value.{flag_text}
use Rattle.feel_tests.specs.Calendar.{IsDateText}
use Rattle.feel_tests.specs.Grammar.{date_word, op_symbol, start_in, end_in, IsDate, IsLiteral, IsSpan, IsTest}
use Rattle.feel_tests.specs.Symbols.{op_of}
use Rattle.feel_tests.specs.declared.symbol.Symbol.{Symbol}
use Rattle.feel_tests.specs.declared.symbol.Symbol.TheVariants as symbols
use Rattle.feel_tests.specs.declared.kind.Kind.{Kind}
use Rattle.feel_tests.specs.declared.kind.Kind.TheVariants as kinds
use Rattle.feel_tests.specs.declared.value.Value.{Value}
use Rattle.feel_tests.specs.declared.value.Value.TheVariants.{Number, Text, Flag, Day}
use Rattle.feel_tests.specs.declared.cell.Op.{Op}
use Rattle.feel_tests.specs.declared.cell.Op.TheVariants.{Less, AtMost, More, AtLeast}
use Rattle.feel_tests.specs.declared.cell.Test.{Test}
use Rattle.feel_tests.specs.declared.cell.Test.TheVariants.{Equal, Compare, Between}
use Rattle.feel_tests.proofs.FirstWord.{begins_one}
use Rattle.feel_tests.proofs.OneWord.{one_sign, one_number, one_string, one_name}
use Rattle.feel_tests.proofs.OneDate.{date_one}

some_is : {X : Type 0} (x y : X) → Some x ≡ Some y → x ≡ y
some_is x y e = cc

-- the kind of value that a word begins: 0 a number, 1 a text, 2 a flag, 3 a day
abbrev pub word_tag : Word → ℕ
word_tag (Digits digits) = 0
word_tag (Quoted bytes) = 1
word_tag (Name letters) = cond (bytes_eq letters date_word) 3 (cond (bytes_eq letters (codes "true") || bytes_eq letters (codes "false")) 2 5)
word_tag (Sign symbol) = 4

abbrev pub value_tag : Value → ℕ
value_tag (Number units) = 0
value_tag (Text bytes) = 1
value_tag (Flag flag) = 2
value_tag (Day day) = 3

abbrev pub kind_with : ℕ → Kind
kind_with n = cond (eqb n 0) kinds.Number (cond (eqb n 1) kinds.Text (cond (eqb n 2) kinds.Flag kinds.Day))

-- the word that a literal begins with
pub record FirstOf (text : List ℕ) (value : Value) : Type 0 where
  pub word : Word
  pub after : List ℕ
  pub begins : Begins text word after
  pub tag : word_tag word ≡ value_tag value

pub literal_first : (kind : Kind) (text : List ℕ) (value : Value) (rest : List ℕ) → IsLiteral kind text value rest → FirstOf text value
literal_first kind text (Number units) rest h = record { word = Digits h.1; after = rest; begins = h.2; tag = refl }
literal_first kind text (Text bytes) rest h = record { word = Quoted bytes; after = rest; begins = h.1; tag = refl }
literal_first kind text (Flag true) rest h = record { word = Name (flag_text true); after = rest; begins = h.1; tag = refl }
literal_first kind text (Flag false) rest h = record { word = Name (flag_text false); after = rest; begins = h.1; tag = refl }
literal_first kind text (Day day) rest h = record { word = Name date_word; after = h.1.after_word; begins = h.1.word; tag = refl }

pub literal_tag : (kind : Kind) (text : List ℕ) (value : Value) (rest : List ℕ) (word : Word) (after : List ℕ) → Begins text word after → IsLiteral kind text value rest → word_tag word ≡ value_tag value
literal_tag kind text value rest word after b h =
    let first = literal_first kind text value rest h in
    ap word_tag (begins_one text word after first.word first.after b first.begins).0 ∙ first.tag

kind_at : (kind : Kind) (text : List ℕ) (value : Value) (rest : List ℕ) → IsLiteral kind text value rest → kind ≡ kind_with (value_tag value)
kind_at kind text (Number units) rest h = h.0
kind_at kind text (Text bytes) rest h = h.0
kind_at kind text (Flag flag) rest h = h.0
kind_at kind text (Day day) rest h = h.0

-- the first word of a literal determines its kind
pub literal_kind : (kind : Kind) (text : List ℕ) (value : Value) (rest : List ℕ) (word : Word) (after : List ℕ) → Begins text word after → IsLiteral kind text value rest → kind ≡ kind_with (word_tag word)
literal_kind kind text value rest word after b h = kind_at kind text value rest h ∙ ap kind_with (sym (literal_tag kind text value rest word after b h))

tag_below : (value : Value) → value_tag value < 4
tag_below (Number units) = omega arith
tag_below (Text bytes) = omega arith
tag_below (Flag flag) = omega arith
tag_below (Day day) = omega arith

-- no literal begins with a word of no kind
pub literal_no_word : (kind : Kind) (text : List ℕ) (value : Value) (rest : List ℕ) (word : Word) (after : List ℕ) → 4 ≤ word_tag word → Begins text word after → IsLiteral kind text value rest → ⊥
literal_no_word kind text value rest word after more b h = omega (arith, literal_tag kind text value rest word after b h, tag_below value, more)

pub literal_no_sign : (kind : Kind) (text : List ℕ) (value : Value) (rest : List ℕ) (s : Symbol) (after : List ℕ) → Begins text (Sign s) after → IsLiteral kind text value rest → ⊥
literal_no_sign kind text value rest s after b h = literal_no_word kind text value rest (Sign s) after (omega arith) b h

-- the date of a text and the text after it are unique
pub one_date : (text : List ℕ) (day other : ℤ) (after following : List ℕ) (h : IsDate text day after) (k : IsDate text other following) → (h.date ≡ k.date) × (after ≡ following)
one_date text day other after following h k =
    let words = one_name text date_word h.after_word date_word k.after_word h.word k.word in
    let opens = one_sign h.after_word symbols.OpenRound h.after_open symbols.OpenRound k.after_open h.opens (subst (λ (t : List ℕ). Begins t (Sign symbols.OpenRound) k.after_open) (sym words.1) k.opens) in
    let strings = one_string h.after_open h.date h.after_string k.date k.after_string h.string (subst (λ (t : List ℕ). Begins t (Quoted k.date) k.after_string) (sym opens.1) k.string) in
    let closes = one_sign h.after_string symbols.CloseRound after symbols.CloseRound following h.closes (subst (λ (t : List ℕ). Begins t (Sign symbols.CloseRound) following) (sym strings.1) k.closes) in
    (strings.0, closes.1)

same_tags : (kind : Kind) (text : List ℕ) (one : Value) (after : List ℕ) (other : Value) (following : List ℕ) → IsLiteral kind text one after → IsLiteral kind text other following → value_tag one ≡ value_tag other
same_tags kind text one after other following h k =
    let first = literal_first kind text one after h in
    sym first.tag ∙ literal_tag kind text other following first.word first.after first.begins k

rest_at : (kind : Kind) (text : List ℕ) (one : Value) (after : List ℕ) (other : Value) (following : List ℕ) → value_tag one ≡ value_tag other → IsLiteral kind text one after → IsLiteral kind text other following → after ≡ following
rest_at kind text (Number a) after (Number b) following e h k = (one_number text h.1 after k.1 following h.2 k.2).1
rest_at kind text (Text a) after (Text b) following e h k = (one_string text a after b following h.1 k.1).1
rest_at kind text (Flag a) after (Flag b) following e h k = (one_name text (flag_text a) after (flag_text b) following h.1 k.1).1
rest_at kind text (Day a) after (Day b) following e h k = (one_date text a b after following h.1 k.1).1
rest_at kind text one after other following e h k = absurd (omega (arith, e))

-- the text after a literal is unique
pub literal_rest : (kind : Kind) (text : List ℕ) (one : Value) (after : List ℕ) (other : Value) (following : List ℕ) → IsLiteral kind text one after → IsLiteral kind text other following → after ≡ following
literal_rest kind text one after other following h k = rest_at kind text one after other following (same_tags kind text one after other following h k) h k

flag_one : (a b : Bool) → flag_text a ≡ flag_text b → a ≡ b
flag_one true true e = refl
flag_one false false e = refl
flag_one true false e = let l : 4 ≡ 5 = ap length e in absurd (omega (arith, l))
flag_one false true e = let l : 5 ≡ 4 = ap length e in absurd (omega (arith, l))

value_at : DenotesAtMostOne → (kind : Kind) (text : List ℕ) (one : Value) (after : List ℕ) (other : Value) (following : List ℕ) → value_tag one ≡ value_tag other → IsLiteral kind text one after → IsLiteral kind text other following → one ≡ other
value_at law kind text (Number a) after (Number b) following e h k =
    let same = (one_number text h.1 after k.1 following h.2 k.2).0 in
    ap Number (law k.1 a b (subst (λ (d : List ℕ). Denotes d a) same h.3) k.3)
value_at law kind text (Text a) after (Text b) following e h k = ap Text (one_string text a after b following h.1 k.1).0
value_at law kind text (Flag a) after (Flag b) following e h k = ap Flag (flag_one a b (one_name text (flag_text a) after (flag_text b) following h.1 k.1).0)
value_at law kind text (Day a) after (Day b) following e h k =
    let same = (one_date text a b after following h.1 k.1).0 in
    ap Day (date_one k.1.date a b (subst (λ (t : List ℕ). IsDateText t a) same h.1.is_date) k.1.is_date)
value_at law kind text one after other following e h k = absurd (omega (arith, e))

-- the value of a literal is unique
pub literal_value : DenotesAtMostOne → (kind : Kind) (text : List ℕ) (one : Value) (after : List ℕ) (other : Value) (following : List ℕ) → IsLiteral kind text one after → IsLiteral kind text other following → one ≡ other
literal_value law kind text one after other following h k = value_at law kind text one after other following (same_tags kind text one after other following h k) h k

-- an operator is not a bracket
pub no_bracket : (op : Op) (s : Symbol) (low_in : Bool) → op_symbol op ≡ s → start_in s ≡ Some low_in → ⊥
no_bracket Less s low_in e h = let n : start_in s ≡ None = subst (λ z. start_in z ≡ None) e refl in cc
no_bracket AtMost s low_in e h = let n : start_in s ≡ None = subst (λ z. start_in z ≡ None) e refl in cc
no_bracket More s low_in e h = let n : start_in s ≡ None = subst (λ z. start_in z ≡ None) e refl in cc
no_bracket AtLeast s low_in e h = let n : start_in s ≡ None = subst (λ z. start_in z ≡ None) e refl in cc

-- the text after a span is unique
pub span_rest : (kind : Kind) (text : List ℕ) (low : Value) (high : Value) (high_in : Bool) (after : List ℕ) (from : Value) (to : Value) (to_in : Bool) (following : List ℕ) → IsSpan kind text low high high_in after → IsSpan kind text from to to_in following → after ≡ following
span_rest kind text low high high_in after from to to_in following h k =
    let lows = literal_rest kind text low h.after_low from k.after_low h.has_low k.has_low in
    let dots = one_sign h.after_low _ h.after_dots _ k.after_dots h.dots (subst (λ (t : List ℕ). Begins t _ k.after_dots) (sym lows) k.dots) in
    let highs = literal_rest kind h.after_dots high h.after_high to k.after_high h.has_high (subst (λ (t : List ℕ). IsLiteral kind t to k.after_high) (sym dots.1) k.has_high) in
    (one_sign h.after_high h.bracket after k.bracket following h.closes (subst (λ (t : List ℕ). Begins t (Sign k.bracket) following) (sym highs) k.closes)).1

-- the text after a test is unique
pub test_rest : (kind : Kind) (text : List ℕ) (one : Test) (after : List ℕ) (other : Test) (following : List ℕ) → IsTest kind text one after → IsTest kind text other following → after ≡ following
test_rest kind text (Equal a) after (Equal b) following h k = literal_rest kind text a after b following h k
test_rest kind text (Equal a) after (Compare op b) following h k = absurd (literal_no_sign kind text a after (op_symbol op) k.literal k.operator h)
test_rest kind text (Equal a) after (Between low low_in high high_in) following h k = absurd (literal_no_sign kind text a after k.bracket k.span k.opens h)
test_rest kind text (Compare op a) after (Equal b) following h k = absurd (literal_no_sign kind text b following (op_symbol op) h.literal h.operator k)
test_rest kind text (Compare op a) after (Compare po b) following h k =
    let one = one_sign text (op_symbol op) h.literal (op_symbol po) k.literal h.operator k.operator in
    literal_rest kind h.literal a after b following h.has_literal (subst (λ (t : List ℕ). IsLiteral kind t b following) (sym one.1) k.has_literal)
test_rest kind text (Compare op a) after (Between low low_in high high_in) following h k =
    absurd (no_bracket op k.bracket low_in (one_sign text (op_symbol op) h.literal k.bracket k.span h.operator k.opens).0 k.start_is)
test_rest kind text (Between low low_in high high_in) after (Equal b) following h k = absurd (literal_no_sign kind text b following h.bracket h.span h.opens k)
test_rest kind text (Between low low_in high high_in) after (Compare op b) following h k =
    absurd (no_bracket op h.bracket low_in (one_sign text (op_symbol op) k.literal h.bracket h.span k.operator h.opens).0 h.start_is)
test_rest kind text (Between low low_in high high_in) after (Between from from_in to to_in) following h k =
    let one = one_sign text h.bracket h.span k.bracket k.span h.opens k.opens in
    span_rest kind h.span low high high_in after from to to_in following h.has_span (subst (λ (t : List ℕ). IsSpan kind t from to to_in following) (sym one.1) k.has_span)

-- an operator belongs to one comparison
pub op_one : (op po : Op) → op_symbol op ≡ op_symbol po → op ≡ po
op_one op po e = some_is op po (sym (op_back op) ∙ ap op_of e ∙ op_back po)
  where
    op_back : (op : Op) → op_of (op_symbol op) ≡ Some op
    op_back Less = refl
    op_back AtMost = refl
    op_back More = refl
    op_back AtLeast = refl

span_value : DenotesAtMostOne → (kind : Kind) (text : List ℕ) (low : Value) (high : Value) (high_in : Bool) (after : List ℕ) (from : Value) (to : Value) (to_in : Bool) (following : List ℕ) → IsSpan kind text low high high_in after → IsSpan kind text from to to_in following → (low ≡ from) × (high ≡ to) × (high_in ≡ to_in)
span_value law kind text low high high_in after from to to_in following h k =
    let lows = literal_rest kind text low h.after_low from k.after_low h.has_low k.has_low in
    let dots = one_sign h.after_low _ h.after_dots _ k.after_dots h.dots (subst (λ (t : List ℕ). Begins t _ k.after_dots) (sym lows) k.dots) in
    let to_there = subst (λ (t : List ℕ). IsLiteral kind t to k.after_high) (sym dots.1) k.has_high in
    let highs = literal_rest kind h.after_dots high h.after_high to k.after_high h.has_high to_there in
    let ends = one_sign h.after_high h.bracket after k.bracket following h.closes (subst (λ (t : List ℕ). Begins t (Sign k.bracket) following) (sym highs) k.closes) in
    (literal_value law kind text low h.after_low from k.after_low h.has_low k.has_low, literal_value law kind h.after_dots high h.after_high to k.after_high h.has_high to_there, some_is high_in to_in (sym h.end_is ∙ ap end_in ends.0 ∙ k.end_is))

-- a text begins with at most one test
pub test_value : DenotesAtMostOne → (kind : Kind) (text : List ℕ) (one : Test) (after : List ℕ) (other : Test) (following : List ℕ) → IsTest kind text one after → IsTest kind text other following → one ≡ other
test_value law kind text (Equal a) after (Equal b) following h k = ap Equal (literal_value law kind text a after b following h k)
test_value law kind text (Equal a) after (Compare op b) following h k = absurd (literal_no_sign kind text a after (op_symbol op) k.literal k.operator h)
test_value law kind text (Equal a) after (Between low low_in high high_in) following h k = absurd (literal_no_sign kind text a after k.bracket k.span k.opens h)
test_value law kind text (Compare op a) after (Equal b) following h k = absurd (literal_no_sign kind text b following (op_symbol op) h.literal h.operator k)
test_value law kind text (Compare op a) after (Compare po b) following h k =
    let one = one_sign text (op_symbol op) h.literal (op_symbol po) k.literal h.operator k.operator in
    let ops = op_one op po one.0 in
    let values = literal_value law kind h.literal a after b following h.has_literal (subst (λ (t : List ℕ). IsLiteral kind t b following) (sym one.1) k.has_literal) in
    rw (ops, values) refl
test_value law kind text (Compare op a) after (Between low low_in high high_in) following h k =
    absurd (no_bracket op k.bracket low_in (one_sign text (op_symbol op) h.literal k.bracket k.span h.operator k.opens).0 k.start_is)
test_value law kind text (Between low low_in high high_in) after (Equal b) following h k = absurd (literal_no_sign kind text b following h.bracket h.span h.opens k)
test_value law kind text (Between low low_in high high_in) after (Compare op b) following h k =
    absurd (no_bracket op h.bracket low_in (one_sign text (op_symbol op) k.literal h.bracket h.span k.operator h.opens).0 h.start_is)
test_value law kind text (Between low low_in high high_in) after (Between from from_in to to_in) following h k =
    let one = one_sign text h.bracket h.span k.bracket k.span h.opens k.opens in
    let starts = some_is low_in from_in (sym h.start_is ∙ ap start_in one.0 ∙ k.start_is) in
    let ends = span_value law kind h.span low high high_in after from to to_in following h.has_span (subst (λ (t : List ℕ). IsSpan kind t from to to_in following) (sym one.1) k.has_span) in
    let lows = ends.0 in
    let highs = ends.1 in
    let high_ins = ends.2 in
    rw (lows, starts, highs, high_ins) refl
