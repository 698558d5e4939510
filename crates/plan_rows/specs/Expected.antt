-- When a field has the answer of an output, and how answers are shown.
use Rattle.std.specs.Prelude.{ℕ, List, [], ◌∷◌, cond, codes, ◌==◌, IsUtf8}
use Rattle.std.specs.List.{AllByRecursion, AllZip, join_by, slice_split}
use Rattle.std.specs.Str.{bytes_eq}
use Rattle.fixpoint.specs.NumberText.{shortest_text}
use Rattle.feel_tests.specs.Calendar.{day_text}
use Rattle.feel_tests.specs.Plain.{SpellsPlain}
use Rattle.feel_tests.specs.Value.{flag_text, kind_of}
use Rattle.feel_tests.specs.declared.kind.Kind.{Kind}
use Rattle.feel_tests.specs.declared.value.Value.{Value}
use Rattle.feel_tests.specs.declared.value.Value.TheVariants.{Number, Text, Flag, Day}
use Rattle.tables.specs.declared.environment.Answer.{Answer}
use Rattle.tables.specs.declared.environment.Answer.TheVariants.{One, Many}

-- the byte `;` between the values of a list
abbrev pub semicolon : ℕ
semicolon = 59

-- the text of a list without values
abbrev pub empty_list : List ℕ
empty_list = codes "[]"

-- the text is that of the value, among the texts of its kind
abbrev pub Denotes : List ℕ → Value → Type 0
Denotes text value = SpellsPlain (kind_of value) text value

-- the texts that a field lists
abbrev pub listed_texts : List ℕ → List (List ℕ)
listed_texts field = cond (bytes_eq field empty_list) [] (slice_split (λ b. b == semicolon) field)

-- the text is that of some value of the kind
abbrev pub SpellsSome : Kind → List ℕ → Type 0
SpellsSome kind text = (value : Value) × SpellsPlain kind text value

-- each text that the field lists is that of a value of the kind
abbrev pub AreOfKind : Kind → List ℕ → Type 0
AreOfKind kind field = IsUtf8 field × AllByRecursion (SpellsSome kind) (listed_texts field)

-- the text is that of the answer: of a single value, or the texts of a list's values in their order
abbrev pub IsTextOf : List ℕ → Answer → Type 0
IsTextOf text (One value) = Denotes text value
IsTextOf text (Many values) = AllZip Denotes (listed_texts text) values

-- the field has the answer
abbrev pub HasAnswer : List ℕ → Answer → Type 0
HasAnswer field answer = IsUtf8 field × IsTextOf field answer

-- the text of a value as a field has it
abbrev pub plain_text : Value → List ℕ
plain_text (Number units) = shortest_text units
plain_text (Text text) = text
plain_text (Flag flag) = flag_text flag
plain_text (Day day) = day_text day

-- the texts of a list's values, with semicolons between them
abbrev pub plain_list : List Value → List ℕ
plain_list [] = empty_list
plain_list (value ∷ values) = join_by plain_text (codes ";") (value ∷ values)

-- the text of an answer as a field has it
abbrev pub plain_answer : Answer → List ℕ
plain_answer (One value) = plain_text value
plain_answer (Many values) = plain_list values
