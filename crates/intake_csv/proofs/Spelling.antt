-- The value that a field denotes in a column other than one of money.
use Rattle.std.proofs.Common.{◌≡◌, ◌≢◌, ℕ, List, [], refl, sym, arith}
use Rattle.feel_tests.specs.Calendar.{IsYearText, year_text}
use Rattle.feel_tests.specs.Plain.{RefusesPlain, SpellsPlain}
use Rattle.feel_tests.specs.TextBytes.{IsText}
use Rattle.feel_tests.specs.declared.kind.Kind.{Kind}
use Rattle.feel_tests.specs.declared.plain.PlainFault.TheVariants.{Bad}
use Rattle.feel_tests.specs.declared.value.Value.{Value}
use Rattle.feel_tests.specs.declared.value.Value.TheVariants.{Text}
use Rattle.intake_csv.specs.Columns.{kind_under}
use Rattle.intake_csv.specs.Fields.{Holds, IsFaultless, IsFaulty, Spells}
use Rattle.intake_csv.specs.declared.column.Content.{Content}
use Rattle.intake_csv.specs.declared.column.Content.TheVariants.{Identifier, Money, Plain, Year}
use Rattle.faults.specs.declared.file_fault.RowCause.TheVariants.{FieldCount, Utf8, TooLong, EmptyId, Value as NoValue, NotCents, Negative, Repeated, Sum}

-- a denoted value has no fault, unless it is an empty identifier or an amount
faultless : (content : Content) (bytes : List ℕ) (v : Value) → IsText bytes → Spells content bytes v → ¬ ((content ≡ Identifier) × (bytes ≡ [])) → ¬ (content ≡ Money)
    → IsFaultless content bytes
faultless content bytes v text spells named other Utf8 h = h text.0
faultless content bytes v text spells named other TooLong h = omega (arith, h.1, text.1)
faultless content bytes v text spells named other EmptyId h = named h
faultless content bytes v text spells named other NoValue h = h.1 v spells
faultless content bytes v text spells named other NotCents h = other h.0
faultless content bytes v text spells named other Negative h = other h.0
faultless content bytes v text spells named other FieldCount h = h
faultless content bytes v text spells named other Repeated h = h
faultless content bytes v text spells named other Sum h = h

-- a text that is not empty is an identifier
pub identifier_read : (bytes : List ℕ) → IsText bytes → bytes ≢ [] → Holds Identifier bytes (Text bytes) × IsFaultless Identifier bytes
identifier_read bytes text some =
    let spells : Spells Identifier bytes (Text bytes) = record { plain = (refl, refl, text.1); year = λ e. cc e } in
    (record { text = text; spells = spells; allowed = some }, faultless Identifier bytes (Text bytes) text spells (λ empty. some empty.1) (λ e. cc e))

pub plain_read : (kind : Kind) (bytes : List ℕ) (v : Value) → IsText bytes → SpellsPlain kind bytes v → Holds (Plain kind) bytes v × IsFaultless (Plain kind) bytes
plain_read kind bytes v text plain =
    let spells : Spells (Plain kind) bytes v = record { plain = plain; year = λ e. cc e } in
    (record { text = text; spells = spells; allowed = tt }, faultless (Plain kind) bytes v text spells (λ empty. cc empty.0) (λ e. cc e))

-- the text of a year
pub year_read : (bytes : List ℕ) (year : ℕ) → IsText bytes → IsYearText bytes year → Holds Year bytes (Text (year_text year)) × IsFaultless Year bytes
year_read bytes year text is =
    let v : Value = Text (year_text year) in
    let spells : Spells Year bytes v = record { plain = (refl, sym is.spelled, text.1); year = λ e. (year, is) } in
    (record { text = text; spells = spells; allowed = tt }, faultless Year bytes v text spells (λ empty. cc empty.0) (λ e. cc e))

-- a field that is refused, for another reason than memory, denotes no value of the kind
pub no_plain : (kind : Kind) (bytes : List ℕ) → RefusesPlain (SpellsPlain kind bytes) Bad → (v : Value) → ¬ SpellsPlain kind bytes v
no_plain kind bytes refused = refused (λ e. cc e)

-- a field that is not a value of the column's kind
pub unread : (content : Content) (bytes : List ℕ) → IsText bytes → ((v : Value) → ¬ SpellsPlain (kind_under content) bytes v) → IsFaulty content bytes NoValue
unread content bytes text none = (text, λ v spells. none v spells.plain)

-- a field that is not a year
pub year_unread : (bytes : List ℕ) → IsText bytes → ((year : ℕ) → ¬ IsYearText bytes year) → IsFaulty Year bytes NoValue
year_unread bytes text none = (text, λ v spells. none (spells.year refl).0 (spells.year refl).1)
