-- A search for quoted fields that reads one more byte, and its end.
use Rattle.std.proofs.Common.{◌≡◌, ◌≢◌, ◌<◌, ◌≤◌, ◌⊎◌, ◌+◌, ◌-◌, ℕ, true, false, List, Option, None, Some, MatchOption, unwrap_or, drop, get_or, length, ap, sym, subst, inl, inr, ◌∙◌, arith}
use native.Mathlib.Decide.{dec_lt}
use Rattle.std.proofs.lemmas.Bool.{false≢true}
use Rattle.std.proofs.lemmas.Bool.Decides.{nat_tests}
use Rattle.std.proofs.lemmas.List.{get_or-drop}
use Rattle.memchr.specs.Find.{Nowhere, Passes, is_byte}
use Rattle.remarks.specs.declared.scan.Place.{Place}
use Rattle.remarks.specs.declared.scan.Place.TheVariants.{FieldStart, Quoted}
use Rattle.remarks.specs.declared.scan.Scan.{Scan}
use Rattle.remarks.specs.Quotes.{BreaksField, EndsLine, IsFirstBroken, OpensField, OpensLast, byte_at, quote, state_at}
use Rattle.remarks.specs.Scans.{IsScanned, IsUnbroken, is_in_quotes, place_after, place_of}
use Rattle.remarks.proofs.Places.{begins_at, is_plain, place_at_start, place_in_quotes, place_past, plain_after, plain_at, plain_not_quoted, quoted_at}

-- a byte that opens no field leaves the last opened one
still_opened : (text : List ℕ) (at opened : ℕ) → OpensLast text at opened → ¬ OpensField text at → OpensLast text (at + 1) opened
still_opened text at opened known other = record {
  opens = known.opens;
  before = omega (arith, known.before);
  last = λ later above below. elim (dec_lt later at) [
    | yes earlier ↦ known.last later above earlier
    | no not_earlier ↦ let same : later ≡ at = omega (arith, below, not_earlier) in subst (λ place. ¬ OpensField text place) (sym same) other
  ];
}

newly_opened : (text : List ℕ) (at : ℕ) → OpensField text at → OpensLast text (at + 1) at
newly_opened text at opens = record { opens = opens; before = omega arith; last = λ later above below. absurd (omega (arith, above, below)) }

still_unbroken : (text : List ℕ) (at : ℕ) → ¬ BreaksField text at → IsUnbroken text at → IsUnbroken text (at + 1)
still_unbroken text at other known place below =
    elim (dec_lt place at) [
      | yes earlier ↦ known place earlier
      | no not_earlier ↦ let same : place ≡ at = omega (arith, below, not_earlier) in subst (λ it. ¬ BreaksField text it) (sym same) other
    ]

still_broken : (text : List ℕ) (at : ℕ) (first next : Option ℕ) → next ≡ first → ¬ BreaksField text at → MatchOption first (IsUnbroken text at) (IsFirstBroken text)
    → MatchOption next (IsUnbroken text (at + 1)) (IsFirstBroken text)
still_broken text at None next same other known = rw same (still_unbroken text at other known)
still_broken text at (Some it) next same other known = rw same known

newly_broken : (text : List ℕ) (at opened : ℕ) (first next : Option ℕ) → next ≡ Some (unwrap_or first opened) → BreaksField text at → OpensLast text at opened
    → MatchOption first (IsUnbroken text at) (IsFirstBroken text) → MatchOption next (IsUnbroken text (at + 1)) (IsFirstBroken text)
newly_broken text at opened None next is breaks opens known = rw is (record { break = at; breaks = breaks; first = known; opens = opens })
newly_broken text at opened (Some it) next is breaks opens known = rw is known

-- whether a byte opens or breaks a field, by its place
no_opening : (text : List ℕ) (at : ℕ) (place : Place) → place_of (state_at text at) ≡ Some place → ¬ ((byte_at text at ≡ quote) × (place ≡ FieldStart)) → ¬ OpensField text at
no_opening text at place stands other opens = other (opens.is_quote, place_at_start (state_at text at) place stands opens.begins)

no_break : (text : List ℕ) (at : ℕ) (place : Place) → place_of (state_at text at) ≡ Some place → ¬ (EndsLine (byte_at text at) × (place ≡ Quoted)) → ¬ BreaksField text at
no_break text at place stands other breaks = other (breaks.ends_line, place_in_quotes (state_at text at) place stands breaks.quoted)

quote_ends_no_line : (byte : ℕ) → byte ≡ quote → ¬ EndsLine byte
quote_ends_no_line byte is (inl feed) = absurd (omega (arith, is, feed))
quote_ends_no_line byte is (inr cr) = absurd (omega (arith, is, cr))

kept_open : (text : List ℕ) (at : ℕ) (scan : Scan) (next : Place) → IsScanned text at scan
    → (is_in_quotes next ≡ true → (is_in_quotes scan.place ≡ true) ⊎ ((byte_at text at ≡ quote) × (scan.place ≡ FieldStart)))
    → ¬ ((byte_at text at ≡ quote) × (scan.place ≡ FieldStart)) → is_in_quotes next ≡ true → OpensLast text (at + 1) scan.opened
kept_open text at scan next known entered other within =
    elim (entered within) [
      | inl before ↦ still_opened text at scan.opened (known.opened before) (no_opening text at scan.place known.place other)
      | inr opens ↦ absurd (other opens)
    ]

-- the byte opens a field
pub scanned_opening : (text : List ℕ) (at : ℕ) (old new : Scan) → IsScanned text at old → place_of (state_at text (at + 1)) ≡ Some new.place → new.opened ≡ at
    → new.first_long ≡ old.first_long → (byte_at text at ≡ quote) × (old.place ≡ FieldStart) → IsScanned text (at + 1) new
scanned_opening text at old new known stands opened first opens = record {
  place = stands;
  opened = λ within. rw opened (newly_opened text at (record { is_quote = opens.0; begins = begins_at (state_at text at) (known.place ∙ ap (λ it. Some it) opens.1) }));
  broken = still_broken text at old.first_long new.first_long first (λ breaks. quote_ends_no_line (byte_at text at) opens.0 breaks.ends_line) known.broken;
}

-- the byte is a line end within a quoted field
pub scanned_breaking : (text : List ℕ) (at : ℕ) (old new : Scan) → IsScanned text at old → place_of (state_at text (at + 1)) ≡ Some new.place → new.opened ≡ old.opened
    → new.first_long ≡ Some (unwrap_or old.first_long old.opened)
    → (is_in_quotes new.place ≡ true → (is_in_quotes old.place ≡ true) ⊎ ((byte_at text at ≡ quote) × (old.place ≡ FieldStart)))
    → ¬ ((byte_at text at ≡ quote) × (old.place ≡ FieldStart)) → EndsLine (byte_at text at) × (old.place ≡ Quoted) → IsScanned text (at + 1) new
scanned_breaking text at old new known stands opened first entered other breaks = record {
  place = stands;
  opened = λ within. rw opened (kept_open text at old new.place known entered other within);
  broken = newly_broken text at old.opened old.first_long new.first_long first
      (record { ends_line = breaks.0; quoted = quoted_at (state_at text at) (known.place ∙ ap (λ it. Some it) breaks.1) }) (known.opened (ap is_in_quotes breaks.1)) known.broken;
}

-- any other byte
pub scanned_other : (text : List ℕ) (at : ℕ) (old new : Scan) → IsScanned text at old → place_of (state_at text (at + 1)) ≡ Some new.place → new.opened ≡ old.opened
    → new.first_long ≡ old.first_long → (is_in_quotes new.place ≡ true → (is_in_quotes old.place ≡ true) ⊎ ((byte_at text at ≡ quote) × (old.place ≡ FieldStart)))
    → ¬ ((byte_at text at ≡ quote) × (old.place ≡ FieldStart)) → ¬ (EndsLine (byte_at text at) × (old.place ≡ Quoted)) → IsScanned text (at + 1) new
scanned_other text at old new known stands opened first entered other whole = record {
  place = stands;
  opened = λ within. rw opened (kept_open text at old new.place known entered other within);
  broken = still_broken text at old.first_long new.first_long first (no_break text at old.place known.place whole) known.broken;
}

-- no byte before the next quote breaks a field
unbroken_past : (text : List ℕ) (from end : ℕ) → end ≤ length text → ((at : ℕ) → from ≤ at → at < end → byte_at text at ≢ quote) → is_plain (state_at text from) ≡ true
    → IsUnbroken text from → IsUnbroken text end
unbroken_past text from end within none plain known place below breaks =
    elim (dec_lt place from) [
      | yes earlier ↦ known place earlier breaks
      | no not_earlier ↦
          let there : from + (place - from) ≡ place = omega (arith, not_earlier) in
          let later = plain_after text from (place - from) (omega (arith, there, below, within)) (λ at least most. none at least (omega (arith, there, most, below))) plain in
          plain_not_quoted (state_at text place) (rw there at later) breaks.quoted
    ]

broken_past : (text : List ℕ) (from end : ℕ) (first next : Option ℕ) → next ≡ first → (IsUnbroken text from → IsUnbroken text end)
    → MatchOption first (IsUnbroken text from) (IsFirstBroken text) → MatchOption next (IsUnbroken text end) (IsFirstBroken text)
broken_past text from end None next same on known = rw same (on known)
broken_past text from end (Some it) next same on known = rw same known

not_in_quotes : (byte : ℕ) → is_in_quotes (place_after byte) ≡ false
not_in_quotes byte = grind (arith, nat_tests)

-- the bytes before the next quote, where no quoted field is open
pub scanned_past : (text : List ℕ) (from end : ℕ) (old new : Scan) → from < end → end ≤ length text → ((at : ℕ) → from ≤ at → at < end → byte_at text at ≢ quote)
    → is_in_quotes old.place ≡ false → IsScanned text from old → new.place ≡ place_after (byte_at text (end - 1)) → new.first_long ≡ old.first_long → IsScanned text end new
scanned_past text from end old new some within none outside known stands first =
    let plain = plain_at (state_at text from) old.place known.place outside in
    let count = end - 1 - from in
    let last : from + count ≡ end - 1 = omega (arith, some) in
    let next : from + count + 1 ≡ end = omega (arith, some) in
    let past = place_past text from count (omega (arith, last, some, within)) (λ at least most. none at least (omega (arith, next, most))) plain in
    record {
      place = rw stands (rw (next, last) at past);
      opened = λ inside. absurd (false≢true (sym (not_in_quotes (byte_at text (end - 1))) ∙ ap is_in_quotes (sym stands) ∙ inside));
      broken = broken_past text from end old.first_long new.first_long first (unbroken_past text from end within none plain) known.broken;
    }

-- no byte of a text is a quote that a search from an index on has passed
pub no_quote_passed : (text : List ℕ) (from passed : ℕ) → Nowhere (Passes (is_byte quote) (drop from text)) 0 passed → (at : ℕ) → from ≤ at → at < from + passed → byte_at text at ≢ quote
no_quote_passed text from passed none at least most is =
    let there : from + (at - from) ≡ at = omega (arith, least) in
    let here : get_or (drop from text) (at - from) 0 ≡ quote = get_or-drop from text (at - from) 0 ∙ ap (λ n. get_or text n 0) there ∙ is in
    none (at - from) (omega arith) (omega (arith, least, most)) (ap (is_byte quote) here)
