-- A field has at most one value or one fault in its column.
use Rattle.std.proofs.Common.{inl, inr, ◌≡◌, ◌<◌, ℕ, ℤ, zero, suc, List, [], length, refl, sym, ap, ◌∙◌, arith}
use Rattle.std.proofs.lemmas.Bool.{cases_lt}
use Rattle.std.proofs.lemmas.Str.{IsUtf8-nil}
use Rattle.fixpoint.specs.NumberText.{Denotes, DenotesAtMostOne}
use Rattle.feel_tests.specs.Plain.{SpellsOnePlain}
use Rattle.feel_tests.specs.declared.value.Value.{Value}
use Rattle.feel_tests.specs.declared.value.Value.TheVariants.{Number, Text}
use Rattle.intake_csv.specs.Columns.{kind_under}
use Rattle.faults.specs.FileFaultNumber.{cause_number_of}
use Rattle.intake_csv.specs.Fields.{Holds, IsFaulty, Spells}
use Rattle.intake_csv.specs.declared.column.Content.{Content}
use Rattle.intake_csv.specs.declared.column.Content.TheVariants.{Identifier, Money}
use Rattle.faults.specs.declared.file_fault.RowCause.{RowCause}
use Rattle.faults.specs.declared.file_fault.RowCause.TheVariants.{FieldCount, Utf8, TooLong, EmptyId, Value as NoValue, NotCents, Negative, Repeated, Sum}
use Rattle.intake_csv.proofs.Amounts.{not_below}

-- the cause with a number
cause_of : ℕ → RowCause
cause_of (suc zero) = FieldCount
cause_of (suc (suc zero)) = Utf8
cause_of (suc (suc (suc zero))) = TooLong
cause_of (suc (suc (suc (suc zero)))) = EmptyId
cause_of (suc (suc (suc (suc (suc zero))))) = NoValue
cause_of (suc (suc (suc (suc (suc (suc zero)))))) = NotCents
cause_of (suc (suc (suc (suc (suc (suc (suc zero))))))) = Negative
cause_of (suc (suc (suc (suc (suc (suc (suc (suc zero)))))))) = Repeated
cause_of _ = Sum

numbered : (cause : RowCause) → cause_of (cause_number_of cause) ≡ cause
unfolding cause_of
numbered FieldCount = refl
numbered Utf8 = refl
numbered TooLong = refl
numbered EmptyId = refl
numbered NoValue = refl
numbered NotCents = refl
numbered Negative = refl
numbered Repeated = refl
numbered Sum = refl

-- an empty field denotes a value in a column of identifiers
empty-text : (content : Content) (bytes : List ℕ) → content ≡ Identifier → bytes ≡ [] → Spells content bytes (Text [])
empty-text content bytes e f = record { plain = rw (e, f) (refl, refl, omega arith); year = λ g. cc (sym e ∙ g) }

-- a number denotes a value in a column of money
number-spelled : (content : Content) (bytes : List ℕ) (units : ℤ) → content ≡ Money → Denotes bytes units → Spells content bytes (Number units)
number-spelled content bytes units e d = record { plain = rw e (refl, d); year = λ f. cc (sym e ∙ f) }

module _ (one : DenotesAtMostOne) where
  -- a fault excludes those that are tested after it
  apart : (content : Content) (bytes : List ℕ) (cause other : RowCause) → cause_number_of cause < cause_number_of other → IsFaulty content bytes cause → ¬ IsFaulty content bytes other
  apart content bytes FieldCount other less h k = h
  apart content bytes Repeated other less h k = h
  apart content bytes cause FieldCount less h k = k
  apart content bytes cause Repeated less h k = k
  apart content bytes Utf8 TooLong less h k = h k.0
  apart content bytes Utf8 EmptyId less h k = h (rw k.1 IsUtf8-nil)
  apart content bytes Utf8 NoValue less h k = h k.0.0
  apart content bytes Utf8 NotCents less h k = h k.1.text.0
  apart content bytes Utf8 Negative less h k = h k.1.text.0
  apart content bytes TooLong EmptyId less h k = let size = ap length k.1 in omega (arith, h.1, size)
  apart content bytes TooLong NoValue less h k = omega (arith, h.1, k.0.1)
  apart content bytes TooLong NotCents less h k = omega (arith, h.1, k.1.text.1)
  apart content bytes TooLong Negative less h k = omega (arith, h.1, k.1.text.1)
  apart content bytes EmptyId NoValue less h k = k.1 (Text []) (empty-text content bytes h.0 h.1)
  apart content bytes EmptyId NotCents less h k = cc (sym h.0 ∙ k.0)
  apart content bytes EmptyId Negative less h k = cc (sym h.0 ∙ k.0)
  apart content bytes NoValue NotCents less h k = h.1 (Number k.1.units) (number-spelled content bytes k.1.units k.0 k.1.denotes)
  apart content bytes NoValue Negative less h k = h.1 (Number k.1.units) (number-spelled content bytes k.1.units k.0 k.1.denotes)
  apart content bytes NotCents Negative less h k = let same = one bytes k.1.units h.1.units k.1.denotes h.1.denotes in h.1.finer (rw same at k.1.cents)
  apart content bytes cause other less h k = omega (arith, less)

  -- a field has at most one fault
  pub cause-one : (content : Content) (bytes : List ℕ) (cause other : RowCause) → IsFaulty content bytes cause → IsFaulty content bytes other → cause ≡ other
  cause-one content bytes cause other h k = elim (cases_lt (cause_number_of cause) (cause_number_of other)) [
    | inl below ↦ absurd (apart content bytes cause other below h k)
    | inr above ↦ elim (cases_lt (cause_number_of other) (cause_number_of cause)) [
      | inl below ↦ absurd (apart content bytes other cause below k h)
      | inr over ↦
          let same : cause_number_of cause ≡ cause_number_of other = omega (arith, above, over) in
          sym (numbered cause) ∙ ap cause_of same ∙ numbered other
    ]
  ]

  -- a field with a value has no fault
  pub held-faultless : (content : Content) (bytes : List ℕ) (v : Value) (cause : RowCause) → Holds content bytes v → ¬ IsFaulty content bytes cause
  held-faultless content bytes v FieldCount h k = k
  held-faultless content bytes v Repeated h k = k
  held-faultless content bytes v Sum h k = k
  held-faultless content bytes v Utf8 h k = k h.text.0
  held-faultless content bytes v TooLong h k = omega (arith, k.1, h.text.1)
  held-faultless content bytes v EmptyId h k = let allowed = rw k.0 at h.allowed in allowed k.1
  held-faultless content bytes v NoValue h k = k.1 v h.spells
  held-faultless content bytes v NotCents h k =
      let (units, is, money) = rw k.0 at h.allowed in
      let spells = rw (is, k.0) at h.spells.plain in
      let same = one bytes units k.1.units spells.1 k.1.denotes in
      k.1.finer (rw same at money.0)
  held-faultless content bytes v Negative h k =
      let (units, is, money) = rw k.0 at h.allowed in
      let spells = rw (is, k.0) at h.spells.plain in
      let same = one bytes units k.1.units spells.1 k.1.denotes in
      not_below units money.1 (rw (← same) at k.1.below)

-- a field has at most one value
pub held-one : SpellsOnePlain → (content : Content) (bytes : List ℕ) (v w : Value) → Holds content bytes v → Holds content bytes w → v ≡ w
held-one plain content bytes v w h k = plain (kind_under content) bytes v w h.spells.plain k.spells.plain
