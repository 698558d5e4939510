-- The validation of a record without its values.
use Rattle.std.proofs.Common.{◌≡◌, ℕ, ℤ, true, false, List, [], ◌∷◌, Result, Ok, Err, Option, Some, None, is_some, slice_index_or, refl, ap, sym, ◌∙◌}
use Rattle.std.specs.Prelude.{IfOk}
use Rattle.std.specs.Result.{result_err}
use Rattle.std.proofs.lemmas.Option.{same_Some}
use Rattle.feel_tests.specs.TextBytes.{IsText}
use Rattle.feel_tests.specs.declared.kind.Kind.TheVariants as kinds
use Rattle.feel_tests.specs.declared.value.Value.{Value}
use Rattle.feel_tests.specs.declared.value.Value.TheVariants.{Number, Text, Day}
use Rattle.settlement.specs.declared.claim.Claim.{Claim}
use Rattle.intake_csv.specs.RowSummary.{IsDayLocatedAt, AreIdColumnsOf, IsLocatedAt}
use Rattle.intake_csv.specs.Fields.{IsFieldRead}
use Rattle.intake_csv.specs.Validated.{IsColumnValidated, IsFieldValidated, IsTextUnder}
use Rattle.intake_csv.specs.Record.{IsClaimShaped}
use Rattle.intake_csv.specs.Records.{Fields}
use Rattle.intake_csv.specs.Rows.{AreValues, HoldsUnder, claim_values}
use Rattle.intake_csv.specs.declared.column.Column.{Column}
use Rattle.intake_csv.specs.declared.column.Content.{Content}
use Rattle.intake_csv.specs.declared.column.Content.TheVariants.{Plain}
use Rattle.faults.specs.declared.file_fault.RowCause.{RowCause}
use Rattle.intake_csv.proofs.Spelling.{plain_read}

-- a field that was read is validated
pub validated : {A : Type 0} (value : A → Value) (content : Content) (bytes : List ℕ) (read : Result A RowCause) → IsFieldRead value content bytes read
    → IsFieldValidated content bytes (result_err read)
validated value content bytes (Ok x) h = ((value x, h.0), h.1)
validated value content bytes (Err cause) h = h

-- a text is a valid value of a column of texts
pub words_validated : (bytes : List ℕ) → IsText bytes → IsFieldValidated (Plain kinds.Text) bytes None
words_validated bytes text =
    let read = plain_read kinds.Text bytes (Text bytes) text (refl, refl, text.1) in
    ((Text bytes, read.0), read.1)

-- a column whose field is validated
pub column_validated : {E : Type 0} (fields : Fields) (c : Column) (bytes : List ℕ) (result : Result (Option RowCause) E) → IsTextUnder fields c bytes
    → IfOk result (IsFieldValidated c.content bytes) → IfOk result (IsColumnValidated fields c)
column_validated fields c bytes (Ok None) text h = (
  (h.0.0, record { bytes = bytes; field = text.0; holds = h.0.1 }),
  λ cause faulty.
      let same = same_Some faulty.bytes bytes (sym faulty.field ∙ text.0) in
      h.1 cause (rw same at faulty.faulty),
)
column_validated fields c bytes (Ok (Some cause)) text h = record { bytes = bytes; field = text.0; faulty = h }
column_validated fields c bytes (Err fault) text h = tt

-- the text of a column is its unchanged field
located : (fields : Fields) (c : Column) (t : List ℕ) → HoldsUnder fields c (Text t) → IsLocatedAt fields c.place t
located fields c t h = h.field ∙ ap Some (sym h.holds.spells.plain.1)

-- the date of a column is denoted by its field
day-located : (fields : Fields) (c : Column) (day : ℤ) → HoldsUnder fields c (Day day) → IsDayLocatedAt fields c.place day
day-located fields c day h = record { bytes = h.bytes; field = h.field; text = h.holds.text.0; spells = (refl, h.holds.spells.plain.1) }

no-family : (family : Option (List ℕ)) → is_some family ≡ false → family ≡ None
no-family None e = refl
no-family (Some text) e = absurd (cc e)

some-family : (family : Option (List ℕ)) → is_some family ≡ true → (text : List ℕ) × (family ≡ Some text)
some-family None e = absurd (cc e)
some-family (Some text) e = (text, refl)

-- the columns that identify a claim without a family
alone : (fields : Fields) (columns : List Column) (d : Column) (id member : List ℕ) (service billed : ℤ) (more : List Value)
    → AreValues fields columns (Text id ∷ Text member ∷ Day service ∷ Number billed ∷ more)
    → IsLocatedAt fields (slice_index_or columns 0 d).place id × IsLocatedAt fields (slice_index_or columns 1 d).place member × HoldsUnder fields (slice_index_or columns 2 d) (Day service)
alone fields [] d id member service billed more h = absurd h
alone fields (a ∷ []) d id member service billed more h = absurd h.1
alone fields (a ∷ b ∷ []) d id member service billed more h = absurd h.1.1
alone fields (a ∷ b ∷ c ∷ cs) d id member service billed more h = (located fields a id h.0, located fields b member h.1.0, h.1.1.0)

-- the columns that identify a claim with a family
joined : (fields : Fields) (columns : List Column) (d : Column) (id family member : List ℕ) (service billed : ℤ) (more : List Value)
    → AreValues fields columns (Text id ∷ Text family ∷ Text member ∷ Day service ∷ Number billed ∷ more)
    → IsLocatedAt fields (slice_index_or columns 0 d).place id × IsLocatedAt fields (slice_index_or columns 1 d).place family × IsLocatedAt fields (slice_index_or columns 2 d).place member
    × HoldsUnder fields (slice_index_or columns 3 d) (Day service)
joined fields [] d id family member service billed more h = absurd h
joined fields (a ∷ []) d id family member service billed more h = absurd h.1
joined fields (a ∷ b ∷ []) d id family member service billed more h = absurd h.1.1
joined fields (a ∷ b ∷ c ∷ []) d id family member service billed more h = absurd h.1.1.1
joined fields (a ∷ b ∷ c ∷ e ∷ es) d id family member service billed more h = (located fields a id h.0, located fields b family h.1.0, located fields c member h.1.1.0, h.1.1.1.0)

-- the values without a column of the family are those of a claim, and these columns identify it
pub record IsAlone (fields : Fields) (columns : List Column) (d : Column) : Type 0 where
  pub claim : Claim
  pub values : AreValues fields columns (claim_values claim)
  pub id_columns : AreIdColumnsOf fields
      (record { id = (slice_index_or columns 0 d).place; family = None; member = (slice_index_or columns 1 d).place; service = (slice_index_or columns 2 d).place }) claim

pub is-alone : (fields : Fields) (columns : List Column) (d : Column) (values : List Value) → IsClaimShaped false values → AreValues fields columns values → IsAlone fields columns d
is-alone fields columns d values s h =
    let none = no-family s.claim.family s.has_family in
    let are = rw s.values_are at h in
    let h' = rw none at are in
    let at = alone fields columns d s.claim.id s.claim.member s.claim.service s.claim.billed s.claim.fields h' in
    record {
      claim = s.claim;
      values = are;
      id_columns = record { id = at.0; family = rw none tt; member = at.1; service = day-located fields (slice_index_or columns 2 d) s.claim.service at.2 };
    }

-- the values with a column of the family are those of a claim, and these columns identify it
pub record IsJoined (fields : Fields) (columns : List Column) (d : Column) : Type 0 where
  pub claim : Claim
  pub values : AreValues fields columns (claim_values claim)
  pub id_columns : AreIdColumnsOf fields
      (record {
        id = (slice_index_or columns 0 d).place;
        family = Some (slice_index_or columns 1 d).place;
        member = (slice_index_or columns 2 d).place;
        service = (slice_index_or columns 3 d).place;
      }) claim

pub is-joined : (fields : Fields) (columns : List Column) (d : Column) (values : List Value) → IsClaimShaped true values → AreValues fields columns values → IsJoined fields columns d
is-joined fields columns d values s h =
    let (family, some) = some-family s.claim.family s.has_family in
    let are = rw s.values_are at h in
    let h' = rw some at are in
    let at = joined fields columns d s.claim.id family s.claim.member s.claim.service s.claim.billed s.claim.fields h' in
    record {
      claim = s.claim;
      values = are;
      id_columns = record { id = at.0; family = rw some at.1; member = at.2; service = day-located fields (slice_index_or columns 3 d) s.claim.service at.3 };
    }
