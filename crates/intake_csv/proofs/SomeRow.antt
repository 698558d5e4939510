-- No record lacks a row: it is a claim, or it has a first fault.
use Rattle.std.proofs.Common.{inl, inr, ◌≡◌, ◌<◌, ◌≤◌, ◌≤ℤ◌, ◌+◌, ◌⊎◌, ℕ, ℤ, pos, suc, false, List, [], ◌∷◌, ◌++◌, length, map, get_or, Some, refl, sym, ap, ◌∙◌, arith}
use Rattle.std.specs.List.{All, Any, count_by, slice_get}
use Rattle.std.proofs.lemmas.Bool.{cases_Bool, cases_eq, cases_lt}
use Rattle.std.proofs.lemmas.Int.{ints}
use Rattle.std.proofs.lemmas.List.Elements.{All-cons, All-nil, All-weaker}
use Rattle.csv.specs.Records.{field_at}
use Rattle.fixpoint.specs.Number.{is_negative}
use Rattle.feel_tests.specs.TextBytes.{IsText}
use Rattle.feel_tests.specs.declared.kind.Kind.{Kind}
use Rattle.feel_tests.specs.declared.text.TheConstants.{TEXT_LIMIT_BYTES}
use Rattle.feel_tests.specs.declared.value.Value.{Value}
use Rattle.feel_tests.specs.declared.value.Value.TheVariants.{Number, Text, Flag, Day}
use Rattle.tables.specs.declared.table.InputData.{InputData}
use Rattle.intake_csv.specs.Records.{Fields}
use Rattle.intake_csv.specs.Columns.{AreColumnsOf, IsHeaderedFile, claim_columns, fields_among, have_family}
use Rattle.intake_csv.specs.Fields.{Holds, IsFaultless, IsFaulty, Spells}
use Rattle.intake_csv.specs.Rows.{AreRows, AreValues, HoldsUnder, IsFaultlessUnder, IsFaultyUnder, IsFirstFault, IsRow, claims_in, field_count, is_claim}
use Rattle.intake_csv.specs.declared.column.Column.{Column}
use Rattle.intake_csv.specs.declared.column.Content.{Content}
use Rattle.intake_csv.specs.declared.column.Content.TheVariants.{Identifier, Money, Plain, Year}
use Rattle.intake_csv.specs.declared.column.Layout.{Layout}
use Rattle.intake_csv.specs.declared.column.RequiredColumn.{RequiredColumn}
use Rattle.faults.specs.declared.file_fault.RowCause.{RowCause}
use Rattle.faults.specs.declared.file_fault.RowCause.TheVariants.{Utf8, TooLong, EmptyId, Value as NoValue, NotCents, Negative}
use Rattle.faults.specs.declared.file_fault.RowFault.{RowFault}
use Rattle.intake_csv.specs.declared.rows.Row.{Row}
use Rattle.intake_csv.specs.declared.rows.Row.TheVariants.{Good, Bad}
use Rattle.intake_csv.specs.Laws.{RowsOf}
use Rattle.intake_csv.proofs.Handing.{count-row}
use Rattle.intake_csv.proofs.Lists.{field_at-get_or, field_at-within}
use Rattle.intake_csv.proofs.Shapes.{claim-contents, claim-shaped}

not_negative : (units : ℤ) → is_negative units ≡ false → pos 0 ≤ℤ units
not_negative (ℤ.pos n) e = omega (arith, ints)
not_negative (ℤ.negsuc n) e = absurd (cc e)

-- a number in a column of money without a fault
money : (bytes : List ℕ) (units : ℤ) → IsText bytes → Spells Money bytes (Number units) → IsFaultless Money bytes → ¬ ¬ Holds Money bytes (Number units)
money bytes units text spells none k = none NotCents (
  refl,
  record {
    text = text;
    units = units;
    denotes = spells.plain.1;
    finer = λ cents. elim (cases_Bool (is_negative units)) [
      | inl below ↦ none Negative (refl, record { text = text; units = units; denotes = spells.plain.1; cents = cents; below = below })
      | inr above ↦ k (record { text = text; spells = spells; allowed = (units, refl, (cents, not_negative units above)) })
    ];
  },
)

-- a denoted value without a fault
value : (content : Content) (bytes : List ℕ) (v : Value) → IsText bytes → Spells content bytes v → IsFaultless content bytes → ¬ ¬ Holds content bytes v
value Identifier bytes v text spells none k = k (record { text = text; spells = spells; allowed = λ e. none EmptyId (refl, e) })
value Year bytes v text spells none k = k (record { text = text; spells = spells; allowed = tt })
value (Plain kind) bytes v text spells none k = k (record { text = text; spells = spells; allowed = tt })
value Money bytes (Number units) text spells none k = money bytes units text spells none k
value Money bytes (Text t) text spells none k = cc spells.plain.0
value Money bytes (Flag f) text spells none k = cc spells.plain.0
value Money bytes (Day d) text spells none k = cc spells.plain.0

-- a field has a value and no fault, or a fault
abbrev FieldOf : Content → List ℕ → Type 0
FieldOf content bytes = ((v : Value) × Holds content bytes v × IsFaultless content bytes) ⊎ ((cause : RowCause) × IsFaulty content bytes cause)

short : (n limit : ℕ) → ¬ (limit < n) → n ≤ limit
short n limit h = elim (cases_lt limit n) [ inl over ↦ absurd (h over) | inr within ↦ within ]

field : (content : Content) (bytes : List ℕ) → ¬ ¬ FieldOf content bytes
field content bytes k =
    let none : IsFaultless content bytes = λ cause h. k (inr (cause, h)) in
    none Utf8 (λ utf8.
    let text : IsText bytes = (utf8, short (length bytes) TEXT_LIMIT_BYTES (λ over. none TooLong (utf8, over))) in
    none NoValue (text, λ v spells. value content bytes v text spells none (λ holds. k (inl (v, holds, none)))))

module _ (fields : Fields) where
  -- the field of a column has a value and no fault, or a fault
  abbrev UnderOf : Column → Type 0
  UnderOf c = ((v : Value) × HoldsUnder fields c v × IsFaultlessUnder fields c) ⊎ ((cause : RowCause) × IsFaultyUnder fields cause c)

  under_field : (c : Column) (bytes : List ℕ) → field_at fields c.place ≡ Some bytes → FieldOf c.content bytes → UnderOf c
  under_field c bytes e (inl (v, holds, none)) = inl (
    v,
    record { bytes = bytes; field = e; holds = holds },
    λ cause h.
        let found : Some h.bytes ≡ Some bytes = sym h.field ∙ e in
        let same : h.bytes ≡ bytes = cc found in
        none cause (rw same at h.faulty),
  )
  under_field c bytes e (inr (cause, faulty)) = inr (cause, record { bytes = bytes; field = e; faulty = faulty })

  -- all columns have values and no fault, or there is a first fault
  abbrev AllOf : List Column → Type 0
  AllOf columns = ((vs : List Value) × AreValues fields columns vs × All (IsFaultlessUnder fields) columns) ⊎ ((f : RowFault) × IsFirstFault fields columns f)

  abbrev IsOf : RowFault → Column → Type 0
  IsOf f c = (c.place + 1 ≡ f.column) × IsFaultyUnder fields f.cause c

  abbrev IsLeftFaultless : ℕ → Column → Type 0
  IsLeftFaultless column c = c.place + 1 < column → IsFaultlessUnder fields c

  following : (f : RowFault) (c : Column) (cs : List Column) → Any (IsOf f) cs → Any (IsOf f) (c ∷ cs)
  following f c cs (k, x, within, is, has) = (suc k, x, omega (arith, within), is, has)

  -- the fault of the first column is the first fault if no column to the left of it has one
  first_here : (c : Column) (cs : List Column) (cause : RowCause) → IsFaultyUnder fields cause c → All (IsLeftFaultless (c.place + 1)) cs
      → IsFirstFault fields (c ∷ cs) (record { column = c.place + 1; cause = cause })
  first_here c cs cause faulty left = record {
    faulty = (0, c, omega arith, refl, (refl, faulty));
    first = All-cons (IsLeftFaultless (c.place + 1)) c cs (λ before. absurd (omega (arith, before))) left;
  }

  join : (c : Column) (cs : List Column) → UnderOf c → AllOf cs → AllOf (c ∷ cs)
  join c cs (inl (v, holds, none)) (inl (vs, values, nones)) = inl (v ∷ vs, (holds, values), All-cons (IsFaultlessUnder fields) c cs none nones)
  join c cs (inl (v, holds, none)) (inr (f, first)) = inr (
    f,
    record {
      faulty = following f c cs first.faulty;
      first = All-cons (IsLeftFaultless f.column) c cs (λ before. none) first.first;
    },
  )
  join c cs (inr (cause, faulty)) (inl (vs, values, nones)) = inr (
    record { column = c.place + 1; cause = cause },
    first_here c cs cause faulty (All-weaker (IsFaultlessUnder fields) (IsLeftFaultless (c.place + 1)) (λ x none before. none) cs nones),
  )
  join c cs (inr (cause, faulty)) (inr (f, first)) = elim (cases_lt (c.place + 1) f.column) [
    | inl less ↦ inr (
      record { column = c.place + 1; cause = cause },
      first_here c cs cause faulty (All-weaker (IsLeftFaultless f.column) (IsLeftFaultless (c.place + 1)) (λ x none before. none (omega (arith, before, less))) cs first.first),
    )
    | inr least ↦ inr (
      f,
      record {
        faulty = following f c cs first.faulty;
        first = All-cons (IsLeftFaultless f.column) c cs (λ before. absurd (omega (arith, before, least))) first.first;
      },
    )
  ]

  all_columns : (header : Fields) (required_column : List RequiredColumn) (columns : List Column) → AreColumnsOf header required_column columns → length fields ≡ length header → ¬ ¬ AllOf columns
  all_columns header [] [] h same k = k (inl ([], tt, All-nil (IsFaultlessUnder fields)))
  all_columns header [] (c ∷ cs) h same k = absurd h
  all_columns header (n ∷ ns) [] h same k = absurd h
  all_columns header (n ∷ ns) (c ∷ cs) h same k =
      let within = (field_at-get_or header c.place n.name h.0.located).0 in
      let bytes = get_or fields c.place [] in
      let e = field_at-within fields c.place (omega (arith, within, same)) in
      field c.content bytes (λ f. all_columns header ns cs h.1 same (λ all. k (join c cs (under_field c bytes e f) all)))

-- the header of a claim file determines the contents of the columns
record HasColumns (names : List InputData) (layout : Layout) : Type 0 where
  pub header : Fields
  pub width : layout.width ≡ length header
  pub columns : AreColumnsOf header (claim_columns names) layout.columns

-- the row of a record
record RowOf (layout : Layout) (number place : ℕ) (fields : Fields) : Type 0 where
  pub row : Row
  pub is : IsRow layout number place fields row

row_by : (names : List InputData) (layout : Layout) (number place : ℕ) (fields : Fields) → HasColumns names layout → length fields ≡ layout.width → AllOf fields layout.columns
    → RowOf layout number place fields
row_by names layout number place fields h same (inl (vs, values, nones)) =
    let kinds : List Kind = map (λ d. d.kind) (fields_among names) in
    let made = claim-shaped (have_family names) fields layout.columns vs kinds (claim-contents names h.header layout.columns h.columns) values in
    record { row = Good number place made.claim; is = (refl, refl, (same, rw made.values_are at values)) }
row_by names layout number place fields h same (inr (f, first)) = record { row = Bad number f; is = (refl, inr (same, first)) }

some_row : (names : List InputData) (layout : Layout) (number place : ℕ) (fields : Fields) → HasColumns names layout → ¬ ¬ RowOf layout number place fields
some_row names layout number place fields h k = elim (cases_eq (length fields) layout.width) [
  | inr other ↦ k (record { row = Bad number field_count; is = (refl, inl (other, refl)) })
  | inl same ↦ all_columns fields h.header (claim_columns names) layout.columns h.columns (same ∙ h.width) (λ all. k (row_by names layout number place fields h same all))
]

-- the rows of a record and of those after it
row_more : (layout : Layout) (number place : ℕ) (f : Fields) (records : List Fields) (row : Row) (rows : List Row) → IsRow layout number place f row
    → AreRows layout (number + 1) (place + claims_in row) records rows → AreRows layout number place (f ∷ records) (row ∷ rows)
row_more layout number place f records row rows is h = record { as_many = ap suc h.as_many; each = each }
  where
    each : (before after : List Row) (r : Row) (fields : Fields) → row ∷ rows ≡ before ++ r ∷ after → slice_get (f ∷ records) (length before) ≡ Some fields
        → IsRow layout (number + length before) (place + count_by is_claim before) fields r
    each [] after r fields e at =
        let same : row ≡ r = cc e in
        let found : f ≡ fields = cc at in
        let numbered : number + length {A = Row} [] ≡ number = omega arith in
        let placed : place + count_by is_claim [] ≡ place = omega arith in
        rw (numbered, placed, ← found, ← same) is
    each (b ∷ bs) after r fields e at =
        let same : row ≡ b = cc e in
        let others : rows ≡ bs ++ r ∷ after = cc e in
        let step = h.each bs after r fields others at in
        let counted = count-row row bs in
        let more : (number + 1) + length bs ≡ number + suc (length bs) = omega arith in
        let placed : (place + claims_in row) + count_by is_claim bs ≡ place + count_by is_claim (row ∷ bs) = omega (arith, counted) in
        rw (← same) (rw (more, placed) at step)

-- a list of rows of these records
record RowsAmong (layout : Layout) (number place : ℕ) (records : List Fields) : Type 0 where
  pub rows : List Row
  pub are : AreRows layout number place records rows

some_rows : (names : List InputData) (layout : Layout) (number place : ℕ) (records : List Fields) → HasColumns names layout → ¬ ¬ RowsAmong layout number place records
some_rows names layout number place [] h k = k (record { rows = []; are = record { as_many = refl; each = λ before after row fields e at. absurd (cc at) } })
some_rows names layout number place (f ∷ records) h k = some_row names layout number place f h (λ r.
    some_rows names layout (number + 1) (place + claims_in r.row) records h (λ rs.
    k (record { rows = r.row ∷ rs.rows; are = row_more layout number place f records r.row rs.rows r.is rs.are })))

-- no claim file lacks a list of rows
pub file_rows : (names : List InputData) (text : List ℕ) (layout : Layout) (records : List Fields) → IsHeaderedFile (claim_columns names) text layout records → ¬ ¬ RowsOf names text
file_rows names text layout records headered_file k =
    some_rows names layout 1 0 records (record { header = headered_file.header; width = headered_file.width; columns = headered_file.columns }) (λ rs.
    k (record { rows = rs.rows; are = record { layout = layout; records = records; headered_file = headered_file; are_rows = rs.are } }))
