-- The texts of fields and rows, one after another.
use Rattle.std.proofs.Common.{◌≡◌, ◌≢◌, ◌<◌, ◌≤◌, ◌+◌, inl, inr, ℕ, zero, suc, Bool, true, false, cond, List, [], ◌∷◌, ◌++◌, ◌||◌, length, map, take, get_or, slice_get, Some, refl, sym, ap, subst, ◌∙◌, below_more, arith}
use Rattle.std.specs.List.{AllZip, count_by, list_all}
use Rattle.std.proofs.lemmas.Bool.{and_parts, cases_Bool}
use Rattle.std.proofs.lemmas.Option.{none-some, same_Some, slice_get-get_or}
use Rattle.std.proofs.lemmas.List.{append-nil, append_assoc, length-map, length-take-le, map_push, take_more}
use Rattle.std.proofs.lemmas.List.Sums.{count_by-le-length, sum_by-cons}
use Rattle.intake_csv.specs.Records.{Fields}
use Rattle.csv.specs.Records.{Row, field_at, fields_of}
use Rattle.tables.specs.declared.inputs.Slot.{Slot}
use Rattle.tables.specs.Plan.{PlanParts}
use Rattle.plan_rows.specs.declared.columns.Column.{Column}
use Rattle.plan_rows.specs.declared.finding.Finding.{Finding}
use Rattle.plan_rows.specs.declared.judging.Judged.{Judged}
use Rattle.plan_rows.specs.declared.judging.Judgement.{Judgement}
use Rattle.plan_rows.specs.declared.judging.Judgement.TheVariants.{Right, Wrong}
use Rattle.plan_rows.specs.declared.report.Counts.{Counts}
use Rattle.plan_rows.specs.declared.testing.Tested.TheVariants.{AllRight, Differing}
use Rattle.plan_rows.specs.Columns.{settles}
use Rattle.plan_rows.specs.Filing.{IsUnfit}
use Rattle.plan_rows.specs.Lines.{AreFieldTexts, IsFieldText, IsMet, IsRowText, MeetsRow, difference_line, expects_faults, fault_line, found_fault, found_text, is_for_faults, shown, unexpected_line}
use Rattle.plan_rows.specs.Report.{AreJudged, HasValues, IsBadField, IsFindingOf, IsJudged, IsRefusedBy, IsUnfitIn, IsUnreadIn, counts_of, is_right, tested_of, width_line}
use Rattle.plan_rows.proofs.HeaderColumns.{names_more}

module _ (number : ℕ) (finding : Finding) where
  -- the text for one more field
  pub field_texts_pushed : (columns : List Column) (fields : Fields) (text : List ℕ) (column : Column) (field line : List ℕ) → AreFieldTexts number finding columns fields text
      → IsFieldText number finding column field line → AreFieldTexts number finding (columns ++ column ∷ []) (fields ++ field ∷ []) (text ++ line)
  field_texts_pushed [] [] text column field line before next = (line, [], next, refl, ap (λ t. t ++ line) before ∙ sym (append-nil line))
  field_texts_pushed [] (f ∷ fs) text column field line before next = absurd before
  field_texts_pushed (c ∷ cs) [] text column field line before next = absurd before
  field_texts_pushed (c ∷ cs) (f ∷ fs) text column field line before next = (
    before.0,
    before.1 ++ line,
    before.2,
    field_texts_pushed cs fs before.1 column field line before.3 next,
    ap (λ t. t ++ line) before.4 ∙ append_assoc before.0 before.1 line,
  )

  pub empty_parts : (front back : List ℕ) → [] ≡ front ++ back → (front ≡ []) × (back ≡ [])
  empty_parts [] [] e = (refl, refl)
  empty_parts [] (b ∷ bs) e = absurd (cc e)
  empty_parts (f ∷ fs) back e = absurd (cc e)

  -- a difference has a line
  met_if_empty : (column : Column) (field line : List ℕ) → IsFieldText number finding column field line → line ≡ [] → IsMet finding column field
  met_if_empty column field line (inl met) none = met.0
  met_if_empty column field line (inr differs) none = absurd (cc (sym differs.1 ∙ none))

  -- each expectation is met if there is no line
  pub all_met : (columns : List Column) (fields : Fields) (text : List ℕ) → AreFieldTexts number finding columns fields text → text ≡ [] → AllZip (IsMet finding) columns fields
  all_met [] [] text texts none = tt
  all_met [] (f ∷ fs) text texts none = absurd texts
  all_met (c ∷ cs) [] text texts none = absurd texts
  all_met (c ∷ cs) (f ∷ fs) text texts none =
      let parts = empty_parts texts.0 texts.1 (sym none ∙ texts.4) in
      (met_if_empty c f texts.0 texts.2 parts.0, all_met cs fs texts.1 texts.3 parts.1)

-- the text for one more row
pub judged_pushed : (plan : PlanParts) (columns : List Column) (start : ℕ) (rows : List Fields) (judgements : List Judgement) (text : List ℕ) (fields : Fields) (judgement : Judgement)
    (line : List ℕ) → AreJudged start plan columns rows judgements text → IsJudged (start + length rows) plan columns fields judgement line
    → AreJudged start plan columns (rows ++ fields ∷ []) (judgements ++ judgement ∷ []) (text ++ line)
judged_pushed plan columns start [] [] text fields judgement line before next =
    let here : start + 0 ≡ start = omega arith in
    let first : IsJudged start plan columns fields judgement line = subst (λ n. IsJudged n plan columns fields judgement line) here next in
    (line, [], first, refl, ap (λ t. t ++ line) before ∙ sym (append-nil line))
judged_pushed plan columns start [] (j ∷ js) text fields judgement line before next = absurd before
judged_pushed plan columns start (f ∷ fs) [] text fields judgement line before next = absurd before
judged_pushed plan columns start (f ∷ fs) (j ∷ js) text fields judgement line before next =
    let later : IsJudged ((start + 1) + length fs) plan columns fields judgement line = subst (λ n. IsJudged n plan columns fields judgement line) (omega arith) next in (
      before.0,
      before.1 ++ line,
      before.2,
      judged_pushed plan columns (start + 1) fs js before.1 fields judgement line before.3 later,
      ap (λ t. t ++ line) before.4 ∙ append_assoc before.0 before.1 line,
    )

-- as many rows have been judged as there are judgements
pub as_many : (plan : PlanParts) (columns : List Column) (start : ℕ) (rows : List Fields) (judgements : List Judgement) (text : List ℕ) → AreJudged start plan columns rows judgements text
    → length rows ≡ length judgements
as_many plan columns start [] [] text judged = refl
as_many plan columns start [] (j ∷ js) text judged = absurd judged
as_many plan columns start (f ∷ fs) [] text judged = absurd judged
as_many plan columns start (f ∷ fs) (j ∷ js) text judged = ap suc (as_many plan columns (start + 1) fs js judged.1 judged.3)

-- all items pass exactly if as many pass as there are
counted_all : {A : Type 0} (test : A → Bool) (xs : List A) → count_by test xs ≡ length xs → list_all test xs ≡ true
counted_all test [] same = refl
counted_all test (x ∷ xs) same =
    let step : count_by test (x ∷ xs) ≡ cond (test x) 1 0 + count_by test xs = sum_by-cons (λ y. cond (test y) 1 0) x xs in
    elim (cases_Bool (test x)) [
      | inl passes ↦
          let more : 1 + count_by test xs ≡ suc (length xs) = sym (ap (λ b. cond b 1 0 + count_by test xs) passes) ∙ sym step ∙ same in
          let rest : count_by test xs ≡ length xs = omega (arith, more) in
          rw passes (counted_all test xs rest)
      | inr fails ↦
          let few = count_by-le-length test xs in
          let more : 0 + count_by test xs ≡ suc (length xs) = sym (ap (λ b. cond b 1 0 + count_by test xs) fails) ∙ sym step ∙ same in
          absurd (omega (arith, few, more))
    ]

all_counted : {A : Type 0} (test : A → Bool) (xs : List A) → list_all test xs ≡ true → count_by test xs ≡ length xs
all_counted test [] all = refl
all_counted test (x ∷ xs) all =
    let both = and_parts (test x) (list_all test xs) all in
    let rest : count_by test xs ≡ length xs = all_counted test xs both.1 in
    let more : 1 + count_by test xs ≡ suc (length xs) = omega (arith, rest) in
    sum_by-cons (λ y. cond (test y) 1 0) x xs ∙ ap (λ b. cond b 1 0 + count_by test xs) both.0 ∙ more

-- without rows there are no judgements
pub tested_none : (judgements : List Judgement) (counts : Counts) → counts ≡ counts_of judgements → counts.rows ≡ 0 → tested_of judgements ≡ Differing
tested_none [] counts is none = refl
tested_none (j ∷ js) counts is none = absurd (cc (sym none ∙ ap (λ (c : Counts). c.rows) is))

pub tested_right : (judgements : List Judgement) (counts : Counts) → counts ≡ counts_of judgements → counts.rows ≢ 0 → counts.right ≡ counts.rows → tested_of judgements ≡ AllRight
tested_right [] counts is some same = absurd (some (ap (λ (c : Counts). c.rows) is))
tested_right (j ∷ js) counts is some same =
    let all : list_all is_right (j ∷ js) ≡ true = counted_all is_right (j ∷ js) (sym (ap (λ (c : Counts). c.right) is) ∙ same ∙ ap (λ (c : Counts). c.rows) is) in
    ap (λ b. cond b AllRight Differing) all

pub tested_differing : (judgements : List Judgement) (counts : Counts) → counts ≡ counts_of judgements → counts.right ≢ counts.rows → tested_of judgements ≡ Differing
tested_differing [] counts is other = refl
tested_differing (j ∷ js) counts is other =
    elim (cases_Bool (list_all is_right (j ∷ js))) [
      | inl all ↦ absurd (other (ap (λ (c : Counts). c.right) is ∙ all_counted is_right (j ∷ js) all ∙ sym (ap (λ (c : Counts). c.rows) is)))
      | inr some ↦ ap (λ b. cond b AllRight Differing) some
    ]

no_fault : (number : ℕ) (found : List ℕ) → fault_line number found ≡ [] → found ≡ []
no_fault number [] none = refl
no_fault number (byte ∷ bytes) none = absurd (cc none)

-- a row without a line is right, and one with lines is wrong
pub row_right : (number : ℕ) (finding : Finding) (columns : List Column) (fields : Fields) (text : List ℕ) → IsRowText number finding columns fields text → text ≡ []
    → MeetsRow finding columns fields
row_right number finding columns fields text is none =
    let parts = empty_parts number finding (unexpected_line number columns fields finding) is.lines (sym none ∙ is.joined) in
    record {
      each = all_met number finding columns fields is.lines is.are_lines parts.1;
      without_fault = λ absent. no_fault number (found_fault finding) (sym (ap (λ b. cond b [] (fault_line number (found_fault finding))) absent) ∙ parts.0);
    }

-- a row without a line is right
pub judged_right : (number : ℕ) (plan : PlanParts) (columns : List Column) (fields : Fields) (finding : Finding) (text : List ℕ) → IsFindingOf plan columns fields finding
    → IsRowText number finding columns fields text → text ≡ [] → IsJudged number plan columns fields Right text
judged_right number plan columns fields finding text found is_text none =
    (record { finding = finding; found = found; meets = row_right number finding columns fields text is_text none }, none)

-- a row with lines is wrong
pub judged_wrong : (number : ℕ) (plan : PlanParts) (columns : List Column) (fields : Fields) (finding : Finding) (text : List ℕ) → IsFindingOf plan columns fields finding
    → IsRowText number finding columns fields text → text ≢ [] → IsJudged number plan columns fields Wrong text
judged_wrong number plan columns fields finding text found is_text some = record { finding = finding; found = found; is_text = is_text; some = some }

-- a row of another length is refused
pub judged_width : (number : ℕ) (plan : PlanParts) (columns : List Column) (fields : Fields) (judged : Judged) → length fields ≢ length columns → IsRefusedBy (width_line number) judged
    → IsJudged number plan columns fields judged.judgement judged.text.items
judged_width number plan columns fields judged other by =
    subst (λ j. IsJudged number plan columns fields j judged.text.items) (sym by.refused) (inl (other, by.is_line))

-- a row with a field that can't be read is refused
pub judged_unread : (number : ℕ) (plan : PlanParts) (columns : List Column) (fields : Fields) (place : ℕ) (judged : Judged) → length fields ≡ length columns
    → IsBadField plan columns fields place → IsUnreadIn number columns place judged → IsJudged number plan columns fields judged.judgement judged.text.items
judged_unread number plan columns fields place judged width bad by =
    subst (λ j. IsJudged number plan columns fields j judged.text.items) (sym by.by.refused)
    (inr (inl (record { width = width; place = place; bad = bad; column = by.column; present = by.present; line = by.by.is_line })))

-- a row with a value that no claim can have is refused
pub judged_unfit : (number : ℕ) (plan : PlanParts) (columns : List Column) (fields : Fields) (given : List Slot) (place : ℕ) (judged : Judged) → settles plan columns ≡ true
    → HasValues plan columns fields given → IsUnfit plan given place → IsUnfitIn number plan place judged → IsJudged number plan columns fields judged.judgement judged.text.items
judged_unfit number plan columns fields given place judged settled has unfit by =
    subst (λ j. IsJudged number plan columns fields j judged.text.items) (sym by.by.refused)
    (inr (inr (record { settled = settled; given = given; has = has; place = place; unfit = unfit; input = by.input; present = by.present; line = by.by.is_line })))

-- the texts for one more field of the row
pub row_more : (number : ℕ) (finding : Finding) (columns : List Column) (fields : Fields) (place : ℕ) (d : Column) (field text line : List ℕ) → place < length columns
    → field_at fields place ≡ Some field → AreFieldTexts number finding (take place columns) (take place fields) text
    → IsFieldText number finding (get_or columns place d) field line → AreFieldTexts number finding (take (place + 1) columns) (take (place + 1) fields) (text ++ line)
row_more number finding columns fields place d field text line within present before next =
    rw (take_more columns place d within, names_more fields place field present)
    (field_texts_pushed number finding (take place columns) (take place fields) text (get_or columns place d) field line before next)

-- the judgements of one more row
pub rows_more : (plan : PlanParts) (columns : List Column) (rows : List Row) (index : ℕ) (row : Row) (judgements : List Judgement) (text after line : List ℕ) (judgement : Judgement) → index < length rows
    → row ≡ get_or rows index row → after ≡ text ++ line → AreJudged 1 plan columns (map fields_of (take index rows)) judgements text
    → IsJudged (index + 1) plan columns (fields_of row) judgement line → AreJudged 1 plan columns (map fields_of (take (index + 1) rows)) (judgements ++ judgement ∷ []) after
rows_more plan columns rows index row judgements text after line judgement within is joined before next =
    let front : take (index + 1) rows ≡ take index rows ++ row ∷ [] = take_more rows index row within ∙ ap (λ r. take index rows ++ r ∷ []) (sym is) in
    let listed : map fields_of (take (index + 1) rows) ≡ map fields_of (take index rows) ++ fields_of row ∷ [] = ap (map fields_of) front ∙ map_push fields_of (take index rows) row in
    let size = length-map (take index rows) fields_of ∙ length-take-le index rows (omega (arith, within)) in
    let same : index + 1 ≡ 1 + length (map fields_of (take index rows)) = omega (arith, size) in
    let here : IsJudged (1 + length (map fields_of (take index rows))) plan columns (fields_of row) judgement line =
    subst (λ n. IsJudged n plan columns (fields_of row) judgement line) same next in
    rw (listed, joined) (judged_pushed plan columns 1 (map fields_of (take index rows)) judgements text (fields_of row) judgement line before here)

-- as many rows are judged as come before the index
pub rows_so_far : (plan : PlanParts) (columns : List Column) (rows : List Row) (index : ℕ) (judgements : List Judgement) (text : List ℕ) → index ≤ length rows
    → AreJudged 1 plan columns (map fields_of (take index rows)) judgements text → length judgements ≡ index
rows_so_far plan columns rows index judgements text within judged =
    sym (as_many plan columns 1 (map fields_of (take index rows)) judgements text judged) ∙ length-map (take index rows) fields_of ∙ length-take-le index rows within

-- a field whose expectation is met adds nothing
pub field_met : (number : ℕ) (finding : Finding) (column : Column) (field old : List ℕ) → IsMet finding column field
    → (line : List ℕ) × (old ≡ old ++ line) × IsFieldText number finding column field line
field_met number finding column field old met = ([], sym (append-nil old), inl (met, refl))

-- another field adds the line of the difference
pub field_differs : (number : ℕ) (finding : Finding) (column : Column) (field found old new : List ℕ) → ¬ IsMet finding column field → found ≡ found_text finding column
    → new ≡ old ++ difference_line number column.name.now (shown field) found → (line : List ℕ) × (new ≡ old ++ line) × IsFieldText number finding column field line
field_differs number finding column field found old new differs is_found is_new =
    let line = difference_line number column.name.now (shown field) (found_text finding column) in
    (line, is_new ∙ ap (λ f. old ++ difference_line number column.name.now (shown field) f) is_found, inr (differs, refl))

-- a later field says something of faults
pub expects_at : (columns : List Column) (fields : Fields) (place : ℕ) (c : Column) (field : List ℕ) → slice_get columns place ≡ Some c → field_at fields place ≡ Some field
    → is_for_faults c.used field ≡ true → expects_faults columns fields ≡ true
unfolding field_at
expects_at [] fields place c field there present says = absurd (cc there)
expects_at (b ∷ bs) [] place c field there present says = absurd (cc present)
expects_at (b ∷ bs) (f ∷ fs) zero c field there present says =
    let same : b ≡ c = cc there in
    let also : f ≡ field = cc present in
    ap (λ x. x || expects_faults bs fs) (ap (λ (x : Column). is_for_faults x.used f) same ∙ ap (is_for_faults c.used) also ∙ says)
expects_at (b ∷ bs) (f ∷ fs) (suc place) c field there present says =
    elim (cases_Bool (is_for_faults b.used f)) [
      | inl first ↦ ap (λ x. x || expects_faults bs fs) first
      | inr other ↦ ap (λ x. x || expects_faults bs fs) other ∙ expects_at bs fs place c field there present says
    ]

-- no field says anything of faults
pub expects_none : (columns : List Column) (fields : Fields)
    → ((place : ℕ) (c : Column) (field : List ℕ) → slice_get columns place ≡ Some c → field_at fields place ≡ Some field → is_for_faults c.used field ≡ false)
    → expects_faults columns fields ≡ false
unfolding field_at
expects_none [] fields none = refl
expects_none (b ∷ bs) [] none = refl
expects_none (b ∷ bs) (f ∷ fs) none =
    ap (λ x. x || expects_faults bs fs) (none 0 b f refl refl) ∙ expects_none bs fs (λ place c field there present. none (suc place) c field there present)

-- no field before the end says anything of faults
abbrev pub NoneSays : ℕ → List Column → Fields → Type 0
NoneSays end columns fields =
    (place : ℕ) (c : Column) (field : List ℕ) → place < end → slice_get columns place ≡ Some c → field_at fields place ≡ Some field → is_for_faults c.used field ≡ false

pub none_says_more : (columns : List Column) (fields : Fields) (place : ℕ) (d : Column) (field : List ℕ) → place < length columns → field_at fields place ≡ Some field
    → is_for_faults (get_or columns place d).used field ≡ false → NoneSays place columns fields → NoneSays (place + 1) columns fields
none_says_more columns fields place d field within present silent before = λ at c f below there here.
    below_more (λ k. (b : Column) (g : List ℕ) → slice_get columns k ≡ Some b → field_at fields k ≡ Some g → is_for_faults b.used g ≡ false) place
    (λ k earlier b g is_b is_g. before k b g earlier is_b is_g)
    (λ b g is_b is_g.
    let same : b ≡ get_or columns place d = same_Some b (get_or columns place d) (sym is_b ∙ slice_get-get_or columns place d within) in
    let also : g ≡ field = same_Some g field (sym is_g ∙ present) in
    ap (λ (x : Column). is_for_faults x.used g) same ∙ ap (is_for_faults (get_or columns place d).used) also ∙ silent)
    at below c f there here

pub expects_here : (columns : List Column) (fields : Fields) (place : ℕ) (d : Column) (field : List ℕ) → place < length columns → field_at fields place ≡ Some field
    → is_for_faults (get_or columns place d).used field ≡ true → expects_faults columns fields ≡ true
expects_here columns fields place d field within present says =
    expects_at columns fields place (get_or columns place d) field (slice_get-get_or columns place d within) present says

pub expects_never : (columns : List Column) (fields : Fields) (end : ℕ) → length columns ≤ end → NoneSays end columns fields → expects_faults columns fields ≡ false
expects_never columns fields end whole silent =
    expects_none columns fields (λ place c field there present. let within = within_by columns place c there in silent place c field (omega (arith, within, whole)) there present) where
      within_by : (columns : List Column) (place : ℕ) (c : Column) → slice_get columns place ≡ Some c → place < length columns
      within_by [] place c there = absurd (none-some c there)
      within_by (b ∷ bs) zero c there = omega arith
      within_by (b ∷ bs) (suc place) c there = let rest = within_by bs place c there in omega (arith, rest)
