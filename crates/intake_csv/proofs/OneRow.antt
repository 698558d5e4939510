-- A record has at most one row, and the remaining rows of a reader begin with the row of its next
-- record.
use Rattle.std.proofs.Common.{inl, inr, ◌≡◌, ◌<◌, ◌+◌, ℕ, suc, zero, ℤ, List, [], ◌∷◌, ◌++◌, length, get_or, Option, Some, None, refl, sym, ap, ◌∙◌, arith}
use Rattle.std.specs.List.{count_by, slice_get}
use Rattle.std.proofs.lemmas.Bool.{cases_lt}
use Rattle.std.proofs.lemmas.List.Elements.{All-get_or}
use Rattle.fixpoint.specs.NumberText.{DenotesAtMostOne}
use Rattle.feel_tests.specs.Plain.{SpellsOnePlain}
use Rattle.feel_tests.specs.declared.value.Value.{Value}
use Rattle.feel_tests.specs.declared.value.Value.TheVariants.{Number, Text, Day}
use Rattle.settlement.specs.Bindings.{after_family}
use Rattle.settlement.specs.declared.claim.Claim.{Claim}
use Rattle.intake_csv.specs.Records.{Fields}
use Rattle.intake_csv.specs.Laws.{BeginLike, BeginWith, LieApart}
use Rattle.intake_csv.specs.Rows.{AreRowsLeft, AreValues, GivesRow, HasFault, HasValues, HoldsUnder, IsFaultyUnder, IsFaultlessUnder, IsFirstFault, IsRow, RowsLeft, claim_in, claim_values, claims_in, is_claim}
use Rattle.intake_csv.specs.declared.column.Column.{Column}
use Rattle.intake_csv.specs.declared.column.Layout.{Layout}
use Rattle.faults.specs.declared.file_fault.RowCause.{RowCause}
use Rattle.faults.specs.declared.file_fault.RowFault.{RowFault}
use Rattle.intake_csv.specs.declared.rows.Row.{Row}
use Rattle.intake_csv.specs.declared.rows.Row.TheVariants.{Good, Bad}
use Rattle.intake_csv.proofs.Handing.{count-more}
use Rattle.intake_csv.proofs.OneField.{cause-one, held-faultless, held-one}

-- the default does not matter for an index within the list
get_or-any : {A : Type 0} (xs : List A) (k : ℕ) (d e : A) → k < length xs → get_or xs k d ≡ get_or xs k e
get_or-any [] k d e within = absurd (omega (arith, within))
get_or-any (x ∷ xs) zero d e within = refl
get_or-any (x ∷ xs) (suc k) d e within = get_or-any xs k d e (omega (arith, within))

neither-less : (a b : ℕ) → ¬ (a < b) → ¬ (b < a) → a ≡ b
neither-less a b less more = elim (cases_lt a b) [
  | inl below ↦ absurd (less below)
  | inr above ↦ elim (cases_lt b a) [
    | inl below ↦ absurd (more below)
    | inr over ↦ omega (arith, above, over)
  ]
]

-- columns with distinct places are determined by their places
place-reports : (columns : List Column) (i j : ℕ) (c d : Column) → LieApart columns → i < length columns → j < length columns → get_or columns i c ≡ c → get_or columns j d ≡ d
    → c.place ≡ d.place → c ≡ d
place-reports columns i j c d apart inside within is was place =
    let there : get_or columns j c ≡ d = get_or-any columns j c d within ∙ was in
    let places : (get_or columns i c).place ≡ (get_or columns j c).place = ap (λ (x : Column). x.place) is ∙ place ∙ sym (ap (λ (x : Column). x.place) there) in
    let index = neither-less i j (λ less. apart i j c less within places) (λ more. apart j i c more inside (sym places)) in
    sym is ∙ ap (λ n. get_or columns n c) index ∙ there

-- the value of the column at an index
value-at : (fields : Fields) (columns : List Column) (vs : List Value) (k : ℕ) (d : Column) → AreValues fields columns vs → k < length columns
    → (v : Value) × HoldsUnder fields (get_or columns k d) v
value-at fields [] vs k d h within = absurd (omega (arith, within))
value-at fields (c ∷ cs) [] k d h within = absurd h
value-at fields (c ∷ cs) (v ∷ vs) zero d h within = (v, h.0)
value-at fields (c ∷ cs) (v ∷ vs) (suc k) d h within = value-at fields cs vs k d h.1 (omega (arith, within))

-- no fault is to the left of the first one
none-left-of : (fields : Fields) (columns : List Column) (f g : RowFault) → IsFirstFault fields columns f → IsFirstFault fields columns g → ¬ (f.column < g.column)
none-left-of fields columns f g h k less =
    let (j, c, within, is, has) = h.faulty in
    let left = All-get_or (λ x. x.place + 1 < g.column → IsFaultlessUnder fields x) columns j c within k.first in
    let faultless = rw is at left in
    let place = has.0 in
    faultless (omega (arith, place, less)) f.cause has.1

same-place : (place other column others : ℕ) → place + 1 ≡ column → other + 1 ≡ others → column ≡ others → place ≡ other
same-place place other column others a b c = omega (arith, a, b, c)

-- the values determine whether there is a family: the value after a family is the member, a text,
-- and the value after a member is the date of service
family-one : (f g : Option (List ℕ)) (id other m n : List ℕ) (s t u v : ℤ) (vs ws : List Value)
    → Text id ∷ after_family f (Text m ∷ Day s ∷ Number u ∷ vs) ≡ Text other ∷ after_family g (Text n ∷ Day t ∷ Number v ∷ ws)
    → (f ≡ g) × (Text m ∷ Day s ∷ Number u ∷ vs ≡ Text n ∷ Day t ∷ Number v ∷ ws)
family-one None None id other m n s t u v vs ws e = (refl, cc e)
family-one None (Some g) id other m n s t u v vs ws e = absurd (cc e)
family-one (Some f) None id other m n s t u v vs ws e = absurd (cc e)
family-one (Some f) (Some g) id other m n s t u v vs ws e = let same : f ≡ g = cc e in (ap Some same, cc e)

claim-one : (c d : Claim) → claim_values c ≡ claim_values d → c ≡ d
claim-one c d e =
    let (family, rest) = family-one c.family d.family c.id d.id c.member d.member c.service d.service c.billed d.billed c.fields d.fields e in
    let id : c.id ≡ d.id = cc e in
    let member : c.member ≡ d.member = cc rest in
    let service : c.service ≡ d.service = cc rest in
    let billed : c.billed ≡ d.billed = cc rest in
    let fields : c.fields ≡ d.fields = cc rest in
    λ i. record { id = id i; family = family i; member = member i; service = service i; billed = billed i; fields = fields i }

module _ (one : DenotesAtMostOne) (plain : SpellsOnePlain) where
  -- the field of a column has at most one value
  under-one : (fields : Fields) (c : Column) (v w : Value) → HoldsUnder fields c v → HoldsUnder fields c w → v ≡ w
  under-one fields c v w h k =
      let found : Some h.bytes ≡ Some k.bytes = sym h.field ∙ k.field in
      let same : h.bytes ≡ k.bytes = cc found in
      held-one plain c.content h.bytes v w h.holds (rw (← same) at k.holds)

  values-one : (fields : Fields) (columns : List Column) (vs ws : List Value) → AreValues fields columns vs → AreValues fields columns ws → vs ≡ ws
  values-one fields [] [] [] h k = refl
  values-one fields [] [] (w ∷ ws) h k = absurd k
  values-one fields [] (v ∷ vs) ws h k = absurd h
  values-one fields (c ∷ cs) [] ws h k = absurd h
  values-one fields (c ∷ cs) (v ∷ vs) [] h k = absurd k
  values-one fields (c ∷ cs) (v ∷ vs) (w ∷ ws) h k =
      let first = under-one fields c v w h.0 k.0 in
      let others = values-one fields cs vs ws h.1 k.1 in
      rw (first, others) refl

  -- a field with a value has no fault, and a field has at most one fault
  held-under : (fields : Fields) (c : Column) (v : Value) (cause : RowCause) → HoldsUnder fields c v → ¬ IsFaultyUnder fields cause c
  held-under fields c v cause h k =
      let found : Some h.bytes ≡ Some k.bytes = sym h.field ∙ k.field in
      let same : h.bytes ≡ k.bytes = cc found in
      held-faultless one c.content h.bytes v cause h.holds (rw (← same) at k.faulty)

  cause-under : (fields : Fields) (c : Column) (cause other : RowCause) → IsFaultyUnder fields cause c → IsFaultyUnder fields other c → cause ≡ other
  cause-under fields c cause other h k =
      let found : Some h.bytes ≡ Some k.bytes = sym h.field ∙ k.field in
      let same : h.bytes ≡ k.bytes = cc found in
      cause-one one c.content h.bytes cause other h.faulty (rw (← same) at k.faulty)

  -- a record does not have both values and a fault
  values-or-fault : (layout : Layout) (fields : Fields) (vs : List Value) (fault : RowFault) → HasValues layout fields vs → ¬ HasFault layout fields fault
  values-or-fault layout fields vs fault h (inl f) = f.0 h.0
  values-or-fault layout fields vs fault h (inr f) =
      let (k, c, within, is, has) = f.1.faulty in
      let (v, held) = value-at fields layout.columns vs k c h.1 within in
      held-under fields c v fault.cause (rw is at held) has.1

  first-one : (fields : Fields) (columns : List Column) (f g : RowFault) → LieApart columns → IsFirstFault fields columns f → IsFirstFault fields columns g → f ≡ g
  first-one fields columns f g apart h k =
      let column = neither-less f.column g.column (none-left-of fields columns f g h k) (none-left-of fields columns g f k h) in
      let (i, c, inside, is, has) = h.faulty in
      let (j, d, within, was, had) = k.faulty in
      let place = same-place c.place d.place f.column g.column has.0 had.0 column in
      let same = place-reports columns i j c d apart inside within is was place in
      let cause = cause-under fields c f.cause g.cause has.1 (rw (← same) at had.1) in
      λ n. record { column = column n; cause = cause n }

  fault-one : (layout : Layout) (fields : Fields) (f g : RowFault) → LieApart layout.columns → HasFault layout fields f → HasFault layout fields g → f ≡ g
  fault-one layout fields f g apart (inl h) (inl k) = h.1 ∙ sym k.1
  fault-one layout fields f g apart (inl h) (inr k) = absurd (h.0 k.0)
  fault-one layout fields f g apart (inr h) (inl k) = absurd (k.0 h.0)
  fault-one layout fields f g apart (inr h) (inr k) = first-one fields layout.columns f g apart h.1 k.1

  row-one : (layout : Layout) (number place : ℕ) (fields : Fields) (row other : Row) → LieApart layout.columns
      → IsRow layout number place fields row → IsRow layout number place fields other → row ≡ other
  row-one layout number place fields (Good n p c) (Good m q d) apart h k =
      let claims = claim-one c d (values-one fields layout.columns (claim_values c) (claim_values d) h.2.1 k.2.1) in
      rw (h.0, h.1, k.0, k.1, claims) refl
  row-one layout number place fields (Good n p c) (Bad m g) apart h k = absurd (values-or-fault layout fields (claim_values c) g h.2 k.1)
  row-one layout number place fields (Bad n f) (Good m q d) apart h k = absurd (values-or-fault layout fields (claim_values d) f k.2 h.1)
  row-one layout number place fields (Bad n f) (Bad m g) apart h k =
      let faults = fault-one layout fields f g apart h.1 k.1 in
      rw (h.0, k.0, faults) refl

  -- for all columns, two rows of a record have the same claim, or neither has one
  row-alike : (layout : Layout) (number place : ℕ) (fields : Fields) (row other : Row) → IsRow layout number place fields row → IsRow layout number place fields other
      → (claim_in row ≡ claim_in other) × (claims_in row ≡ claims_in other)
  row-alike layout number place fields (Good n p c) (Good m q d) h k =
      let claims = claim-one c d (values-one fields layout.columns (claim_values c) (claim_values d) h.2.1 k.2.1) in
      (ap (λ x. x ∷ []) claims, refl)
  row-alike layout number place fields (Good n p c) (Bad m g) h k = absurd (values-or-fault layout fields (claim_values c) g h.2 k.1)
  row-alike layout number place fields (Bad n f) (Good m q d) h k = absurd (values-or-fault layout fields (claim_values d) f k.2 h.1)
  row-alike layout number place fields (Bad n f) (Bad m g) h k = (refl, refl)

-- a row for equal layouts, numbers and places
moved-row : (layout other : Layout) (n m p q : ℕ) (fields : Fields) (row : Row) → layout ≡ other → n ≡ m → p ≡ q → IsRow layout n p fields row → IsRow other m q fields row
moved-row layout other n m p q fields row same number place h = rw (same, number, place) at h

-- the first of the remaining rows is that of the next record
pub first-row : (old new : RowsLeft) (fields : Fields) (row : Row) (rows : List Row) → old.records ≡ fields ∷ new.records → AreRowsLeft old (row ∷ rows)
    → IsRow old.layout old.number old.place fields row
first-row old new fields row rows next h =
    let there : slice_get old.records 0 ≡ Some fields = rw next refl in
    moved-row old.layout old.layout (old.number + length {A = Row} []) old.number (old.place + count_by is_claim []) old.place fields row refl (omega arith) (omega arith)
    (h.each [] rows row fields refl there)

-- the rows after the first one remain after the next record
pub rows-following : (old new : RowsLeft) (row first : Row) (rows : List Row) → GivesRow old new row → claims_in row ≡ claims_in first → AreRowsLeft old (first ∷ rows)
    → AreRowsLeft new rows
rows-following old new row first rows g alike h = record { as_many = as_many; each = each }
  where
    as_many : length rows ≡ length new.records
    as_many = let sizes = h.as_many ∙ ap length g.next in omega (arith, sizes)

    each : (before after : List Row) (r : Row) (found : Fields) → rows ≡ before ++ r ∷ after → slice_get new.records (length before) ≡ Some found
        → IsRow new.layout (new.number + length before) (new.place + count_by is_claim before) found r
    each before after r found e is =
        let there : slice_get old.records (length (first ∷ before)) ≡ Some found = rw g.next is in
        let numbered : old.number + length (first ∷ before) ≡ new.number + length before = omega (arith, g.number) in
        let counted : new.place ≡ old.place + claims_in first = omega (arith, g.place, alike) in
        let placed = sym (count-more first before old.place new.place counted) in
        moved-row old.layout new.layout (old.number + length (first ∷ before)) (new.number + length before) (old.place + count_by is_claim (first ∷ before)) (new.place + count_by is_claim before)
        found r (sym g.layout) numbered placed (h.each (first ∷ before) after r found (ap (λ xs. first ∷ xs) e) there)

pub begin-with : DenotesAtMostOne → SpellsOnePlain → (old new : RowsLeft) (row : Row) (rows : List Row) → LieApart old.layout.columns → GivesRow old new row → AreRowsLeft old rows
    → BeginWith row new rows
begin-with one plain old new row [] apart g h = let sizes = h.as_many ∙ ap length g.next in absurd (omega (arith, sizes))
begin-with one plain old new row (r ∷ rs) apart g h =
    let same = row-one one plain old.layout old.number old.place g.fields r row apart (first-row old new g.fields r rs g.next h) g.is_row in
    record {
      rest = rs;
      rows_are = ap (λ x. x ∷ rs) same;
      rest_left = rows-following old new row r rs g (ap claims_in (sym same)) h;
    }

pub begin-like : DenotesAtMostOne → SpellsOnePlain → (old new : RowsLeft) (row : Row) (rows : List Row) → GivesRow old new row → AreRowsLeft old rows → BeginLike row new rows
begin-like one plain old new row [] g h = let sizes = h.as_many ∙ ap length g.next in absurd (omega (arith, sizes))
begin-like one plain old new row (r ∷ rs) g h =
    let alike = row-alike one plain old.layout old.number old.place g.fields r row (first-row old new g.fields r rs g.next h) g.is_row in
    record {
      first = r;
      rest = rs;
      rows_are = refl;
      claims = alike.0;
      rest_left = rows-following old new row r rs g (sym alike.1) h;
    }
