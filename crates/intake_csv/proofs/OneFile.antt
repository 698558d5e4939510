-- A text has at most one header and one list of records, and a header has at most one column for
-- each required name.
use Rattle.std.proofs.Common.{◌≡◌, ◌<◌, ℕ, suc, zero, List, [], ◌∷◌, length, get_or, Some, None, cond, refl, sym, ap, ◌∙◌, arith}
use Rattle.std.specs.List.{AllPairs}
use Rattle.std.specs.Str.{bytes_eq}
use Rattle.std.proofs.lemmas.List.Sums.{sum_by-cons}
use Rattle.std.proofs.lemmas.Slice.Eq.{bytes_eq-Decides}
use Rattle.csv.specs.Machine.{Read, next_record}
use Rattle.csv.specs.Reading.{Reached, default_config, strip_bom}
use Rattle.csv.specs.Records.{field_at}
use Rattle.csv.specs.declared.parser.Config.{Config}
use Rattle.csv.specs.declared.parser.State.{State}
use Rattle.csv.specs.declared.parser.State.TheVariants as state
use Rattle.intake_csv.specs.Records.{AreRecordsOf, Fields}
use Rattle.intake_csv.specs.Columns.{AreColumnsOf, IsColumnOf, IsHeaderedFile, times}
use Rattle.intake_csv.specs.Laws.{LieApart}
use Rattle.intake_csv.specs.declared.column.Column.{Column}
use Rattle.intake_csv.specs.declared.column.Layout.{Layout}
use Rattle.intake_csv.specs.declared.column.RequiredColumn.{RequiredColumn}

-- the records that are read one after another until the end are determined
records-one : (cfg : Config) (s s2 s3 : State) (xs ys zs : List ℕ) (one other : List Fields) → Reached cfg s xs one s2 ys → next_record cfg s2 [] [] ys ≡ None
    → Reached cfg s xs other s3 zs → next_record cfg s3 [] [] zs ≡ None → one ≡ other
unfolding Reached
records-one cfg s s2 s3 xs ys zs [] [] h end k stop = refl
records-one cfg s s2 s3 xs ys zs [] (r ∷ rs) h end k stop =
    let none : next_record cfg s [] [] xs ≡ None = rw (h.0, h.1) end in
    absurd (cc (sym none ∙ k.1))
records-one cfg s s2 s3 xs ys zs (r ∷ rs) [] h end k stop =
    let none : next_record cfg s [] [] xs ≡ None = rw (k.0, k.1) stop in
    absurd (cc (sym none ∙ h.1))
records-one cfg s s2 s3 xs ys zs (r ∷ rs) (q ∷ qs) h end k stop =
    let read : Some h.0 ≡ Some k.0 = sym h.1 ∙ k.1 in
    let same : h.0 ≡ k.0 = cc read in
    let first : r ≡ q = h.2 ∙ ap (λ (p : Read). p.0) same ∙ sym k.2 in
    let following = rw (← same) at k.3 in
    let others = records-one cfg h.0.1 s2 s3 h.0.2 ys zs rs qs h.3 end following stop in
    rw (first, others) refl

-- a text has at most one list of records
pub file-one : (text : List ℕ) (one other : List Fields) → AreRecordsOf text one → AreRecordsOf text other → one ≡ other
file-one text one other h k =
    records-one default_config state.StartRecord h.0 k.0 (strip_bom text) h.1 k.1 one other h.2 h.3 k.2 k.3

-- a name at a place of the header is counted
counted-there : (name : List ℕ) (header : Fields) (k : ℕ) → field_at header k ≡ Some name → 0 < times name header
unfolding field_at
counted-there name [] k e = absurd (cc e)
counted-there name (f ∷ fs) zero e =
    let same : f ≡ name = cc e in
    let equal = (bytes_eq-Decides f name).1 same in
    let here : ◌≡◌ {A = ℕ} (cond (bytes_eq f name) 1 0) 1 = rw equal refl in
    let counted = sum_by-cons (λ other. cond (bytes_eq other name) 1 0) f fs in
    omega (arith, counted, here)
counted-there name (f ∷ fs) (suc k) e =
    let more = counted-there name fs k e in
    let counted = sum_by-cons (λ other. cond (bytes_eq other name) 1 0) f fs in
    omega (arith, counted, more)

-- a name at the first place and at a later one is counted twice
counted-twice : (name f : List ℕ) (fs : Fields) (k : ℕ) → f ≡ name → field_at fs k ≡ Some name → ¬ (times name (f ∷ fs) ≡ 1)
counted-twice name f fs k same e once =
    let equal = (bytes_eq-Decides f name).1 same in
    let here : ◌≡◌ {A = ℕ} (cond (bytes_eq f name) 1 0) 1 = rw equal refl in
    let counted = sum_by-cons (λ other. cond (bytes_eq other name) 1 0) f fs in
    let more = counted-there name fs k e in
    omega (arith, counted, here, more, once)

-- a name that occurs once has one place
place-one : (name : List ℕ) (header : Fields) (j k : ℕ) → times name header ≡ 1 → field_at header j ≡ Some name → field_at header k ≡ Some name → j ≡ k
unfolding field_at
place-one name [] j k once d e = absurd (cc d)
place-one name (f ∷ fs) zero zero once d e = refl
place-one name (f ∷ fs) zero (suc k) once d e = let same : f ≡ name = cc d in absurd (counted-twice name f fs k same e once)
place-one name (f ∷ fs) (suc j) zero once d e = let same : f ≡ name = cc e in absurd (counted-twice name f fs j same d once)
place-one name (f ∷ fs) (suc j) (suc k) once d e =
    let more = counted-there name fs k e in
    let counted = sum_by-cons (λ other. cond (bytes_eq other name) 1 0) f fs in
    let left : times name fs ≡ 1 = omega (arith, counted, more, once) in
    ap suc (place-one name fs j k left d e)

columns-one : (header : Fields) (needed : List RequiredColumn) (one other : List Column) → AreColumnsOf header needed one → AreColumnsOf header needed other → one ≡ other
columns-one header [] [] [] h k = refl
columns-one header [] [] (d ∷ ds) h k = absurd k
columns-one header [] (c ∷ cs) other h k = absurd h
columns-one header (n ∷ ns) [] other h k = absurd h
columns-one header (n ∷ ns) (c ∷ cs) [] h k = absurd k
columns-one header (n ∷ ns) (c ∷ cs) (d ∷ ds) h k =
    let place = place-one n.name header c.place d.place h.0.once h.0.located k.0.located in
    let content : c.content ≡ d.content = h.0.content ∙ sym k.0.content in
    let first : c ≡ d = λ i. record { place = place i; content = content i } in
    let others = columns-one header ns cs ds h.1 k.1 in
    rw (first, others) refl

-- a text is a file with the required columns in at most one way
pub headered_file-one : (needed : List RequiredColumn) (text : List ℕ) (layout other : Layout) (records others : List Fields)
    → IsHeaderedFile needed text layout records → IsHeaderedFile needed text other others → (layout ≡ other) × (records ≡ others)
headered_file-one needed text layout other records others h k =
    let all : h.header ∷ records ≡ k.header ∷ others = file-one text (h.header ∷ records) (k.header ∷ others) h.file.read k.file.read in
    let header : h.header ≡ k.header = cc all in
    let following : records ≡ others = cc all in
    let width : layout.width ≡ other.width = h.width ∙ ap length header ∙ sym k.width in
    let turned = rw (← header) at k.columns in
    let columns = columns-one h.header needed layout.columns other.columns h.columns turned in
    (λ i. record { width = width i; columns = columns i }, following)

-- the required name of a column
needed-at : (header : Fields) (needed : List RequiredColumn) (columns : List Column) (k : ℕ) (d : RequiredColumn) (e : Column) → AreColumnsOf header needed columns → k < length columns
    → (k < length needed) × IsColumnOf header (get_or needed k d) (get_or columns k e)
needed-at header [] [] k d e h within = absurd (omega (arith, within))
needed-at header [] (c ∷ cs) k d e h within = absurd h
needed-at header (n ∷ ns) [] k d e h within = absurd h
needed-at header (n ∷ ns) (c ∷ cs) zero d e h within = (omega arith, h.0)
needed-at header (n ∷ ns) (c ∷ cs) (suc k) d e h within =
    let found = needed-at header ns cs k d e h.1 (omega (arith, within)) in
    (omega (arith, found.0), found.1)

-- the required columns have pairwise distinct names
abbrev pub HaveDistinctNames : List RequiredColumn → Type 0
HaveDistinctNames needed = AllPairs (λ a b. ¬ (a.name ≡ b.name)) needed

-- columns with distinct names have distinct places
pub columns-apart : (header : Fields) (needed : List RequiredColumn) (columns : List Column) → HaveDistinctNames needed → AreColumnsOf header needed columns → LieApart columns
columns-apart header needed columns distinct h i j e before within place =
    let d : RequiredColumn = record { name = []; content = e.content } in
    let one = needed-at header needed columns i d e h (omega (arith, before, within)) in
    let other = needed-at header needed columns j d e h within in
    let names : Some (get_or needed i d).name ≡ Some (get_or needed j d).name = sym one.1.located ∙ ap (field_at header) place ∙ other.1.located in
    let name : (get_or needed i d).name ≡ (get_or needed j d).name = cc names in
    distinct i j d before other.0 name
