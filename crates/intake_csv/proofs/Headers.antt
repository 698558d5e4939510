-- The occurrences of a name in a prefix of a header that is one longer.
use Rattle.std.proofs.Common.{◌≡◌, ◌<◌, ◌+◌, ℕ, Bool, true, false, List, [], ◌∷◌, ◌++◌, length, get_or, take, Some, refl, sym, ap, ◌∙◌, arith}
use Rattle.std.specs.List.{All, Any}
use Rattle.std.specs.Str.{bytes_eq}
use Rattle.std.proofs.lemmas.List.{take_more, length-take-le}
use Rattle.std.proofs.lemmas.List.Elements.{All-push}
use Rattle.std.proofs.lemmas.List.Quantifiers.{Any-push}
use Rattle.std.proofs.lemmas.List.Sums.{count_by_more_yes, count_by_more_no}
use Rattle.std.proofs.lemmas.Slice.Eq.{bytes_eq-Decides}
use Rattle.intake_csv.specs.Records.{Fields}
use Rattle.intake_csv.specs.Columns.{IsColumnOf, IsThere, IsRepeated, AreColumnsOf, IsFile, HasFileFault}
use Rattle.intake_csv.specs.Header.{MatchesAs, comes_after, AreFound, HasColumnFault}
use Rattle.faults.specs.declared.file_fault.FileFault.{FileFault}
use Rattle.faults.specs.declared.file_fault.FileFault.TheVariants.{TooLarge, NoHeader, MissingColumn, DuplicateColumn, OutOfMemory}
use Rattle.intake_csv.specs.declared.column.RequiredColumn.{RequiredColumn}
use Rattle.intake_csv.specs.declared.column.Column.{Column}
use Rattle.intake_csv.specs.declared.header.Found.{Found}
use Rattle.intake_csv.specs.declared.header.ColumnMatch.{ColumnMatch}
use Rattle.intake_csv.specs.declared.header.ColumnMatch.TheVariants.{Missing, Once, Repeated}
use Rattle.std.proofs.lemmas.Bool.{false≢true}
use Rattle.intake_csv.proofs.Lists.{AllZip-grow, All-from_zip, any-more, field_at-append, field_at-get_or, field_at-last}

-- bytes that compare as equal are equal
same_bytes : (xs ys : List ℕ) → bytes_eq xs ys ≡ true → xs ≡ ys
same_bytes xs ys e = (bytes_eq-Decides xs ys).0 e

-- the last place of the longer prefix has the name, or another one
pub located-more : (name : List ℕ) (header : Fields) (k : ℕ) (present : ColumnMatch) → k < length header → MatchesAs name (take k header) present
    → MatchesAs name (take (k + 1) header) (comes_after present k (bytes_eq (get_or header k []) name))
located-more name header k present within before = by (bytes_eq (get_or header k []) name) refl present before
  where
    by : (here : Bool) → bytes_eq (get_or header k []) name ≡ here → (s : ColumnMatch) → MatchesAs name (take k header) s → MatchesAs name (take (k + 1) header) (comes_after s k here)
    by false e Missing h = count_by_more_no (λ other. bytes_eq other name) header k [] within e ∙ h
    by false e (Once p) h = (
      count_by_more_no (λ other. bytes_eq other name) header k [] within e ∙ h.0,
      rw (take_more header k [] within) (field_at-append (take k header) (get_or header k [] ∷ []) p name h.1),
    )
    by false e Repeated h = rw (count_by_more_no (λ other. bytes_eq other name) header k [] within e) h
    by true e Missing h =
        let more = count_by_more_yes (λ other. bytes_eq other name) header k [] within e in
        let size = length-take-le k header (omega (arith, within)) in
        let last = rw size at (field_at-last (take k header) (get_or header k [])) in
        (omega (arith, more, h), rw (take_more header k [] within) (last ∙ ap Some (same_bytes (get_or header k []) name e)))
    by true e (Once p) h = let more = count_by_more_yes (λ other. bytes_eq other name) header k [] within e in omega (arith, more, h.0)
    by true e Repeated h = let more = count_by_more_yes (λ other. bytes_eq other name) header k [] within e in omega (arith, more, h)

-- a required column that occurs once is found
pub found-once : (header : Fields) (front : List RequiredColumn) (n : RequiredColumn) (c : Column) (old new : Found) → AreFound header front old
    → IsColumnOf header n c → new.columns ≡ old.columns ++ c ∷ [] → new.repeated ≡ old.repeated → AreFound header (front ++ n ∷ []) new
found-once header front n c old new h is columns same = record {
  all = All-push (IsThere header) front n h.all (omega (arith, is.once));
  columns = λ e. rw columns (AllZip-grow (IsColumnOf header) front old.columns n c (h.columns (sym same ∙ e)) is);
  repeats = λ e. more (h.repeats (sym same ∙ e));
}
  where
    more : Any (IsRepeated header) front → Any (IsRepeated header) (front ++ n ∷ [])
    more found = any-more (IsRepeated header) front n found

-- a required column that occurs more than once is reported
pub found-again : (header : Fields) (front : List RequiredColumn) (n : RequiredColumn) (old new : Found) → AreFound header front old
    → IsRepeated header n → new.repeated ≡ true → AreFound header (front ++ n ∷ []) new
found-again header front n old new h again reported = record {
  all = All-push (IsThere header) front n h.all (omega (arith, again));
  columns = λ e. absurd (false≢true (sym e ∙ reported));
  repeats = λ e. Any-push (IsRepeated header) front n again;
}

-- the places of the columns are within the header
pub columns-within : (header : Fields) (needed : List RequiredColumn) (columns : List Column) → AreColumnsOf header needed columns → All (λ c. c.place < length header) columns
columns-within header needed columns h =
    All-from_zip (IsColumnOf header) (λ c. c.place < length header) (λ n c is. (field_at-get_or header c.place n.name is.located).0) needed columns h

-- a fault of the columns is a fault of the file
pub file-fault : (needed : List RequiredColumn) (text : List ℕ) (header : Fields) (records : List Fields) → IsFile text header records
    → (fault : FileFault) → HasColumnFault header needed fault → HasFileFault needed text fault
file-fault needed text header records file MissingColumn h = record { header = header; records = records; file = file; missing = h }
file-fault needed text header records file DuplicateColumn h = record { header = header; records = records; file = file; all = h.0; repeated = h.1 }
file-fault needed text header records file OutOfMemory h = tt
file-fault needed text header records file TooLarge h = absurd h
file-fault needed text header records file NoHeader h = absurd h
