-- The rows of files, which are read file by file, and their text.
use Rattle.std.proofs.Common.{◌≡◌, ◌<◌, ◌≤◌, ◌+◌, ◌-◌, ℕ, suc, Result, Ok, Err, List, [], ◌∷◌, ◌++◌, length, length-take-le, map, take, drop, get_or, ap, ap₂, sym, subst, ◌∙◌, refl, append_assoc, append-nil, take-append-drop, drop-cons, arith}
use Rattle.std.specs.List.{AllZip}
use Rattle.std.proofs.lemmas.Grind.{flat_map-append}
use Rattle.std.proofs.lemmas.List.{take-take, take_all, take_more}
use Rattle.std.proofs.lemmas.Slice.Zip.{AllZip-long, all_zipped_more}
use Rattle.tables.specs.declared.table.InputData.{InputData}
use Rattle.intake_csv.specs.Laws.{LieApart, StartHasTheRows}
use Rattle.intake_csv.specs.Rows.{AreRowsLeft, AreRowsOf, IsAtStart, RowsLeft}
use Rattle.intake_csv.specs.declared.rows.Row.{Row}
use Rattle.remit_records.specs.Records.{Deciding, record_of, records_of}
use Rattle.remit_records.specs.Report.{record_text, text_of}
use Rattle.remit_records.specs.RecordWriter.{At, Writes}
use Rattle.remit_records.specs.Rows.{AreRead, Begin, GivesAll, IsRead, IsReadFirst, WritesFile, WritesFiles, files_text, rows_text}
use Rattle.faults.specs.declared.write_fault.WriteFault.{WriteFault}
use Rattle.remit_records.proofs.Holding.{writes-none, writes-then}
use Rattle.remit_records.proofs.Passing.{rows-append}

-- the remaining rows of a new reader are all rows of the text
pub read-all : StartHasTheRows → (names : List InputData) (text : List ℕ) (start : RowsLeft) (rows : List Row) → LieApart start.layout.columns → IsAtStart names text start
    → ((all : List Row) → AreRowsLeft start all → AreRowsOf names text all) → GivesAll start rows → IsRead names text rows
read-all begins names text start rows apart at_start of_text gives = record {
  are_rows = of_text rows gives.are_rows;
  only = λ all are. gives.only apart all (begins names text start all at_start are);
}

-- a list that corresponds to two lists in sequence is itself in two parts
pub record Parted {A B : Type 0} (R : A → B → Type 0) (xs ys : List A) (all : List B) : Type 0 where
  pub front : List B
  pub following : List B
  pub all_is : all ≡ front ++ following
  pub in_front : AllZip R xs front
  pub in_after : AllZip R ys following

parted : {A B : Type 0} (R : A → B → Type 0) (xs ys : List A) (all : List B) → AllZip R (xs ++ ys) all → Parted R xs ys all
parted R [] ys all h = record { front = []; following = all; all_is = refl; in_front = tt; in_after = h }
parted R (x ∷ xs) ys [] h = absurd h
parted R (x ∷ xs) ys (b ∷ all) h =
    let rest = parted R xs ys all h.1 in
    record {
      front = b ∷ rest.front;
      following = rest.following;
      all_is = ap (λ bs. b ∷ bs) rest.all_is;
      in_front = (h.0, rest.in_front);
      in_after = rest.in_after;
    }

-- a list that corresponds to a list with a first element has a first element too
pub record Headed {A B : Type 0} (R : A → B → Type 0) (x : A) (xs : List A) (all : List B) : Type 0 where
  pub head : B
  pub following : List B
  pub all_is : all ≡ head ∷ following
  pub beside : R x head
  pub in_after : AllZip R xs following

headed : {A B : Type 0} (R : A → B → Type 0) (x : A) (xs : List A) (all : List B) → AllZip R (x ∷ xs) all → Headed R x xs all
headed R x xs [] h = absurd h
headed R x xs (b ∷ all) h = record { head = b; following = all; all_is = refl; beside = h.0; in_after = h.1 }

none-beside : {A B : Type 0} (R : A → B → Type 0) (all : List B) → AllZip R [] all → all ≡ []
none-beside R [] h = refl
none-beside R (b ∷ all) h = absurd h

-- no files
pub none-read : (names : List InputData) → AreRead names [] []
none-read names = record { are_rows = tt; only = λ all are. none-beside (AreRowsOf names) all are }

-- one more file is read
read-more : (names : List InputData) (texts : List (List ℕ)) (files : List (List Row)) (text : List ℕ) (rows : List Row) → AreRead names texts files
    → IsRead names text rows → AreRead names (texts ++ text ∷ []) (files ++ rows ∷ [])
read-more names texts files text rows before read = record {
  are_rows = all_zipped_more (AreRowsOf names) texts files text rows before.are_rows read.are_rows;
  only = λ all are.
      let parts = parted (AreRowsOf names) texts (text ∷ []) all are in
      let last = headed (AreRowsOf names) text [] parts.following parts.in_after in
      let end = none-beside (AreRowsOf names) last.following last.in_after in
      parts.all_is
      ∙ ap₂ (λ front following. front ++ following) (before.only parts.front parts.in_front)
      (last.all_is ∙ ap₂ (λ r rs. r ∷ rs) (read.only last.head last.beside) end);
}

pub read-next : (names : List InputData) (texts : List (List ℕ)) (place : ℕ) (d : List ℕ) (files : List (List Row)) (rows : List Row) → place < length texts
    → AreRead names (take place texts) files → IsRead names (get_or texts place d) rows → AreRead names (take (place + 1) texts) (files ++ rows ∷ [])
read-next names texts place d files rows within before read =
    subst (λ ts. AreRead names ts (files ++ rows ∷ [])) (sym (take_more texts place d within))
    (read-more names (take place texts) files (get_or texts place d) rows before read)

-- the records of two lists of files in sequence
records-append : (decided : Deciding) (provider : ℕ) (front following : List (List Row))
    → records_of decided provider (front ++ following) ≡ records_of decided provider front ++ records_of decided (provider + length front) following
records-append decided provider [] following =
    let here : provider + 0 ≡ provider = omega arith in
    rw here refl
records-append decided provider (rows ∷ front) following =
    let next : suc provider + length front ≡ provider + suc (length front) = omega arith in
    let rest = rw next at (records-append decided (suc provider) front following) in
    ap (λ rs. map (record_of decided provider) rows ++ rs) rest ∙ sym (append_assoc (map (record_of decided provider) rows) (records_of decided (suc provider) front) _)

-- the text of two lists of files in sequence
pub files-append : (decided : Deciding) (provider : ℕ) (front following : List (List Row))
    → files_text decided provider (front ++ following) ≡ files_text decided provider front ++ files_text decided (provider + length front) following
files-append decided provider front following =
    ap text_of (records-append decided provider front following)
    ∙ flat_map-append record_text (records_of decided provider front) (records_of decided (provider + length front) following)

-- the text of a file and of the files after it
files-cons : (decided : Deciding) (provider : ℕ) (rows : List Row) (following : List (List Row))
    → files_text decided provider (rows ∷ following) ≡ rows_text decided provider rows ++ files_text decided (suc provider) following
files-cons decided provider rows following = flat_map-append record_text (map (record_of decided provider) rows) (records_of decided (suc provider) following)

-- the text of the files so far and of one more
pub files-push : (decided : Deciding) (files : List (List Row)) (rows : List Row) (place : ℕ) → length files ≡ place
    → files_text decided 1 (files ++ rows ∷ []) ≡ files_text decided 1 files ++ rows_text decided (place + 1) rows
files-push decided files rows place size =
    let provider : 1 + length files ≡ place + 1 = omega (arith, size) in
    files-append decided 1 files (rows ∷ [])
    ∙ ap (λ text. files_text decided 1 files ++ text) (files-cons decided (1 + length files) rows [] ∙ append-nil _ ∙ ap (λ p. rows_text decided p rows) provider)

-- the text of the files so far and of the first rows of one more file is a beginning of the text of all files
begin-more : (decided : Deciding) (names : List InputData) (texts : List (List ℕ)) (text : List ℕ) (following : List (List ℕ)) (files : List (List Row)) (rows : List Row)
    → AreRead names texts files → IsReadFirst names text rows → (all : List (List Row)) → AllZip (AreRowsOf names) (texts ++ text ∷ following) all
    → Begin (files_text decided 1 files ++ rows_text decided (1 + length files) rows) (files_text decided 1 all)
begin-more decided names texts text following files rows before first all are =
    let parts = parted (AreRowsOf names) texts (text ∷ following) all are in
    let next = headed (AreRowsOf names) text following parts.following parts.in_after in
    let begins = first next.head next.beside in
    let provider = 1 + length files in
    let others = files_text decided (suc provider) next.following in
    record {
      rest = rows_text decided provider begins.rest ++ others;
      whole_is =
          ap (files_text decided 1) (parts.all_is ∙ ap₂ (λ front rest. front ++ rest) (before.only parts.front parts.in_front) next.all_is)
          ∙ files-append decided 1 files (next.head ∷ next.following)
          ∙ ap (λ t. files_text decided 1 files ++ t)
          (files-cons decided provider next.head next.following
          ∙ ap (λ t. t ++ others) (ap (rows_text decided provider) begins.whole_is ∙ rows-append decided provider rows begins.rest)
          ∙ append_assoc (rows_text decided provider rows) (rows_text decided provider begins.rest) others)
          ∙ sym (append_assoc (files_text decided 1 files) (rows_text decided provider rows) (rows_text decided provider begins.rest ++ others));
    }

pub begin-next : (decided : Deciding) (names : List InputData) (texts : List (List ℕ)) (place : ℕ) (d : List ℕ) (files : List (List Row)) (rows : List Row) → place < length texts
    → length files ≡ place → AreRead names (take place texts) files → IsReadFirst names (get_or texts place d) rows → (all : List (List Row))
    → AllZip (AreRowsOf names) texts all → Begin (files_text decided 1 files ++ rows_text decided (place + 1) rows) (files_text decided 1 all)
begin-next decided names texts place d files rows within size before first all are =
    let split : texts ≡ take place texts ++ get_or texts place d ∷ drop (suc place) texts =
    sym (take-append-drop place texts) ∙ ap (λ rest. take place texts ++ rest) (drop-cons texts place d within) in
    let provider : 1 + length files ≡ place + 1 = omega (arith, size) in
    rw provider at (begin-more decided names (take place texts) (get_or texts place d) (drop (suc place) texts) files rows before first all
    (subst (λ ts. AllZip (AreRowsOf names) ts all) split are))

-- the numbers of files and of texts are equal
pub files-long : (names : List InputData) (texts : List (List ℕ)) (files : List (List Row)) → AreRead names texts files → length files ≡ length texts
files-long names texts files read = AllZip-long (AreRowsOf names) texts files read.are_rows

-- the rows of the first `place` files are written
pub record FilesSoFar (decided : Deciding) (names : List InputData) (texts : List (List ℕ)) (place : ℕ) (old new : At) : Type 0 where
  pub files : List (List Row)
  pub read : AreRead names (take place texts) files
  pub writes : Writes old new (files_text decided 1 files) (Ok tt)

pub files-none : (decided : Deciding) (names : List InputData) (texts : List (List ℕ)) (old : At) → FilesSoFar decided names texts 0 old old
files-none decided names texts old = record { files = []; read = none-read names; writes = writes-none old }

-- the number of files before the index is the index
so-long : (names : List InputData) (texts : List (List ℕ)) (place : ℕ) (files : List (List Row)) → place ≤ length texts → AreRead names (take place texts) files
    → length files ≡ place
so-long names texts place files within read = AllZip-long (AreRowsOf names) (take place texts) files read.are_rows ∙ length-take-le place texts within

-- the text at an index, by the provider's number
by-number : (texts : List (List ℕ)) (place : ℕ) → get_or texts ((place + 1) - 1) [] ≡ get_or texts place []
by-number texts place = let same : (place + 1) - 1 ≡ place = omega arith in ap (λ n. get_or texts n []) same

pub files-next : (decided : Deciding) (names : List InputData) (texts : List (List ℕ)) (place : ℕ) (old new newer : At) → place < length texts
    → FilesSoFar decided names texts place old new → WritesFile decided (place + 1) names (get_or texts ((place + 1) - 1) []) new newer (Ok tt)
    → FilesSoFar decided names texts (place + 1) old newer
files-next decided names texts place old new newer within so_far writes =
    let long = so-long names texts place so_far.files (omega (arith, within)) so_far.read in
    let read = subst (λ text. IsRead names text writes.0) (by-number texts place) writes.1 in
    record {
      files = so_far.files ++ writes.0 ∷ [];
      read = read-next names texts place [] so_far.files writes.0 within so_far.read read;
      writes =
          subst (λ text. Writes old newer text (Ok tt)) (sym (files-push decided so_far.files writes.0 place long))
          (writes-then old new newer (files_text decided 1 so_far.files) (rows_text decided (place + 1) writes.0) tt (Ok tt) so_far.writes writes.2);
    }

-- the writing ends within the next file
pub files-refused : (decided : Deciding) (names : List InputData) (texts : List (List ℕ)) (place : ℕ) (old new newer : At) (fault : WriteFault)
    → place < length texts → FilesSoFar decided names texts place old new
    → WritesFile decided (place + 1) names (get_or texts ((place + 1) - 1) []) new newer (Err fault) → WritesFiles decided names texts old newer (Err fault)
files-refused decided names texts place old new newer fault within so_far writes =
    let long = so-long names texts place so_far.files (omega (arith, within)) so_far.read in
    let first = subst (λ text. IsReadFirst names text writes.0) (by-number texts place) writes.1 in (
      files_text decided 1 so_far.files ++ rows_text decided (place + 1) writes.0,
      begin-next decided names texts place [] so_far.files writes.0 within long so_far.read first,
      writes-then old new newer (files_text decided 1 so_far.files) (rows_text decided (place + 1) writes.0) tt (Err fault) so_far.writes writes.2,
    )

-- files are written, and then the next file is, or the writing ends within it
files-then : (decided : Deciding) (names : List InputData) (texts : List (List ℕ)) (place : ℕ) (a b c : At) (result : Result (Unit {0}) WriteFault)
    → place < length texts → WritesFiles decided names (take place texts) a b (Ok tt)
    → WritesFile decided (place + 1) names (get_or texts ((place + 1) - 1) []) b c result → WritesFiles decided names (take (place + 1) texts) a c result
files-then decided names texts place a b c (Ok done) within before file =
    let so_far = files-next decided names texts place a b c within (record { files = before.0; read = before.1; writes = before.2 }) file in
    (so_far.files, so_far.read, so_far.writes)
files-then decided names texts place a b c (Err fault) within before file =
    let long = so-long names texts place before.0 (omega (arith, within)) before.1 in
    let provider : 1 + length before.0 ≡ place + 1 = omega (arith, long) in
    let first = subst (λ text. IsReadFirst names text file.0) (by-number texts place) file.1 in
    let more = take_more texts place [] within in (
      files_text decided 1 before.0 ++ rows_text decided (place + 1) file.0,
      (λ all are.
          rw provider at (begin-more decided names (take place texts) (get_or texts place []) [] before.0 file.0 before.1 first all
          (subst (λ ts. AllZip (AreRowsOf names) ts all) more are))),
      writes-then a b c (files_text decided 1 before.0) (rows_text decided (place + 1) file.0) tt (Err fault) before.2 file.2,
    )

-- the files before a provider's are written, and then its file is, or the writing ends within it
pub next-written : (decided : Deciding) (names : List InputData) (texts : List (List ℕ)) (provider : ℕ) (a b c : At) (result : Result (Unit {0}) WriteFault)
    → 1 ≤ provider → provider ≤ length texts → WritesFiles decided names (take (provider - 1) texts) a b (Ok tt)
    → WritesFile decided provider names (get_or texts (provider - 1) []) b c result → WritesFiles decided names (take provider texts) a c result
next-written decided names texts provider a b c result least most before file =
    let same : (provider - 1) + 1 ≡ provider = omega (arith, least) in
    subst (λ n. WritesFiles decided names (take n texts) a c result) same
    (files-then decided names texts (provider - 1) a b c result (omega (arith, least, most)) before
    (subst (λ n. WritesFile decided n names (get_or texts (n - 1) []) b c result) (sym same) file))

-- a beginning of the text of the first files is a beginning of the text of all files
begin-in-front : (decided : Deciding) (names : List InputData) (xs ys : List (List ℕ)) (text : List ℕ) (all : List (List Row)) → Parted (AreRowsOf names) xs ys all
    → ((front : List (List Row)) → AllZip (AreRowsOf names) xs front → Begin text (files_text decided 1 front)) → Begin text (files_text decided 1 all)
begin-in-front decided names xs ys text all parts begins =
    let begin = begins parts.front parts.in_front in
    let others = files_text decided (1 + length parts.front) parts.following in
    record {
      rest = begin.rest ++ others;
      whole_is =
          ap (files_text decided 1) parts.all_is ∙ files-append decided 1 parts.front parts.following ∙ ap (λ t. t ++ others) begin.whole_is
          ∙ append_assoc text begin.rest others;
    }

-- a fault within the first files is a fault within these files and more
pub refused-before : (decided : Deciding) (names : List InputData) (texts : List (List ℕ)) (count upto : ℕ) (a b : At) (fault : WriteFault)
    → count ≤ upto → WritesFiles decided names (take count texts) a b (Err fault) → WritesFiles decided names (take upto texts) a b (Err fault)
refused-before decided names texts count upto a b fault most writes =
    let front = take count texts in
    let following = drop count (take upto texts) in
    let more : take upto texts ≡ front ++ following =
    sym (take-append-drop count (take upto texts)) ∙ ap (λ ts. ts ++ following) (take-take count upto texts most) in (
      writes.0,
      (λ all are.
          begin-in-front decided names front following writes.0 all
          (parted (AreRowsOf names) front following all (subst (λ ts. AllZip (AreRowsOf names) ts all) more are)) writes.1),
      writes.2,
    )

-- the first `count` files are all files, if there are `count` files
pub all-written : (decided : Deciding) (names : List InputData) (texts : List (List ℕ)) (count : ℕ) (a b : At) (result : Result (Unit {0}) WriteFault)
    → count ≡ length texts → WritesFiles decided names (take count texts) a b result → WritesFiles decided names texts a b result
all-written decided names texts count a b result all writes =
    subst (λ ts. WritesFiles decided names ts a b result) (take_all count texts (omega (arith, all))) writes
