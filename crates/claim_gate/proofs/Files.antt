-- Claim files, which are validated one after another.
use Rattle.std.proofs.Common.{◌≡◌, ◌<◌, ◌≤◌, ◌+◌, ℕ, zero, suc, Result, Ok, Err, IfOk, Option, IsSome, List, [], ◌∷◌, ◌++◌, length, take, get_or, Some, None, Bor, true, is_some, refl, sym, ap, subst, ◌∙◌, arith}
use Rattle.std.specs.List.{All}
use Rattle.std.specs.Option.{option_copied}
use Rattle.std.proofs.lemmas.Bool.{false≢true}
use Rattle.std.proofs.lemmas.List.{get_or-map, length-map, take_all, take_more}
use Rattle.std.proofs.lemmas.List.Elements.{All-cons, All-nil}
use Rattle.std.proofs.lemmas.Option.{slice_get-get_or}
use Rattle.tables.specs.Plan.{PlanParts}
use Rattle.tables.specs.declared.table.InputData.{InputData}
use Rattle.intake_csv.specs.ClaimFile.{FileParts, IsFileOf, rows_of}
use Rattle.intake_csv.specs.Rows.{AreRowsLeft, AreRowsOf, IsAtStart, RowsLeft}
use Rattle.intake_csv.specs.declared.rows.Row.{Row}
use Rattle.claim_gate.specs.TermsFault.{HasTermsFault, IsFaultOfBalances, IsFaultOfFile, IsFaultOfFiles}
use Rattle.claim_gate.specs.Terms.{AreFilesOf, IsClaimFile, IsFileCount, texts_of}
use Rattle.faults.specs.declared.terms_fault.TermsFault.{TermsFault}
use Rattle.faults.specs.declared.terms_fault.TermsFault.TheVariants.{NoRoles, Files, File, Balances, OutOfMemory}

-- the text at a place is the one that the reference at the place refers to
text-at : (files : List (Bor (List ℕ))) (place : ℕ) (d : Bor (List ℕ)) → place < length files → get_or (texts_of files) place d.now ≡ (get_or files place d).now
text-at files place d within = get_or-map (λ f. f.now) files place d d.now within

-- the text of a validated file is a valid claim file
claims-of : (names : List InputData) (text : List ℕ) (file : FileParts) → IsFileOf names text file → IsClaimFile names text
claims-of names text file is = subst (IsClaimFile names) is.text_is (record { layout = file.layout; records = _; headered_file = is.under })

pub are_claim_files : (names : List InputData) (texts : List (List ℕ)) (files : List FileParts) → AreFilesOf names texts files → All (IsClaimFile names) texts
are_claim_files names [] [] are = All-nil (IsClaimFile names)
are_claim_files names [] (file ∷ files) are = absurd are
are_claim_files names (text ∷ texts) [] are = absurd are
are_claim_files names (text ∷ texts) (file ∷ files) are =
    All-cons (IsClaimFile names) text texts (claims-of names text file are.0) (are_claim_files names texts files are.1)

more : (names : List InputData) (texts : List (List ℕ)) (files : List FileParts) (text : List ℕ) (file : FileParts) → AreFilesOf names texts files → IsFileOf names text file
    → AreFilesOf names (texts ++ text ∷ []) (files ++ file ∷ [])
more names [] [] text file are is = (is, tt)
more names [] (f ∷ files) text file are is = absurd are
more names (t ∷ texts) [] text file are is = absurd are
more names (t ∷ texts) (f ∷ files) text file are is = (are.0, more names texts files text file are.1 is)

-- one more validated file is that of one more text
pub validated-more : (names : List InputData) (texts : List (Bor (List ℕ))) (place : ℕ) (d : Bor (List ℕ)) (files : List FileParts) (file : FileParts) → place < length texts
    → AreFilesOf names (take place (texts_of texts)) files → IsFileOf names (get_or texts place d).now file → AreFilesOf names (take (place + 1) (texts_of texts)) (files ++ file ∷ [])
validated-more names texts place d files file within are is =
    let size = length-map texts (λ f. f.now) in
    rw (take_more (texts_of texts) place d.now (omega (arith, size, within)), text-at texts place d within)
    (more names (take place (texts_of texts)) files (get_or texts place d).now file are is)

-- after the last text, the validated files are those of all texts
pub validated-all : (names : List InputData) (texts : List (Bor (List ℕ))) (place : ℕ) (files : List FileParts) → length texts ≤ place
    → AreFilesOf names (take place (texts_of texts)) files → AreFilesOf names (texts_of texts) files
validated-all names texts place files past are =
    let size = length-map texts (λ f. f.now) in
    rw (take_all place (texts_of texts) (omega (arith, size, past))) at are

-- the fault of the first invalid file is the fault of the files
pub refused-first : (names : List InputData) (texts : List (Bor (List ℕ))) (place : ℕ) (d : Bor (List ℕ)) (files : List FileParts) (fault : TermsFault) → place < length texts
    → AreFilesOf names (take place (texts_of texts)) files → IsFaultOfFile names (place + 1) (get_or texts place d).now fault → IsFaultOfFiles names (texts_of texts) fault
refused-first names texts place d files NoRoles within before refused = refused
refused-first names texts place d files Files within before refused = refused
refused-first names texts place d files (Balances fault) within before refused = refused
refused-first names texts place d files OutOfMemory within before refused = tt
refused-first names texts place d files (File provider fault) within before refused =
    let size = length-map texts (λ f. f.now) in
    record {
      place = place;
      numbered = refused.0;
      text = (get_or texts place d).now;
      located = slice_get-get_or (texts_of texts) place d.now (omega (arith, size, within)) ∙ ap Some (text-at texts place d within);
      refused = refused.1;
      before = are_claim_files names (take place (texts_of texts)) files before;
    }

-- there are as many files as texts
pub as-many : (names : List InputData) (texts : List (List ℕ)) (files : List FileParts) → AreFilesOf names texts files → length files ≡ length texts
as-many names [] [] are = refl
as-many names [] (file ∷ files) are = absurd are
as-many names (text ∷ texts) [] are = absurd are
as-many names (text ∷ texts) (file ∷ files) are = ap suc (as-many names texts files are.1)

-- the file at a place is that of the text at the place
pub file-at : (names : List InputData) (texts : List (List ℕ)) (files : List FileParts) (place : ℕ) (d : FileParts) → AreFilesOf names texts files → place < length texts
    → IsFileOf names (get_or texts place []) (get_or files place d)
file-at names [] files place d are within = absurd (omega (arith, within))
file-at names (text ∷ texts) [] place d are within = absurd are
file-at names (text ∷ texts) (file ∷ files) zero d are within = are.0
file-at names (text ∷ texts) (file ∷ files) (suc place) d are within = file-at names texts files place d are.1 (omega (arith, within))

-- a new reader of a text's file is at the start of the text, and the rows that it has left are those of the text
pub starts : (names : List InputData) (text : List ℕ) (file : FileParts) → IsFileOf names text file → IsAtStart names text (rows_of file)
starts names text file is =
    subst (λ t. IsAtStart names t (rows_of file)) is.text_is (record { headered_file = is.under; number = refl; place = refl; stage = refl })

pub gives-all : (names : List InputData) (text : List ℕ) (file : FileParts) → IsFileOf names text file → (all : List Row) → AreRowsLeft (rows_of file) all → AreRowsOf names text all
gives-all names text file is all left =
    subst (λ t. AreRowsOf names t all) is.text_is (record { layout = file.layout; records = _; headered_file = is.under; are_rows = left })

-- the reader that the file at a place returns is at the start of the text at the place
pub starts-at : (names : List InputData) (texts : List (List ℕ)) (files : List FileParts) (place : ℕ) (d file : FileParts) (E : Type 0) (result : Result RowsLeft E)
    → AreFilesOf names texts files → place < length texts → file ≡ get_or files place d → IfOk result (λ rows. rows ≡ rows_of file)
    → IfOk result (IsAtStart names (get_or texts place []))
starts-at names texts files place d file E (Ok rows) are within at is =
    let text = get_or texts place [] in
    subst (IsAtStart names text) (sym (is ∙ ap rows_of at)) (starts names text (get_or files place d) (file-at names texts files place d are within))
starts-at names texts files place d file E (Err e) are within at is = tt

pub gives-at : (names : List InputData) (texts : List (List ℕ)) (files : List FileParts) (place : ℕ) (d file : FileParts) (E : Type 0) (result : Result RowsLeft E)
    → AreFilesOf names texts files → place < length texts → file ≡ get_or files place d → IfOk result (λ rows. rows ≡ rows_of file)
    → IfOk result (λ rows. (all : List Row) → AreRowsLeft rows all → AreRowsOf names (get_or texts place []) all)
gives-at names texts files place d file E (Ok rows) are within at is =
    let text = get_or texts place [] in
    subst (λ r. (all : List Row) → AreRowsLeft r all → AreRowsOf names text all) (sym (is ∙ ap rows_of at))
    (gives-all names text (get_or files place d) (file-at names texts files place d are within))
gives-at names texts files place d file E (Err e) are within at is = tt

-- a plan that returns a reference to its roles has roles
pub have-roles : {A : Type 0} (borrowed : Option (Bor A)) (roles : Option A) → option_copied borrowed ≡ roles → is_some borrowed ≡ true → IsSome roles
have-roles None roles is some = absurd (false≢true some)
have-roles (Some lends) roles is some = ap is_some (sym is)

-- a fault of the files is a fault of the terms, if the plan has roles and the number of files is allowed
pub refused-files : (plan : PlanParts) (texts : List (List ℕ)) (balances : Option (List ℕ)) (fault : TermsFault) → IsSome plan.roles → IsFileCount (length texts)
    → IsFaultOfFiles plan.names texts fault → HasTermsFault plan texts balances fault
refused-files plan texts balances NoRoles roles count refused = absurd refused
refused-files plan texts balances Files roles count refused = absurd refused
refused-files plan texts balances (File provider fault) roles count refused = (roles, count, refused)
refused-files plan texts balances (Balances fault) roles count refused = absurd refused
refused-files plan texts balances OutOfMemory roles count refused = tt

-- a fault of the balances is a fault of the terms, if the plan has roles and all files are valid
pub refused-balances : (plan : PlanParts) (texts : List (List ℕ)) (balances : Option (List ℕ)) (fault : TermsFault) → IsSome plan.roles → IsFileCount (length texts)
    → All (IsClaimFile plan.names) texts → IsFaultOfBalances plan balances fault → HasTermsFault plan texts balances fault
refused-balances plan texts balances NoRoles roles count claims refused = absurd refused
refused-balances plan texts balances Files roles count claims refused = absurd refused
refused-balances plan texts balances (File provider fault) roles count claims refused = absurd refused
refused-balances plan texts balances (Balances fault) roles count claims refused = (roles, count, claims, refused)
refused-balances plan texts balances OutOfMemory roles count claims refused = tt
