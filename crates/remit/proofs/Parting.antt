-- A section that is rendered into memory, and the bytes that a writer has received of it.
use Rattle.std.proofs.Common.{◌≡◌, ℕ, false, Option, Some, None, Result, Ok, Err, OnOk, is_err, List, [], ◌++◌, ap, drop, sym, subst, ◌∙◌, append-nil}
use Rattle.std.specs.Io.KnownBytes.{Appends}
use Rattle.std.proofs.lemmas.Bool.{false≢true}
use Rattle.tables.specs.declared.table.InputData.{InputData}
use Rattle.intake_csv.specs.declared.rows.Row.{Row}
use Rattle.remit_records.specs.RecordWriter.{At, IsUnused, Writes, gathered_of}
use Rattle.remit.specs.Sections.{AreRowsBetween, BeginBetween, IsPart, WritesSection}
use Rattle.remit_records.specs.Records.{Deciding}
use Rattle.remit_records.specs.Rows.{rows_text}
use Rattle.remit.specs.declared.sections.Section.{Section}
use Rattle.faults.specs.declared.write_fault.WriteFault.{WriteFault}
use Rattle.remit_records.proofs.Holding.{writes-then}
use Rattle.remit_records.proofs.Reporting.{written-whole}

-- a section is the whole text of a file's rows, written into an empty buffer
pub part-made : (decided : Deciding) (section : Section) (names : List InputData) (text : List ℕ) (a b e : At) (bytes : List ℕ) (first last : Result (Unit {0}) WriteFault)
    → is_err first ≡ false → is_err last ≡ false → IsUnused a.writer → WritesSection decided section names text a b first → Writes b e [] last
    → OnOk last (gathered_of e.writer ≡ []) → a.contents ≡ Some [] → e.contents ≡ Some bytes → IsPart decided section names text bytes
part-made decided section names text a b e bytes (Err fault) last ok done unused file end none before after = absurd (false≢true (sym ok))
part-made decided section names text a b e bytes (Ok first) (Err fault) ok done unused file end none before after = absurd (false≢true (sym done))
part-made decided section names text a b e bytes (Ok first) (Ok last) ok done unused file end none before after =
    let all = rows_text decided section.provider file.0 ++ [] in
    let writes : Writes a e all (Ok tt) = writes-then a b e (rows_text decided section.provider file.0) [] tt (Ok tt) file.2 end in
    let appended : Appends a.contents e.contents all = written-whole a e all unused writes none in
    let started : Appends (Some []) e.contents all = subst (λ x. Appends x e.contents all) before appended in
    let known : Appends (Some []) (Some bytes) all = subst (λ x. Appends (Some []) x all) after started in
    record { rows = file.0; are = file.1; part_is = known ∙ append-nil (rows_text decided section.provider file.0) }

-- the rows between two bounds begin with themselves
begin-all : (names : List InputData) (text : List ℕ) (start : ℕ) (end : Option ℕ) (rows : List Row) → AreRowsBetween names text start end rows
    → BeginBetween names text start end rows
begin-all names text start None rows are all of_text =
    record { rest = []; whole_is = ap (drop start) (are.1.only all of_text) ∙ sym are.2 ∙ sym (append-nil rows) }
begin-all names text start (Some end) rows are all of_text = record { rest = []; whole_is = sym (are all of_text) ∙ sym (append-nil rows) }

-- a section is written, or the writing ends within it
pub part-written : (decided : Deciding) (section : Section) (names : List InputData) (text part : List ℕ) (a b : At) (result : Result (Unit {0}) WriteFault)
    → IsPart decided section names text part → Writes a b part result → WritesSection decided section names text a b result
part-written decided section names text part a b (Ok done) is writes = (is.rows, is.are, subst (λ t. Writes a b t (Ok done)) is.part_is writes)
part-written decided section names text part a b (Err fault) is writes =
    (is.rows, begin-all names text section.start section.end is.rows is.are, subst (λ t. Writes a b t (Err fault)) is.part_is writes)
