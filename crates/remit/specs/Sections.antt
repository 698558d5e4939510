-- The sections of the providers' files in the remittance, which threads render into memory.
use Rattle.std.specs.Prelude.{◌≡◌, ℕ, List, drop, take, Option, Some, None, Result, Ok, Err, IfOk}
use Rattle.std.specs.Global.{Vec}
use Rattle.tables.specs.declared.table.InputData.{InputData}
use Rattle.intake_csv.specs.Rows.{AreRowsOf}
use Rattle.intake_csv.specs.declared.rows.Row.{Row}
use Rattle.remit_records.specs.RecordWriter.{At, Writes}
use Rattle.remit_records.specs.Records.{Deciding}
use Rattle.remit_records.specs.Rows.{Begin, IsRead, IsWithin, rows_text, up_to}
use Rattle.faults.specs.declared.write_fault.WriteFault.{WriteFault}
use Rattle.remit.specs.declared.sections.Section.{Section}

-- the section of all rows of a provider's file
abbrev pub whole_file : ℕ → Section
whole_file provider = record { provider = provider; start = 0; end = None }

-- the second part begins where the first one ends, within the section
pub record AreCut (section front back : Section) : Type 0 where
  pub front_is : front ≡ record section { end = Some back.start }
  pub back_is : back ≡ record section { start = back.start }
  pub within : IsWithin back.start section.end

-- these are the rows of a text after the first `start` rows, up to the first `end` rows; or up to the last row of the text
abbrev pub AreRowsBetween : List InputData → List ℕ → ℕ → Option ℕ → List Row → Type 0
AreRowsBetween names text start None rows = (all : List Row) × IsRead names text all × (rows ≡ drop start all)
AreRowsBetween names text start (Some end) rows = (all : List Row) → AreRowsOf names text all → rows ≡ drop start (take end all)

-- the rows of the text between the same bounds begin with these
abbrev pub BeginBetween : List InputData → List ℕ → ℕ → Option ℕ → List Row → Type 0
BeginBetween names text start end front = (all : List Row) → AreRowsOf names text all → Begin front (drop start (up_to end all))

-- the rows of a provider's file between two bounds are written; or the first of them are, before the writing ends with a fault
abbrev pub WritesBetween : Deciding → ℕ → List InputData → List ℕ → ℕ → Option ℕ → At → At → Result (Unit {0}) WriteFault → Type 0
WritesBetween decided provider names text start end old new (Ok done) =
    (rows : List Row) × AreRowsBetween names text start end rows × Writes old new (rows_text decided provider rows) (Ok done)
WritesBetween decided provider names text start end old new (Err fault) =
    (rows : List Row) × BeginBetween names text start end rows × Writes old new (rows_text decided provider rows) (Err fault)

-- the rows of a section are written; or the first of them are, before the writing ends with a fault
abbrev pub WritesSection : Deciding → Section → List InputData → List ℕ → At → At → Result (Unit {0}) WriteFault → Type 0
WritesSection decided section names text = WritesBetween decided section.provider names text section.start section.end

-- the part is the text of the rows of the section
pub record IsPart (decided : Deciding) (section : Section) (names : List InputData) (text part : List ℕ) : Type 0 where
  pub rows : List Row
  pub are : AreRowsBetween names text section.start section.end rows
  pub part_is : part ≡ rows_text decided section.provider rows

-- the result is the text of the section, or this was not kept in memory
abbrev pub MayBePart : {E : Type 0} → Deciding → Section → List InputData → List ℕ → Result (Vec ℕ) E → Type 0
MayBePart decided section names text part = IfOk part (λ bytes. IsPart decided section names text bytes.items)
