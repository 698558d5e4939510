-- The writing of a text in pieces: the bytes that the writer has received, and the bytes that are buffered.
use Rattle.std.specs.Prelude.{◌≡◌, ℕ, Bool, true, false, List, [], ◌++◌, length, Option, Result, Ok, Err}
use Rattle.std.specs.Io.KnownBytes.{Appends}
use Rattle.csv.specs.Writing.{fields_written, has_written, writer_setup}
use Rattle.fixpoint.specs.BufferedOut.{IsEmpty, is_cut, unsent_of, written_of}
use Rattle.remit_records.specs.Fields.{Pushes, rendered_in}
use Rattle.remit_records.specs.Report.{report_style}
use Rattle.faults.specs.declared.write_fault.WriteCause.TheVariants.{Device, OutOfMemory}
use Rattle.faults.specs.declared.write_fault.WriteFault.{WriteFault}
use Rattle.remit_records.specs.declared.record_writer.RecordWriter.{RecordWriter}

-- the rendered text, which is not yet put after the text
abbrev pub rendered_of : RecordWriter → List ℕ
rendered_of writer = rendered_in writer.rendered

-- the bytes that are buffered and not yet passed on
abbrev pub gathered_of : RecordWriter → List ℕ
gathered_of writer = unsent_of writer.text ++ rendered_of writer

-- records are rendered in the style of the remittance, and none is unfinished
pub record IsReady (writer : RecordWriter) : Type 0 where
  pub setup : writer_setup writer.rendered ≡ report_style
  pub fields : fields_written writer.rendered ≡ 0
  pub clean : has_written writer.rendered ≡ false

-- nothing is written yet
pub record IsUnused (writer : RecordWriter) : Type 0 where
  pub rendered : rendered_of writer ≡ []
  pub text : IsEmpty writer.text
  pub ready : IsReady writer

-- the state of the writing: the contents of the writer, if they are known, whether it has failed, and the buffer
pub record At : Type 0 where
  pub contents : Option (List ℕ)
  pub failed : Bool
  pub writer : RecordWriter

-- the state of the writing with these parts
abbrev pub at : Option (List ℕ) → Bool → RecordWriter → At
at contents failed writer = record { contents = contents; failed = failed; writer = writer }

-- the writer has received the first bytes of the text after its contents at the start, and their number is counted; the other
-- bytes are buffered
pub record Holds (start : Option (List ℕ)) (text : List ℕ) (now : At) : Type 0 where
  pub gone : List ℕ
  pub text_is : text ≡ gone ++ gathered_of now.writer
  pub appended : Appends start now.contents gone
  pub counted : written_of now.writer.text ≡ length gone
  pub whole : is_cut now.writer.text ≡ false
  pub ready : IsReady now.writer

-- the writer has received exactly this number of first bytes of the text, after its contents at the start
pub record HasFront (start : Option (List ℕ)) (text : List ℕ) (written : ℕ) (contents : Option (List ℕ)) : Type 0 where
  pub gone : List ℕ
  pub rest : List ℕ
  pub text_is : text ≡ gone ++ rest
  pub appended : Appends start contents gone
  pub counted : written ≡ length gone

-- after a fault of the device the writer has failed; a lack of memory leaves its state unchanged
abbrev pub Leaves : WriteFault → Bool → Bool → Type 0
Leaves fault old new = (fault.cause ≡ Device → new ≡ true) × (fault.cause ≡ OutOfMemory → new ≡ old)

-- the text is written; or the writing ends with a fault within the text
abbrev pub Writes : At → At → List ℕ → Result (Unit {0}) WriteFault → Type 0
Writes old new more (Ok done) =
    ((start : Option (List ℕ)) (text : List ℕ) → Holds start text old → Holds start (text ++ more) new) × (new.failed ≡ old.failed)
Writes old new more (Err fault) =
    ((start : Option (List ℕ)) (text : List ℕ) → Holds start text old → HasFront start (text ++ more) fault.written new.contents)
    × Leaves fault old.failed new.failed

-- these fields are rendered of a record that began at the start
abbrev pub HasPushed : RecordWriter → RecordWriter → List (List ℕ) → Type 0
HasPushed start now fields = (now.text ≡ start.text) × Pushes start.rendered now.rendered fields

-- the fault is a lack of memory, after the bytes that this writer has passed on
pub record IsNoMemory (writer : RecordWriter) (fault : WriteFault) : Type 0 where
  pub written : fault.written ≡ written_of writer.text
  pub cause : fault.cause ≡ OutOfMemory

-- the text is cut, and the fault says where; after a fault of the device the writer has failed, and after a lack of memory it has not
pub record IsCutFault (writer : RecordWriter) (failed : Bool) (fault : WriteFault) : Type 0 where
  pub cut : is_cut writer.text ≡ true
  pub written : fault.written ≡ written_of writer.text
  pub device : fault.cause ≡ Device → failed ≡ true
  pub memory : fault.cause ≡ OutOfMemory → failed ≡ false
