-- The state of the `csv` reader inside a reader of records.
use Rattle.std.specs.Prelude.{◌≡◌, ℕ, List, [], Some}
use Rattle.std.specs.Borrow.{Bor}
use Rattle.csv.specs.Reading.{AreRecords, Ready, default_config, source_of}
use Rattle.csv.specs.declared.reader.Reader.{Reader}
use Rattle.csv.specs.declared.reader.Trim.TheVariants as trim
use Rattle.intake_csv.specs.Records.{Fields}
use Rattle.intake_csv.specs.declared.records.Stage.{Stage}
use Rattle.intake_csv.specs.declared.records.Stage.TheVariants.{Reading, Over, Failed}

-- the reader has these remaining records
pub record HasLeft (reader : Reader (Bor (List ℕ))) (rows : List Fields) : Type 0 where
  pub untrimmed : reader.trim ≡ trim.None
  pub ready : Ready reader
  pub config : reader.config ≡ default_config
  pub bytes : List ℕ
  pub source : source_of (λ s. Some s.now) reader ≡ Some bytes
  pub are : AreRecords default_config reader.state bytes rows

-- the reader has these remaining records, as far as the stage determines them
abbrev pub IsAtStage : Stage → Reader (Bor (List ℕ)) → List Fields → Type 0
IsAtStage Reading reader rows = HasLeft reader rows
IsAtStage Over reader rows = rows ≡ []
IsAtStage Failed reader rows = Unit {0}
