-- What a reader returns of its remaining records.
use Rattle.std.specs.Prelude.{◌≡◌, ℕ, Bool, true, false, List, [], ◌∷◌}
use Rattle.std.specs.Borrow.{Bor}
use Rattle.csv.specs.declared.reader.Reader.{Reader}
use Rattle.intake_csv.specs.Reader.{HasLeft}
use Rattle.intake_csv.specs.Records.{Fields}

-- the first of these records, after which the reader has the others; or none, if there is none
abbrev pub ReadsFrom : List Fields → Bool → Fields → Reader (Bor (List ℕ)) → Type 0
ReadsFrom rows true fields new = (rest : List Fields) × (rows ≡ fields ∷ rest) × HasLeft new rest
ReadsFrom rows false fields new = rows ≡ []
