-- The reader of a provider's file, which reads claims ahead of those that are taken from it.
use Rattle.std.specs.Prelude.{◌≡◌, ◌<◌, ◌≤◌, ◌+◌, ◌^◌, ℕ, true, false, List, drop, length, slice_get, Option, Some, None}
use Rattle.settlement.specs.declared.claim.Claim.{Claim}
use Rattle.intake_csv.specs.Rows.{AreRowsLeft, RowsLeft, claims_among}
use Rattle.intake_csv.specs.declared.rows.Row.{Row}
use Rattle.journal.specs.Terms.{Terms, claims_of}
use Rattle.claim_gate.specs.Terms.{ForTerms, TermsParts}
use Rattle.ordered_claims.specs.declared.file_reader.FileReader.{FileReader}

-- the claims among the remaining rows of a reader
pub record AreClaimsLeft (left : RowsLeft) (claims : List Claim) : Type 0 where
  pub rows : List Row
  pub are_rows : AreRowsLeft left rows
  pub claims_are : claims ≡ claims_among rows

-- the number of claims: one or zero
abbrev pub held : Option Claim → ℕ
held None = 0
held (Some claim) = 1

-- the claim is the first of the remaining claims, if any remains, and the reader has the others left
pub record ReadsClaim (old new : RowsLeft) (claim : Option Claim) : Type 0 where
  pub first : (claims : List Claim) → AreClaimsLeft old claims → (claim ≡ slice_get claims 0) × AreClaimsLeft new (drop 1 claims)
  pub place : new.place ≡ old.place + held claim
  pub within : new.place < new.number
  pub fits : new.place < 2 ^ 64
  pub fewer : length new.records + held claim ≤ length old.records

-- the reader has passed records that have no claims
pub record SkipsTo (old new : RowsLeft) : Type 0 where
  pub same : (claims : List Claim) → AreClaimsLeft old claims → AreClaimsLeft new claims
  pub place : new.place ≡ old.place
  pub within : new.place < new.number
  pub fewer : length new.records ≤ length old.records

-- the piece has the claims of the list from a place on
pub record IsPiece (all : List Claim) (place : ℕ) (piece : List Claim) : Type 0 where
  pub each : (k : ℕ) (claim : Claim) → slice_get piece k ≡ Some claim → slice_get all (place + k) ≡ Some claim
  pub most : place + length piece ≤ length all

-- the number of claims that are read
abbrev pub reached : FileReader → ℕ
reached reader = reader.taken + length reader.ahead.items

-- the number of records that are not read yet or whose claim is not taken yet
abbrev pub records_in : FileReader → ℕ
records_in reader = length reader.rows.records + length reader.ahead.items

-- the reader is past the claims that are read
pub record IsPlaced (reader : FileReader) : Type 0 where
  pub place : reader.rows.place ≡ reached reader
  pub within : reader.rows.place < reader.rows.number
  pub fits : reader.rows.place < 2 ^ 64

-- the reader of a provider's file, of which the first claims are taken, the next ones are read ahead,
-- and the others are left
pub record IsReaderAt (T : Terms) (provider : ℕ) (reader : FileReader) : Type 0 where
  pub ahead : IsPiece (claims_of T provider) reader.taken reader.ahead.items
  pub others : AreClaimsLeft reader.rows (drop (reached reader) (claims_of T provider))
  pub over : reader.is_over ≡ true → length (claims_of T provider) ≤ reached reader

-- the reader is at its place in the file of a provider
pub record IsSound (terms : TermsParts) (provider : ℕ) (reader : FileReader) : Type 0 where
  pub placed : IsPlaced reader
  pub at : ForTerms terms (λ T. IsReaderAt T provider reader)

-- the reader has read claims of its file, or none, and has not failed
pub record Reads (old new : FileReader) : Type 0 where
  pub worked : old.has_failed ≡ false
  pub works : new.has_failed ≡ false
  pub placed : IsPlaced old → IsPlaced new
  pub at : (T : Terms) (provider : ℕ) → IsReaderAt T provider old → IsReaderAt T provider new
  pub fewer : records_in new ≤ records_in old

-- the reader has read claims of its file, or has failed; no claim is taken
pub record ReadsAhead (old new : FileReader) : Type 0 where
  pub taken : new.taken ≡ old.taken
  pub reads : new.has_failed ≡ false → Reads old new
