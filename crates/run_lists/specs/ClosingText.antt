-- The text of closing balances: a file of balances under the plan.
use Rattle.std.specs.Prelude.{◌≡◌, ℕ, List, [], ◌∷◌, ◌++◌, flat_map, map}
use Rattle.std.specs.List.{AllByRecursion}
use Rattle.csv.specs.Writing.{default_writer, row_text}
use Rattle.fixpoint.specs.Money.{money_text}
use Rattle.feel_tests.specs.Calendar.{year_text}
use Rattle.tables.specs.Plan.{has_families, has_years}
use Rattle.settlement.specs.Amount.{IsAmount}
use Rattle.intake_csv.specs.Balances.{Entry, IsKeptUnder}
use Rattle.intake_csv.specs.Columns.{balance_columns}
use Rattle.journal.specs.declared.event.Event.{Event}
use Rattle.claim_gate.specs.Terms.{TermsParts}
use Rattle.remit_records.specs.Records.{family_fields, year_fields}
use Rattle.run_lists.specs.Closing.{AreClosing}

-- the fields of an account: its family and its year only if the plan's version has them
abbrev pub account_fields : ℕ → List ℕ → List ℕ → List ℕ → List (List ℕ)
account_fields version family member year = family_fields (has_families version) family ++ member ∷ year_fields (has_years version) year

-- the fields of an entry, in the order of the columns of a file of balances
abbrev pub entry_fields : ℕ → Entry → List (List ℕ)
entry_fields version entry =
    account_fields version entry.0.family entry.0.member (year_text entry.0.year)
    ++ money_text entry.1.met ∷ money_text entry.1.oop ∷ money_text entry.1.paid ∷ []

-- the records of the text: the names of the columns, and a record for each entry
abbrev pub closing_records : ℕ → List Entry → List (List (List ℕ))
closing_records version entries = map (λ c. c.name) (balance_columns version) ∷ map (entry_fields version) entries

-- the text of records: commas between fields, quotes only around fields that need them, and LF
-- after each record
abbrev pub records_text : List (List (List ℕ)) → List ℕ
records_text records = flat_map (row_text default_writer) records

-- the text of closing balances
abbrev pub closing_text : ℕ → List Entry → List ℕ
closing_text version entries = records_text (closing_records version entries)

-- a file of balances under a plan of this version can have the entry: its account is valid, and its
-- amounts are money in the range of numbers
pub record IsWritable (version : ℕ) (entry : Entry) : Type 0 where
  pub kept : IsKeptUnder version entry.0
  pub met : IsAmount entry.1.met
  pub oop : IsAmount entry.1.oop
  pub paid : IsAmount entry.1.paid

abbrev pub AreWritable : ℕ → List Entry → Type 0
AreWritable version entries = AllByRecursion (IsWritable version) entries

-- the bytes are the text of the closing balances of these terms and this journal
pub record IsClosingText (parts : TermsParts) (J : List Event) (bytes : List ℕ) : Type 0 where
  pub entries : List Entry
  pub are_closing : AreClosing parts J entries
  pub writable : AreWritable parts.plan.version entries
  pub bytes_are : bytes ≡ closing_text parts.plan.version entries
