-- The opening balances of a text.
use Rattle.std.specs.Prelude.{◌≡◌, ◌≢◌, ◌≤◌, ◌+◌, ◌-◌, ◌⊎◌, ◌==◌, ◌&&◌, ◌++◌, ℕ, suc, Bool, true, false, List, map, flat_map, [], ◌∷◌, get_or, take, Option, Some, None, is_some, string_bytes}
use Rattle.std.specs.Int.{IsInRange}
use Rattle.std.specs.List.{All, AllPairs, AllZip, Any, slice_get}
use Rattle.std.specs.Map.{lookup}
use Rattle.std.specs.Option.{option_and_then}
use Rattle.std.specs.Str.{bytes_eq}
use Rattle.std.specs.HashMap.{HashMap}
use Rattle.std.specs.declared.string.String.{String}
use Rattle.feel_tests.specs.Calendar.{year_text}
use Rattle.feel_tests.specs.declared.value.Value.{Value}
use Rattle.feel_tests.specs.declared.value.Value.TheVariants.{Number, Text}
use Rattle.tables.specs.Plan.{has_families, has_years}
use Rattle.settlement.specs.Accounts.{Account}
use Rattle.settlement.specs.Accumulators.{AreInRange}
use Rattle.settlement.specs.Amount.{is_in_range}
use Rattle.settlement.specs.Bindings.{after_family}
use Rattle.settlement.specs.Opening.{opening}
use Rattle.settlement.specs.declared.acc.Acc.{Acc}
use Rattle.settlement.specs.declared.account.Balance.{Balance}
use Rattle.intake_csv.specs.Records.{Fields}
use Rattle.intake_csv.specs.Columns.{IsHeaderedFile, HasFileFault, balance_columns, member_place, met_place, oop_place}
use Rattle.intake_csv.specs.FamilyYears.{AreOnceBy, HasJoined, Members, balance_in, refused_after}
use Rattle.intake_csv.specs.Rows.{HasFault, HasValues, HoldsUnder}
use Rattle.intake_csv.specs.declared.column.Layout.{Layout}
use Rattle.intake_csv.specs.declared.entry.Entry.{Entry as ReadEntry}
use Rattle.intake_csv.specs.declared.entry.OpeningEntry.{OpeningEntry}
use Rattle.intake_csv.specs.declared.column.Column.{Column}
use Rattle.faults.specs.declared.file_fault.FileFault.TheVariants as file
use Rattle.faults.specs.declared.file_fault.RowFault.{RowFault}
use Rattle.faults.specs.declared.file_fault.RowCause.{RowCause}
use Rattle.faults.specs.declared.file_fault.RowCause.TheVariants.{Repeated, Sum}
use Rattle.faults.specs.declared.file_fault.BalanceFault.{BalanceFault}
use Rattle.faults.specs.declared.file_fault.BalanceFault.TheVariants.{File, Row, OutOfMemory}
use Rattle.intake_csv.specs.declared.family_year.Refusal.{Refusal}
use Rattle.intake_csv.specs.declared.family_year.Refusal.TheVariants.{Again, Met, Oop}

-- a family in a year, which is 0 if the plan does not keep accumulators by benefit year
abbrev pub Holder : Type 0
Holder = List ℕ × ℕ

-- both families and years are equal
abbrev pub is_holder : Holder → Holder → Bool
is_holder a b = bytes_eq a.0 b.0 && (a.1 == b.1)

-- the family and year of an account
abbrev pub holder_of : Account → Holder
holder_of account = (account.family, account.year)

-- an account and its balance
abbrev pub Entry : Type 0
Entry = Account × Balance

-- the families of a year, each with its members
abbrev pub Book : Type 0
Book = List (List ℕ × Members)

-- the accounts of a family's members in a year, with their balances
abbrev pub accounts_in : ℕ → List ℕ × Members → List Entry
accounts_in year family_year = map (λ m. (record { family = family_year.0; member = m.0; year = year }, m.1)) family_year.1

-- the accounts of books, where the first book is that of this year and each other one is that of
-- the next year
abbrev pub accounts_from : ℕ → List Book → List Entry
accounts_from year [] = []
accounts_from year (book ∷ rest) = flat_map (accounts_in year) book ++ accounts_from (suc year) rest

-- the accounts of books, where the year of a book is its place in the list
abbrev pub accounts_of : List Book → List Entry
accounts_of books = accounts_from 0 books

-- the members of a family in a year, if it has balances
abbrev pub found_in : List Book → Holder → Option Members
found_in books holder = lookup (bytes_eq holder.0) (get_or books holder.1 [])

-- the balance of an account, if there is one
abbrev pub balance_of : List Book → Account → Option Balance
balance_of books account = option_and_then (λ members. balance_in members account.member) (found_in books (holder_of account))

-- the families of a book are distinct, and so are the members of each family
pub record AreOnceIn (book : Book) : Type 0 where
  pub families : AreOnceBy bytes_eq book
  pub members : All (λ family_year. AreOnceBy bytes_eq family_year.1) book

-- this holds for every book
abbrev pub AreOnce : List Book → Type 0
AreOnce = All AreOnceIn

-- the value of the year's column, if there is one
abbrev pub year_values : Bool → ℕ → List Value
year_values true year = Text (year_text year) ∷ []
year_values false year = []

-- the values of the columns of a balance
abbrev pub balance_values : Balance → List Value
balance_values balance = Number balance.met ∷ Number balance.oop ∷ Number balance.paid ∷ []

-- the family in an entry's values, if there is a column for it
abbrev pub family_in : Bool → Account → Option (List ℕ)
family_in true account = Some account.family
family_in false account = None

-- the values of an entry under a plan of this version, in the order of the required columns
abbrev pub entry_values : ℕ → Entry → List Value
entry_values version entry =
    after_family (family_in (has_families version) entry.0)
    (Text entry.0.member ∷ (year_values (has_years version) entry.0.year ++ balance_values entry.1))

-- the year is valid: from 1 to 9999 if the plan keeps accumulators by benefit year, and otherwise 0
abbrev pub IsKept : Bool → ℕ → Type 0
IsKept true year = IsInRange 1 9999 year
IsKept false year = year ≡ 0

-- the account is valid under a plan of this version: its year is valid, and without families the
-- member is its own family
pub record IsKeptUnder (version : ℕ) (account : Account) : Type 0 where
  pub year : IsKept (has_years version) account.year
  pub alone : has_families version ≡ false → account.family ≡ account.member

-- the record has the entry
pub record IsEntry (version : ℕ) (layout : Layout) (fields : Fields) (entry : Entry) : Type 0 where
  pub kept : IsKeptUnder version entry.0
  pub values : HasValues layout fields (entry_values version entry)

-- the records have the entries, one each; the accounts are distinct, and the opening accumulators
-- of every account are in range
pub record AreEntries (version : ℕ) (layout : Layout) (records : List Fields) (entries : List Entry) : Type 0 where
  pub each : AllZip (IsEntry version layout) records entries
  pub distinct : AllPairs (λ a b. a.0 ≢ b.0) entries
  pub in_range : (account : Account) → AreInRange (opening entries account)

-- the book of a map, in the order of the map's entries
abbrev pub book_of : {Y S : Type 0} → HashMap (String Y) Members S → Book
book_of family_years = map (λ e. (string_bytes e.0, e.1)) family_years.entries

-- the books of a list of maps
abbrev pub books_of : {Y S : Type 0} → List (HashMap (String Y) Members S) → List Book
books_of years = map book_of years

-- the text is a file of entries, and the balances have the opening accumulators of these entries
-- for every account
pub record AreBalances (version : ℕ) (text : List ℕ) (balances : List Book) : Type 0 where
  pub layout : Layout
  pub records : List Fields
  pub entries : List Entry
  pub headered_file : IsHeaderedFile (balance_columns version) text layout records
  pub read : AreEntries version layout records entries
  pub given : (account : Account) → opening (accounts_of balances) account ≡ opening entries account

-- the fault has this cause and is at the required column with this place
pub record IsReportedAt (layout : Layout) (place : ℕ) (cause : RowCause) (fault : RowFault) : Type 0 where
  pub column : Column
  pub located : slice_get layout.columns place ≡ Some column
  pub fault_is : fault ≡ record { column = column.place + 1; cause = cause }

-- the record has an entry of an earlier account, and the fault is at the member's column
pub record IsRepeated (version : ℕ) (layout : Layout) (front : List Entry) (fields : Fields) (fault : RowFault) : Type 0 where
  pub entry : Entry
  pub read : IsEntry version layout fields entry
  pub again : Any (λ e. e.0 ≡ entry.0) front
  pub reported : IsReportedAt layout (member_place version) Repeated fault

-- the opening accumulators of the entry's account, by this entry and the earlier ones
abbrev pub opening_with : List Entry → Entry → Acc
opening_with front entry = opening (front ++ entry ∷ []) entry.0

-- the place of the column at which a sum of these accumulators is out of range; the sum of `met` is
-- tested first
abbrev pub IsSumPlace : ℕ → Acc → ℕ → Type 0
IsSumPlace version acc place =
    ((is_in_range acc.fmet ≡ false) × (place ≡ met_place version))
    ⊎ ((is_in_range acc.fmet ≡ true) × (is_in_range acc.foop ≡ false) × (place ≡ oop_place version))

-- the record has an entry of a new account that takes a sum of its family out of range, and the
-- fault is at the column of that amount
pub record IsBeyondSum (version : ℕ) (layout : Layout) (front : List Entry) (fields : Fields) (fault : RowFault) : Type 0 where
  pub entry : Entry
  pub read : IsEntry version layout fields entry
  pub new : All (λ e. e.0 ≢ entry.0) front
  pub place : ℕ
  pub sum : IsSumPlace version (opening_with front entry) place
  pub reported : IsReportedAt layout place Sum fault

-- the fault of a record that follows these entries
abbrev pub IsRecordFault : ℕ → Layout → List Entry → Fields → RowFault → Type 0
IsRecordFault version layout front fields fault =
    HasFault layout fields fault ⊎ (IsRepeated version layout front fields fault ⊎ IsBeyondSum version layout front fields fault)

-- the text is a file whose records before this number have entries, and the record with this number
-- has the fault
pub record RefusesRecord (version : ℕ) (text : List ℕ) (number : ℕ) (fault : RowFault) : Type 0 where
  pub layout : Layout
  pub records : List Fields
  pub headered_file : IsHeaderedFile (balance_columns version) text layout records
  pub front : List Entry
  pub read : AreEntries version layout (take (number - 1) records) front
  pub fields : Fields
  pub numbered : 1 ≤ number
  pub refused : slice_get records (number - 1) ≡ Some fields
  pub reason : IsRecordFault version layout front fields fault

-- the text is not a file of balances under a plan of this version, for this reason; nothing is
-- stated if memory runs out
abbrev pub HasBalanceFault : ℕ → List ℕ → BalanceFault → Type 0
HasBalanceFault version text (File file.OutOfMemory) = ⊥
HasBalanceFault version text (File fault) = HasFileFault (balance_columns version) text fault
HasBalanceFault version text (Row number fault) = RefusesRecord version text number fault
HasBalanceFault version text OutOfMemory = Unit {0}

-- the balances have exactly these entries, whose accounts are distinct
pub record HoldsEntries (entries : List Entry) (balances : List Book) : Type 0 where
  pub distinct : AllPairs (λ a b. a.0 ≢ b.0) entries
  pub once : AreOnce balances
  pub found : (account : Account) → is_some (balance_of balances account) ≡ true → Any (λ e. e.0 ≡ account) entries
  pub lacking : (account : Account) → balance_of balances account ≡ None → All (λ e. e.0 ≢ account) entries
  pub given : (account : Account) → opening (accounts_of balances) account ≡ opening entries account

-- the record has an entry of a new account, the balances have it and the earlier ones, and the
-- opening accumulators of its account are in range
pub record TakesEntry (version : ℕ) (layout : Layout) (front : List Entry) (fields : Fields) (balances : List Book) : Type 0 where
  pub entry : Entry
  pub read : IsEntry version layout fields entry
  pub new : All (λ e. e.0 ≢ entry.0) front
  pub holds : HoldsEntries (front ++ entry ∷ []) balances
  pub in_range : AreInRange (opening_with front entry)

-- the family and year has one more member in the new books
pub record Joins (holder : Holder) (member : List ℕ) (balance : Balance) (before : Members) (new : List Book) : Type 0 where
  pub after : Members
  pub found : found_in new holder ≡ Some after
  pub joined : HasJoined member balance before after

-- the family and year has one more member, if it had some, and every other family and year is
-- unchanged
pub record JoinsIn (holder : Holder) (member : List ℕ) (balance : Balance) (old new : List Book) : Type 0 where
  pub own : (before : Members) → found_in old holder ≡ Some before → Joins holder member balance before new
  pub others : (other : Holder) → is_holder holder other ≡ false → found_in new other ≡ found_in old other

-- the refusal of an entry by the earlier ones, if it is refused
abbrev pub refusal_of : List Book → Entry → Option Refusal
refusal_of books entry = option_and_then (λ members. refused_after members (balance_in members entry.0.member) entry.1) (found_in books (holder_of entry.0))

-- the place of the column at which the refusal of an entry is reported, under a plan of this
-- version
abbrev pub refusal_place : ℕ → Refusal → ℕ
refusal_place version Again = member_place version
refusal_place version Met = met_place version
refusal_place version Oop = oop_place version

-- the cause of the fault of a refusal
abbrev pub refusal_cause : Refusal → RowCause
refusal_cause Again = Repeated
refusal_cause _ = Sum

-- the columns have the contents of a file of balances
abbrev pub AreBalanceColumns : ℕ → List Column → Type 0
AreBalanceColumns version columns = map (λ c. c.content) columns ≡ map (λ n. n.content) (balance_columns version)

-- the entry that was read
abbrev pub entry_of : ReadEntry → Entry
entry_of read = (record { family = read.family.now; member = read.member.now; year = read.year }, read.balance)

-- the entry of an account, which owns its names
abbrev pub opening_of : OpeningEntry → Entry
opening_of held = (record { family = string_bytes held.family; member = string_bytes held.member; year = held.year }, held.balance)

-- the column with this place among the required ones has the value
abbrev pub HoldsAt : Fields → List Column → ℕ → Value → Type 0
HoldsAt fields columns place value = (column : Column) → slice_get columns place ≡ Some column → HoldsUnder fields column value

-- the first column has the family, if there is a column for it; otherwise the member is its own
-- family
abbrev pub HoldsFamily : Bool → Fields → List Column → List ℕ → List ℕ → Type 0
HoldsFamily true fields columns member family = HoldsAt fields columns 0 (Text family)
HoldsFamily false fields columns member family = family ≡ member

-- the column with this place has the year, if there is a column for it; otherwise the year is 0
abbrev pub HoldsYear : Bool → Fields → List Column → ℕ → ℕ → Type 0
HoldsYear true fields columns place year = HoldsAt fields columns place (Text (year_text year)) × IsInRange 1 9999 year
HoldsYear false fields columns place year = year ≡ 0

-- the columns from this place on have the amounts
abbrev pub HoldsBalance : Fields → List Column → ℕ → Balance → Type 0
HoldsBalance fields columns place balance =
    HoldsAt fields columns place (Number balance.met) × HoldsAt fields columns (place + 1) (Number balance.oop) × HoldsAt fields columns (place + 2) (Number balance.paid)
