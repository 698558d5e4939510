-- Why a run can't be set up from a plan, claim files and balances.
use Rattle.std.specs.Prelude.{◌≡◌, ◌≢◌, ◌+◌, ℕ, List, take, length, slice_get, Option, Some, None, IsSome}
use Rattle.std.specs.List.{All}
use Rattle.tables.specs.Plan.{PlanParts}
use Rattle.tables.specs.declared.table.InputData.{InputData}
use Rattle.intake_csv.specs.Columns.{HasFileFault, claim_columns}
use Rattle.intake_csv.specs.Balances.{HasBalanceFault}
use Rattle.faults.specs.declared.file_fault.FileFault.{FileFault}
use Rattle.faults.specs.declared.file_fault.FileFault.TheVariants as file
use Rattle.faults.specs.declared.file_fault.BalanceFault.{BalanceFault}
use Rattle.faults.specs.declared.file_fault.BalanceFault.TheVariants as balance
use Rattle.claim_gate.specs.Terms.{IsClaimFile, IsFileCount}
use Rattle.faults.specs.declared.terms_fault.TermsFault.{TermsFault}
use Rattle.faults.specs.declared.terms_fault.TermsFault.TheVariants.{NoRoles, Files, File, Balances, OutOfMemory}

-- the text is not a valid claim file, for this reason
pub record IsRefused (names : List InputData) (text : List ℕ) (fault : FileFault) : Type 0 where
  pub reason : HasFileFault (claim_columns names) text fault
  pub reported : fault ≢ file.OutOfMemory

-- the provider's file is the first that is not a valid claim file, for this reason; providers count from 1
pub record RefusesFile (names : List InputData) (files : List (List ℕ)) (provider : ℕ) (fault : FileFault) : Type 0 where
  pub place : ℕ
  pub numbered : provider ≡ place + 1
  pub text : List ℕ
  pub located : slice_get files place ≡ Some text
  pub refused : IsRefused names text fault
  pub before : All (IsClaimFile names) (take place files)

-- the text of the balances is not valid under the plan, for this reason
pub record RefusesBalances (plan : PlanParts) (balances : Option (List ℕ)) (fault : BalanceFault) : Type 0 where
  pub text : List ℕ
  pub given : balances ≡ Some text
  pub refused : HasBalanceFault plan.version text fault
  pub reported : fault ≢ balance.OutOfMemory

-- the plan, the files and the balances are no terms, for this reason: each fault implies that none of the faults checked
-- before it is present; running out of memory is possible at any time
abbrev pub HasTermsFault : PlanParts → List (List ℕ) → Option (List ℕ) → TermsFault → Type 0
HasTermsFault plan files balances NoRoles = plan.roles ≡ None
HasTermsFault plan files balances Files = IsSome plan.roles × ¬ IsFileCount (length files)
HasTermsFault plan files balances (File provider fault) =
    IsSome plan.roles × IsFileCount (length files) × RefusesFile plan.names files provider fault
HasTermsFault plan files balances (Balances fault) =
    IsSome plan.roles × IsFileCount (length files) × All (IsClaimFile plan.names) files × RefusesBalances plan balances fault
HasTermsFault plan files balances OutOfMemory = Unit {0}

-- the provider's file is not valid, for this reason; running out of memory is possible with any file
abbrev pub IsFaultOfFile : List InputData → ℕ → List ℕ → TermsFault → Type 0
IsFaultOfFile names number text (File provider fault) = (provider ≡ number) × IsRefused names text fault
IsFaultOfFile names number text OutOfMemory = Unit {0}
IsFaultOfFile names number text _ = ⊥

-- the files are not valid, for this reason; running out of memory is possible with any files
abbrev pub IsFaultOfFiles : List InputData → List (List ℕ) → TermsFault → Type 0
IsFaultOfFiles names files (File provider fault) = RefusesFile names files provider fault
IsFaultOfFiles names files OutOfMemory = Unit {0}
IsFaultOfFiles names files _ = ⊥

-- the balances are not valid, for this reason; running out of memory is possible with any balances
abbrev pub IsFaultOfBalances : PlanParts → Option (List ℕ) → TermsFault → Type 0
IsFaultOfBalances plan balances (Balances fault) = RefusesBalances plan balances fault
IsFaultOfBalances plan balances OutOfMemory = Unit {0}
IsFaultOfBalances plan balances _ = ⊥
