-- Definitions for tests only: the progress of reading a provider's file, and the jobs in progress.
use Rattle.std.specs.Prelude.{◌≡◌, ℕ, true, List, ◌++◌, length, Option, Some, IfSome, Result, Ok}
use Rattle.settlement.specs.declared.claim.Claim.{Claim}
use Rattle.intake_csv.specs.Laws.{LieApart}
use Rattle.intake_csv.specs.Rows.{AreRowsLeft, RowsLeft, claims_among}
use Rattle.intake_csv.specs.declared.rows.Row.{Row}
use Rattle.claim_gate.specs.Terms.{TermsParts, ForTerms}
use Rattle.journal.specs.Terms.{Terms, IsProvider, claims_of}
use Rattle.journal.specs.Events.{has_take, IsJob}
use Rattle.journal.specs.declared.order.Order.TheVariants.{Any}
use Rattle.claim_gate.specs.Parts.{GateParts}
use Rattle.claim_gate.specs.Shared.{Known}
use Rattle.claim_gate.specs.declared.fault.TakeFault.{TakeFault}
use Rattle.claim_gate.specs.declared.job.Job.{Job}
use Rattle.claim_gate.specs.declared.reply.Taken.{Taken}
use Rattle.claim_gate.specs.declared.reply.Taken.TheVariants.{Work}

-- the reader has read the first claims of the provider's file, as many as its place says, and the
-- other claims are in the rows that are left
pub record IsReader (T : Terms) (provider : ℕ) (left : RowsLeft) : Type 0 where
  pub known : IsProvider T provider
  pub front : List Claim
  pub rows : List Row
  pub are_rows : AreRowsLeft left rows
  pub whole : claims_of T provider ≡ front ++ claims_among rows
  pub counted : length front ≡ left.place
  pub apart : LieApart left.layout.columns

-- the job was taken, and it is the job at its position
pub record IsAtWork (gate : GateParts) (job : Job) : Type 0 where
  pub is_taken : has_take gate.journal job.position ≡ true
  pub its : ForTerms gate.terms (λ T. IsJob T gate.journal job.position job.claim job.acc)

-- claims are accepted in any order
abbrev pub IsAnyOrder : TermsParts → Type 0
IsAnyOrder terms = terms.order ≡ Any

-- the pass belongs to the gate, and has seen these terms, under which claims are accepted in any order
pub record IsCaller {P : Type 0} (has_pass : P → Type 0) (known : P → Known) (terms : TermsParts) (pass : P) : Type 0 where
  pub own : has_pass pass
  pub terms_are : (known pass).seen.terms ≡ terms
  pub any_order : IsAnyOrder terms

-- a caller of the gate whose job, if it has one, is in progress
pub record IsSeated {P : Type 0} (has_pass : P → Type 0) (known : P → Known) (terms : TermsParts) (pass : P) (job : Option Job) : Type 0 where
  pub caller : IsCaller has_pass known terms pass
  pub at_work : IfSome job (IsAtWork (known pass).seen)

-- the job in the answer of `take`, if there is one, is in progress
abbrev pub IsTaken : GateParts → Taken → Type 0
IsTaken gate (Work job) = IsAtWork gate job
IsTaken gate _ = Unit {0}

-- a caller's last job after `take`: the one in the answer, or the one of before if there is none in it
abbrev pub IsLastJob : Result Taken TakeFault → Option Job → Option Job → Type 0
IsLastJob (Ok (Work job)) before last = last ≡ Some job
IsLastJob _ before last = last ≡ before
