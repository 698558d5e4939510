-- The exit status of a run from the library's result, by the lemmas of `claim_console`.
use Rattle.std.proofs.Common.{◌≡◌, ◌≢◌, ◌⊎◌, ℕ, inl, inr}
use Rattle.claim_run.specs.RunStop.{IsRunReason}
use Rattle.orders.specs.RunTexts.{RunTexts}
use Rattle.console.specs.declared.exit_status.ExitStatus.{ExitStatus}
use Rattle.console.specs.declared.exit_status.ExitStatus.TheVariants.{Done, Resource}
use Rattle.claim_console.specs.Ends.{IsStatusOfRefusal}
pub use Rattle.claim_console.proofs.Ends.{kept_twice, placed_done, put_is_text, resource_refused}

-- a failure of the system can end a run
pub refused_by_system : (texts : RunTexts) (workers : ℕ) (status : ExitStatus) → status ≡ Resource → IsStatusOfRefusal (IsRunReason texts workers) status
refused_by_system texts workers status is = resource_refused (IsRunReason texts workers) tt status is

-- so can a failure that occurs when the closing balances are written
pub closing_refused : (texts : RunTexts) (workers : ℕ) (status : ExitStatus) → (status ≡ Done) ⊎ (status ≡ Resource) → status ≢ Done → IsStatusOfRefusal (IsRunReason texts workers) status
closing_refused texts workers status (inl done) refused = absurd (refused done)
closing_refused texts workers status (inr is) refused = refused_by_system texts workers status is
