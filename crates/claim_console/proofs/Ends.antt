-- The exit status of a command over claims from the library's result, by the lemmas of `value_command`.
use Rattle.std.proofs.Common.{◌≡◌, ◌≢◌, ◌⊎◌, ℕ, List, Option, Result, OnErr, OnOk, inl, inr, refl}
use Rattle.std.specs.Io.KnownBytes.{Keeps}
use Rattle.orders.specs.declared.stop.Stop.{Stop}
use Rattle.orders.specs.declared.stop.Stop.TheVariants.{Value}
use Rattle.orders.specs.Stop.{status_of}
use Rattle.evaluation.specs.declared.stop.ValueStop.TheVariants.{NoMemory}
use Rattle.evaluation.specs.Stop.{WritesText}
use Rattle.value_command.specs.Ends.{HasText, PutsText}
use Rattle.value_command.proofs.Ends as value
use Rattle.claim_console.specs.Ends.{IsStatusOfRefusal}
use Rattle.console.specs.AtomicTarget.{BeginsEmpty, Becomes}
use Rattle.console.specs.declared.exit_status.ExitStatus.{ExitStatus}
use Rattle.console.specs.declared.exit_status.ExitStatus.TheVariants.{Done, Resource}

-- a success has written a text
pub ends_done : {E : Type 0} (IsText : List ℕ → Type 0) (old new : Option (List ℕ)) (answer : Result (Unit {0}) E) (status : ExitStatus) → OnOk answer (WritesText IsText old new)
    → OnErr answer (status ≢ Done) → status ≡ Done → HasText IsText
ends_done = value.ends_done

-- keeping a text twice keeps it
pub kept_twice : (first second third : Option (List ℕ)) → Keeps first second → Keeps second third → Keeps first third
kept_twice = value.kept_twice

-- a command that is done has put its text into the place
pub placed_done : {E : Type 0} (IsText : List ℕ → Type 0) (first second third before after : Option (List ℕ)) (answer : Result (Unit {0}) E) (status : ExitStatus)
    → BeginsEmpty first before → Keeps first second → OnOk answer (WritesText IsText before after) → OnErr answer (status ≢ Done)
    → (status ≡ Done → Becomes second third after) → status ≡ Done → PutsText IsText first third
placed_done = value.placed_done

-- a text that was put into a place meets the definition of the command's output
pub put_is_text : (IsText : List ℕ → Type 0) (first third : Option (List ℕ)) → PutsText IsText first third → HasText IsText
put_is_text = value.put_is_text

-- a failure of the system can end any command
pub resource_refused : (IsReason : Stop → Type 0) → IsReason (Value NoMemory) → (status : ExitStatus) → status ≡ Resource → IsStatusOfRefusal IsReason status
resource_refused IsReason reason = value.resource_refused status_of IsReason (Value NoMemory) refl reason
