-- The exit status of a command from the library's result.
use Rattle.std.proofs.Common.{◌≡◌, ◌≢◌, ◌⊎◌, inl, inr, ℕ, List, [], ◌++◌, Option, None, Some, Result, Ok, Err, IfErr, OnErr, OnOk, MatchResult, ◌∙◌, ap, sym, subst}
use Rattle.std.proofs.KnownBytes.{Keeps-trans}
use Rattle.std.proofs.lemmas.Option.{same_Some}
use Rattle.std.specs.Io.KnownBytes.{Keeps}
use Rattle.evaluation.specs.Stop.{WritesText}
use Rattle.value_command.specs.Ends.{HasText, IsStatusOf, PutsText}
use Rattle.console.specs.AtomicTarget.{BeginsEmpty, Becomes}
use Rattle.console.specs.declared.exit_status.ExitStatus.{ExitStatus}
use Rattle.console.specs.declared.exit_status.ExitStatus.TheVariants.{Done, Refused, Resource}
use Rattle.console.specs.ExitStatus.{IsUnjudged, code_of}

-- a success has written a text
pub ends_done : {E : Type 0} (IsText : List ℕ → Type 0) (old new : Option (List ℕ)) (answer : Result (Unit {0}) E) (status : ExitStatus) → OnOk answer (WritesText IsText old new)
    → OnErr answer (status ≢ Done) → status ≡ Done → HasText IsText
ends_done IsText old new (Ok done) status writes refused is_done = record { text = writes.text; is_text = writes.is_text }
ends_done IsText old new (Err s) status writes refused is_done = absurd (refused is_done)

-- any other status is that of an error
pub ends_refused : {S : Type 0} (status_of : S → ℕ) (IsReason : S → Type 0) (answer : Result (Unit {0}) S) (status : ExitStatus) → IfErr answer IsReason → OnOk answer (status ≡ Done)
    → IfErr answer (λ s. code_of status ≡ status_of s) → status ≢ Done → IsStatusOf status_of IsReason status
ends_refused status_of IsReason (Ok done) status reason done_is refused_is not_done = absurd (not_done done_is)
ends_refused status_of IsReason (Err s) status reason done_is refused_is not_done = record { stop = s; reason = reason; is_status = refused_is }

-- a command that judged no input is not done
pub unjudged_not_done : (status : ExitStatus) → IsUnjudged status → status ≢ Done
unjudged_not_done status (inl usage) = λ is_done. cc (usage, is_done)
unjudged_not_done status (inr resource) = λ is_done. cc (resource, is_done)

-- a command that judged no input has refused none
pub unjudged_not_refused : (status : ExitStatus) → IsUnjudged status → status ≢ Refused
unjudged_not_refused status (inl usage) = λ is_refused. cc (usage, is_refused)
unjudged_not_refused status (inr resource) = λ is_refused. cc (resource, is_refused)

-- keeping a text twice keeps it
pub kept_twice : (first second third : Option (List ℕ)) → Keeps first second → Keeps second third → Keeps first third
kept_twice = Keeps-trans

-- a failure of the system can end any command
pub resource_refused : {S : Type 0} (status_of : S → ℕ) (IsReason : S → Type 0) (resource : S) → status_of resource ≡ 3 → IsReason resource → (status : ExitStatus) → status ≡ Resource
    → IsStatusOf status_of IsReason status
resource_refused status_of IsReason resource is_three reason status is_status = record { stop = resource; reason = reason; is_status = ap code_of is_status ∙ sym is_three }

-- a new text that is written and then put into the place is the place's text
put_text : (IsText : List ℕ → Type 0) (first second third before after : Option (List ℕ)) → BeginsEmpty first before → Keeps first second
    → WritesText IsText before after → Becomes second third after → PutsText IsText first third
put_text IsText None second third before after empty kept writes becomes = record { text = writes.text; is_text = writes.is_text }
put_text IsText (Some xs) None third before after empty kept writes becomes = absurd kept
put_text IsText (Some xs) (Some ys) third None after empty kept writes becomes = absurd (cc empty)
put_text IsText (Some xs) (Some ys) third (Some bs) None empty kept writes becomes = absurd writes.appended
put_text IsText (Some xs) (Some ys) third (Some bs) (Some cs) empty kept writes becomes =
    let none : bs ≡ [] = same_Some bs [] empty in
    (writes.text, writes.is_text, becomes ∙ ap Some (writes.appended ∙ ap (λ front. front ++ writes.text) none))

-- a command that is done has put its text into the place
pub placed_done : {E : Type 0} (IsText : List ℕ → Type 0) (first second third before after : Option (List ℕ)) (answer : Result (Unit {0}) E) (status : ExitStatus)
    → BeginsEmpty first before → Keeps first second → OnOk answer (WritesText IsText before after) → OnErr answer (status ≢ Done)
    → (status ≡ Done → Becomes second third after) → status ≡ Done → PutsText IsText first third
placed_done IsText first second third before after (Ok done) status empty kept writes refused becomes is_done =
    put_text IsText first second third before after empty kept writes (becomes is_done)
placed_done IsText first second third before after (Err s) status empty kept writes refused becomes is_done = absurd (refused is_done)

-- a command that is not done had an error, or its text cannot be put into the place
pub placed_refused : {S : Type 0} (status_of : S → ℕ) (IsReason : S → Type 0) (resource : S) → status_of resource ≡ 3 → IsReason resource
    → (answer : Result (Unit {0}) S) (status : ExitStatus) → IfErr answer IsReason
    → MatchResult answer (λ _. (status ≡ Done) ⊎ (status ≡ Resource)) (λ s. code_of status ≡ status_of s) → status ≢ Done → IsStatusOf status_of IsReason status
placed_refused status_of IsReason resource is_three memory (Ok done) status reason reported not_done = elim reported [
  | inl is_done ↦ absurd (not_done is_done)
  | inr is_status ↦ resource_refused status_of IsReason resource is_three memory status is_status
]
placed_refused status_of IsReason resource is_three memory (Err s) status reason reported not_done = record { stop = s; reason = reason; is_status = reported }

-- the place has the text of a writer that was inside a counting writer
pub placed_through : {W E : Type 0} (contents : W → Option (List ℕ)) (IsText : List ℕ → Type 0) (first second third : Option (List ℕ)) (begun held gone returned : W)
    (answer : Result (Unit {0}) E) (status : ExitStatus) → Keeps first second → OnOk answer (WritesText IsText (contents held) (contents gone)) → OnErr answer (status ≢ Done)
    → (status ≡ Done → Becomes second third (contents returned)) → held ≡ begun → returned ≡ gone → BeginsEmpty first (contents begun) → status ≡ Done → PutsText IsText first third
placed_through contents IsText first second third begun held gone returned answer status kept writes refused becomes same_begun same_gone empty is_done =
    placed_done IsText first second third (contents held) (contents gone) answer status (subst (λ w. BeginsEmpty first (contents w)) (sym same_begun) empty) kept writes refused
    (λ done. subst (λ w. Becomes second third (contents w)) same_gone (becomes done)) is_done

-- a text that was put into a place meets the definition of the command's output
pub put_is_text : (IsText : List ℕ → Type 0) (first third : Option (List ℕ)) → PutsText IsText first third → HasText IsText
put_is_text IsText None third put = put
put_is_text IsText (Some old) third (text, is_text, current) = record { text = text; is_text = is_text }

-- equal words have the same output texts
pub text_by_words : (IsText : List (List ℕ) → List ℕ → Type 0) (given named : List (List ℕ)) (status : ExitStatus) → given ≡ named → (status ≡ Done → HasText (IsText given)) → status ≡ Done
    → HasText (IsText named)
text_by_words IsText given named status same done is_done = subst (λ words. HasText (IsText words)) same (done is_done)
