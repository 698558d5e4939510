-- The exit statuses of `test`, from those of its parts.
use Rattle.std.proofs.Common.{◌≡◌, ◌⊎◌, ◌↔◌, ◌∙◌, ℕ, Bool, true, false, List, Option, IsTrue, inl, inr, sym, subst}
use Rattle.std.proofs.lemmas.Bool.{false≢true}
use Rattle.clap.specs.declared.parser.matches.ArgMatches.{ArgMatches}
use Rattle.console.specs.declared.exit_status.ExitStatus.{ExitStatus}
use Rattle.console.specs.declared.exit_status.ExitStatus.TheVariants.{Done, Refused}
use Rattle.evaluation.specs.Stop.{WritesText}
use Rattle.plan_rows.specs.Report.{IsTestText}
use Rattle.plan_rows.specs.declared.testing.Tested.{Tested}
use Rattle.plan_rows.specs.declared.testing.Tested.TheVariants.{AllRight, Differing}
use Rattle.remarks.specs.Quotes.{EndsInQuotes}
use Rattle.value_command.specs.Ends.{HasText}
use Rattle.value_command.specs.Texts.{IsNamedPlan, Whole}
use Rattle.plan_commands.specs.Testing.{IsDoneTest, IsNamedCases, IsRefusedTest, TestIsDone, TestIsRefused}

-- `test` over the named texts
pub test_done : (whole : Whole) (words : ArgMatches) (plan cases : List ℕ) (status : ExitStatus) → IsNamedPlan whole words plan → IsNamedCases whole words cases
    → (status ≡ Done → IsDoneTest plan cases) → status ≡ Done → TestIsDone whole words
test_done whole words plan cases status named named_cases done is_done =
    record { plan = plan; named = named; cases = cases; named_cases = named_cases; done = done is_done }

pub test_refused : (whole : Whole) (words : ArgMatches) (plan cases : List ℕ) (status : ExitStatus) → IsNamedPlan whole words plan → IsNamedCases whole words cases
    → (status ≡ Refused → IsRefusedTest plan cases status) → status ≡ Refused → TestIsRefused whole words status
test_refused whole words plan cases status named named_cases refused is_refused =
    record { plan = plan; named = named; cases = cases; named_cases = named_cases; refused = refused is_refused }

-- the text of a test is written whether all rows are right or not
pub right_written : (plan cases : List ℕ) (old new : Option (List ℕ)) (tested : Tested) (loses : Bool) (status : ExitStatus) → WritesText (IsTestText plan cases tested) old new
    → (IsTrue loses ↔ EndsInQuotes cases) → (status ≡ Done → (tested ≡ AllRight) × (loses ≡ false)) → status ≡ Done → IsDoneTest plan cases
right_written plan cases old new tested loses status written opened done is_done =
    let both = done is_done in (
      subst (λ t. HasText (IsTestText plan cases t)) both.0 (record { text = written.text; is_text = written.is_text }),
      λ ends. false≢true (sym both.1 ∙ opened.1 ends),
    )

pub differing_written : (plan cases : List ℕ) (old new : Option (List ℕ)) (tested : Tested) (loses : Bool) (status : ExitStatus) → WritesText (IsTestText plan cases tested) old new
    → (IsTrue loses ↔ EndsInQuotes cases) → (status ≡ Refused → (tested ≡ Differing) ⊎ (loses ≡ true)) → status ≡ Refused → IsRefusedTest plan cases status
differing_written plan cases old new tested loses status written opened refused is_refused =
    elim (refused is_refused) [
      | inl differs ↦ inl (subst (λ t. HasText (IsTestText plan cases t)) differs (record { text = written.text; is_text = written.is_text }))
      | inr lost ↦ inr (inl (opened.0 lost))
    ]
