-- The exit statuses of a run, from those of its parts.
use Rattle.std.proofs.Common.{◌≡◌, ◌≢◌, ◌⊎◌, ℕ, List, Option, map, option_map, inl, inr}
use Rattle.clap.specs.declared.parser.matches.ArgMatches.{ArgMatches}
use Rattle.console.specs.declared.exit_status.ExitStatus.{ExitStatus}
use Rattle.console.specs.declared.exit_status.ExitStatus.TheVariants.{Done, Refused}
use Rattle.value_command.specs.Texts.{Whole}
use Rattle.value_command.proofs.Ends.{unjudged_not_refused}
use Rattle.orders.specs.RunTexts.{RunTexts}
use Rattle.claim_console.specs.declared.texts.Texts.{Texts}
use Rattle.claim_console.specs.Ends.{IsUnreadStatus}
use Rattle.claim_console.specs.Texts.{AreClosed, HasNamedTexts, texts_at}
use Rattle.claim_console.specs.Words.{AsksStrict, IsCutoff, IsStrict, IsWorkers}
use Rattle.claim_console.proofs.Statuses.{same_texts}
pub use Rattle.claim_console.proofs.Statuses.{unread_not_done}
use Rattle.run_command.specs.Ends.{HasRemittance, IsStatusOfRun, RunIsDone, RunIsRefused, IsRefusedRun}

-- `run` over the named texts
pub run_done : (whole : Whole) (words : ArgMatches) (texts : Texts) (status : ExitStatus) → HasNamedTexts whole words texts → (AsksStrict words → AreClosed texts)
    → (status ≡ Done → HasRemittance words texts) → status ≡ Done → RunIsDone whole words
run_done whole words texts status named closed done is_done = record { texts = texts; named = named; closed = closed; has_remittance = done is_done }

refused_as : (whole : Whole) (words : ArgMatches) (texts : Texts) (status : ExitStatus) → HasNamedTexts whole words texts → IsRefusedRun words texts status ⊎ IsStrict words
    → RunIsRefused whole words status
refused_as whole words texts status named (inl refused) = inl (record { texts = texts; named = named; refused = refused })
refused_as whole words texts status named (inr strict) = inr strict

pub run_refused : (whole : Whole) (words : ArgMatches) (texts : Texts) (status : ExitStatus) → HasNamedTexts whole words texts
    → (status ≡ Refused → IsRefusedRun words texts status ⊎ IsStrict words) → status ≡ Refused → RunIsRefused whole words status
run_refused whole words texts status named refused is_refused = refused_as whole words texts status named (refused is_refused)

-- a run that ends as an error of these texts or under `--strict`
ends_refused : (matches words : ArgMatches) (texts : Texts) (run : RunTexts) (cutoff : Option ℕ) (workers : ℕ) (status : ExitStatus) → words ≡ matches → run ≡ texts_at texts cutoff
    → IsCutoff matches cutoff → IsWorkers matches workers → IsStatusOfRun words run workers status → IsRefusedRun matches texts status ⊎ IsStrict matches
ends_refused matches words texts run cutoff workers status same is asked engaged (inl error) =
    inl (record { cutoff = cutoff; asked = asked; workers = workers; engaged = engaged; refused = rw is at error })
ends_refused matches words texts run cutoff workers status same is asked engaged (inr strict) = inr (rw same at strict)

pub settled_refused : (matches words : ArgMatches) (texts : Texts) (run : RunTexts) (cutoff : Option ℕ) (workers : ℕ) (status : ExitStatus)
    → (status ≢ Done → IsStatusOfRun words run workers status) → words ≡ matches → run.plan ≡ texts.plan.items → run.balances ≡ option_map (λ b. b.items) texts.balances
    → run.files ≡ map (λ f. f.items) texts.files.items → run.cutoff ≡ cutoff → IsCutoff matches cutoff → IsWorkers matches workers → status ≡ Refused
    → IsRefusedRun matches texts status ⊎ IsStrict matches
settled_refused matches words texts run cutoff workers status ends same plan balances files cut asked engaged is_refused =
    ends_refused matches words texts run cutoff workers status same (same_texts run texts cutoff plan balances files cut) asked engaged (ends (λ is_done. cc (is_refused, is_done)))

-- a run that has not read all of its texts is refused under `--strict` alone
pub unread_refused : (whole : Whole) (words : ArgMatches) (status : ExitStatus) → IsUnreadStatus words status → status ≡ Refused → RunIsRefused whole words status
unread_refused whole words status (inl unjudged) is_refused = absurd (unjudged_not_refused status unjudged is_refused)
unread_refused whole words status (inr (refused, strict)) is_refused = inr strict
