-- The exit statuses of the commands over claims, from those of their parts.
use Rattle.std.proofs.Common.{◌≡◌, ◌≢◌, ◌⊎◌, ℕ, List, Option, map, option_map, inl, inr}
use Rattle.clap.specs.declared.parser.matches.ArgMatches.{ArgMatches}
use Rattle.console.specs.declared.exit_status.ExitStatus.{ExitStatus}
use Rattle.console.specs.declared.exit_status.ExitStatus.TheVariants.{Done}
use Rattle.value_command.proofs.Ends.{unjudged_not_done}
use Rattle.orders.specs.RunTexts.{RunTexts}
use Rattle.claim_console.specs.Ends.{IsUnreadStatus}
use Rattle.claim_console.specs.Texts.{texts_at}
use Rattle.claim_console.specs.declared.texts.Texts.{Texts}

-- the texts of a run are those of the command line
pub same_texts : (run : RunTexts) (texts : Texts) (cutoff : Option ℕ) → run.plan ≡ texts.plan.items → run.balances ≡ option_map (λ b. b.items) texts.balances
    → run.files ≡ map (λ f. f.items) texts.files.items → run.cutoff ≡ cutoff → run ≡ texts_at texts cutoff
same_texts run texts cutoff plan balances files cut = λ i. record { plan = plan i; balances = balances i; files = files i; cutoff = cut i }

-- a run that has not read all of its texts is not done
pub unread_not_done : (words : ArgMatches) (status : ExitStatus) → IsUnreadStatus words status → status ≢ Done
unread_not_done words status (inl unjudged) = unjudged_not_done status unjudged
unread_not_done words status (inr (refused, strict)) = λ is_done. cc (refused, is_done)
