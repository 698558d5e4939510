-- The exit statuses of the commands, from those of their parts.
use Rattle.std.proofs.Common.{◌≡◌, ◌≢◌, ◌⊎◌, ℕ, List, Option, Result, Ok, map, option_map, inl, inr, subst, sym}
use Rattle.clap.specs.declared.error.Error.{Error}
use Rattle.clap.specs.declared.parser.matches.ArgMatches.{ArgMatches}
use Rattle.console.specs.declared.exit_status.ExitStatus.{ExitStatus}
use Rattle.console.specs.declared.exit_status.ExitStatus.TheVariants.{Done, Refused}
use Rattle.value_command.specs.Texts.{Whole}
use Rattle.value_command.proofs.Ends.{unjudged_not_done, unjudged_not_refused}
use Rattle.claim_gate.specs.Terms.{text_in, texts_of}
use Rattle.orders.specs.Stop.{status_of}
use Rattle.adjudicate.specs.Audits.{IsAuditReason}
use Rattle.value_command.specs.Ends.{IsStatusOf}
use Rattle.plan_commands.specs.Words.{IsFail}
use Rattle.commands.specs.Comparisons.{BothAreSettled, BothHaveRemittances, ClaimsAreCompared, ClaimsAreRefused, HasOrdered, IsErrorOf, IsErrorOfEither, IsNamedOld, IsRefusedComparison, new_texts, old_texts, under}
use Rattle.commands.specs.declared.compared_claims.Compared.{Compared}
use Rattle.commands.specs.Ends.{AuditIsDone, AuditIsRefused, CommandIsRefused, IsAudited, IsRefused, IsRefusedAudit}
use Rattle.orders.specs.RunTexts.{IsOrderedRemittance, RunTexts}
use Rattle.commands.specs.Texts.{IsNamedRemittance}
use Rattle.claim_console.specs.Ends.{IsUnreadStatus}
use Rattle.claim_console.specs.Texts.{HasNamedTexts, texts_at}
use Rattle.claim_console.specs.Words.{IsCutoff, IsOrder, IsStrict}
use Rattle.claim_console.specs.declared.texts.Texts.{Texts}
use Rattle.claim_console.proofs.Statuses.{same_texts}
pub use Rattle.claim_console.proofs.Statuses.{unread_not_done}

-- `audit` over the named texts and the named remittance
pub audit_done : (whole : Whole) (words : ArgMatches) (texts : Texts) (remittance : List ℕ) (status : ExitStatus) → HasNamedTexts whole words texts → IsNamedRemittance whole words remittance
    → (status ≡ Done → IsAudited words texts remittance) → status ≡ Done → AuditIsDone whole words
audit_done whole words texts remittance status named named_remittance done is_done =
    record { texts = texts; named = named; remittance = remittance; named_remittance = named_remittance; audited = done is_done }

pub audit_refused : (whole : Whole) (words : ArgMatches) (texts : Texts) (remittance : List ℕ) (status : ExitStatus) → HasNamedTexts whole words texts → IsNamedRemittance whole words remittance
    → (status ≡ Refused → IsRefusedAudit words texts remittance status) → status ≡ Refused → AuditIsRefused whole words status
audit_refused whole words texts remittance status named named_remittance refused is_refused =
    inl (record { texts = texts; named = named; remittance = remittance; named_remittance = named_remittance; refused = refused is_refused })

-- an audit that has not read all of its texts is refused under `--strict` alone
pub unread_audit_refused : (whole : Whole) (words : ArgMatches) (status : ExitStatus) → IsUnreadStatus words status → status ≡ Refused → AuditIsRefused whole words status
unread_audit_refused whole words status (inl unjudged) is_refused = absurd (unjudged_not_refused status unjudged is_refused)
unread_audit_refused whole words status (inr (refused, strict)) is_refused = inr strict

-- a parsed command line is refused where its command is
pub parsed_refused : (whole : Whole) (matched : Result ArgMatches Error) (matches : ArgMatches) (status : ExitStatus) → matched ≡ Ok matches
    → (status ≡ Refused → CommandIsRefused whole matches status) → status ≡ Refused → IsRefused whole matched status
parsed_refused whole matched matches status is refused is_refused = subst (λ m. IsRefused whole m status) (sym is) (refused is_refused)

-- a comparison that has not read all of its texts is refused under `--strict` alone
pub unread_comparison_refused : (whole : Whole) (words : ArgMatches) (status : ExitStatus) → IsUnreadStatus words status → status ≡ Refused → ClaimsAreRefused whole words status
unread_comparison_refused whole words status (inl unjudged) is_refused = absurd (unjudged_not_refused status unjudged is_refused)
unread_comparison_refused whole words status (inr (refused, strict)) is_refused = inr strict

-- `compare` over the named texts and the named old plan
pub comparison_done : (whole : Whole) (words : ArgMatches) (texts : Texts) (old : List ℕ) (status : ExitStatus) → HasNamedTexts whole words texts → IsNamedOld whole words old
    → (status ≡ Done → BothAreSettled words old texts) → status ≡ Done → ClaimsAreCompared whole words
comparison_done whole words texts old status named named_old done is_done = record { texts = texts; named = named; old = old; named_old = named_old; settled = done is_done }

pub comparison_refused : (whole : Whole) (words : ArgMatches) (texts : Texts) (old : List ℕ) (status : ExitStatus) → HasNamedTexts whole words texts → IsNamedOld whole words old
    → (status ≡ Refused → IsRefusedComparison words old texts status) → status ≡ Refused → ClaimsAreRefused whole words status
comparison_refused whole words texts old status named named_old refused is_refused =
    inl (record { texts = texts; named = named; old = old; named_old = named_old; refused = refused is_refused })

-- the texts that are compared are those of the command line
new_same : (given : Compared) (texts : Texts) → given.new.now ≡ texts.plan.items → text_in given.balances ≡ option_map (λ b. b.items) texts.balances
    → texts_of given.files.now ≡ map (λ f. f.items) texts.files.items → new_texts given ≡ texts_at texts given.cutoff
new_same given texts plan balances files = λ i. record { plan = plan i; balances = balances i; files = files i; cutoff = given.cutoff }

old_same : (given : Compared) (texts : Texts) (old : List ℕ) → given.old.now ≡ old → text_in given.balances ≡ option_map (λ b. b.items) texts.balances
    → texts_of given.files.now ≡ map (λ f. f.items) texts.files.items → old_texts given ≡ under old (texts_at texts given.cutoff)
old_same given texts old plan balances files = λ i. record { plan = plan i; balances = balances i; files = files i; cutoff = given.cutoff }

-- both plans have a remittance
pub both_settled : (given : Compared) (old new : List ℕ) → IsOrderedRemittance given.order (old_texts given) old → IsOrderedRemittance given.order (new_texts given) new
    → BothHaveRemittances given
both_settled given old new is_old is_new = record { old = record { remittance = old; is_remittance = is_old }; new = record { remittance = new; is_remittance = is_new } }

-- an error of either plan
pub old_refused : (words : ArgMatches) (given : Compared) (status : ExitStatus) → IsStatusOf status_of (IsAuditReason (old_texts given)) status → status ≡ Refused
    → IsErrorOfEither words given status
old_refused words given status error is_refused = inl (inl error)

pub new_refused : (words : ArgMatches) (given : Compared) (status : ExitStatus) → IsStatusOf status_of (IsAuditReason (new_texts given)) status → status ≡ Refused
    → IsErrorOfEither words given status
new_refused words given status error is_refused = inl (inr error)

module _ (words : ArgMatches) (old : List ℕ) (texts : Texts) (given : Compared) (asked : IsCutoff words given.cutoff) (plan : given.old.now ≡ old) (new_plan : given.new.now ≡ texts.plan.items)
    (balances : text_in given.balances ≡ option_map (λ b. b.items) texts.balances) (files : texts_of given.files.now ≡ map (λ f. f.items) texts.files.items) where
  -- what holds of the texts that are compared holds of those of the command line
  comparison_settled : IsOrder words given.order → BothHaveRemittances given → BothAreSettled words old texts
  comparison_settled ordered both = record {
    cutoff = given.cutoff;
    asked = asked;
    order = given.order;
    ordered = ordered;
    before = subst (HasOrdered given.order) (old_same given texts old plan balances files) both.old;
    after = subst (HasOrdered given.order) (new_same given texts new_plan balances files) both.new;
  }

-- an error of the texts that are compared is one of those of the command line
error_of : (matches words : ArgMatches) (before after old new : RunTexts) (status : ExitStatus) → words ≡ matches → before ≡ old → after ≡ new
    → IsErrorOf before after status ⊎ IsFail words → IsErrorOf old new status ⊎ IsFail matches
error_of matches words before after old new status same old_is new_is (inl (inl error)) = inl (inl (subst (λ run. IsStatusOf status_of (IsAuditReason run) status) old_is error))
error_of matches words before after old new status same old_is new_is (inl (inr error)) = inl (inr (subst (λ run. IsStatusOf status_of (IsAuditReason run) status) new_is error))
error_of matches words before after old new status same old_is new_is (inr fail) = inr (subst IsFail same fail)

under_old : (run : RunTexts) (old : List ℕ) (texts : Texts) (cutoff : Option ℕ) → run.plan ≡ old → run.balances ≡ option_map (λ b. b.items) texts.balances
    → run.files ≡ map (λ f. f.items) texts.files.items → run.cutoff ≡ cutoff → run ≡ under old (texts_at texts cutoff)
under_old run old texts cutoff plan balances files cut = λ i. record { plan = plan i; balances = balances i; files = files i; cutoff = cut i }

-- a comparison of the texts of the command line
pub compared_done : (words : ArgMatches) (old : List ℕ) (texts : Texts) (given : Compared) (status : ExitStatus) → (status ≡ Done → BothHaveRemittances given)
    → given.old.now ≡ old → given.new.now ≡ texts.plan.items → text_in given.balances ≡ option_map (λ b. b.items) texts.balances
    → texts_of given.files.now ≡ map (λ f. f.items) texts.files.items → IsCutoff words given.cutoff → IsOrder words given.order → status ≡ Done → BothAreSettled words old texts
compared_done words old texts given status both plan new_plan balances files asked ordered is_done =
    comparison_settled words old texts given asked plan new_plan balances files ordered (both is_done)

pub compared_refused : (matches words : ArgMatches) (old : List ℕ) (texts : Texts) (before after : RunTexts) (cutoff : Option ℕ) (status : ExitStatus)
    → (status ≡ Refused → IsErrorOf before after status ⊎ IsFail words) → words ≡ matches → IsCutoff matches cutoff
    → before.plan ≡ old → before.balances ≡ option_map (λ b. b.items) texts.balances → before.files ≡ map (λ f. f.items) texts.files.items → before.cutoff ≡ cutoff
    → after.plan ≡ texts.plan.items → after.balances ≡ option_map (λ b. b.items) texts.balances → after.files ≡ map (λ f. f.items) texts.files.items → after.cutoff ≡ cutoff
    → status ≡ Refused → IsRefusedComparison matches old texts status
compared_refused matches words old texts before after cutoff status refused same asked plan balances files cut new_plan new_balances new_files new_cut is_refused = record {
  cutoff = cutoff;
  asked = asked;
  refused =
      error_of matches words before after (under old (texts_at texts cutoff)) (texts_at texts cutoff) status same (under_old before old texts cutoff plan balances files cut)
      (same_texts after texts cutoff new_plan new_balances new_files new_cut) (refused is_refused);
}
