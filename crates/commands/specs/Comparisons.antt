-- The exit statuses of `compare` over claim files.
use Rattle.std.specs.Prelude.{◌⊎◌, ℕ, List, Option}
use Rattle.clap.specs.declared.parser.matches.ArgMatches.{ArgMatches}
use Rattle.console.specs.declared.exit_status.ExitStatus.{ExitStatus}
use Rattle.console.specs.declared.names.TheConstants.{OLD}
use Rattle.tables.specs.Limits.{plan_limit_bytes}
use Rattle.journal.specs.declared.order.Order.{Order}
use Rattle.claim_gate.specs.Terms.{text_in, texts_of}
use Rattle.orders.specs.RunTexts.{IsOrderedRemittance, RunTexts}
use Rattle.orders.specs.Stop.{status_of}
use Rattle.adjudicate.specs.Audits.{IsAuditReason}
use Rattle.value_command.specs.Ends.{IsStatusOf}
use Rattle.value_command.specs.Texts.{IsNamedText, Whole}
use Rattle.value_command.specs.Words.{word_at}
use Rattle.plan_commands.specs.Words.{IsFail}
use Rattle.claim_console.specs.Texts.{HasNamedTexts, texts_at}
use Rattle.claim_console.specs.Words.{IsCutoff, IsOrder, IsStrict}
use Rattle.commands.specs.declared.compared_claims.Compared.{Compared}
use Rattle.claim_console.specs.declared.texts.Texts.{Texts}

-- the bytes are read from the named old plan
abbrev pub IsNamedOld : Whole → ArgMatches → List ℕ → Type 0
IsNamedOld whole words plan = IsNamedText plan_limit_bytes whole (word_at words OLD.now) plan

-- the texts of a run under another plan
abbrev pub under : List ℕ → RunTexts → RunTexts
under plan texts = record { plan = plan; balances = texts.balances; files = texts.files; cutoff = texts.cutoff }

-- the texts that the references point to, with the new plan
abbrev pub new_texts : Compared → RunTexts
new_texts given = record { plan = given.new.now; balances = text_in given.balances; files = texts_of given.files.now; cutoff = given.cutoff }

-- and with the old one
abbrev pub old_texts : Compared → RunTexts
old_texts given = record { plan = given.old.now; balances = text_in given.balances; files = texts_of given.files.now; cutoff = given.cutoff }

-- these texts have a remittance in the order
pub record HasOrdered (order : Order) (texts : RunTexts) : Type 0 where
  pub remittance : List ℕ
  pub is_remittance : IsOrderedRemittance order texts remittance

-- both plans have a remittance
pub record BothHaveRemittances (given : Compared) : Type 0 where
  pub old : HasOrdered given.order (old_texts given)
  pub new : HasOrdered given.order (new_texts given)

-- this is the exit status of an error of either plan
abbrev pub IsErrorOf : RunTexts → RunTexts → ExitStatus → Type 0
IsErrorOf old new status = IsStatusOf status_of (IsAuditReason old) status ⊎ IsStatusOf status_of (IsAuditReason new) status

-- this is the exit status of an error of either plan, or a difference is an error
abbrev pub IsErrorOfEither : ArgMatches → Compared → ExitStatus → Type 0
IsErrorOfEither words given status = IsErrorOf (old_texts given) (new_texts given) status ⊎ IsFail words

-- under both plans the texts have a remittance, at the cutoff and in the order of the command line
pub record BothAreSettled (words : ArgMatches) (old : List ℕ) (texts : Texts) : Type 0 where
  pub cutoff : Option ℕ
  pub asked : IsCutoff words cutoff
  pub order : Order
  pub ordered : IsOrder words order
  pub before : HasOrdered order (under old (texts_at texts cutoff))
  pub after : HasOrdered order (texts_at texts cutoff)

-- this is the exit status of an error of the texts under either plan, at the cutoff of the command line, or a difference is an error
pub record IsRefusedComparison (words : ArgMatches) (old : List ℕ) (texts : Texts) (status : ExitStatus) : Type 0 where
  pub cutoff : Option ℕ
  pub asked : IsCutoff words cutoff
  pub refused : IsErrorOf (under old (texts_at texts cutoff)) (texts_at texts cutoff) status ⊎ IsFail words

-- `compare` over claim files can end with `Done`: the named texts have a remittance under both named plans
pub record ClaimsAreCompared (whole : Whole) (words : ArgMatches) : Type 0 where
  pub texts : Texts
  pub named : HasNamedTexts whole words texts
  pub old : List ℕ
  pub named_old : IsNamedOld whole words old
  pub settled : BothAreSettled words old texts

-- this is the exit status of an error of the named texts under either named plan, or a difference is an error
pub record ComparisonIsRefused (whole : Whole) (words : ArgMatches) (status : ExitStatus) : Type 0 where
  pub texts : Texts
  pub named : HasNamedTexts whole words texts
  pub old : List ℕ
  pub named_old : IsNamedOld whole words old
  pub refused : IsRefusedComparison words old texts status

-- `compare` over claim files can end with this status; unknown keys may be errors
abbrev pub ClaimsAreRefused : Whole → ArgMatches → ExitStatus → Type 0
ClaimsAreRefused whole words status = ComparisonIsRefused whole words status ⊎ IsStrict words
