-- The exit statuses of `explain`, from those of its parts.
use Rattle.std.proofs.Common.{◌≡◌, Bor, ℕ, List, Option, Some, inl, inr, refl, subst, sym}
use Rattle.clap.specs.declared.parser.matches.ArgMatches.{ArgMatches}
use Rattle.console.specs.declared.exit_status.ExitStatus.{ExitStatus}
use Rattle.console.specs.declared.exit_status.ExitStatus.TheVariants.{Done, Refused}
use Rattle.value_command.specs.Ends.{HasText}
use Rattle.value_command.specs.Texts.{Whole}
use Rattle.value_command.proofs.Ends.{unjudged_not_refused}
use Rattle.journal.specs.declared.order.Order.{Order}
use Rattle.orders.specs.RunTexts.{RunTexts}
use Rattle.explanation.specs.Explained.{HasNoFamily, HasNoRecord, IsExplanation, IsFamilyExplanation, IsFoundIn, Writes, WritesFamily}
use Rattle.explanation.specs.Laws.{FoundClaimHasRecord}
use Rattle.explanation.specs.declared.explaining.Explained.{Explained}
use Rattle.explanation.specs.declared.explaining.Explained.TheVariants as explained
use Rattle.explanation.specs.declared.finding.FoundClaim.{FoundClaim}
use Rattle.explanation.specs.declared.format.Format.{Format}
use Rattle.explanation.specs.declared.row.Place.{Place}
use Rattle.claim_console.specs.Ends.{IsUnreadStatus}
use Rattle.commands.specs.Explanations.{ExplainIsDone, ExplainIsRefused, IsAsked, IsAskedExplanation, IsClaimExplanation, IsClaimUnexplained, IsRecordUnexplained, IsUnexplained, without_balances}
use Rattle.claim_console.specs.Texts.{HasNamedTexts, texts_at}
use Rattle.commands.specs.declared.asked.Asked.{Asked}
use Rattle.commands.specs.declared.asked.Subject.{Subject}
use Rattle.commands.specs.declared.asked.Subject.TheVariants.{Claim}
use Rattle.claim_console.specs.declared.texts.Texts.{Texts}

-- `explain` over the named texts
pub explain_done : (whole : Whole) (words : ArgMatches) (asked : Asked) (texts : Texts) (status : ExitStatus) → IsAsked words asked → HasNamedTexts whole words texts
    → (status ≡ Done → HasText (IsAskedExplanation asked.order (texts_at texts asked.cutoff) asked.subject asked.format)) → status ≡ Done → ExplainIsDone whole words
explain_done whole words asked texts status is_asked named done is_done =
    record { asked = asked; is_asked = is_asked; texts = texts; named = named; has_text = done is_done }

pub explain_refused : (whole : Whole) (words : ArgMatches) (asked : Asked) (texts : Texts) (status : ExitStatus) → IsAsked words asked → HasNamedTexts whole words texts
    → (status ≡ Refused → IsUnexplained asked.order (texts_at texts asked.cutoff) asked.subject status) → status ≡ Refused → ExplainIsRefused whole words status
explain_refused whole words asked texts status is_asked named refused is_refused =
    inl (record { asked = asked; is_asked = is_asked; texts = texts; named = named; refused = refused is_refused })

-- an explanation that has not read all of its texts is refused under `--strict` alone
pub unread_explain_refused : (whole : Whole) (words : ArgMatches) (status : ExitStatus) → IsUnreadStatus words status → status ≡ Refused → ExplainIsRefused whole words status
unread_explain_refused whole words status (inl unjudged) is_refused = absurd (unjudged_not_refused status unjudged is_refused)
unread_explain_refused whole words status (inr (refused, strict)) is_refused = inr strict

-- a whole explanation is written
pub whole_is_written : (order : Order) (texts : RunTexts) (place : Place) (format : Format) (old new : Option (List ℕ)) (said : Explained) → Writes order texts place format old new said
    → said ≡ explained.Whole → HasText (IsExplanation order texts place format)
whole_is_written order texts place format old new explained.Whole writes is = record { text = writes.text; is_text = writes.is_text }
whole_is_written order texts place format old new explained.NoRecord writes is = absurd (cc is)

-- where it says so, the texts have no such record
pub none_is_there : (order : Order) (texts : RunTexts) (place : Place) (format : Format) (old new : Option (List ℕ)) (said : Explained) → Writes order texts place format old new said
    → said ≡ explained.NoRecord → HasNoRecord order texts place
none_is_there order texts place format old new explained.Whole writes is = absurd (cc is)
none_is_there order texts place format old new explained.NoRecord writes is = writes.0

-- an explanation of a family is written, or the texts have no claim of it
pub family_is_written : (order : Order) (texts : RunTexts) (name : List ℕ) (format : Format) (old new : Option (List ℕ)) (said : Explained)
    → WritesFamily order texts name format old new said → said ≡ explained.Whole → HasText (IsFamilyExplanation order texts name format)
family_is_written order texts name format old new explained.Whole writes is = record { text = writes.text; is_text = writes.is_text }
family_is_written order texts name format old new explained.NoRecord writes is = absurd (cc is)

pub no_family_is_there : (order : Order) (texts : RunTexts) (name : List ℕ) (format : Format) (old new : Option (List ℕ)) (said : Explained)
    → WritesFamily order texts name format old new said → said ≡ explained.NoRecord → HasNoFamily order texts name
no_family_is_there order texts name format old new explained.Whole writes is = absurd (cc is)
no_family_is_there order texts name format old new explained.NoRecord writes is = writes.0

-- the claim that was found is explained
pub found_done : (order : Order) (texts : RunTexts) (id : List ℕ) (format : Format) (found : FoundClaim) (status : ExitStatus) → IsFoundIn (without_balances texts) id (Some found)
    → (status ≡ Done → HasText (IsExplanation order texts found.place format)) → status ≡ Done → HasText (IsClaimExplanation order texts id format)
found_done order texts id format found status first done is_done =
    let has = done is_done in
    record { text = has.text; is_text = record { found = found; first = first; explains = has.is_text } }

-- it is not explained, though it has a record
pub found_refused : FoundClaimHasRecord → (order : Order) (texts : RunTexts) (id : List ℕ) (found : FoundClaim) (status : ExitStatus) → IsFoundIn (without_balances texts) id (Some found)
    → (status ≡ Refused → IsRecordUnexplained order texts found.place status) → status ≡ Refused → IsClaimUnexplained texts id status
found_refused has order texts id found status first refused is_refused = elim (refused is_refused) [
  | inl missing ↦ absurd (has order (without_balances texts) texts id found refl refl first missing)
  | inr reason ↦ inr (inl (found, first, reason))
]

-- the claim with an identifier is explained where it is asked for
pub claim_is_asked : (order : Order) (texts : RunTexts) (subject : Subject) (id : Bor (List ℕ)) (format : Format) (status : ExitStatus) → subject ≡ Claim id
    → (status ≡ Done → HasText (IsClaimExplanation order texts id.now format)) → status ≡ Done → HasText (IsAskedExplanation order texts subject format)
claim_is_asked order texts subject id format status is done is_done = subst (λ s. HasText (IsAskedExplanation order texts s format)) (sym is) (done is_done)
