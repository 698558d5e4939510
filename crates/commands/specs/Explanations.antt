-- What the command line of `explain` asks for, and the meaning of the command's exit statuses.
use Rattle.std.specs.Prelude.{◌≡◌, ◌==◌, ◌⊎◌, ℕ, Bool, List, Option, None, Some}
use Rattle.std.specs.List.{after_first, before_first}
use Rattle.clap.specs.declared.parser.matches.ArgMatches.{ArgMatches}
use Rattle.console.specs.declared.exit_status.ExitStatus.{ExitStatus}
use Rattle.console.specs.declared.names.TheConstants.{AS_CSV, AS_TEXT, CLAIM_ID, FAMILY, FORMAT, MEMBER, RECORD}
use Rattle.value_command.specs.Ends.{HasText, IsStatusOf}
use Rattle.value_command.specs.Texts.{Whole}
use Rattle.value_command.specs.Words.{word_at}
use Rattle.journal.specs.declared.order.Order.{Order}
use Rattle.journal.specs.declared.order.Order.TheVariants.{Any, Files, Service}
use Rattle.orders.specs.RunTexts.{RunTexts}
use Rattle.orders.specs.Stop.{status_of}
use Rattle.claim_gate.specs.Terms.{text_in, texts_of}
use Rattle.explanation.specs.Explained.{HasNoFamily, HasNoRecord, IsExplainReason, IsExplanation, IsFamilyExplanation, IsFoundIn}
use Rattle.explanation.specs.declared.finding.FoundClaim.{FoundClaim}
use Rattle.explanation.specs.declared.format.Format.{Format}
use Rattle.explanation.specs.declared.format.Format.TheVariants.{Csv, Text}
use Rattle.explanation.specs.declared.row.Place.{Place}
use Rattle.claim_console.specs.Texts.{HasNamedTexts, texts_at}
use Rattle.claim_console.specs.Words.{IsCutoff, IsNumber, IsOrder, IsStrict}
use Rattle.commands.specs.declared.asked.Asked.{Asked}
use Rattle.commands.specs.declared.asked.Subject.{Subject}
use Rattle.commands.specs.declared.asked.Subject.TheVariants.{Claim, Family, Member, Record}
use Rattle.commands.specs.declared.explained.Given.{Given}
use Rattle.claim_console.specs.declared.texts.Texts.{Texts}

-- the byte is `:`
abbrev pub is_colon : ℕ → Bool
is_colon byte = byte == 58

-- the text gives a record: the number of its file before the first colon, and its number in the file after it
pub record IsPlaceOf (text : List ℕ) (place : Place) : Type 0 where
  pub provider : IsNumber (Some (before_first is_colon text)) (Some place.provider)
  pub number : IsNumber (Some (after_first is_colon text)) (Some place.number)

-- this record is to be explained
abbrev pub IsPlace : ArgMatches → Place → Type 0
IsPlace words place = (text : List ℕ) × (word_at words RECORD.now ≡ Some text) × IsPlaceOf text place

-- this is to be explained
abbrev pub IsSubject : ArgMatches → Subject → Type 0
IsSubject words (Record place) = IsPlace words place
IsSubject words (Claim id) = word_at words CLAIM_ID.now ≡ Some id.now
IsSubject words (Member name) = word_at words MEMBER.now ≡ Some name.now
IsSubject words (Family name) = word_at words FAMILY.now ≡ Some name.now

-- the format that a word asks for; without a word it is that of lines
pub record IsFormatOf (word : Option (List ℕ)) (format : Format) : Type 0 where
  pub as_text : word ≡ Some AS_TEXT.now → format ≡ Text
  pub as_csv : word ≡ Some AS_CSV.now → format ≡ Csv
  pub absent : word ≡ None → format ≡ Text

-- the explanation has this format
abbrev pub IsFormat : ArgMatches → Format → Type 0
IsFormat words format = IsFormatOf (word_at words FORMAT.now) format

-- without an order that is asked for, the order is that of the files
abbrev pub or_by_files : Order → Order
or_by_files Any = Files
or_by_files Files = Files
or_by_files Service = Service

-- claims are accepted in this order, which is that of the files if the command line has none
abbrev pub IsOrderOrFiles : ArgMatches → Order → Type 0
IsOrderOrFiles words order = (asked : Order) × IsOrder words asked × (order ≡ or_by_files asked)

-- the command line asks for this explanation
pub record IsAsked (words : ArgMatches) (asked : Asked) : Type 0 where
  pub subject : IsSubject words asked.subject
  pub format : IsFormat words asked.format
  pub cutoff : IsCutoff words asked.cutoff
  pub order : IsOrderOrFiles words asked.order

-- the texts that the references point to
abbrev pub given_texts : Given → RunTexts
given_texts given = record {
  plan = given.plan.now;
  balances = text_in given.balances;
  files = texts_of given.files.now;
  cutoff = given.cutoff;
}

-- the texts of the plan and the files, in which a claim is searched for
abbrev pub without_balances : RunTexts → RunTexts
without_balances texts = record { plan = texts.plan; balances = None; files = texts.files; cutoff = None }

-- the text explains the first claim with the identifier
pub record IsClaimExplanation (order : Order) (texts : RunTexts) (id : List ℕ) (format : Format) (text : List ℕ) : Type 0 where
  pub found : FoundClaim
  pub first : IsFoundIn (without_balances texts) id (Some found)
  pub explains : IsExplanation order texts found.place format text

-- the text explains what is asked for
abbrev pub IsAskedExplanation : Order → RunTexts → Subject → Format → List ℕ → Type 0
IsAskedExplanation order texts (Record place) format text = IsExplanation order texts place format text
IsAskedExplanation order texts (Claim id) format text = IsClaimExplanation order texts id.now format text
IsAskedExplanation order texts (Member name) format text = IsFamilyExplanation order texts name.now format text
IsAskedExplanation order texts (Family name) format text = IsFamilyExplanation order texts name.now format text

-- some error has its cause in these texts, and this is its exit status
abbrev pub IsTextsRefused : RunTexts → ExitStatus → Type 0
IsTextsRefused texts status = IsStatusOf status_of (IsExplainReason texts) status

-- the texts have no such record, or this is the exit status of an error of an explanation of them
abbrev pub IsRecordUnexplained : Order → RunTexts → Place → ExitStatus → Type 0
IsRecordUnexplained order texts place status = HasNoRecord order texts place ⊎ IsTextsRefused texts status

-- the texts have no claim with this identifier, or this is the exit status of an error of its explanation or of the search for it
abbrev pub IsClaimUnexplained : RunTexts → List ℕ → ExitStatus → Type 0
IsClaimUnexplained texts id status =
    IsFoundIn (without_balances texts) id None
    ⊎ (((found : FoundClaim) × IsFoundIn (without_balances texts) id (Some found) × IsTextsRefused texts status)
    ⊎ IsTextsRefused (without_balances texts) status)

-- the texts have no claim of this family, or this is the exit status of an error of an explanation of them
abbrev pub IsFamilyUnexplained : Order → RunTexts → List ℕ → ExitStatus → Type 0
IsFamilyUnexplained order texts name status = HasNoFamily order texts name ⊎ IsTextsRefused texts status

-- what is asked for is not explained, with this exit status
abbrev pub IsUnexplained : Order → RunTexts → Subject → ExitStatus → Type 0
IsUnexplained order texts (Record place) status = IsRecordUnexplained order texts place status
IsUnexplained order texts (Claim id) status = IsClaimUnexplained texts id.now status
IsUnexplained order texts (Member name) status = IsFamilyUnexplained order texts name.now status
IsUnexplained order texts (Family name) status = IsFamilyUnexplained order texts name.now status

-- `explain` can end with `Done`: the named texts have the explanation that is asked for
pub record ExplainIsDone (whole : Whole) (words : ArgMatches) : Type 0 where
  pub asked : Asked
  pub is_asked : IsAsked words asked
  pub texts : Texts
  pub named : HasNamedTexts whole words texts
  pub has_text : HasText (IsAskedExplanation asked.order (texts_at texts asked.cutoff) asked.subject asked.format)

-- the named texts have no such explanation
pub record TextsAreUnexplained (whole : Whole) (words : ArgMatches) (status : ExitStatus) : Type 0 where
  pub asked : Asked
  pub is_asked : IsAsked words asked
  pub texts : Texts
  pub named : HasNamedTexts whole words texts
  pub refused : IsUnexplained asked.order (texts_at texts asked.cutoff) asked.subject status

-- `explain` can end with this status; unknown keys may be errors
abbrev pub ExplainIsRefused : Whole → ArgMatches → ExitStatus → Type 0
ExplainIsRefused whole words status = TextsAreUnexplained whole words status ⊎ IsStrict words
