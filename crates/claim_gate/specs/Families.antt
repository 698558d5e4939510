-- The accumulators of a family under the terms of given texts: they are the sums over its members.
use Rattle.std.specs.Prelude.{ℕ, List, Option, Some, None, take}
use Rattle.std.specs.List.{All}
use Rattle.tables.specs.Plan.{PlanParts}
use Rattle.intake_csv.specs.Balances.{AreEntries, Entry}
use Rattle.intake_csv.specs.Columns.{IsHeaderedFile, balance_columns}
use Rattle.intake_csv.specs.Records.{Fields}
use Rattle.intake_csv.specs.declared.column.Layout.{Layout}
use Rattle.journal.specs.Events.{before, claims}
use Rattle.journal.specs.Families.{AreAmong, IsAmong, IsSummed}
use Rattle.journal.specs.Terms.{Terms}
use Rattle.journal.specs.declared.event.Event.{Event}
use Rattle.claim_gate.specs.Terms.{AreTermsOf, IsTermsOf, TermsParts}

-- the text of balances has these entries, one for each record
pub record AreEntriesOf (version : ℕ) (text : List ℕ) (entries : List Entry) : Type 0 where
  pub layout : Layout
  pub records : List Fields
  pub headered_file : IsHeaderedFile (balance_columns version) text layout records
  pub read : AreEntries version layout records entries

-- the list has, exactly once, each member of the family that a record of the balances names in the
-- year
abbrev pub AreNamed : ℕ → Option (List ℕ) → List ℕ → ℕ → List (List ℕ) → Type 0
AreNamed version None family year members = Unit {0}
AreNamed version (Some text) family year members =
    (entries : List Entry) → AreEntriesOf version text entries → All (λ e. IsAmong family year members e.0) entries

-- under the terms of these texts, if the list has, exactly once, each member of the family that a
-- record of the balances, or a claim before the position, names in the year, the accumulators of the
-- family are the sums over the list
abbrev pub FamiliesOfTexts : Type 0
FamiliesOfTexts = (plan : PlanParts) (files : List (List ℕ)) (balances : Option (List ℕ)) (cutoff : Option ℕ) (parts : TermsParts) (T : Terms) (J : List Event) (position : ℕ)
    (family : List ℕ) (year : ℕ) (members : List (List ℕ)) → AreTermsOf plan files balances cutoff parts → IsTermsOf parts T → AreNamed plan.version balances family year members
    → AreAmong T.plan family year members (take position (claims T J)) → IsSummed family year members (before T J position)
