-- The inputs of a run: as texts, as contracts see them, and as journals see them.
use Rattle.std.specs.Prelude.{◌≡◌, ◌≤◌, ℕ, List, [], length, map, option_map, Option, Some, None, IsSome}
use Rattle.std.specs.Borrow.{Bor}
use Rattle.std.specs.List.{All, AllZip}
use Rattle.tables.specs.Plan.{PlanParts}
use Rattle.tables.specs.declared.table.InputData.{InputData}
use Rattle.settlement.specs.declared.claim.Claim.{Claim}
use Rattle.intake_csv.specs.Records.{Fields}
use Rattle.intake_csv.specs.ClaimFile.{FileParts, IsFileOf}
use Rattle.intake_csv.specs.Columns.{IsHeaderedFile, claim_columns}
use Rattle.intake_csv.specs.Rows.{AreRowsOf, claims_among}
use Rattle.intake_csv.specs.Balances.{AreBalances, Book, accounts_of}
use Rattle.intake_csv.specs.declared.column.Layout.{Layout}
use Rattle.intake_csv.specs.declared.rows.Row.{Row}
use Rattle.settlement.specs.Accounts.{Account}
use Rattle.settlement.specs.Opening.{opening}
use Rattle.journal.specs.Terms.{Terms}
use Rattle.journal.specs.Lawful.{Finished}
use Rattle.journal.specs.declared.event.Event.{Event}
use Rattle.journal.specs.declared.order.Order.{Order}

-- the inputs of a run: the plan, the text of each provider's file, the opening balances by family and year with those of
-- each member, the maximum number of claims that are accepted, if there is one, and the order in which claims are accepted
pub record TermsParts : Type 0 where
  pub plan : PlanParts
  pub files : List (List ℕ)
  pub balances : List Book
  pub cutoff : Option ℕ
  pub order : Order

-- the claims of a file are those among its rows
pub record AreClaimsOf (names : List InputData) (text : List ℕ) (claims : List Claim) : Type 0 where
  pub rows : List Row
  pub are_rows : AreRowsOf names text rows
  pub claims_are : claims ≡ claims_among rows

-- these inputs as journals see them: the claims of each file, and the opening accumulators of each account
pub record IsTermsOf (parts : TermsParts) (T : Terms) : Type 0 where
  pub plan : T.plan ≡ parts.plan
  pub files : AllZip (AreClaimsOf parts.plan.names) parts.files T.files
  pub openings : (account : Account) → opening T.balances account ≡ opening (accounts_of parts.balances) account
  pub cutoff : T.cutoff ≡ parts.cutoff

-- the statement holds for every reading of these terms: for each list of claims that the files' texts contain
abbrev pub ForTerms : TermsParts → (Terms → Type 0) → Type 0
ForTerms parts P = (T : Terms) → IsTermsOf parts T → P T

-- the journal is finished under these terms
abbrev pub IsFinishedOver : TermsParts → List Event → Type 0
IsFinishedOver parts J = ForTerms parts (λ T. Finished T J)

-- the texts that these references refer to
abbrev pub texts_of : List (Bor (List ℕ)) → List (List ℕ)
texts_of files = map (λ f. f.now) files

-- the text that an optional reference refers to
abbrev pub text_in : Option (Bor (List ℕ)) → Option (List ℕ)
text_in text = option_map (λ t. t.now) text

-- the text is a claim file with the columns that a plan with these inputs needs
pub record IsClaimFile (names : List InputData) (text : List ℕ) : Type 0 where
  pub layout : Layout
  pub records : List Fields
  pub headered_file : IsHeaderedFile (claim_columns names) text layout records

-- these are the claim files of the texts, one for one
abbrev pub AreFilesOf : List InputData → List (List ℕ) → List FileParts → Type 0
AreFilesOf names = AllZip (IsFileOf names)

-- the maximum number of files in a run
abbrev pub files_limit : ℕ
files_limit = 64

-- a run has at least one file and at most `files_limit`
pub record IsFileCount (count : ℕ) : Type 0 where
  pub least : 1 ≤ count
  pub most : count ≤ files_limit

-- valid terms: the plan has roles, the number of files is allowed, and each file is a valid claim file
pub record AreTerms (parts : TermsParts) : Type 0 where
  pub roles : IsSome parts.plan.roles
  pub count : IsFileCount (length parts.files)
  pub files : All (IsClaimFile parts.plan.names) parts.files

-- the balances of a text under a plan; without a text there are none
abbrev pub AreBalancesOf : PlanParts → Option (List ℕ) → List Book → Type 0
AreBalancesOf plan None balances = balances ≡ []
AreBalancesOf plan (Some text) balances = AreBalances plan.version text balances

-- these are the terms of a plan, of the files' texts, of an optional text of the balances, and of an optional cutoff
pub record AreTermsOf (plan : PlanParts) (files : List (List ℕ)) (balances : Option (List ℕ)) (cutoff : Option ℕ) (parts : TermsParts) : Type 0 where
  pub plan_is : parts.plan ≡ plan
  pub files_are : parts.files ≡ files
  pub balances_are : AreBalancesOf plan balances parts.balances
  pub cutoff_is : parts.cutoff ≡ cutoff
  pub holds : AreTerms parts
