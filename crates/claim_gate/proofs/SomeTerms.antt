-- It is impossible that terms have no form as journals see them.
use Rattle.std.proofs.Common.{ℕ, suc, List, [], ◌∷◌, refl, arith}
use Rattle.std.specs.List.{All, AllZip}
use Rattle.settlement.specs.declared.claim.Claim.{Claim}
use Rattle.tables.specs.declared.table.InputData.{InputData}
use Rattle.intake_csv.specs.Balances.{accounts_of}
use Rattle.intake_csv.specs.Rows.{claims_among}
use Rattle.claim_gate.specs.Terms.{AreClaimsOf, AreTerms, ForTerms, IsClaimFile, TermsParts}
use Rattle.intake_csv.specs.Laws.{FilesHaveRows}

-- a list of the claims of a file
record ClaimsOf (names : List InputData) (text : List ℕ) : Type 0 where
  pub claims : List Claim
  pub are : AreClaimsOf names text claims

some_claims : FilesHaveRows → (names : List InputData) (text : List ℕ) → IsClaimFile names text → ¬ ¬ ClaimsOf names text
some_claims law names text file k =
    law names text file.layout file.records file.headered_file (λ rs.
    k (record { claims = claims_among rs.rows; are = record { rows = rs.rows; are_rows = rs.are; claims_are = refl } }))

-- a list of claims for each file
record FilesOf (names : List InputData) (texts : List (List ℕ)) : Type 0 where
  pub files : List (List Claim)
  pub are : AllZip (AreClaimsOf names) texts files

some_files : FilesHaveRows → (names : List InputData) (texts : List (List ℕ)) → All (IsClaimFile names) texts → ¬ ¬ FilesOf names texts
some_files law names [] all k = k (record { files = []; are = tt })
some_files law names (text ∷ texts) all k = some_claims law names text (all 0 [] (omega arith)) (λ c.
    some_files law names texts (λ i d within. all (suc i) d (omega (arith, within))) (λ fs.
    k (record { files = c.claims ∷ fs.files; are = (c.are, fs.are) })))

pub some_terms : FilesHaveRows → (parts : TermsParts) → AreTerms parts → ¬ ForTerms parts (λ T. ⊥)
some_terms law parts are none = some_files law parts.plan.names parts.files are.files (λ fs.
    none (record { plan = parts.plan; files = fs.files; balances = accounts_of parts.balances; cutoff = parts.cutoff })
    (record { plan = refl; files = fs.are; openings = λ account. refl; cutoff = refl }))
