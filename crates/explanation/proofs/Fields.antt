-- The claims of terms have the fields of the plan.
use Rattle.std.proofs.Common.{◌≡◌, ℕ, zero, suc, ◌<◌, List, [], ◌∷◌, ◌++◌, length, get_or, Some, ap, subst, ◌∙◌, arith, length-append}
use Rattle.std.specs.List.{AllZip, slice_get}
use Rattle.std.proofs.lemmas.Option.{none-some, same_Some, slice_get-get_or}
use Rattle.tables.specs.Plan.{IsPlan, PlanParts}
use Rattle.settlement.specs.Claim.{IsClaimOf}
use Rattle.settlement.specs.declared.claim.Claim.{Claim}
use Rattle.intake_csv.specs.Laws.{ClaimsHaveFields}
use Rattle.intake_csv.specs.declared.rows.Row.{Row}
use Rattle.intake_csv.specs.declared.rows.Row.TheVariants.{Good, Bad}
use Rattle.intake_csv.specs.Rows.{claims_among}
use Rattle.claim_gate.specs.Terms.{AreClaimsOf, ForTerms, IsTermsOf, TermsParts}
use Rattle.journal.specs.Terms.{Terms, claims_of}
use Rattle.journal.specs.Events.{Filed, claim_filed}

-- the claim is that of one of these rows
record IsAmongThese (claim : Claim) (rows : List Row) : Type 0 where
  pub before : List Row
  pub number : ℕ
  pub place : ℕ
  pub after : List Row
  pub split : rows ≡ before ++ Good number place claim ∷ after

following : (row : Row) (claim : Claim) (rows : List Row) → IsAmongThese claim rows → IsAmongThese claim (row ∷ rows)
following row claim rows s = record { before = row ∷ s.before; number = s.number; place = s.place; after = s.after; split = ap (λ xs. row ∷ xs) s.split }

among : (rows : List Row) (i : ℕ) (claim : Claim) → slice_get (claims_among rows) i ≡ Some claim → IsAmongThese claim rows
among [] i claim h = absurd (none-some claim h)
among (Bad number fault ∷ rows) i claim h = following (Bad number fault) claim rows (among rows i claim h)
among (Good number place c ∷ rows) zero claim h = record {
  before = [];
  number = number;
  place = place;
  after = rows;
  split = ap (λ x. Good number place x ∷ rows) (same_Some c claim h);
}
among (Good number place c ∷ rows) (suc i) claim h = following (Good number place c) claim rows (among rows i claim h)

of_file : ClaimsHaveFields → (plan : PlanParts) (text : List ℕ) (cs : List Claim) (i : ℕ) (claim : Claim) → IsPlan plan → AreClaimsOf plan.names text cs
    → slice_get cs i ≡ Some claim → IsClaimOf plan claim
of_file law plan text cs i claim sound file h =
    let s = among file.rows i claim (subst (λ xs. slice_get xs i ≡ Some claim) file.claims_are h) in
    let rows = file.are_rows in
    let sizes = ap length s.split ∙ length-append s.before (Good s.number s.place claim ∷ s.after) in
    let within : length s.before < length rows.records = omega (arith, sizes, rows.are_rows.as_many) in
    let there = slice_get-get_or rows.records (length s.before) [] within in
    let row = rows.are_rows.each s.before s.after (Good s.number s.place claim) (get_or rows.records (length s.before) []) s.split there in
    law plan sound.fields text rows.layout rows.records (get_or rows.records (length s.before) []) claim sound.names rows.headered_file row.2

of_files : ClaimsHaveFields → (plan : PlanParts) (texts : List (List ℕ)) (files : List (List Claim)) (place i : ℕ) (claim : Claim) → IsPlan plan
    → AllZip (AreClaimsOf plan.names) texts files → slice_get (get_or files place []) i ≡ Some claim → IsClaimOf plan claim
of_files law plan [] [] place i claim sound all h = absurd (none-some claim h)
of_files law plan [] (cs ∷ files) place i claim sound all h = absurd all
of_files law plan (text ∷ texts) [] place i claim sound all h = absurd all
of_files law plan (text ∷ texts) (cs ∷ files) zero i claim sound all h = of_file law plan text cs i claim sound all.0 h
of_files law plan (text ∷ texts) (cs ∷ files) (suc place) i claim sound all h = of_files law plan texts files place i claim sound all.1 h

filed : ClaimsHaveFields → (parts : TermsParts) (T : Terms) (f : Filed) (claim : Claim) → IsPlan parts.plan → IsTermsOf parts T
    → claim_filed T f ≡ Some claim → IsClaimOf parts.plan claim
filed law parts T f claim sound terms h = by_provider f.provider f.place h
  where
    by_provider : (provider place : ℕ) → slice_get (claims_of T provider) place ≡ Some claim → IsClaimOf parts.plan claim
    by_provider zero place e = absurd (none-some claim e)
    by_provider (suc p) place e = of_files law parts.plan parts.files T.files p place claim sound terms.files e

-- a claim of the terms cannot lack the plan's fields
pub likely : ClaimsHaveFields → (parts : TermsParts) (f : Filed) (claim : Claim) → IsPlan parts.plan → ForTerms parts (λ T. claim_filed T f ≡ Some claim) → ¬ ForTerms parts (λ T. ⊥)
    → ¬ ¬ IsClaimOf parts.plan claim
likely law parts f claim sound there readable lacks = readable (λ T is. lacks (filed law parts T f claim sound is (there T is)))
