-- The claims of terms have the plan's fields.
use Rattle.std.proofs.Common.{inl, inr, ◌≡◌, ℕ, zero, suc, ◌<◌, Bool, true, false, is_some, List, [], ◌∷◌, ◌++◌, map, length, get_or, Some, None, refl, sym, ap, subst, ◌∙◌, arith, length-append}
use Rattle.std.specs.List.{AllZip, slice_get}
use Rattle.std.specs.Str.{bytes_eq}
use Rattle.std.proofs.lemmas.Bool.{cases_Bool, false≢true}
use Rattle.std.proofs.lemmas.List.{append_cancel_left, append_cancel_right}
use Rattle.std.proofs.lemmas.Option.{none-some, same_Some, slice_get-get_or}
use Rattle.std.proofs.lemmas.Slice.Eq.{bytes_eq-Decides}
use Rattle.feel_tests.specs.Value.{kind_of}
use Rattle.feel_tests.specs.declared.kind.Kind.{Kind}
use Rattle.feel_tests.specs.declared.kind.Kind.TheVariants as kinds
use Rattle.tables.specs.Names.{accumulator_names, claim_names, names_of}
use Rattle.tables.specs.Plan.{IsPlan, PlanParts, keeps_families}
use Rattle.tables.specs.declared.table.InputData.{InputData}
use Rattle.settlement.specs.Claim.{IsClaimOf}
use Rattle.settlement.specs.declared.claim.Claim.{Claim}
use Rattle.intake_csv.specs.Laws.{ClaimsHaveFields}
use Rattle.intake_csv.specs.declared.rows.Row.{Row}
use Rattle.intake_csv.specs.declared.rows.Row.TheVariants.{Good, Bad}
use Rattle.intake_csv.specs.Rows.{claims_among}
use Rattle.claim_gate.specs.Terms.{AreClaimsOf, IsTermsOf, TermsParts}
use Rattle.journal.specs.Terms.{Terms, claims_of}
use Rattle.journal.specs.Events.{Filed, accepts, claim_at, claim_filed}
use Rattle.journal.specs.declared.event.Event.{Event}

-- the claim is that of one of these rows
record IsAmongThese (claim : Claim) (rows : List Row) : Type 0 where
  pub before : List Row
  pub number : ℕ
  pub place : ℕ
  pub after : List Row
  pub split : rows ≡ before ++ Good number place claim ∷ after

following : (row : Row) (claim : Claim) (rows : List Row) → IsAmongThese claim rows → IsAmongThese claim (row ∷ rows)
following row claim rows s = record { before = row ∷ s.before; number = s.number; place = s.place; after = s.after; split = ap (λ xs. row ∷ xs) s.split }

among : (rows : List Row) (i : ℕ) (claim : Claim) → slice_get (claims_among rows) i ≡ Some claim → IsAmongThese claim rows
among [] i claim h = absurd (none-some claim h)
among (Bad number fault ∷ rows) i claim h = following (Bad number fault) claim rows (among rows i claim h)
among (Good number place c ∷ rows) zero claim h = record {
  before = [];
  number = number;
  place = place;
  after = rows;
  split = ap (λ x. Good number place x ∷ rows) (same_Some c claim h);
}
among (Good number place c ∷ rows) (suc i) claim h = following (Good number place c) claim rows (among rows i claim h)

-- each claim of a file has the plan's fields
of_file : ClaimsHaveFields → (plan : PlanParts) (text : List ℕ) (cs : List Claim) (i : ℕ) (claim : Claim) → IsPlan plan → AreClaimsOf plan.names text cs
    → slice_get cs i ≡ Some claim → IsClaimOf plan claim
of_file law plan text cs i claim sound file h =
    let s = among file.rows i claim (subst (λ xs. slice_get xs i ≡ Some claim) file.claims_are h) in
    let rows = file.are_rows in
    let sizes = ap length s.split ∙ length-append s.before (Good s.number s.place claim ∷ s.after) in
    let within : length s.before < length rows.records = omega (arith, sizes, rows.are_rows.as_many) in
    let there = slice_get-get_or rows.records (length s.before) [] within in
    let row = rows.are_rows.each s.before s.after (Good s.number s.place claim) (get_or rows.records (length s.before) []) s.split there in
    law plan sound.fields text rows.layout rows.records (get_or rows.records (length s.before) []) claim sound.names rows.headered_file row.2

-- each claim of all files has the plan's fields
of_files : ClaimsHaveFields → (plan : PlanParts) (texts : List (List ℕ)) (files : List (List Claim)) (place i : ℕ) (claim : Claim) → IsPlan plan
    → AllZip (AreClaimsOf plan.names) texts files → slice_get (get_or files place []) i ≡ Some claim → IsClaimOf plan claim
of_files law plan [] [] place i claim sound all h = absurd (none-some claim h)
of_files law plan [] (cs ∷ files) place i claim sound all h = absurd all
of_files law plan (text ∷ texts) [] place i claim sound all h = absurd all
of_files law plan (text ∷ texts) (cs ∷ files) zero i claim sound all h = of_file law plan text cs i claim sound all.0 h
of_files law plan (text ∷ texts) (cs ∷ files) (suc place) i claim sound all h = of_files law plan texts files place i claim sound all.1 h

filed : ClaimsHaveFields → (parts : TermsParts) (T : Terms) (f : Filed) (claim : Claim) → IsPlan parts.plan → IsTermsOf parts T
    → claim_filed T f ≡ Some claim → IsClaimOf parts.plan claim
filed law parts T f claim sound terms h = by_provider f.provider f.place h
  where
    by_provider : (provider place : ℕ) → slice_get (claims_of T provider) place ≡ Some claim → IsClaimOf parts.plan claim
    by_provider zero place e = absurd (none-some claim e)
    by_provider (suc p) place e = of_files law parts.plan parts.files T.files p place claim sound terms.files e

-- each accepted claim has the plan's fields
accepted_among : ClaimsHaveFields → (parts : TermsParts) (T : Terms) (fs : List Filed) (k : ℕ) (claim : Claim) → IsPlan parts.plan → IsTermsOf parts T
    → get_or (map (claim_filed T) fs) k None ≡ Some claim → IsClaimOf parts.plan claim
accepted_among law parts T [] k claim sound terms h = absurd (none-some claim h)
accepted_among law parts T (f ∷ fs) zero claim sound terms h = filed law parts T f claim sound terms h
accepted_among law parts T (f ∷ fs) (suc k) claim sound terms h = accepted_among law parts T fs k claim sound terms h

pub accepted-of : ClaimsHaveFields → (parts : TermsParts) (T : Terms) (J : List Event) (position : ℕ) (claim : Claim) → IsPlan parts.plan → IsTermsOf parts T
    → claim_at T J position ≡ Some claim → IsClaimOf parts.plan claim
accepted-of law parts T J position claim sound terms h = accepted_among law parts T (accepts J) position claim sound terms h

-- the number of a kind
number_of : Kind → ℕ
number_of kinds.Number = 0
number_of kinds.Text = 1
number_of kinds.Flag = 2
number_of kinds.Day = 3

kind_numbered : ℕ → Kind
kind_numbered zero = kinds.Number
kind_numbered (suc zero) = kinds.Text
kind_numbered (suc (suc zero)) = kinds.Flag
kind_numbered (suc (suc (suc n))) = kinds.Day

numbered : (ks : List Kind) → map kind_numbered (map number_of ks) ≡ ks
unfolding kind_numbered number_of
numbered [] = refl
numbered (kinds.Number ∷ ks) = ap (λ xs. kinds.Number ∷ xs) (numbered ks)
numbered (kinds.Text ∷ ks) = ap (λ xs. kinds.Text ∷ xs) (numbered ks)
numbered (kinds.Flag ∷ ks) = ap (λ xs. kinds.Flag ∷ xs) (numbered ks)
numbered (kinds.Day ∷ ks) = ap (λ xs. kinds.Day ∷ xs) (numbered ks)

-- lists of kinds that can't differ are equal
kinds-decided : (ks ls : List Kind) → ¬ ¬ (ks ≡ ls) → ks ≡ ls
kinds-decided ks ls h = elim (cases_Bool (bytes_eq (map number_of ks) (map number_of ls))) [
  | inl same ↦ sym (numbered ks) ∙ ap (map kind_numbered) ((bytes_eq-Decides (map number_of ks) (map number_of ls)).0 same) ∙ numbered ls
  | inr other ↦ absurd (h (λ e. false≢true (sym other ∙ (bytes_eq-Decides (map number_of ks) (map number_of ls)).1 (ap (map number_of) e))))
]

-- the names determine the fields
fields_one : (families : Bool) (fields others : List InputData) → names_of families fields ≡ names_of families others → fields ≡ others
fields_one families fields others e =
    append_cancel_right fields others (accumulator_names families)
    (append_cancel_left (claim_names families) (fields ++ accumulator_names families) (others ++ accumulator_names families) e)

-- truth values that can't differ are equal
answers-decided : (a b : Bool) → ¬ ¬ (a ≡ b) → a ≡ b
answers-decided true true h = refl
answers-decided false false h = refl
answers-decided true false h = absurd (h (λ e. false≢true (sym e)))
answers-decided false true h = absurd (h (λ e. false≢true e))

-- a claim that can't lack the plan's fields has them
pub fields-decided : (plan : PlanParts) (claim : Claim) → IsPlan plan → ¬ ¬ IsClaimOf plan claim → IsClaimOf plan claim
fields-decided plan claim sound h = record {
  family = answers-decided (is_some claim.family) (keeps_families plan) (λ other. h (λ is. other is.family));
  fields = sound.fields;
  names = sound.names;
  kinds = kinds-decided (map kind_of claim.fields) (map (λ d. d.kind) sound.fields) (λ other. h (λ is.
      let same = fields_one (keeps_families plan) is.fields sound.fields (sym is.names ∙ sound.names) in
      other (is.kinds ∙ ap (map (λ d. d.kind)) same)));
}
