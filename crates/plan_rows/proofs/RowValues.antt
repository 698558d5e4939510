-- Fields that denote values.
use Rattle.std.proofs.Common.{◌≡◌, ◌≢◌, ◌<◌, ◌+◌, ◌↔◌, ◌⊎◌, inl, inr, ℕ, zero, suc, Bool, List, [], ◌∷◌, ◌++◌, length, take, get_or, Some, Result, IfOk, IsTrue, refl, sym, ap, subst, ◌∙◌, arith}
use Rattle.std.specs.List.{AllZip}
use Rattle.std.specs.Option.{IsSomeAnd}
use Rattle.std.specs.declared.alloc.AllocError.{AllocError}
use Rattle.std.proofs.lemmas.Result.{IfOk-weaker}
use Rattle.std.proofs.lemmas.List.{take_more}
use Rattle.feel_tests.specs.declared.value.Value.{Value}
use Rattle.intake_csv.proofs.Lists.{AllZip-grow}
use Rattle.tables.specs.declared.environment.Answer.{Answer}
use Rattle.plan_rows.specs.declared.columns.Column.{Column}
use Rattle.plan_rows.specs.declared.columns.Use.{Use}
use Rattle.plan_rows.specs.declared.columns.Use.TheVariants.{Given, Fault}
use Rattle.plan_rows.specs.declared.finding.Finding.{Finding}
use Rattle.plan_rows.specs.Expected.{Denotes, HasAnswer}
use Rattle.plan_rows.specs.Lines.{IsFound, IsMet, IsOptional, TablesValue, answered, found_fault}

-- the text at an index denotes the value at the index
zip_at : (texts : List (List ℕ)) (values : List Value) (place : ℕ) (value : Value) → AllZip Denotes texts values → place < length texts → Denotes (get_or texts place []) (get_or values place value)
zip_at [] values place value all within = absurd (omega (arith, within))
zip_at (t ∷ ts) [] place value all within = absurd all
zip_at (t ∷ ts) (v ∷ vs) zero value all within = all.0
zip_at (t ∷ ts) (v ∷ vs) (suc place) value all within = zip_at ts vs place value all.1 (omega (arith, within))

module _ (texts : List (List ℕ)) (values : List Value) where
  -- one more text denotes one more value
  pub one_more_denotes : (place : ℕ) (text : List ℕ) (value : Value) → place < length texts → place < length values → get_or texts place [] ≡ text → get_or values place value ≡ value
      → AllZip Denotes (take place texts) (take place values) → Denotes text value → AllZip Denotes (take (place + 1) texts) (take (place + 1) values)
  one_more_denotes place text value within also is_text is_value before next =
      let front = take_more texts place [] within ∙ ap (λ t. take place texts ++ t ∷ []) is_text in
      let front_values = take_more values place value also ∙ ap (λ v. take place values ++ v ∷ []) is_value in
      rw (front, front_values) (AllZip-grow Denotes (take place texts) (take place values) text value before next)

  -- a text that does not denote its value
  pub one_differs : (place : ℕ) (text : List ℕ) (value : Value) → place < length texts → get_or texts place [] ≡ text → get_or values place value ≡ value → ¬ Denotes text value
      → ¬ AllZip Denotes texts values
  one_differs place text value within is_text is_value differs all =
      let denotes = zip_at texts values place value all within in
      differs (subst (λ v. Denotes text v) is_value (subst (λ t. Denotes t (get_or values place value)) is_text denotes))

-- lists of other lengths
pub lengths_differ : (texts : List (List ℕ)) (values : List Value) → length texts ≢ length values → ¬ AllZip Denotes texts values
lengths_differ [] [] other all = other refl
lengths_differ [] (v ∷ vs) other all = absurd all
lengths_differ (t ∷ ts) [] other all = absurd all
lengths_differ (t ∷ ts) (v ∷ vs) other all = lengths_differ ts vs (λ same. other (ap suc same)) all.1

-- a field that is not empty expects something
pub expected_so : (field : List ℕ) (Q P : Type 0) (met : Bool) → field ≢ [] → (IsTrue met ↔ P) → IsTrue met ↔ (((field ≡ []) × Q) ⊎ P)
expected_so field Q P met some same = (λ is. inr (same.0 is), λ expected. by expected) where
  by : ((field ≡ []) × Q) ⊎ P → IsTrue met
  by (inl empty) = absurd (some empty.0)
  by (inr p) = same.1 p

-- an expectation that is not optional
pub always_expected : (field : List ℕ) (P : Type 0) (met : Bool) → (IsTrue met ↔ P) → IsTrue met ↔ (((field ≡ []) × ⊥) ⊎ P)
always_expected field P met same = (λ is. inr (same.0 is), λ expected. by expected) where
  by : ((field ≡ []) × ⊥) ⊎ P → IsTrue met
  by (inl never) = absurd never.1
  by (inr p) = same.1 p

-- a read answer is compared with the field's
pub answered_by : (r : Result Bool AllocError) (tables : TablesValue) (name field : List ℕ) (answer : Answer) → Some answer ≡ answered tables name
    → IfOk r (λ met. IsTrue met ↔ HasAnswer field answer) → IfOk r (λ met. IsTrue met ↔ IsSomeAnd (answered tables name) (HasAnswer field))
answered_by r tables name field answer there says =
    IfOk-weaker r _ _ (λ met same. subst (λ found. IsTrue met ↔ IsSomeAnd found (HasAnswer field)) there same) says

-- the expectation of a column for this use
pub met_if : (finding : Finding) (column : Column) (field : List ℕ) (used : Use) → column.used ≡ used → IsOptional used → field ≡ [] → IsMet finding column field
met_if finding column field used is optional empty = inl (empty, subst IsOptional (sym is) optional)

pub met_given : (finding : Finding) (column : Column) (field : List ℕ) (place : ℕ) → column.used ≡ Given place → IsMet finding column field
met_given finding column field place is = inr (subst (λ u. IsFound u finding column.name.now field) (sym is) tt)

pub met_so : (r : Result Bool AllocError) (finding : Finding) (column : Column) (field : List ℕ) (used : Use) → column.used ≡ used → field ≢ []
    → IfOk r (λ met. IsTrue met ↔ IsFound used finding column.name.now field) → IfOk r (λ met. IsTrue met ↔ IsMet finding column field)
met_so r finding column field used is some says =
    IfOk-weaker r _ _
    (λ met same. subst (λ u. IsTrue met ↔ (((field ≡ []) × IsOptional u) ⊎ IsFound u finding column.name.now field)) (sym is)
    (expected_so field (IsOptional used) (IsFound used finding column.name.now field) met some same)) says

pub met_fault : (r : Result Bool AllocError) (finding : Finding) (column : Column) (field : List ℕ) → column.used ≡ Fault
    → IfOk r (λ met. IsTrue met ↔ (field ≡ found_fault finding)) → IfOk r (λ met. IsTrue met ↔ IsMet finding column field)
met_fault r finding column field is says =
    IfOk-weaker r _ _
    (λ met same. subst (λ u. IsTrue met ↔ (((field ≡ []) × IsOptional u) ⊎ IsFound u finding column.name.now field)) (sym is)
    (always_expected field (field ≡ found_fault finding) met same)) says
