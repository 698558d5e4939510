-- The expectations of a row that can be read, one after another.
use Rattle.std.proofs.Common.{◌≡◌, ◌≢◌, ◌<◌, ◌≤◌, ◌+◌, ◌++◌, ◌↔◌, ◌⊎◌, ◌∙◌, inl, inr, ℕ, zero, suc, Bool, List, [], ◌∷◌, length, take, drop, get_or, Some, None, IsTrue, slice_get, refl, ap, subst, arith}
use Rattle.std.specs.List.{AllByRecursion, AllZip}
use Rattle.std.proofs.lemmas.List.{at_drop_more, take_more}
use Rattle.std.proofs.lemmas.Option.{none-some}
use Rattle.csv.specs.Records.{field_at}
use Rattle.intake_csv.specs.Records.{Fields}
use Rattle.intake_csv.proofs.Lists.{AllZip-grow}
use Rattle.feel_tests.specs.declared.kind.Kind.{Kind}
use Rattle.tables.specs.declared.table.Table.{Table}
use Rattle.tables.specs.Environment.{or_else}
use Rattle.tables.specs.Plan.{PlanParts}
use Rattle.plan_rows.specs.declared.columns.Column.{Column}
use Rattle.plan_rows.specs.Readable.{IsReadable, kind_among, output_kind}
use Rattle.plan_rows.proofs.HeaderColumns.{names_more}

-- a column at an index is one of the columns
pub readable_within : (columns : List Column) (place : ℕ) {c : Column} → slice_get columns place ≡ Some c → place < length columns
readable_within [] place {c} there = absurd (none-some c there)
readable_within (b ∷ bs) zero there = omega arith
readable_within (b ∷ bs) (suc place) there = let rest = readable_within bs place there in omega (arith, rest)

-- one more field can be read
pub readable_more : (plan : PlanParts) (columns : List Column) (fields : Fields) (place : ℕ) (d : Column) (field : List ℕ) → place < length columns → field_at fields place ≡ Some field
    → AllZip (IsReadable plan) (take place columns) (take place fields) → IsReadable plan (get_or columns place d) field
    → AllZip (IsReadable plan) (take (place + 1) columns) (take (place + 1) fields)
readable_more plan columns fields place d field within present before next =
    rw (take_more columns place d within, names_more fields place field present)
    (AllZip-grow (IsReadable plan) (take place columns) (take place fields) (get_or columns place d) field before next)

take-beyond : {A : Type 0} (xs : List A) (n : ℕ) → length xs ≤ n → take n xs ≡ xs
take-beyond [] zero e = refl
take-beyond [] (suc n) e = refl
take-beyond (x ∷ xs) zero e = absurd (omega (arith, e))
take-beyond (x ∷ xs) (suc n) e = ap (λ ys. x ∷ ys) (take-beyond xs n (omega (arith, e)))

-- all fields can be read
pub readable_all : (plan : PlanParts) (columns : List Column) (fields : Fields) (place : ℕ) → length fields ≡ length columns → length columns ≤ place
    → AllZip (IsReadable plan) (take place columns) (take place fields) → AllZip (IsReadable plan) columns fields
readable_all plan columns fields place width end all =
    let whole : take place columns ≡ columns = take-beyond columns place end in
    let also : take place fields ≡ fields = take-beyond fields place (omega (arith, width, end)) in
    rw (whole, also) at all

module _ (P : List ℕ → Type 0) where
  all_pushed : (xs : List (List ℕ)) (x : List ℕ) → AllByRecursion P xs → P x → AllByRecursion P (xs ++ x ∷ [])
  all_pushed [] x all one = (one, tt)
  all_pushed (y ∷ ys) x all one = (all.0, all_pushed ys x all.1 one)

  -- one more text
  pub all_more : (xs : List (List ℕ)) (place : ℕ) (x : List ℕ) → place < length xs → get_or xs place [] ≡ x → AllByRecursion P (take place xs) → P x → AllByRecursion P (take (place + 1) xs)
  all_more xs place x within is all one = rw (take_more xs place [] within ∙ ap (λ t. take place xs ++ t ∷ []) is) (all_pushed (take place xs) x all one)

  -- the text at an index
  pub all_at : (xs : List (List ℕ)) (place : ℕ) (x : List ℕ) → place < length xs → get_or xs place [] ≡ x → AllByRecursion P xs → P x
  all_at [] place x within is all = absurd (omega (arith, within))
  all_at (y ∷ ys) zero x within is all = subst P is all.0
  all_at (y ∷ ys) (suc place) x within is all = all_at ys place x (omega (arith, within)) is all.1

  pub all_whole : (xs : List (List ℕ)) (place : ℕ) → length xs ≤ place → AllByRecursion P (take place xs) → AllByRecursion P xs
  all_whole xs place end all = subst (AllByRecursion P) (take-beyond xs place end) all

-- the kind of the first output from a table on
pub kind_missed : (tables : List Table) (index : ℕ) (d : Table) (name : List ℕ) → index < length tables → kind_among (get_or tables index d) name ≡ None
    → output_kind (drop index tables) name ≡ output_kind (drop (index + 1) tables) name
kind_missed tables index d name within none =
    at_drop_more (λ ts. output_kind ts name) tables index d within ∙ ap (λ k. or_else k (output_kind (drop (index + 1) tables) name)) none

pub kind_met : (tables : List Table) (index : ℕ) (d : Table) (name : List ℕ) (kind : Kind) → index < length tables → kind_among (get_or tables index d) name ≡ Some kind
    → output_kind (drop index tables) name ≡ Some kind
kind_met tables index d name kind within some =
    at_drop_more (λ ts. output_kind ts name) tables index d within ∙ ap (λ k. or_else k (output_kind (drop (index + 1) tables) name)) some

-- a field that is not empty can be read exactly if it can be an expectation
pub filled_so : (field : List ℕ) (P : Type 0) (is : Bool) → field ≢ [] → (IsTrue is ↔ P) → IsTrue is ↔ ((field ≡ []) ⊎ P)
filled_so field P is some same = (λ holds. inr (same.0 holds), λ either. by either) where
  by : (field ≡ []) ⊎ P → IsTrue is
  by (inl empty) = absurd (some empty)
  by (inr p) = same.1 p
