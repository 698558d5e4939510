-- What a reader returns where it cannot go on, and the entries that it begins with.
use Rattle.std.proofs.Common.{◌≡◌, ◌≢◌, ◌==◌, ℕ, ◌<◌, ◌≤◌, Bool, true, false, List, [], ◌∷◌, length, Option, Some, None, Result, Ok, Err, IsErrAnd, IfOk, sym, ap, subst, ◌∙◌, arith}
use Rattle.std.proofs.lemmas.Bool.{eqb-true, false≢true}
use Rattle.std.proofs.lemmas.Option.{same_Some}
use Rattle.toml.specs.Data.{Data, Items, string, as_str}
use Rattle.toml.specs.View.{items_view}
use Rattle.toml.specs.declared.value.Value.{Value}
use Rattle.faults.specs.declared.plan_fault.PlanFault.{PlanFault}
use Rattle.faults.specs.declared.plan_fault.PlanCause.TheVariants.{OutOfMemory}
use Rattle.dtable.specs.Document.{item_count, Optionally}
use Rattle.dtable.specs.Reading.{Reads}

-- a fault that is passed on; a lack of memory says nothing of the text
pub passed_on : {X : Type 0} (P : X → Type 0) (r : Result X PlanFault) (fault : PlanFault) → IsErrAnd r (λ it. it ≡ fault) → (fault.cause ≢ OutOfMemory → (x : X) → ¬ P x) → Reads P r
passed_on P (Ok x) fault h none = absurd h
passed_on {X} P (Err it) fault h none = subst (λ (f : PlanFault). f.cause ≢ OutOfMemory → (x : X) → ¬ P x) (sym h) none

-- a result that is a fault has no value
pub no_value : {X : Type 0} (P : X → Type 0) (Q : PlanFault → Type 0) (r : Result X PlanFault) → IsErrAnd r Q → IfOk r P
no_value P Q (Ok x) h = absurd h
no_value P Q (Err it) h = tt

-- what is missing is not there
pub missing : {A : Type 0} (o : Option A) (x : A) → o ≡ None → o ≡ Some x → ⊥
missing o x none some = let clash : None ≡ Some x = sym none ∙ some in cc

-- more entries than the limit
pub over_limit : (o : Option Items) (ds es : Items) (limit : ℕ) → o ≡ Some ds → o ≡ Some es → ¬ (item_count ds ≤ limit) → item_count es ≤ limit → ⊥
over_limit o ds es limit read written over within = over (subst (λ is. item_count is ≤ limit) (same_Some es ds (sym written ∙ read)) within)

-- some entries, and none
pub some_entries : (vs : List Value) (empty : Bool) → empty ≡ (length vs == 0) → empty ≡ false → 0 < item_count (items_view vs)
some_entries [] empty is filled = absurd (false≢true (sym filled ∙ is))
some_entries (v ∷ vs) empty is filled = omega arith

pub no_entries : (o : Option Items) (vs : List Value) (es : Items) (empty : Bool) → o ≡ Some (items_view vs) → o ≡ Some es → empty ≡ (length vs == 0) → empty ≡ true → 0 < item_count es → ⊥
no_entries o [] es empty read written is holds some =
    let none : 0 < 0 = subst (λ ds. 0 < item_count ds) (same_Some es (items_view []) (sym written ∙ read)) some in
    omega (arith, none)
no_entries o (v ∷ vs) es empty read written is holds some =
    let none : length (v ∷ vs) ≡ 0 = eqb-true (length (v ∷ vs)) 0 (sym is ∙ holds) in
    omega (arith, none)

-- the meaning of an optional value that is there, and of one that is missing
pub Optionally-some : {A : Type 0} (R : Data → A → Type 0) (o : Option Data) (d : Data) (x : A) → o ≡ Some d → R d x → Optionally R o (Some x)
Optionally-some R o d x there h = subst (λ p. Optionally R p (Some x)) (sym there) h

pub Optionally-missing : {A : Type 0} (R : Data → A → Type 0) (o : Option Data) → o ≡ None → Optionally R o None
Optionally-missing R o missing = subst (λ p. Optionally R p None) (sym missing) tt

-- a value with this string is this string
pub string_of : (d : Data) (text : List ℕ) → as_str d ≡ Some text → d ≡ string text
string_of (string s) text read = ap string (same_Some s text read)
string_of _ text read = cc

pub same_text : (d : Data) (text word : List ℕ) → as_str d ≡ Some text → d ≡ string word → text ≡ word
same_text d text word read is = same_Some text word (sym read ∙ ap as_str is)
