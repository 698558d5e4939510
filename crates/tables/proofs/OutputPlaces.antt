-- The place of an output: if names are distinct, the answer at the place is the answer by the name.
use Rattle.std.proofs.Common.{◌≡◌, ◌≢◌, ℕ, zero, suc, ◌+◌, ◌<◌, List, [], ◌∷◌, ◌++◌, length, map, get_or, drop, Option, Some, None, slice_get, refl, sym, ap, ◌∙◌, subst, add-one, arith}
use Rattle.std.specs.List.{flat_map, position}
use Rattle.std.specs.Str.{bytes_eq}
use Rattle.std.specs.Option.{option_and_then}
use Rattle.std.proofs.lemmas.List.{get_or_append_left, get_or-append-add, length-append, length-map, get_or-map}
use Rattle.std.proofs.lemmas.List.Quantifiers.{position-Some}
use Rattle.std.proofs.lemmas.Option.{none-some, same_Some}
use Rattle.std.proofs.lemmas.Slice.Eq.{bytes_eq-Decides}
use Rattle.feel_tests.specs.declared.kind.Kind.TheVariants as kinds
use Rattle.tables.specs.declared.environment.Answer.{Answer}
use Rattle.tables.specs.declared.table.Output.{Output}
use Rattle.tables.specs.declared.table.Table.{Table}
use Rattle.tables.specs.Environment.{answer_of, answer_at, or_else}
use Rattle.tables.specs.Plan.{AreDistinct}
use Rattle.tables.proofs.Named.{named_end}

abbrev pub names_in : Table → List (List ℕ)
names_in t = map (λ (o : Output). o.name) t.outputs

abbrev pub names_of_outputs : List Table → List (List ℕ)
names_of_outputs ts = flat_map names_in ts

-- the index of the output with this name
abbrev pub column_named : List Output → List ℕ → Option ℕ
column_named os name = position (λ o. bytes_eq o.name name) os

-- a suffix of distinct names is distinct
pub distinct_after : (xs ys : List (List ℕ)) → AreDistinct (xs ++ ys) → AreDistinct ys
distinct_after [] ys h = h
distinct_after (x ∷ xs) ys h = distinct_after xs ys (λ i j d before within. h (suc i) (suc j) d (omega (arith, before)) (omega (arith, within)))

no_output : Output
no_output = record { name = []; kind = kinds.Number; priority = None; fallback = None }

-- a column with this name has it in the list of names too
column_name : (os : List Output) (name : List ℕ) (c : ℕ) (d : List ℕ) → column_named os name ≡ Some c
    → (c < length (map (λ (o : Output). o.name) os)) × (get_or (map (λ (o : Output). o.name) os) c d ≡ name)
column_name os name c d at =
    let there = position-Some (λ (o : Output). bytes_eq o.name name) os c no_output at in
    let within : c < length (map (λ (o : Output). o.name) os) = subst (λ n. c < n) (sym (length-map os (λ (o : Output). o.name))) there.0 in
    let named : (get_or os c no_output).name ≡ name = (bytes_eq-Decides (get_or os c no_output).name name).0 there.1 in
    (within, get_or-map (λ (o : Output). o.name) os c no_output d there.0 ∙ named)

-- the name is not among these
abbrev IsNone : List ℕ → List (List ℕ) → Type 0
IsNone name names = (k : ℕ) (d : List ℕ) → k < length names → get_or names k d ≢ name

none_after : (xs ys : List (List ℕ)) (name : List ℕ) → IsNone name (xs ++ ys) → IsNone name ys
none_after [] ys name none = none
none_after (x ∷ xs) ys name none = none_after xs ys name (λ k d below. none (suc k) d (omega (arith, below)))

answers_by : (t : Table) (ts : List Table) (a : List Answer) (more : List (List Answer)) (name : List ℕ) → IsNone name (names_of_outputs (t ∷ ts)) → answer_of ts more name ≡ None
    → (found : Option ℕ) → column_named t.outputs name ≡ found → answer_of (t ∷ ts) (a ∷ more) name ≡ None
answers_by t ts a more name none rest (Some c) is =
    let there = column_name t.outputs name c [] is in
    let within : c < length (names_of_outputs (t ∷ ts)) = omega (arith, there.0, length-append (names_in t) (names_of_outputs ts)) in
    absurd (none c [] within (get_or_append_left (names_in t) (names_of_outputs ts) [] c there.0 ∙ there.1))
answers_by t ts a more name none rest None is = ap (λ (found : Option ℕ). or_else (option_and_then (slice_get a) found) (answer_of ts more name)) is ∙ rest

answers_none : (ts : List Table) (answers : List (List Answer)) (name : List ℕ) → IsNone name (names_of_outputs ts) → answer_of ts answers name ≡ None
answers_none [] answers name none = refl
answers_none (t ∷ ts) [] name none = refl
answers_none (t ∷ ts) (a ∷ more) name none =
    let rest = answers_none ts more name (none_after (names_in t) (names_of_outputs ts) name none) in
    answers_by t ts a more name none rest (column_named t.outputs name) refl

-- if a column of a table has the name, no later table has it
none_later : (t : Table) (ts : List Table) (name : List ℕ) (c : ℕ) → AreDistinct (names_of_outputs (t ∷ ts)) → column_named t.outputs name ≡ Some c → IsNone name (names_of_outputs ts)
none_later t ts name c distinct at k d below same =
    let here = names_in t in
    let rest = names_of_outputs ts in
    let there = column_name t.outputs name c d at in
    let before : c < length here + k = omega (arith, there.0) in
    let within : length here + k < length (here ++ rest) = omega (arith, below, length-append here rest) in
    distinct c (length here + k) d before within (get_or_append_left here rest d c there.0 ∙ there.1 ∙ sym (get_or-append-add here rest k d ∙ same))

or_else-none : (found rest : Option Answer) → rest ≡ None → or_else found rest ≡ found
or_else-none (Some a) rest none = refl
or_else-none None rest none = none

-- if the table at an index has the name in a column, this place has the answer
pub named_at : (ts : List Table) (answers : List (List Answer)) (name : List ℕ) (i c : ℕ) (t : Table) → AreDistinct (names_of_outputs ts) → slice_get ts i ≡ Some t → column_named t.outputs name ≡ Some c
    → answer_of (drop i ts) (drop i answers) name ≡ answer_at answers (record { table = i; column = c })
named_at [] answers name i c t distinct at is = absurd (none-some t at)
named_at (u ∷ ts) [] name zero c t distinct at is = refl
named_at (u ∷ ts) (a ∷ more) name zero c t distinct at is =
    let same : column_named u.outputs name ≡ Some c = ap (λ (x : Table). column_named x.outputs name) (same_Some u t at) ∙ is in
    ap (λ (found : Option ℕ). or_else (option_and_then (slice_get a) found) (answer_of ts more name)) same
    ∙ or_else-none (slice_get a c) (answer_of ts more name) (answers_none ts more name (none_later u ts name c distinct same))
named_at (u ∷ ts) [] name (suc i) c t distinct at is = named_end (drop i ts) name
named_at (u ∷ ts) (a ∷ more) name (suc i) c t distinct at is = named_at ts more name i c t (distinct_after (names_in u) (names_of_outputs ts) distinct) at is

-- if the table at an index does not have the name, a later table has the answer
passed : (ts : List Table) (answers : List (List Answer)) (name : List ℕ) (i : ℕ) (t : Table) → slice_get ts i ≡ Some t → column_named t.outputs name ≡ None
    → answer_of (drop (suc i) ts) (drop (suc i) answers) name ≡ answer_of (drop i ts) (drop i answers) name
passed [] answers name i t at is = absurd (none-some t at)
passed (u ∷ ts) [] name zero t at is = named_end ts name
passed (u ∷ ts) (a ∷ more) name zero t at is =
    let same : column_named u.outputs name ≡ None = ap (λ (x : Table). column_named x.outputs name) (same_Some u t at) ∙ is in
    sym (ap (λ (found : Option ℕ). or_else (option_and_then (slice_get a) found) (answer_of ts more name)) same)
passed (u ∷ ts) [] name (suc i) t at is = named_end (drop (suc i) ts) name ∙ sym (named_end (drop i ts) name)
passed (u ∷ ts) (a ∷ more) name (suc i) t at is = passed ts more name i t at is

pub passed_by : (ts : List Table) (answers : List (List Answer)) (name : List ℕ) (i : ℕ) (t : Table) → slice_get ts i ≡ Some t → column_named t.outputs name ≡ None
    → answer_of (drop (i + 1) ts) (drop (i + 1) answers) name ≡ answer_of (drop i ts) (drop i answers) name
passed_by ts answers name i t at is = ap (λ n. answer_of (drop n ts) (drop n answers) name) (add-one i) ∙ passed ts answers name i t at is
