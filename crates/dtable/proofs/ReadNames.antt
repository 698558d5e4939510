-- Names in a list and in the tables: whether a name is among them, and where its value comes from.
use Rattle.std.proofs.Common.{◌≡◌, ℕ, Bool, true, false, not, ◌||◌, ◌&&◌, ◌+◌, ◌-◌, ◌<◌, cond, nat_lt, take, drop, get_or, None, List, [], ◌∷◌, ◌++◌, length, map, refl, sym, ap, ◌∙◌, arith}
use Rattle.std.specs.List.{list_any, list_all, position, prefix_len}
use Rattle.std.proofs.lemmas.List.{take_rest, length-map}
use Rattle.std.specs.Str.{bytes_eq}
use Rattle.feel_tests.specs.declared.kind.Kind.{Kind}
use Rattle.feel_tests.specs.declared.kind.Kind.TheVariants as kinds
use Rattle.tables.specs.declared.hit.Hit.{Hit}
use Rattle.tables.specs.declared.hit.Hit.TheVariants as hits
use Rattle.tables.specs.declared.table.InputData.{InputData}
use Rattle.tables.specs.declared.table.Output.{Output}
use Rattle.tables.specs.declared.table.Table.{Table}
use Rattle.feel_tests.specs.Words.{is_name_start, is_name_byte}
use Rattle.dtable.specs.NameForm.{family_names, is_among, names_taken, reserved_names, has_name_form}
use Rattle.tables.specs.Plan.{gives_one, same_kind, read_kind_of}
use Rattle.dtable.specs.Scope.{SeenOutput, seen_output, seen_of, data_names, output_names, seen_names, taken_names, is_single_of}

or_assoc : (a b c : Bool) → (a || (b || c)) ≡ ((a || b) || c)
or_assoc true b c = refl
or_assoc false b c = refl

-- a name in the concatenation of two lists
pub is_among-append : (name : List ℕ) (xs ys : List (List ℕ)) → is_among name (xs ++ ys) ≡ (is_among name xs || is_among name ys)
is_among-append name [] ys = refl
is_among-append name (x ∷ xs) ys = rw (is_among-append name xs ys) (or_assoc (bytes_eq x name) (is_among name xs) (is_among name ys))

-- the names of the elements of a list
pub is_among-map : {A : Type 0} (name_of : A → List ℕ) (name : List ℕ) (xs : List A) → list_any (λ x. bytes_eq (name_of x) name) xs ≡ is_among name (map name_of xs)
is_among-map name_of name [] = refl
is_among-map name_of name (x ∷ xs) = ap (λ b. bytes_eq (name_of x) name || b) (is_among-map name_of name xs)

-- the names of a table's outputs are the names that later tables see
pub output_names-seen : (hit : Hit) (os : List Output) → map (λ o. o.name) (map (seen_output hit) os) ≡ output_names os
output_names-seen hit [] = refl
output_names-seen hit (o ∷ os) = ap (λ ns. o.name ∷ ns) (output_names-seen hit os)

-- the names of the outputs of tables
pub is_among-tables : (name : List ℕ) (ts : List Table) → list_any (λ t. is_among name (output_names t.outputs)) ts ≡ is_among name (seen_names (map seen_of ts))
is_among-tables name [] = refl
is_among-tables name (t ∷ ts) =
    rw (output_names-seen t.hit t.outputs)
    (ap (λ b. is_among name (output_names t.outputs) || b) (is_among-tables name ts)
    ∙ sym (is_among-append name (output_names t.outputs) (seen_names (map seen_of ts))))

-- a name among the names in use
pub is_among_taken : (name : List ℕ) (names : List InputData) (ts : List Table)
    → is_among name (taken_names names (map seen_of ts)) ≡ (is_among name reserved_names || (is_among name (data_names names) || is_among name (seen_names (map seen_of ts))))
is_among_taken name names ts =
    is_among-append name reserved_names (data_names names ++ seen_names (map seen_of ts))
    ∙ ap (λ b. is_among name reserved_names || b) (is_among-append name (data_names names) (seen_names (map seen_of ts)))

pub is_among_fields : (families : Bool) (name : List ℕ) (front : List InputData)
    → is_among name (names_taken families ++ data_names front) ≡ (is_among name (names_taken families) || is_among name (data_names front))
is_among_fields families name front = is_among-append name (names_taken families) (data_names front)

-- a name among the reserved names, with and without families
pub among_taken_with_families : (families : Bool) (name : List ℕ) → families ≡ true → is_among name (names_taken families) ≡ (is_among name family_names || is_among name reserved_names)
among_taken_with_families false name kept = cc
among_taken_with_families true name kept = is_among-append name family_names reserved_names

pub among_taken_without : (families : Bool) (name : List ℕ) → families ≡ false → is_among name (names_taken families) ≡ is_among name reserved_names
among_taken_without false name kept = refl
among_taken_without true name kept = cc

pub is_among_outputs : (name : List ℕ) (taken : List (List ℕ)) (front : List Output) → is_among name (taken ++ output_names front) ≡ (is_among name taken || is_among name (output_names front))
is_among_outputs name taken front = is_among-append name taken (output_names front)

start_and_rest : (s : List ℕ) → 0 < length s → has_name_form s ≡ (is_name_start (get_or s 0 0) && list_all is_name_byte (drop 1 s))
start_and_rest [] some = absurd (omega arith)
start_and_rest (byte ∷ bytes) some = refl

-- the form of a name, tested by its first byte and its other bytes
pub has_name_form-rest : (s : List ℕ) (r : Bool) → 0 < length s → is_name_start (get_or s 0 0) ≡ true → r ≡ list_all is_name_byte (take (length s - 1) (drop 1 s)) → r ≡ has_name_form s
has_name_form-rest s r some start rest =
    rw (start_and_rest s some, start) (rest ∙ ap (list_all is_name_byte) (take_rest s 1))

-- the first index that passes, in a mapped list
prefix_len-map : {A B : Type 0} (seen : A → B) (p : B → Bool) (xs : List A) → prefix_len p (map seen xs) ≡ prefix_len (λ x. p (seen x)) xs
prefix_len-map seen p [] = refl
prefix_len-map seen p (x ∷ xs) = ap (λ n. cond (p (seen x)) (1 + n) 0) (prefix_len-map seen p xs)

pub position-map : {A B : Type 0} (seen : A → B) (p : B → Bool) (xs : List A) → position p (map seen xs) ≡ position (λ x. p (seen x)) xs
position-map seen p xs = rw (prefix_len-map seen (λ y. not (p y)) xs, length-map xs seen)

-- no index passes a test that is always false
prefix_len-never : {A : Type 0} (xs : List A) → prefix_len (λ x. true) xs ≡ length xs
prefix_len-never [] = refl
prefix_len-never (x ∷ xs) = rw (prefix_len-never xs) (omega arith)

not_below_itself : (n : ℕ) → nat_lt n n ≡ false
not_below_itself n = grind arith

position-never : {A : Type 0} (xs : List A) → position (λ x. false) xs ≡ None
position-never xs = rw (prefix_len-never xs, not_below_itself (length xs))

-- the single value with this name among a table's outputs
pub position-single : (name : List ℕ) (t : Table) → position (is_single_of name) (seen_of t) ≡ position (λ o. gives_one t.hit && bytes_eq o.name name) t.outputs
position-single name t = position-map (seen_output t.hit) (is_single_of name) t.outputs

-- a table that lists values has no single value; otherwise, it is the first output with the name
pub position-listed : (name : List ℕ) (t : Table) → gives_one t.hit ≡ false → None ≡ position (is_single_of name) (seen_of t)
position-listed name t list = rw (position-single name t, list) (sym (position-never t.outputs))

pub position-given : (name : List ℕ) (t : Table) → gives_one t.hit ≡ true → position (λ o. bytes_eq o.name name) t.outputs ≡ position (is_single_of name) (seen_of t)
position-given name t one = rw (position-single name t, one)

-- the kind that later tables see in a list is the declared kind
pub read_kind_of-listed : (hit : Hit) (kind : Kind) → gives_one hit ≡ false → read_kind_of hit kind ≡ kind
read_kind_of-listed hits.U kind list = refl
read_kind_of-listed hits.A kind list = refl
read_kind_of-listed hits.P kind list = refl
read_kind_of-listed hits.F kind list = refl
read_kind_of-listed hits.O kind list = refl
read_kind_of-listed hits.R kind list = refl
read_kind_of-listed hits.C kind list = refl
read_kind_of-listed hits.Sum kind list = refl
read_kind_of-listed hits.Min kind list = refl
read_kind_of-listed hits.Max kind list = refl
read_kind_of-listed hits.Count kind list = cc

-- the output lists texts and has the name
abbrev pub lists_text_as : List ℕ → SeenOutput → Bool
lists_text_as name o = bytes_eq o.name name && (not o.is_single && same_kind kinds.Text o.kind)

pub texts-listed : (name : List ℕ) (hit : Hit) (os : List Output) → gives_one hit ≡ false
    → list_any (λ o. bytes_eq o.name name && same_kind kinds.Text o.kind) os ≡ list_any (lists_text_as name) (map (seen_output hit) os)
texts-listed name hit [] list = refl
texts-listed name hit (o ∷ os) list = rw (list, read_kind_of-listed hit o.kind list, texts-listed name hit os list)

and_false : (b : Bool) → (b && false) ≡ false
and_false true = refl
and_false false = refl

pub texts-given : (name : List ℕ) (hit : Hit) (os : List Output) → gives_one hit ≡ true → false ≡ list_any (lists_text_as name) (map (seen_output hit) os)
texts-given name hit [] one = refl
texts-given name hit (o ∷ os) one = rw (one, and_false (bytes_eq o.name name)) (texts-given name hit os one)
