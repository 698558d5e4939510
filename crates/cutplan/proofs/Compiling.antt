-- Compilation one step at a time: regions, columns, tables. Each compiled part has the index of its
-- source.
use Rattle.std.proofs.Common.{◌≡◌, ℕ, zero, suc, ◌+◌, ◌-◌, ◌<◌, ◌≤◌, List, [], ◌∷◌, ◌++◌, length, get_or, take, map, Option, Some, None, refl, ap, sym, ◌∙◌, subst, arith}
use Rattle.std.specs.List.{All, AllZip, enumerate_from, slice_get}
use Rattle.std.specs.Option.{OnSome, option_map_or}
use Rattle.std.proofs.lemmas.List.{map-append, take_all, take_more}
use Rattle.std.proofs.lemmas.List.FromFn.{length-enumerate_from, get_or-enumerate_from}
use Rattle.std.proofs.lemmas.Option.{none-some, same_Some}
use Rattle.feel_tests.specs.declared.cell.Cell.{Cell}
use Rattle.tables.specs.declared.table.Input.{Input}
use Rattle.tables.specs.declared.table.Table.{Table}
use Rattle.tables.specs.Plan.{PlanParts, IsPlan}
use Rattle.cutplan.specs.declared.compiled_column.CompiledColumn.{CompiledColumn}
use Rattle.regions.specs.declared.region.Region.{Region}
use Rattle.cutplan.specs.CheckSteps.{holds_among, AreMasksBy}
use Rattle.cutplan.specs.Masks.{Marks, IsColumnNumber}
use Rattle.cutplan.specs.CompiledColumns.{regions_kept, AreColumnsOf, AreCompiledColumns, AreMasked, IsCut, IsCompiledColumn}
use Rattle.regions.specs.Regions.{column_of, columns_from, regions, table_regions}

all_push : {X Y : Type 0} (R : X → Y → Type 0) (xs : List X) (ys : List Y) (x : X) (y : Y) → AllZip R xs ys → R x y → AllZip R (xs ++ x ∷ []) (ys ++ y ∷ [])
all_push R [] [] x y all r = (r, tt)
all_push R [] (w ∷ ws) x y all r = absurd all
all_push R (z ∷ zs) [] x y all r = absurd all
all_push R (z ∷ zs) (w ∷ ws) x y all r = (all.0, all_push R zs ws x y all.1 r)

pub all_long : {X Y : Type 0} (R : X → Y → Type 0) (xs : List X) (ys : List Y) → AllZip R xs ys → length xs ≡ length ys
all_long R [] [] all = refl
all_long R [] (w ∷ ws) all = absurd all
all_long R (z ∷ zs) [] all = absurd all
all_long R (z ∷ zs) (w ∷ ws) all = ap suc (all_long R zs ws all.1)

-- two related lists, each extended by one element
pub one_more : {X Y : Type 0} (R : X → Y → Type 0) (xs : List X) (ys new : List Y) (i : ℕ) (x : X) (y : Y) → i < length xs → x ≡ get_or xs i x → AllZip R (take i xs) ys → R x y → new ≡ ys ++ y ∷ [] → AllZip R (take (i + 1) xs) new
one_more R xs ys new i x y below is all r pushed =
    let front = take_more xs i x below ∙ ap (λ z. take i xs ++ z ∷ []) (sym is) in
    subst (λ zs. AllZip R (take (i + 1) xs) zs) (sym pushed) (subst (λ zs. AllZip R zs (ys ++ y ∷ [])) (sym front) (all_push R (take i xs) ys x y all r))

-- the masks, extended by one region
pub more_regions : (cells : List (Option Cell)) (regions : List Region) (masks new : List (List ℕ)) (i : ℕ) (region : Region) (mask : List ℕ) → i < length regions → region ≡ get_or regions i region
    → AreMasksBy cells (take i regions) masks → Marks (holds_among cells region) mask → new ≡ masks ++ mask ∷ [] → AreMasksBy cells (take (i + 1) regions) new
more_regions cells regions masks new i region mask below is all marks pushed =
    one_more (λ region mask. Marks (holds_among cells region) mask) regions masks new i region mask below is all marks pushed

abbrev pub at_number : {X : Type 0} → ℕ → X → ℕ × X
at_number n x = (n, x)

-- a column with its index
pub placed_column : {X : Type 0} (xs : List X) (i : ℕ) (x : X) → i < length xs → x ≡ get_or xs i x → at_number i x ≡ get_or (enumerate_from 0 xs) i (at_number i x)
placed_column xs i x below is =
    let zero_more : 0 + i ≡ i = omega arith in
    sym (get_or-enumerate_from 0 xs i (at_number i x) below ∙ ap (λ n. at_number n (get_or xs i x)) zero_more ∙ ap (at_number i) (sym is))

-- the compiled columns of the first inputs of a table
abbrev pub AreFirstKept : PlanParts → Table → ℕ → List CompiledColumn → Type 0
AreFirstKept p t i kept = AllZip (λ (input : ℕ × Input) (column : CompiledColumn). IsCompiledColumn p t input.0 input.1 column) (take i (enumerate_from 0 t.inputs)) kept

-- the compiled columns, extended by one input
pub more_kept : (p : PlanParts) (t : Table) (inputs : List Input) (kept new : List CompiledColumn) (i : ℕ) (input : Input) (column : CompiledColumn) → inputs ≡ t.inputs → i < length inputs → input ≡ get_or inputs i input
    → AreFirstKept p t i kept → IsCompiledColumn p t i input column → new ≡ kept ++ column ∷ [] → AreFirstKept p t (i + 1) new
more_kept p t inputs kept new i input column same below is all here pushed =
    let within : i < length t.inputs = subst (λ xs. i < length xs) same below in
    let present : input ≡ get_or t.inputs i input = subst (λ xs. input ≡ get_or xs i input) same is in
    one_more (λ (input : ℕ × Input) (column : CompiledColumn). IsCompiledColumn p t input.0 input.1 column) (enumerate_from 0 t.inputs) kept new i (at_number i input) column
    (subst (λ n. i < n) (sym (length-enumerate_from 0 t.inputs)) within) (placed_column t.inputs i input within present) all here pushed

-- the compiled columns of all inputs of a table
pub all_kept : (p : PlanParts) (t : Table) (inputs : List Input) (i : ℕ) (kept : List CompiledColumn) → inputs ≡ t.inputs → length inputs ≤ i → AreFirstKept p t i kept → AreCompiledColumns p t kept
all_kept p t inputs i kept same last all =
    let long = length-enumerate_from 0 t.inputs in
    let end : length t.inputs ≤ i = subst (λ xs. length xs ≤ i) same last in
    subst (λ is. AllZip (λ (input : ℕ × Input) (column : CompiledColumn). IsCompiledColumn p t input.0 input.1 column) is kept) (take_all i (enumerate_from 0 t.inputs) (omega (arith, long, end))) all

-- the compiled tables, extended by one table
pub more_tables : (p : PlanParts) (tables : List Table) (kept new : List (List CompiledColumn)) (i : ℕ) (t : Table) (columns : List CompiledColumn) → i < length tables → t ≡ get_or tables i t
    → AllZip (AreCompiledColumns p) (take i tables) kept → AreCompiledColumns p t columns → new ≡ kept ++ columns ∷ [] → AllZip (AreCompiledColumns p) (take (i + 1) tables) new
more_tables p tables kept new i t columns below is all here pushed = one_more (AreCompiledColumns p) tables kept new i t columns below is all here pushed

-- a mapped list, extended by one element
pub more_mapped : {X Y : Type 0} (f : X → Y) (xs : List X) (ys new : List Y) (i : ℕ) (x : X) (y : Y) → i < length xs → x ≡ get_or xs i x → ys ≡ map f (take i xs) → y ≡ f x → new ≡ ys ++ y ∷ [] → new ≡ map f (take (i + 1) xs)
more_mapped f xs ys new i x y below is all at pushed =
    pushed ∙ ap (λ zs. zs ++ y ∷ []) all ∙ ap (λ z. map f (take i xs) ++ z ∷ []) at ∙ sym (map-append f (take i xs) (x ∷ []))
    ∙ ap (map f) (sym (take_more xs i x below ∙ ap (λ z. take i xs ++ z ∷ []) (sym is)))

-- an element of one list has a related element at the same index of the other list
other_at : {X Y : Type 0} (R : X → Y → Type 0) (xs : List X) (ys : List Y) (i : ℕ) (x : X) (y : Y) → AllZip R xs ys → slice_get xs i ≡ Some x → y ≡ get_or ys i y → R x y
other_at R [] ys i x y all at is = absurd (none-some x at)
other_at R (z ∷ zs) [] i x y all at is = absurd all
other_at R (z ∷ zs) (w ∷ ws) zero x y all at is = subst (λ a. R a y) (same_Some z x at) (subst (λ b. R z b) (sym is) all.0)
other_at R (z ∷ zs) (w ∷ ws) (suc i) x y all at is = other_at R zs ws i x y all.1 at is

-- each index within a list has an element
pub at_place : {X : Type 0} (xs : List X) (n : ℕ) → n < length xs → (x : X) × (slice_get xs n ≡ Some x)
at_place [] n below = absurd (omega (arith, below))
at_place (y ∷ ys) zero below = (y, refl)
at_place (y ∷ ys) (suc n) below = at_place ys n (omega (arith, below))

-- the table of this number has no more rules than a mask has bits
abbrev pub HasFewRules : PlanParts → ℕ → Type 0
HasFewRules p table = option_map_or (λ t. length t.rules) (slice_get p.tables (table - 1)) 0 ≤ 256

few_at : (tables : List Table) (k : ℕ) → All (λ t. length t.rules ≤ 256) tables → option_map_or (λ t. length t.rules) (slice_get tables k) 0 ≤ 256
few_at [] k all = omega arith
few_at (t ∷ ts) zero all = all 0 t (omega arith)
few_at (t ∷ ts) (suc k) all = few_at ts k (λ i d below. all (suc i) d (omega (arith, below)))

pub has_few : (p : PlanParts) (number : ℕ) → All (λ t. length t.rules ≤ 256) p.tables → HasFewRules p number
has_few p number all = few_at p.tables (number - 1) all

pub rule_count_of : (tables : List Table) (k : ℕ) (t : Table) → All (λ t. length t.rules ≤ 256) tables → slice_get tables k ≡ Some t → length t.rules ≤ 256
rule_count_of tables k t all at = subst (λ found. option_map_or (λ x. length x.rules) found 0 ≤ 256) at (few_at tables k all)

-- a proposition that holds anyway also holds for the content of an option
pub on_some : {X : Type 0} (o : Option X) (P : Type 0) → P → OnSome o P
on_some (Some x) P holds = holds
on_some None P holds = tt

-- no table of a plan has more rules than a mask has bits
pub few_rules : (p : PlanParts) → IsPlan p → All (λ t. length t.rules ≤ 256) p.tables
few_rules p plan k d below = (plan.limits.each_table k d below).rules

-- the compiled columns of a plan
pub cut_of : (p : PlanParts) (kept : List (List CompiledColumn)) → AllZip (AreCompiledColumns p) p.tables kept → IsPlan p → IsCut p kept
cut_of p kept columns plan = record { columns = columns; few = few_rules p plan }

-- the compiled columns of a table exist at its index
pub table_within : (p : PlanParts) (kept : List (List CompiledColumn)) (number : ℕ) → AllZip (AreCompiledColumns p) p.tables kept → 1 ≤ number → number ≤ length p.tables → number - 1 < length kept
table_within p kept number all low high =
    let long = all_long (AreCompiledColumns p) p.tables kept all in
    omega (arith, long, low, high)

-- the compiled columns at the index of a table are those of the table
pub table_kept : (p : PlanParts) (kept : List (List CompiledColumn)) (place : ℕ) (columns : List CompiledColumn) (t : Table) → AllZip (AreCompiledColumns p) p.tables kept → columns ≡ get_or kept place columns
    → slice_get p.tables place ≡ Some t → AreCompiledColumns p t columns
table_kept p kept place columns t all is at = other_at (AreCompiledColumns p) p.tables kept place t columns all at is

-- the element at an index, with its number
pub numbered_at : {X : Type 0} (n : ℕ) (xs : List X) (i : ℕ) (x : X) → slice_get xs i ≡ Some x → slice_get (enumerate_from n xs) i ≡ Some (at_number (n + i) x)
numbered_at n [] i x at = absurd (none-some x at)
numbered_at n (y ∷ ys) zero x at =
    let here : n ≡ n + 0 = omega arith in
    ap (λ z. Some (at_number n z)) (same_Some y x at) ∙ ap (λ k. Some (at_number k x)) here
numbered_at n (y ∷ ys) (suc i) x at =
    let there : (n + 1) + i ≡ n + suc i = omega arith in
    numbered_at (n + 1) ys i x at ∙ ap (λ k. Some (at_number k x)) there

-- a table has as many compiled columns as inputs
pub kept_long : (p : PlanParts) (t : Table) (kept : List CompiledColumn) → AreCompiledColumns p t kept → length t.inputs ≡ length kept
kept_long p t kept all = sym (length-enumerate_from 0 t.inputs) ∙ all_long (λ (input : ℕ × Input) (column : CompiledColumn). IsCompiledColumn p t input.0 input.1 column) (enumerate_from 0 t.inputs) kept all

-- the compiled column at the index of an input is that of the input
pub column_kept : (p : PlanParts) (t : Table) (kept : List CompiledColumn) (i : ℕ) (input : Input) (column : CompiledColumn) → AreCompiledColumns p t kept → slice_get t.inputs i ≡ Some input → column ≡ get_or kept i column
    → IsCompiledColumn p t i input column
column_kept p t kept i input column all at is =
    let zero_more : 0 + i ≡ i = omega arith in
    other_at (λ (input : ℕ × Input) (column : CompiledColumn). IsCompiledColumn p t input.0 input.1 column) (enumerate_from 0 t.inputs) kept i (at_number i input) column all
    (numbered_at 0 t.inputs i input at ∙ ap (λ n. Some (at_number n input)) zero_more) is

-- a column number has a compiled column
pub column_within : (p : PlanParts) (number column : ℕ) (t : Table) (kept : List CompiledColumn) → AreCompiledColumns p t kept → slice_get p.tables (number - 1) ≡ Some t → IsColumnNumber p number column → column - 1 < length kept
column_within p number column t kept all at place =
    let long = kept_long p t kept all in
    let first = place.0 in
    let last : column ≤ length t.inputs = subst (λ found. column ≤ option_map_or (λ x. length x.inputs) found 0) at place.1 in
    omega (arith, long, first, last)

-- compiled columns have the masks of their regions, which are the regions of the table
record AreOfTable (p : PlanParts) (t : Table) (n : ℕ) (inputs : List Input) (kept : List CompiledColumn) : Type 0 where
  masked : AreMasked t n kept
  regions_are : regions_kept kept ≡ map regions (columns_from p t n inputs)

of_table : (p : PlanParts) (t : Table) (n : ℕ) (inputs : List Input) (kept : List CompiledColumn) → AllZip (λ (input : ℕ × Input) (column : CompiledColumn). IsCompiledColumn p t input.0 input.1 column) (enumerate_from n inputs) kept
    → AreOfTable p t n inputs kept
of_table p t n [] [] all = record { masked = tt; regions_are = refl }
of_table p t n [] (k ∷ ks) all = absurd all
of_table p t n (i ∷ is) [] all = absurd all
of_table p t n (i ∷ is) (k ∷ ks) all =
    let more = of_table p t (n + 1) is ks all.1 in
    record {
      masked = (all.0.masks, more.masked);
      regions_are = ap (λ rs. rs ∷ regions_kept ks) all.0.partition.listed ∙ ap (λ rest. regions (column_of p t n i) ∷ rest) more.regions_are;
    }

pub kept_masked : (p : PlanParts) (t : Table) (kept : List CompiledColumn) → AreCompiledColumns p t kept → AreMasked t 0 kept
kept_masked p t kept all = (of_table p t 0 t.inputs kept all).masked

pub kept_regions : (p : PlanParts) (t : Table) (kept : List CompiledColumn) → AreCompiledColumns p t kept → regions_kept kept ≡ table_regions p t
kept_regions p t kept all = (of_table p t 0 t.inputs kept all).regions_are

-- the compiled columns of the table of a number
pub columns_of_number : (p : PlanParts) (kept : List (List CompiledColumn)) (number : ℕ) (columns : List CompiledColumn) → AllZip (AreCompiledColumns p) p.tables kept → columns ≡ get_or kept (number - 1) columns → AreColumnsOf p number columns
columns_of_number p kept number columns all is t at = table_kept p kept (number - 1) columns t all is at
