-- A pair of rules shares an allowed tuple if and only if it is listed.
use Rattle.std.proofs.Common.{◌≡◌, ℕ, zero, suc, ◌+◌, ◌-◌, ◌≤◌, ◌<◌, inl, inr, ◌&&◌, ◌||◌, Bool, true, false, cond, List, [], ◌∷◌, length, get_or, drop, map, filter, Option, Some, None, Contains, refl, ap, sym, ◌∙◌, subst, add-one, arith}
use Rattle.std.specs.List.{flat_map, list_any, list_all, range_with_len, enumerate_from, slice_get}
use Rattle.std.specs.Option.{option_map_or}
use Rattle.std.proofs.lemmas.Bool.{both_ways, and_parts, and_from, cases_lt}
use Rattle.feel_tests.specs.Holds.{holds}
use Rattle.feel_tests.specs.declared.cell.Cell.{Cell}
use Rattle.feel_tests.specs.declared.value.Value.{Value}
use Rattle.tables.specs.declared.table.Input.{Input}
use Rattle.tables.specs.declared.table.Rule.{Rule}
use Rattle.tables.specs.declared.table.Table.{Table}
use Rattle.tables.specs.Plan.{PlanParts}
use Rattle.regions.specs.declared.region.Region.{Region}
use Rattle.regions.specs.Regions.{columns_from, column_of, regions, is_allowed, is_in, holds_in, table_regions}
use Rattle.cutplan.specs.Check.{is_allowed_tuple, fits, rule_cells, holds_at, meet, meet_in, overlaps, pairs, pairs_with}
use Rattle.cutplan.specs.Laws.{ReportsOverlaps}
use Rattle.cutplan.proofs.Alike.{Among, among_left, among_right}
use Rattle.cutplan.proofs.ColumnWise.{among_contained}
use Rattle.cutplan.proofs.Parting.{part_of_column}
use Rattle.cutplan.proofs.GapLists.{found_once, fits_from, fits_none, asks_alike}
use Rattle.cutplan.proofs.Holding.{allowed_holder, among_passes}

-- the rule's cell in a column holds for a value; a missing cell holds for every value
abbrev asks_of : Table → ℕ → ℕ → Value → Bool
asks_of t place column v = option_map_or (λ c. holds c v) (slice_get (rule_cells t place) column) true

-- the element at an index does not depend on the default for shorter lists
pub at_or : {X : Type 0} (xs : List X) (i : ℕ) (d : X) → i < length xs → slice_get xs i ≡ Some (get_or xs i d)
at_or [] i d below = absurd (omega (arith, below))
at_or (x ∷ xs) zero d below = refl
at_or (x ∷ xs) (suc i) d below = at_or xs i d (omega (arith, below))

-- the element at an index is in the list
pub among_place : {X : Type 0} (xs : List X) (n : ℕ) (x : X) → slice_get xs n ≡ Some x → Among x xs
among_place [] n x e = absurd cc
among_place (y ∷ ys) zero x e = (let same : y ≡ x = cc in inl same)
among_place (y ∷ ys) (suc n) x e = inr (among_place ys n x e)

-- a rule's cell holds in a region as for each value there
holds_alike_at : (p : PlanParts) (t : Table) (k : ℕ) (i : Input) (place : ℕ) (r : Region) (v : Value) → Among r (regions (column_of p t k i)) → is_allowed (column_of p t k i) v ≡ true → is_in r v ≡ true → holds_at t place k r ≡ asks_of t place k v
holds_alike_at p t k i place r v at allowed inside = by_rule (slice_get t.rules place) refl where
  by_rule : (found : Option Rule) → slice_get t.rules place ≡ found → option_map_or (λ c. holds_in c r) (slice_get (option_map_or (λ x. x.cells) found []) k) true ≡ option_map_or (λ c. holds c v) (slice_get (option_map_or (λ x. x.cells) found []) k) true
  by_rule None e = refl
  by_rule (Some rule) e = asks_alike p t k i rule r v (among_place t.rules place rule e) at allowed inside

-- a test that some element passes has such an element
pub any_from : {X : Type 0} (q : X → Bool) (xs : List X) → list_any q xs ≡ true → (x : X) × Among x xs × (q x ≡ true)
any_from q [] e = absurd (both_ways false refl e)
any_from q (x ∷ xs) e =
    elim (q x) as (λ b. q x ≡ b → (b || list_any q xs) ≡ true → (y : _) × Among y (x ∷ xs) × (q y ≡ true)) [
      | true ↦ λ here _. (x, inl refl, here)
      | false ↦ λ _ more. (let rest = any_from q xs more in (rest.0, inr rest.1, rest.2))
    ] refl e

pub any_at : {X : Type 0} (q : X → Bool) (xs : List X) (x : X) → Among x xs → q x ≡ true → list_any q xs ≡ true
any_at q [] x at e = absurd at
any_at q (y ∷ ys) x (inl same) e = ap (λ b. b || list_any q ys) (ap q same ∙ e)
any_at q (y ∷ ys) x (inr at) e =
    elim (q y) as (λ b. (b || list_any q ys) ≡ true) [
      | true ↦ refl
      | false ↦ any_at q ys x at e
    ]

-- an allowed tuple that two rules fit from a column on
record Shared (p : PlanParts) (t : Table) (k : ℕ) (inputs : List Input) (a b : ℕ) : Type 0 where
  tuple : List Value
  allowed : is_allowed_tuple (columns_from p t k inputs) tuple ≡ true
  first : fits (drop k (rule_cells t a)) tuple ≡ true
  second : fits (drop k (rule_cells t b)) tuple ≡ true

fits_more : (rule : List Cell) (k : ℕ) (v : Value) (vs : List Value) → option_map_or (λ c. holds c v) (slice_get rule k) true ≡ true → fits (drop (k + 1) rule) vs ≡ true → fits (drop k rule) (v ∷ vs) ≡ true
fits_more rule k v vs here rest =
    fits_from rule k v vs ∙ and_from (option_map_or (λ c. holds c v) (slice_get rule k) true) (fits (drop (suc k) rule) vs) here (ap (λ n. fits (drop n rule) vs) (sym (add-one k)) ∙ rest)

shared_from : (p : PlanParts) (t : Table) (a b k : ℕ) (inputs : List Input) → list_all (λ (c : ℕ × List Region). meet_in t a b c.0 c.1) (enumerate_from k (map regions (columns_from p t k inputs))) ≡ true → Shared p t k inputs a b
shared_from p t a b k [] e = record { tuple = []; allowed = refl; first = fits_none (drop k (rule_cells t a)); second = fits_none (drop k (rule_cells t b)) }
shared_from p t a b k (i ∷ is) e =
    let parts = and_parts (meet_in t a b k (regions (column_of p t k i))) (list_all (λ (c : ℕ × List Region). meet_in t a b c.0 c.1) (enumerate_from (k + 1) (map regions (columns_from p t (k + 1) is)))) e in
    let found = any_from (λ r. holds_at t a k r && holds_at t b k r) (regions (column_of p t k i)) parts.0 in
    let r = found.0 in
    let both = and_parts (holds_at t a k r) (holds_at t b k r) found.2 in
    let h = allowed_holder p t k i r found.1 in
    let rest = shared_from p t a b (k + 1) is parts.1 in
    record {
      tuple = h.held ∷ rest.tuple;
      allowed = and_from (is_allowed (column_of p t k i) h.held) (is_allowed_tuple (columns_from p t (k + 1) is) rest.tuple) h.allowed rest.allowed;
      first = fits_more (rule_cells t a) k h.held rest.tuple (sym (holds_alike_at p t k i a r h.held found.1 h.allowed h.inside) ∙ both.0) rest.first;
      second = fits_more (rule_cells t b) k h.held rest.tuple (sym (holds_alike_at p t k i b r h.held found.1 h.allowed h.inside) ∙ both.1) rest.second;
    }

fits_parts : (rule : List Cell) (k : ℕ) (v : Value) (vs : List Value) → fits (drop k rule) (v ∷ vs) ≡ true → (option_map_or (λ c. holds c v) (slice_get rule k) true ≡ true) × (fits (drop (k + 1) rule) vs ≡ true)
fits_parts rule k v vs e =
    let parts = and_parts (option_map_or (λ c. holds c v) (slice_get rule k) true) (fits (drop (suc k) rule) vs) (sym (fits_from rule k v vs) ∙ e) in
    (parts.0, ap (λ n. fits (drop n rule) vs) (add-one k) ∙ parts.1)

meets_by : (p : PlanParts) (t : Table) (a b k : ℕ) (inputs : List Input) (tuple : List Value) → is_allowed_tuple (columns_from p t k inputs) tuple ≡ true → fits (drop k (rule_cells t a)) tuple ≡ true → fits (drop k (rule_cells t b)) tuple ≡ true
    → list_all (λ (c : ℕ × List Region). meet_in t a b c.0 c.1) (enumerate_from k (map regions (columns_from p t k inputs))) ≡ true
meets_by p t a b k [] [] allowed first second = refl
meets_by p t a b k [] (v ∷ vs) allowed first second = absurd (both_ways false refl allowed)
meets_by p t a b k (i ∷ is) [] allowed first second = absurd (both_ways false refl allowed)
meets_by p t a b k (i ∷ is) (v ∷ vs) allowed first second =
    let parts = and_parts (is_allowed (column_of p t k i) v) (is_allowed_tuple (columns_from p t (k + 1) is) vs) allowed in
    let one = fits_parts (rule_cells t a) k v vs first in
    let two = fits_parts (rule_cells t b) k v vs second in
    let found = any_from (λ r. is_in r v) (regions (column_of p t k i)) (found_once (λ r. is_in r v) (regions (column_of p t k i)) (part_of_column p t k i v parts.0)) in
    let r = found.0 in
    let here = any_at (λ x. holds_at t a k x && holds_at t b k x) (regions (column_of p t k i)) r found.1
    (and_from (holds_at t a k r) (holds_at t b k r) (holds_alike_at p t k i a r v found.1 parts.0 found.2 ∙ one.0) (holds_alike_at p t k i b r v found.1 parts.0 found.2 ∙ two.0)) in
    and_from (meet_in t a b k (regions (column_of p t k i))) (list_all (λ (c : ℕ × List Region). meet_in t a b c.0 c.1) (enumerate_from (k + 1) (map regions (columns_from p t (k + 1) is)))) here
    (meets_by p t a b (k + 1) is vs parts.1 one.1 two.1)

-- each pair of rules, the smaller number first, is among the pairs
pub among_range : (a n x : ℕ) → a ≤ x → x < a + n → Among x (range_with_len a n)
among_range a zero x low high = absurd (omega (arith, low, high))
among_range a (suc n) x low high =
    elim (cases_lt a x) [
      | inl less ↦ inr (among_range (a + 1) n x (omega (arith, less)) (omega (arith, high)))
      | inr same ↦ (let e : a ≡ x = omega (arith, low, same) in inl e)
    ]

among_map : {X A : Type 0} (f : X → A) (xs : List X) (x : X) → Among x xs → Among (f x) (map f xs)
among_map f [] x at = absurd at
among_map f (y ∷ ys) x (inl e) = inl (ap f e)
among_map f (y ∷ ys) x (inr at) = inr (among_map f ys x at)

pub among_flat : {X A : Type 0} (f : X → List A) (xs : List X) (x : X) (y : A) → Among x xs → Among y (f x) → Among y (flat_map f xs)
among_flat f [] x y at inside = absurd at
among_flat f (z ∷ zs) x y (inl e) inside = among_left y (f z) (flat_map f zs) (subst (λ w. Among y (f w)) (sym e) inside)
among_flat f (z ∷ zs) x y (inr at) inside = among_right y (f z) (flat_map f zs) (among_flat f zs x y at inside)

abbrev paired : ℕ → ℕ → ℕ × ℕ
paired first second = (first, second)

among_pairs : (n first second : ℕ) → 1 ≤ first → first < second → second ≤ n → Among (first, second) (pairs n)
among_pairs n first second low less high =
    among_flat (pairs_with n) (range_with_len 1 n) first (paired first second) (among_range 1 n first low (omega (arith, less, high)))
    (among_map (paired first) (range_with_len (first + 1) (n - first)) second (among_range (first + 1) (n - first) second (omega (arith, less)) (omega (arith, less, high))))

pub among_kept : {X : Type 0} (q : X → Bool) (x : X) (xs : List X) → Among x xs → q x ≡ true → Among x (filter q xs)
among_kept q x [] at e = absurd at
among_kept q x (y ∷ ys) (inl same) e = subst (λ b. Among x (cond b (y ∷ filter q ys) (filter q ys))) (sym (ap q same ∙ e)) (inl same)
among_kept q x (y ∷ ys) (inr at) e =
    elim (q y) as (λ b. Among x (cond b (y ∷ filter q ys) (filter q ys))) [
      | true ↦ inr (among_kept q x ys at e)
      | false ↦ among_kept q x ys at e
    ]

pub contained_among : {X : Type 0} (xs : List X) (x : X) → Among x xs → Contains xs x
contained_among [] x at = absurd at
contained_among (y ∷ ys) x (inl e) = (0, omega arith, e)
contained_among (y ∷ ys) x (inr at) = let more = contained_among ys x at in (suc more.0, omega (arith, more.1), more.2)

pub reports_overlaps : (p : PlanParts) (t : Table) → ReportsOverlaps p t (overlaps p t)
reports_overlaps p t first second low less high =
    let test = λ (pair : ℕ × ℕ). meet (table_regions p t) t (pair.0 - 1) (pair.1 - 1) in (
      λ shared. contained_among (overlaps p t) (paired first second)
          (among_kept test (paired first second) (pairs (length t.rules)) (among_pairs (length t.rules) first second low less high)
          (meets_by p t (first - 1) (second - 1) 0 t.inputs shared.tuple shared.allowed shared.first shared.second)),
      λ found.
          let shared = shared_from p t (first - 1) (second - 1) 0 t.inputs (among_passes test (paired first second) (pairs (length t.rules)) (among_contained (overlaps p t) (paired first second) found)) in
          record { tuple = shared.tuple; allowed = shared.allowed; first = shared.first; second = shared.second },
    )
