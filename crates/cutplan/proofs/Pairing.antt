-- The pairs of rules, extended one by one.
use Rattle.std.proofs.Common.{◌≡◌, ℕ, suc, ◌+◌, ◌-◌, ◌<◌, ◌≤◌, ◌&&◌, Bool, true, false, cond, List, [], ◌∷◌, ◌++◌, length, get_or, take, map, filter, refl, ap, sym, ◌∙◌, append-nil, add-one, arith}
use Rattle.std.specs.List.{flat_map, list_all, range_with_len, enumerate_from}
use Rattle.std.proofs.lemmas.List.{take_more}
use Rattle.std.proofs.lemmas.List.Concat.{flat_map-append}
use Rattle.std.proofs.lemmas.List.Elements.{filter_agree}
use Rattle.std.proofs.lemmas.List.Folds.{list_all-append}
use Rattle.tables.specs.declared.table.Table.{Table}
use Rattle.regions.specs.declared.region.Region.{Region}
use Rattle.cutplan.specs.Check.{meet, meet_in, pairs_with}
use Rattle.std.proofs.lemmas.List.{length-take-le}
use Rattle.std.proofs.lemmas.List.FromFn.{map-range_with_len_more}
use Rattle.cutplan.proofs.Steps.{range_more}

and_true : (b : Bool) → (b && true) ≡ b
and_true true = refl
and_true false = refl

-- the pairs, extended by one smaller rule
pub pairs_more : (n first : ℕ) → flat_map (pairs_with n) (range_with_len 1 (first + 1)) ≡ flat_map (pairs_with n) (range_with_len 1 first) ++ pairs_with n (first + 1)
pairs_more n first =
    let here : 1 + first ≡ first + 1 = omega arith in
    ap (λ k. flat_map (pairs_with n) (range_with_len 1 k)) (add-one first)
    ∙ ap (flat_map (pairs_with n)) (range_more 1 first ∙ ap (λ k. range_with_len 1 first ++ k ∷ []) here)
    ∙ flat_map-append (pairs_with n) (range_with_len 1 first) ((first + 1) ∷ [])
    ∙ ap (λ last. flat_map (pairs_with n) (range_with_len 1 first) ++ last) (append-nil (pairs_with n (first + 1)))

-- numbered columns, extended by one column
enumerate_push : (k : ℕ) (columns : List (List Region)) (last : List Region) → enumerate_from k (columns ++ last ∷ []) ≡ enumerate_from k columns ++ (k + length columns, last) ∷ []
enumerate_push k [] last = let here : k ≡ k + 0 = omega arith in ap (λ n. (n, last) ∷ []) here
enumerate_push k (c ∷ cs) last =
    let here : (k + 1) + length cs ≡ k + suc (length cs) = omega arith in
    ap (λ rest. (k, c) ∷ rest) (enumerate_push (k + 1) cs last ∙ ap (λ n. enumerate_from (k + 1) cs ++ (n, last) ∷ []) here)

-- the pairs of one smaller rule, extended by one larger rule
pub pair_more : (first second : ℕ) → first + 1 ≤ second
    → map {B = ℕ × ℕ} (λ s. (first + 1, s)) (range_with_len (first + 1 + 1) (second + 1 - (first + 1)))
    ≡ map {B = ℕ × ℕ} (λ s. (first + 1, s)) (range_with_len (first + 1 + 1) (second - (first + 1))) ++ (first + 1, second + 1) ∷ []
pair_more first second below =
    let put = λ (s : ℕ). let pair : ℕ × ℕ = (first + 1, s) in pair in
    let n = second - (first + 1) in
    let longer : second + 1 - (first + 1) ≡ n + 1 = omega (arith, below) in
    let last : (first + 1 + 1) + n ≡ second + 1 = omega (arith, below) in
    ap (λ k. map put (range_with_len (first + 1 + 1) k)) longer
    ∙ map-range_with_len_more put (first + 1 + 1) n (second + 1) last

-- whether two rules meet, extended by one column
pub meet_more : (columns : List (List Region)) (t : Table) (first second i : ℕ) (item : List Region) → i < length columns → item ≡ get_or columns i item
    → meet (take (i + 1) columns) t first second ≡ (meet (take i columns) t first second && meet_in t first second i item)
meet_more columns t first second i item below present =
    let test = λ (c : ℕ × List Region). meet_in t first second c.0 c.1 in
    let place : 0 + length (take i columns) ≡ i = let long = length-take-le i columns (omega (arith, below)) in omega (arith, long) in
    ap (λ front. list_all test (enumerate_from 0 front)) (take_more columns i item below ∙ ap (λ x. take i columns ++ x ∷ []) (sym present))
    ∙ ap (list_all test) (enumerate_push 0 (take i columns) item ∙ ap (λ k. enumerate_from 0 (take i columns) ++ (k, item) ∷ []) place)
    ∙ list_all-append test (enumerate_from 0 (take i columns)) ((i, item) ∷ [])
    ∙ ap (λ last. meet (take i columns) t first second && last) (and_true (meet_in t first second i item))

-- all pairs meet if there are no columns
pub all_meet : (t : Table) (pairs : List (ℕ × ℕ)) → pairs ≡ filter (λ pair. meet [] t (pair.0 - 1) (pair.1 - 1)) pairs
all_meet t [] = refl
all_meet t (pair ∷ pairs) = ap (λ rest. pair ∷ rest) (all_meet t pairs)

-- two filters, one after the other, are one filter by both tests
pub both_kept : {X : Type 0} (p q : X → Bool) (xs : List X) → filter q (filter p xs) ≡ filter (λ x. p x && q x) xs
both_kept p q [] = refl
both_kept p q (x ∷ xs) =
    elim (p x) as (λ b. filter q (cond b (x ∷ filter p xs) (filter p xs)) ≡ cond (b && q x) (x ∷ filter (λ y. p y && q y) xs) (filter (λ y. p y && q y) xs)) [
      | true ↦ ap (λ rest. cond (q x) (x ∷ rest) rest) (both_kept p q xs)
      | false ↦ both_kept p q xs
    ]

-- the pairs that meet, extended by one column
pub meeting_more : (columns : List (List Region)) (t : Table) (i : ℕ) (item : List Region) (pairs : List (ℕ × ℕ)) → i < length columns → item ≡ get_or columns i item
    → filter (λ pair. meet_in t (pair.0 - 1) (pair.1 - 1) i item) (filter (λ pair. meet (take i columns) t (pair.0 - 1) (pair.1 - 1)) pairs)
    ≡ filter (λ pair. meet (take (i + 1) columns) t (pair.0 - 1) (pair.1 - 1)) pairs
meeting_more columns t i item pairs below present =
    both_kept (λ (pair : ℕ × ℕ). meet (take i columns) t (pair.0 - 1) (pair.1 - 1)) (λ pair. meet_in t (pair.0 - 1) (pair.1 - 1) i item) pairs
    ∙ filter_agree (λ (pair : ℕ × ℕ). meet (take i columns) t (pair.0 - 1) (pair.1 - 1) && meet_in t (pair.0 - 1) (pair.1 - 1) i item) (λ pair. meet (take (i + 1) columns) t (pair.0 - 1) (pair.1 - 1))
    (λ pair. sym (meet_more columns t (pair.0 - 1) (pair.1 - 1) i item below present)) pairs
