-- The rules that share a region of every column, by masks.
use Rattle.std.proofs.Common.{◌≡◌, ℕ, zero, suc, ◌+◌, ◌-◌, ◌/◌, ◌%◌, ◌<◌, ◌≤◌, ◌&&◌, ◌||◌, Bool, true, false, cond, List, [], ◌∷◌, ◌++◌, length, get_or, take, map, filter, Some, refl, ap, sym, ◌∙◌, arith}
use Rattle.std.specs.Prelude.{bit_or, max, nat_lt, ◌==◌}
use Rattle.std.specs.Int.{bit_at}
use Rattle.std.specs.List.{flat_map, list_all, range_with_len, enumerate_from, slice_get}
use Rattle.std.proofs.lemmas.Bool.{lt-ltb}
use Rattle.std.proofs.lemmas.List.{take_more}
use Rattle.std.proofs.lemmas.List.Elements.{filter-append}
use Rattle.std.proofs.lemmas.Option.{same_Some}
use Rattle.std.proofs.lemmas.Nat.Bits.{bit_at_or, bit_at-lt}
use Rattle.tables.specs.declared.table.Table.{Table}
use Rattle.regions.specs.declared.region.Region.{Region}
use Rattle.cutplan.specs.Check.{holds_at, meet, meet_in, pairs, pairs_with}
use Rattle.cutplan.specs.declared.compiled_column.CompiledColumn.{CompiledColumn}
use Rattle.cutplan.specs.CompiledColumns.{masks_kept, regions_kept, AreMasked}
use Rattle.cutplan.specs.Masks.{has_rule, Marks, AreMasks}
use Rattle.cutplan.specs.CheckSteps.{share, share_all}
use Rattle.cutplan.proofs.MaskBits.{four}
use Rattle.cutplan.proofs.Pairing.{pairs_more, pair_more}

-- the greater of two bits
greatest_bit : (x y : ℕ) → x < 2 → y < 2 → (max x y == 1) ≡ ((x == 1) || (y == 1))
greatest_bit zero zero a b = refl
greatest_bit zero (suc zero) a b = refl
greatest_bit zero (suc (suc y)) a b = absurd (omega (arith, b))
greatest_bit (suc zero) zero a b = refl
greatest_bit (suc zero) (suc zero) a b = refl
greatest_bit (suc zero) (suc (suc y)) a b = absurd (omega (arith, b))
greatest_bit (suc (suc x)) y a b = absurd (omega (arith, a))

-- the union of two masks
pub joined : (a b new : List ℕ) (place : ℕ) → place < 256
    → new ≡ bit_or (get_or a 0 0) (get_or b 0 0) ∷ bit_or (get_or a 1 0) (get_or b 1 0) ∷ bit_or (get_or a 2 0) (get_or b 2 0) ∷ bit_or (get_or a 3 0) (get_or b 3 0) ∷ []
    → has_rule new place ≡ (has_rule a place || has_rule b place)
joined a b new place within is =
    let word : ℕ → ℕ = λ i. bit_or (get_or a i 0) (get_or b i 0) in
    let here : get_or new (place / 64) 0 ≡ word (place / 64) = ap (λ w. get_or w (place / 64) 0) is ∙ four word (place / 64) (omega arith) in
    let x = get_or a (place / 64) 0 in
    let y = get_or b (place / 64) 0 in
    ap (λ w. bit_at w (place % 64) == 1) here ∙ ap (λ n. n == 1) (bit_at_or x y (place % 64))
    ∙ greatest_bit (bit_at x (place % 64)) (bit_at y (place % 64)) (bit_at-lt x (place % 64)) (bit_at-lt y (place % 64))

or_false : (b : Bool) → (b || false) ≡ b
or_false true = refl
or_false false = refl

and_true : (b : Bool) → (b && true) ≡ b
and_true true = refl
and_true false = refl

and_all : (a b c : Bool) → ((a && b) && c) ≡ (a && (b && c))
and_all true b c = refl
and_all false b c = refl

-- without columns, every rule is shared
pub share_none : (rule : ℕ) (mask : List ℕ) → Marks (λ place. nat_lt place 256) mask → Marks (share_all [] rule) mask
share_none rule mask marks = record { words = marks.words; has = λ place within. marks.has place within ∙ lt-ltb place 256 within }

-- a pair of indices
abbrev pub pair_at : ℕ → ℕ → ℕ × ℕ
pair_at first second = (first, second)

-- the pairs of one smaller rule that pass a test, extended by one larger rule
pub pair_kept : (others : List ℕ) (first second : ℕ) → first + 1 ≤ second
    → filter (λ (pair : ℕ × ℕ). has_rule others (pair.1 - 1)) (map {B = ℕ × ℕ} (λ s. (first + 1, s)) (range_with_len (first + 1 + 1) (second + 1 - (first + 1))))
    ≡ filter (λ (pair : ℕ × ℕ). has_rule others (pair.1 - 1)) (map {B = ℕ × ℕ} (λ s. (first + 1, s)) (range_with_len (first + 1 + 1) (second - (first + 1)))) ++ cond (has_rule others second) (pair_at (first + 1) (second + 1) ∷ []) []
pair_kept others first second below =
    let test = λ (pair : ℕ × ℕ). has_rule others (pair.1 - 1) in
    let front = map {B = ℕ × ℕ} (λ s. (first + 1, s)) (range_with_len (first + 1 + 1) (second - (first + 1))) in
    let back : second + 1 - 1 ≡ second = omega arith in
    ap (filter test) (pair_more first second below) ∙ filter-append test front (pair_at (first + 1) (second + 1) ∷ [])
    ∙ ap (λ s. filter test front ++ cond (has_rule others s) (pair_at (first + 1) (second + 1) ∷ []) []) back

-- two tests that agree on the pairs of one smaller rule filter them alike
range_kept : (p q : ℕ × ℕ → Bool) (first a n : ℕ) → ((s : ℕ) → a ≤ s → s < a + n → p (first, s) ≡ q (first, s))
    → filter p (map {B = ℕ × ℕ} (λ s. (first, s)) (range_with_len a n)) ≡ filter q (map {B = ℕ × ℕ} (λ s. (first, s)) (range_with_len a n))
range_kept p q first a zero agree = refl
range_kept p q first a (suc n) agree =
    let rest = map {B = ℕ × ℕ} (λ s. (first, s)) (range_with_len (a + 1) n) in
    ap (λ b. cond b (pair_at first a ∷ filter p rest) (filter p rest)) (agree a (omega arith) (omega arith))
    ∙ ap (λ xs. cond (q (first, a)) (pair_at first a ∷ xs) xs) (range_kept p q first (a + 1) n (λ s low high. agree s (omega (arith, low)) (omega (arith, high))))

-- the pairs that pass, extended by one smaller rule
pub pairs_kept : (columns : List (List (List ℕ))) (count first : ℕ) (others : List ℕ) → first < count → count ≤ 256 → Marks (share_all columns first) others
    → filter (λ (pair : ℕ × ℕ). share_all columns (pair.0 - 1) (pair.1 - 1)) (flat_map (pairs_with count) (range_with_len 1 first)) ++ filter (λ (pair : ℕ × ℕ). has_rule others (pair.1 - 1)) (pairs_with count (first + 1))
    ≡ filter (λ (pair : ℕ × ℕ). share_all columns (pair.0 - 1) (pair.1 - 1)) (flat_map (pairs_with count) (range_with_len 1 (first + 1)))
pairs_kept columns count first others below few marks =
    let test = λ (pair : ℕ × ℕ). share_all columns (pair.0 - 1) (pair.1 - 1) in
    let front = flat_map (pairs_with count) (range_with_len 1 first) in
    let back : first + 1 - 1 ≡ first = omega arith in
    ap (λ last. filter test front ++ last)
    (range_kept (λ pair. has_rule others (pair.1 - 1)) test (first + 1) (first + 1 + 1) (count - (first + 1))
    (λ s low high. marks.has (s - 1) (omega (arith, low, high, few)) ∙ ap (λ k. share_all columns k (s - 1)) (sym back)))
    ∙ sym (filter-append test front (pairs_with count (first + 1))) ∙ ap (filter test) (sym (pairs_more count first))

-- two rules have a mask of a column in common if and only if both hold in one of its regions
shared_is : (t : Table) (first second column : ℕ) (regions : List Region) (masks : List (List ℕ)) → length t.rules ≤ 256 → first < length t.rules → second < length t.rules → AreMasks t column regions masks
    → share masks first second ≡ meet_in t first second column regions
shared_is t first second column [] [] few one other all = refl
shared_is t first second column [] (m ∷ ms) few one other all = absurd all
shared_is t first second column (r ∷ rs) [] few one other all = absurd all
shared_is t first second column (r ∷ rs) (m ∷ ms) few one other all =
    let a = all.0.has first (omega (arith, one, few)) ∙ ap (λ b. b && holds_at t first column r) (lt-ltb first (length t.rules) one) in
    let b = all.0.has second (omega (arith, other, few)) ∙ ap (λ b. b && holds_at t second column r) (lt-ltb second (length t.rules) other) in
    ap (λ x. (x && has_rule m second) || share ms first second) a ∙ ap (λ y. (holds_at t first column r && y) || share ms first second) b
    ∙ ap (λ rest. (holds_at t first column r && holds_at t second column r) || rest) (shared_is t first second column rs ms few one other all.1)

all_shared : (t : Table) (first second n : ℕ) (kept : List CompiledColumn) → length t.rules ≤ 256 → first < length t.rules → second < length t.rules → AreMasked t n kept
    → share_all (masks_kept kept) first second ≡ list_all (λ (c : ℕ × List Region). meet_in t first second c.0 c.1) (enumerate_from n (regions_kept kept))
all_shared t first second n [] few one other all = refl
all_shared t first second n (k ∷ ks) few one other all =
    ap (λ b. b && share_all (masks_kept ks) first second) (shared_is t first second n k.partition.regions.items k.masks few one other all.0)
    ∙ ap (λ b. meet_in t first second n k.partition.regions.items && b) (all_shared t first second (n + 1) ks few one other all.1)

-- two tests that agree on all pairs of rules filter them alike
each_kept : (p q : ℕ × ℕ → Bool) (n a k : ℕ) → 1 ≤ a → ((first second : ℕ) → 1 ≤ first → first < second → second ≤ n → p (first, second) ≡ q (first, second)) → a + k ≤ n + 1
    → filter p (flat_map (pairs_with n) (range_with_len a k)) ≡ filter q (flat_map (pairs_with n) (range_with_len a k))
each_kept p q n a zero low agree high = refl
each_kept p q n a (suc k) low agree high =
    let rest = flat_map (pairs_with n) (range_with_len (a + 1) k) in
    filter-append p (pairs_with n a) rest
    ∙ ap (λ front. front ++ filter p rest) (range_kept p q a (a + 1) (n - a) (λ s more less. agree a s low (omega (arith, more)) (omega (arith, less, high))))
    ∙ ap (λ last. filter q (pairs_with n a) ++ last) (each_kept p q n (a + 1) k (omega (arith, low)) agree (omega (arith, high)))
    ∙ sym (filter-append q (pairs_with n a) rest)

-- the pairs that have masks of all columns in common are those that meet
pub shared_meet : (t : Table) (kept : List CompiledColumn) → length t.rules ≤ 256 → AreMasked t 0 kept
    → filter (λ (pair : ℕ × ℕ). share_all (masks_kept kept) (pair.0 - 1) (pair.1 - 1)) (pairs (length t.rules)) ≡ filter (λ (pair : ℕ × ℕ). meet (regions_kept kept) t (pair.0 - 1) (pair.1 - 1)) (pairs (length t.rules))
shared_meet t kept few all =
    each_kept (λ (pair : ℕ × ℕ). share_all (masks_kept kept) (pair.0 - 1) (pair.1 - 1)) (λ (pair : ℕ × ℕ). meet (regions_kept kept) t (pair.0 - 1) (pair.1 - 1)) (length t.rules) 1 (length t.rules) (omega arith)
    (λ first second low less high. all_shared t (first - 1) (second - 1) 0 kept few (omega (arith, low, less, high)) (omega (arith, low, less, high)) all) (omega arith)

-- the rules that share masks of the first columns, extended by one column
share_push : (kept : List CompiledColumn) (last : CompiledColumn) (first second : ℕ) → share_all (masks_kept (kept ++ last ∷ [])) first second ≡ (share_all (masks_kept kept) first second && share last.masks first second)
share_push [] last first second = and_true (share last.masks first second)
share_push (k ∷ ks) last first second =
    ap (λ b. share k.masks first second && b) (share_push ks last first second) ∙ sym (and_all (share k.masks first second) (share_all (masks_kept ks) first second) (share last.masks first second))

pub share_more : (kept : List CompiledColumn) (i rule : ℕ) (column : CompiledColumn) (mask shared new : List ℕ) → i < length kept → column ≡ get_or kept i column
    → Marks (share_all (masks_kept (take i kept)) rule) mask → Marks (share column.masks rule) shared → length new ≡ 4
    → ((place : ℕ) → place < 256 → has_rule new place ≡ (has_rule mask place && has_rule shared place)) → Marks (share_all (masks_kept (take (i + 1) kept)) rule) new
share_more kept i rule column mask shared new below is marks here words has =
    let front : take (i + 1) kept ≡ take i kept ++ column ∷ [] = take_more kept i column below ∙ ap (λ c. take i kept ++ c ∷ []) (sym is) in
    record {
      words = words;
      has = λ place within.
          has place within ∙ ap (λ b. b && has_rule shared place) (marks.has place within) ∙ ap (λ b. share_all (masks_kept (take i kept)) rule place && b) (here.has place within)
          ∙ sym (ap (λ cs. share_all (masks_kept cs) rule place) front ∙ share_push (take i kept) column rule place);
    }

-- the element at an index, by either lookup
got : {X : Type 0} (xs : List X) (i : ℕ) (x : X) → slice_get xs i ≡ Some x → get_or xs i x ≡ x
got [] i x at = refl
got (y ∷ ys) zero x at = same_Some y x at
got (y ∷ ys) (suc i) x at = got ys i x at
