-- Steps of the loops: the function of a list, extended by one item.
use Rattle.std.proofs.Common.{◌≡◌, ℕ, ◌+◌, ◌*◌, ◌<◌, ◌≤◌, ℤ, pos, neg_ℤ, ◌≤ℤ◌, true, false, cond, int_lt, arith, List, [], ◌∷◌, ◌++◌, length, get_or, take, fold, append-nil, Option, Some, None, refl, ap, ◌∙◌}
use Rattle.std.specs.List.{filter_map, reduce, cons_option}
use Rattle.std.specs.Option.{option_to_list, IfSome}
use Rattle.std.specs.Int.RustNames.{unsigned_abs}
use Rattle.std.proofs.lemmas.Int.{ints}
use Rattle.fixpoint.specs.Number.{IsInRange, greatest_units}
use Rattle.std.proofs.lemmas.List.{take_more, map-append}
use Rattle.std.proofs.lemmas.List.Elements.{filter_map-append}
use Rattle.std.proofs.lemmas.List.Sums.{fold-append}
use Rattle.feel_tests.specs.declared.value.Value.{Value}
use Rattle.std.specs.Int.{int_min, int_max}
use Rattle.tables.specs.declared.environment.Answer.TheVariants.{One}
use Rattle.tables.specs.declared.evaluation.numbers.Aggregator.{Aggregator}
use Rattle.tables.specs.declared.evaluation.numbers.Aggregator.TheVariants.{Sum, Min, Max}
use Rattle.tables.specs.HitPolicy.{combine, join_of, ones}

-- a list after a push is the expected list with one more item
pub pushed_more : {A : Type 0} (before after wanted next : List A) (item made : A) → after ≡ before ++ item ∷ [] → before ≡ wanted → item ≡ made
    → next ≡ wanted ++ made ∷ [] → after ≡ next
pushed_more before after wanted next item made pushed so_far is step = cc

-- `filter_map` of a list of one item
filter_map-one : {X Y : Type 0} (h : X → Option Y) (x : X) → filter_map h (x ∷ []) ≡ option_to_list (h x)
filter_map-one h x = elim (h x) as (λ o. cons_option o [] ≡ option_to_list o) [ None ↦ refl | Some y ↦ refl ]

pub filter_map_more : {X Y : Type 0} (h : X → Option Y) (xs : List X) (i : ℕ) (d : X) → i < length xs
    → filter_map h (take (i + 1) xs) ≡ filter_map h (take i xs) ++ option_to_list (h (get_or xs i d))
filter_map_more h xs i d below =
    ap (filter_map h) (take_more xs i d below) ∙ filter_map-append h (take i xs) (get_or xs i d ∷ []) ∙ ap (λ ys. filter_map h (take i xs) ++ ys) (filter_map-one h (get_or xs i d))

-- the aggregate of a concatenation
reduce-more : (join : ℤ → ℤ → ℤ) (xs : List ℤ) (o : Option ℤ) → reduce join (xs ++ option_to_list o) ≡ combine join (reduce join xs) o
reduce-more join [] None = refl
reduce-more join [] (Some x) = refl
reduce-more join (x ∷ xs) None = ap (λ ys. Some (fold join x ys)) (append-nil xs)
reduce-more join (x ∷ xs) (Some y) = ap Some (fold-append join x xs (y ∷ []))

pub numbers_more : (join : ℤ → ℤ → ℤ) (h : ℕ → Option ℤ) (xs : List ℕ) (i : ℕ) (d : ℕ) → i < length xs
    → reduce join (filter_map h (take (i + 1) xs)) ≡ combine join (reduce join (filter_map h (take i xs))) (h (get_or xs i d))
numbers_more join h xs i d below =
    ap (reduce join) (filter_map_more h xs i d below) ∙ reduce-more join (filter_map h (take i xs)) (h (get_or xs i d))

-- an aggregate after one more number is the expected aggregate
pub joined_more : (join : ℤ → ℤ → ℤ) (before after wanted next one made : Option ℤ) → after ≡ combine join before one → before ≡ wanted → one ≡ made
    → next ≡ combine join wanted made → after ≡ next
joined_more join before after wanted next one made with_one so_far is step = cc

-- the values of the outputs, extended by one
pub ones_more : {X : Type 0} (h : X → Option Value) (xs : List X) (i : ℕ) (d : X) → i < length xs
    → ones (filter_map h (take (i + 1) xs)) ≡ ones (filter_map h (take i xs)) ++ ones (option_to_list (h (get_or xs i d)))
ones_more h xs i d below =
    ap ones (filter_map_more h xs i d below) ∙ map-append (λ v. One v) (filter_map h (take i xs)) (option_to_list (h (get_or xs i d)))

-- the units of a number lie between the bounds of its range
above_least : (m : ℕ) (units : ℤ) → unsigned_abs units ≤ m → neg_ℤ (pos m) ≤ℤ units
above_least m (ℤ.pos n) e = omega (arith, ints)
above_least m (ℤ.negsuc n) e = omega (arith, ints)

below_greatest : (m : ℕ) (units : ℤ) → unsigned_abs units ≤ m → units ≤ℤ pos m
below_greatest m (ℤ.pos n) e = omega (arith, ints)
below_greatest m (ℤ.negsuc n) e = omega (arith, ints)

-- the least of two numbers is one of them, and so is the greatest
least_of_two : (P : ℤ → Type 0) (x y : ℤ) → P x → P y → P (int_min x y)
least_of_two P x y at_x at_y = elim (int_lt y x) as (λ less. P (cond less y x)) [ true ↦ at_y | false ↦ at_x ]

greatest_of_two : (P : ℤ → Type 0) (x y : ℤ) → P x → P y → P (int_max x y)
greatest_of_two P x y at_x at_y = elim (int_lt y x) as (λ less. P (cond less x y)) [ true ↦ at_x | false ↦ at_y ]

-- an aggregate of n numbers is at most n times as far from zero as a number can be
joined_low : (a : Aggregator) (n : ℕ) (s u : ℤ) → neg_ℤ (pos (greatest_units * n)) ≤ℤ s → neg_ℤ (pos greatest_units) ≤ℤ u
    → neg_ℤ (pos (greatest_units * (n + 1))) ≤ℤ join_of a s u
joined_low Sum n s u low here = omega (arith, ints)
joined_low Min n s u low here = least_of_two (λ x. neg_ℤ (pos (greatest_units * (n + 1))) ≤ℤ x) s u (omega (arith, ints)) (omega (arith, ints))
joined_low Max n s u low here = greatest_of_two (λ x. neg_ℤ (pos (greatest_units * (n + 1))) ≤ℤ x) s u (omega (arith, ints)) (omega (arith, ints))

joined_high : (a : Aggregator) (n : ℕ) (s u : ℤ) → s ≤ℤ pos (greatest_units * n) → u ≤ℤ pos greatest_units
    → join_of a s u ≤ℤ pos (greatest_units * (n + 1))
joined_high Sum n s u high here = omega (arith, ints)
joined_high Min n s u high here = least_of_two (λ x. x ≤ℤ pos (greatest_units * (n + 1))) s u (omega (arith, ints)) (omega (arith, ints))
joined_high Max n s u high here = greatest_of_two (λ x. x ≤ℤ pos (greatest_units * (n + 1))) s u (omega (arith, ints)) (omega (arith, ints))

pub low_more : (a : Aggregator) (n : ℕ) (so_far units : Option ℤ) → IfSome so_far (λ s. neg_ℤ (pos (greatest_units * n)) ≤ℤ s) → IfSome units IsInRange
    → IfSome (combine (join_of a) so_far units) (λ s. neg_ℤ (pos (greatest_units * (n + 1))) ≤ℤ s)
low_more a n None None low range = tt
low_more a n None (Some u) low range = let here = above_least greatest_units u range in omega (arith, ints)
low_more a n (Some s) None low range = omega (arith, ints)
low_more a n (Some s) (Some u) low range = joined_low a n s u low (above_least greatest_units u range)

pub high_more : (a : Aggregator) (n : ℕ) (so_far units : Option ℤ) → IfSome so_far (λ s. s ≤ℤ pos (greatest_units * n)) → IfSome units IsInRange
    → IfSome (combine (join_of a) so_far units) (λ s. s ≤ℤ pos (greatest_units * (n + 1)))
high_more a n None None high range = tt
high_more a n None (Some u) high range = let here = below_greatest greatest_units u range in omega (arith, ints)
high_more a n (Some s) None high range = omega (arith, ints)
high_more a n (Some s) (Some u) high range = joined_high a n s u high (below_greatest greatest_units u range)
