-- The places of the names of two plans among their joint names.
use Rattle.std.proofs.Common.{◌≡◌, ℕ, zero, suc, ◌+◌, ◌<◌, inl, inr, ◌||◌, Bool, true, false, not, cond, nat_lt, List, [], ◌∷◌, length, map, Option, Some, None, refl, ap, sym, ◌∙◌, subst, arith, eqb-true, ltb-true, lt-ltb}
use Rattle.std.specs.Prelude.{position}
use Rattle.std.specs.List.{AllByRecursion, flat_map, position_or_len, range_with_len, slice_get}
use Rattle.std.specs.Option.{option_map_or}
use Rattle.std.proofs.lemmas.Bool.{both_ways}
use Rattle.std.proofs.lemmas.Option.{none-some, same_Some, slice_get_within}
use Rattle.feel_tests.specs.declared.kind.Kind.{Kind}
use Rattle.feel_tests.specs.declared.kind.Kind.TheVariants as kinds
use Rattle.tables.specs.Inputs.{needs}
use Rattle.tables.specs.Plan.{same_kind}
use Rattle.cutplan.specs.InputClasses.{name_kind, name_literals}
use Rattle.cutplan.proofs.Alike.{Among, among_left, among_right}
use Rattle.plan_zones.specs.declared.joint.JointName.{JointName}
use Rattle.plan_zones.specs.Joint.{ArePlaced, TwoPlans, has_one_kind, is_at, is_narrowed, name_text, narrowing_literals, place_of_new, place_of_old}
use Rattle.plan_zones.specs.Changes.{first_of_two_kinds}
use Rattle.plan_zones.proofs.JointLists.{first_or, rest_of}
use Rattle.plan_checks.proofs.Projecting.{Projects, Standing}

-- what is found passes the test
found_there : {X : Type 0} (p : X → Bool) (xs : List X) (k : ℕ) → position_or_len p xs ≡ k → k < length xs → (x : X) × (slice_get xs k ≡ Some x) × (p x ≡ true)
found_there p [] k is below = absurd (omega (arith, below))
found_there {X} p (x ∷ xs) zero is below =
    elim (p x) as (λ b. p x ≡ b → cond (not b) (1 + position_or_len p xs) 0 ≡ 0 → (y : X) × (slice_get (x ∷ xs) 0 ≡ Some y) × (p y ≡ true)) [
      | true ↦ λ e first. (x, refl, e)
      | false ↦ λ e later. absurd (omega (arith, later))
    ] refl is
found_there {X} p (x ∷ xs) (suc i) is below =
    elim (p x) as (λ b. p x ≡ b → cond (not b) (1 + position_or_len p xs) 0 ≡ suc i → (y : X) × (slice_get (x ∷ xs) (suc i) ≡ Some y) × (p y ≡ true)) [
      | true ↦ λ e first. absurd (omega (arith, first))
      | false ↦ λ e later. found_there p xs i (omega (arith, later)) (omega (arith, below))
    ] refl is

pub position_there : {X : Type 0} (p : X → Bool) (xs : List X) (k : ℕ) → position p xs ≡ Some k → (x : X) × (slice_get xs k ≡ Some x) × (p x ≡ true)
position_there {X} p xs k is =
    let n = position_or_len p xs in
    elim (nat_lt n (length xs)) as (λ b. nat_lt n (length xs) ≡ b → cond b (Some n) None ≡ Some k → (x : X) × (slice_get xs k ≡ Some x) × (p x ≡ true)) [
      | true ↦ λ less e. (let same = same_Some n k e in found_there p xs k same (subst (λ i. i < length xs) same (ltb-true n (length xs) less)))
      | false ↦ λ less e. absurd (none-some k e)
    ] refl is

-- what passes the test is found
passes_below : {X : Type 0} (p : X → Bool) (xs : List X) (x : X) → Among x xs → p x ≡ true → position_or_len p xs < length xs
passes_below p [] x at passes = absurd at
passes_below p (y ∷ ys) x at passes =
    elim (p y) as (λ b. p y ≡ b → cond (not b) (1 + position_or_len p ys) 0 < length (y ∷ ys)) [
      | true ↦ λ e. omega arith
      | false ↦ λ e. elim at [
        | inl same ↦ absurd (both_ways (p x) (ap p (sym same) ∙ e) passes)
        | inr more ↦ (let rest = passes_below p ys x more passes in omega (arith, rest))
      ]
    ] refl

-- if none is found, none passes
pub none_passes : {X : Type 0} (p : X → Bool) (xs : List X) (x : X) → position p xs ≡ None → Among x xs → p x ≡ true → ⊥
none_passes p xs x none at passes =
    let below = passes_below p xs x at passes in
    let less = lt-ltb (position_or_len p xs) (length xs) below in
    none-some (position_or_len p xs) (sym none ∙ ap (λ b. cond b (Some (position_or_len p xs)) None) less)

-- the names are at their places
placed_from : (f : ℕ → Option ℕ) (a count : ℕ) (places : List ℕ) → map (λ place. Some place) places ≡ map f (range_with_len a count) → (i place : ℕ) → slice_get places i ≡ Some place → f (a + i) ≡ Some place
placed_from f a count [] e i place at = absurd (none-some place at)
placed_from f a zero (p ∷ ps) e i place at = absurd (cc)
placed_from f a (suc n) (p ∷ ps) e zero place at =
    let head : Some p ≡ f a = ap (first_or (f a)) e in
    let same : a + 0 ≡ a = omega arith in
    ap f same ∙ sym head ∙ at
placed_from f a (suc n) (p ∷ ps) e (suc i) place at =
    let same : a + suc i ≡ (a + 1) + i = omega arith in
    ap f same ∙ placed_from f (a + 1) n ps (ap rest_of e) i place at

placed_at : (f : ℕ → Option ℕ) (count : ℕ) (places : List ℕ) → map (λ place. Some place) places ≡ map f (range_with_len 0 count) → (i place : ℕ) → slice_get places i ≡ Some place → f i ≡ Some place
placed_at f count places e i place at =
    let same : i ≡ 0 + i = omega arith in
    ap f same ∙ placed_from f 0 count places e i place at

reached_from : (f : ℕ → Option ℕ) (a count : ℕ) (places : List ℕ) → map (λ place. Some place) places ≡ map f (range_with_len a count) → (i : ℕ) → i < count → (place : ℕ) × (slice_get places i ≡ Some place)
reached_from f a zero places e i below = absurd (omega (arith, below))
reached_from f a (suc n) [] e i below = absurd (cc)
reached_from f a (suc n) (p ∷ ps) e zero below = (p, refl)
reached_from f a (suc n) (p ∷ ps) e (suc i) below = reached_from f (a + 1) n ps (ap rest_of e) i (omega (arith, below))

all_got : (P : ℕ → Type 0) (ns : List ℕ) → ((i n : ℕ) → slice_get ns i ≡ Some n → P n) → AllByRecursion P ns
all_got P [] f = tt
all_got P (n ∷ ns) f = (f 0 n refl, all_got P ns (λ i m at. f (suc i) m at))

is_there : (found : Option ℕ) (own : ℕ) → is_at found own ≡ true → found ≡ Some own
is_there None own e = absurd (both_ways false refl e)
is_there (Some place) own e = ap (λ n. Some n) (eqb-true place own e)

kinds_same : (one other : Kind) → same_kind one other ≡ true → one ≡ other
kinds_same kinds.Number kinds.Number e = refl
kinds_same kinds.Text kinds.Text e = refl
kinds_same kinds.Flag kinds.Flag e = refl
kinds_same kinds.Day kinds.Day e = refl
kinds_same kinds.Number kinds.Text e = absurd (both_ways false refl e)
kinds_same kinds.Number kinds.Flag e = absurd (both_ways false refl e)
kinds_same kinds.Number kinds.Day e = absurd (both_ways false refl e)
kinds_same kinds.Text kinds.Number e = absurd (both_ways false refl e)
kinds_same kinds.Text kinds.Flag e = absurd (both_ways false refl e)
kinds_same kinds.Text kinds.Day e = absurd (both_ways false refl e)
kinds_same kinds.Flag kinds.Number e = absurd (both_ways false refl e)
kinds_same kinds.Flag kinds.Text e = absurd (both_ways false refl e)
kinds_same kinds.Flag kinds.Day e = absurd (both_ways false refl e)
kinds_same kinds.Day kinds.Number e = absurd (both_ways false refl e)
kinds_same kinds.Day kinds.Text e = absurd (both_ways false refl e)
kinds_same kinds.Day kinds.Flag e = absurd (both_ways false refl e)

or_middle : (one other : Bool) → ((one || true) || other) ≡ true
or_middle true other = refl
or_middle false other = refl

true_or_not : (b : Bool) → (not b ≡ true → ⊥) → b ≡ true
true_or_not true never = refl
true_or_not false never = absurd (never refl)

module _ (plans : TwoPlans) (names : List JointName) (places : List ℕ) where
  -- a name of the old plan has its kind in both plans, if there is one kind
  kind_of_old : (one other : Option ℕ) (i : ℕ) → one ≡ Some i
      → option_map_or (λ j. option_map_or (λ k. same_kind (name_kind plans.old j) (name_kind plans.new k)) other true) one true ≡ true
      → option_map_or (name_kind plans.new) other (option_map_or (name_kind plans.old) one kinds.Number) ≡ name_kind plans.old i
  kind_of_old None other i is alike = absurd (none-some i is)
  kind_of_old (Some j) None i is alike = ap (name_kind plans.old) (same_Some j i is)
  kind_of_old (Some j) (Some k) i is alike = sym (kinds_same (name_kind plans.old j) (name_kind plans.new k) alike) ∙ ap (name_kind plans.old) (same_Some j i is)

  standing_old : (own place : ℕ) → place_of_old names own ≡ Some place → Standing names (λ n. n.old) place own
  standing_old own place found =
      let there = position_there (λ n. is_at n.old own) names place found in
      record { name = there.0; at = there.1; is = is_there there.0.old own there.2 }

  standing_new : (own place : ℕ) → place_of_new names own ≡ Some place → Standing names (λ n. n.new) place own
  standing_new own place found =
      let there = position_there (λ n. is_at n.new own) names place found in
      record { name = there.0; at = there.1; is = is_there there.0.new own there.2 }

  pub projects_old : ArePlaced (place_of_old names) (length plans.old.names) places → first_of_two_kinds plans.old plans.new names ≡ None → Projects plans names (λ n. n.old) plans.old places
  projects_old are none =
      let standing = λ (i place : ℕ) (at : slice_get places i ≡ Some place). standing_old i place (placed_at (place_of_old names) (length plans.old.names) places are i place at) in
      record {
        within = all_got (λ place. place < length names) places (λ i place at. (let own = standing i place at in slice_get_within names place own.name own.at));
        placed = standing;
        reached = reached_from (place_of_old names) 0 (length plans.old.names) places are;
        kinds = λ n i at is.
            let alike = true_or_not (has_one_kind plans.old plans.new n) (none_passes (λ m. not (has_one_kind plans.old plans.new m)) names n none at) in
            kind_of_old n.old n.new i is alike;
        read = λ n i is needed.
            ap (λ o. (option_map_or (needs plans.old.tables) o false || option_map_or (needs plans.new.tables) n.new false) || is_narrowed plans.narrowed (name_text plans n)) is
            ∙ ap (λ b. (b || option_map_or (needs plans.new.tables) n.new false) || is_narrowed plans.narrowed (name_text plans n)) needed;
        named = λ n i l is at.
            among_left l (option_map_or (name_literals plans.old.tables) n.old []) _ (subst (λ o. Among l (option_map_or (name_literals plans.old.tables) o [])) (sym is) at);
      }

  pub projects_new : ArePlaced (place_of_new names) (length plans.new.names) places → Projects plans names (λ n. n.new) plans.new places
  projects_new are =
      let standing = λ (i place : ℕ) (at : slice_get places i ≡ Some place). standing_new i place (placed_at (place_of_new names) (length plans.new.names) places are i place at) in
      record {
        within = all_got (λ place. place < length names) places (λ i place at. (let own = standing i place at in slice_get_within names place own.name own.at));
        placed = standing;
        reached = reached_from (place_of_new names) 0 (length plans.new.names) places are;
        kinds = λ n i at is. ap (λ o. option_map_or (name_kind plans.new) o (option_map_or (name_kind plans.old) n.old kinds.Number)) is;
        read = λ n i is needed.
            ap (λ o. (option_map_or (needs plans.old.tables) n.old false || option_map_or (needs plans.new.tables) o false) || is_narrowed plans.narrowed (name_text plans n)) is
            ∙ ap (λ b. (option_map_or (needs plans.old.tables) n.old false || b) || is_narrowed plans.narrowed (name_text plans n)) needed
            ∙ or_middle (option_map_or (needs plans.old.tables) n.old false) (is_narrowed plans.narrowed (name_text plans n));
        named = λ n i l is at.
            among_right l (option_map_or (name_literals plans.old.tables) n.old []) _
            (among_left l (option_map_or (name_literals plans.new.tables) n.new []) (flat_map (narrowing_literals (name_text plans n)) plans.narrowed)
            (subst (λ o. Among l (option_map_or (name_literals plans.new.tables) o [])) (sym is) at));
      }
