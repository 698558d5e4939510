-- No literal of a column separates two values of one region.
use Rattle.std.proofs.Common.{◌≡◌, ℕ, ℤ, ◌⊎◌, inl, inr, Bool, true, false, cond, List, [], ◌∷◌, ◌++◌, map, filter, refl, ap, sym, ◌∙◌, subst}
use Rattle.std.specs.List.{list_any}
use Rattle.std.proofs.lemmas.Bool.{both_ways, not-true, or_parts}
use Rattle.feel_tests.specs.Holds.{is_equal}
use Rattle.feel_tests.specs.declared.kind.Kind.{Kind}
use Rattle.feel_tests.specs.declared.kind.Kind.TheVariants as kinds
use Rattle.feel_tests.specs.declared.value.Value.{Value}
use Rattle.feel_tests.specs.declared.value.Value.TheVariants.{Number, Text, Flag, Day}
use Rattle.regions.specs.declared.region.Region.{Region}
use Rattle.regions.specs.declared.region.Region.TheVariants.{At, Other}
use Rattle.tables.specs.Plan.{has_kind}
use Rattle.regions.specs.Values.{sort_values}
use Rattle.regions.specs.Regions.{stretches, regions_of_order, regions_of_names, is_in}
use Rattle.cutplan.proofs.Alike.{Each, Among, each_at, Alike, Apart, alike_apart, alike_same, alike_number, alike_day}
use Rattle.cutplan.proofs.Ordered.{Ranked, OneSide, sides}
use Rattle.cutplan.proofs.CutLists.{Placed, RisingCuts, rising_cuts, Made, fold_has, equal_same}

pub numbers : Ranked Number
numbers = record { less = λ a b. refl; equal = λ a b. refl }

pub days : Ranked Day
days = record { less = λ a b. refl; equal = λ a b. refl }

numbers_placed : Placed Number
numbers_placed = record { before = λ a b. refl; equal = λ a b. refl }

days_placed : Placed Day
days_placed = record { before = λ a b. refl; equal = λ a b. refl }

-- values of a kind
pub number_is : (v : Value) → has_kind kinds.Number v ≡ true → Made Number v
number_is (Number a) e = (a, refl)
number_is (Text a) e = absurd (both_ways false refl e)
number_is (Flag a) e = absurd (both_ways false refl e)
number_is (Day a) e = absurd (both_ways false refl e)

pub day_is : (v : Value) → has_kind kinds.Day v ≡ true → Made Day v
day_is (Number a) e = absurd (both_ways false refl e)
day_is (Text a) e = absurd (both_ways false refl e)
day_is (Flag a) e = absurd (both_ways false refl e)
day_is (Day a) e = (a, refl)

pub text_is : (v : Value) → has_kind kinds.Text v ≡ true → (t : List ℕ) × (v ≡ Text t)
text_is (Number a) e = absurd (both_ways false refl e)
text_is (Text a) e = (a, refl)
text_is (Flag a) e = absurd (both_ways false refl e)
text_is (Day a) e = absurd (both_ways false refl e)

pub flag_is : (v : Value) → has_kind kinds.Flag v ≡ true → (b : Bool) × (v ≡ Flag b)
flag_is (Number a) e = absurd (both_ways false refl e)
flag_is (Text a) e = absurd (both_ways false refl e)
flag_is (Flag a) e = (a, refl)
flag_is (Day a) e = absurd (both_ways false refl e)

each_filter : (p : Value → Bool) (P : Value → Type 0) → ((x : Value) → p x ≡ true → P x) → (xs : List Value) → Each P (filter p xs)
each_filter p P f [] = tt
each_filter p P f (x ∷ xs) =
    elim (p x) as (λ b. p x ≡ b → Each P (cond b (x ∷ filter p xs) (filter p xs))) [
      | true ↦ λ e. (f x e, each_filter p P f xs)
      | false ↦ λ e. each_filter p P f xs
    ] refl

among_filter : (p : Value → Bool) (x : Value) (xs : List Value) → Among x xs → p x ≡ true → Among x (filter p xs)
among_filter p x [] at e = absurd at
among_filter p x (y ∷ ys) (inl same) e =
    let here : p y ≡ true = ap p same ∙ e in
    subst (λ b. Among x (cond b (y ∷ filter p ys) (filter p ys))) (sym here) (inl same)
among_filter p x (y ∷ ys) (inr at) e =
    elim (p y) as (λ b. Among x (cond b (y ∷ filter p ys) (filter p ys))) [
      | true ↦ inr (among_filter p x ys at e)
      | false ↦ among_filter p x ys at e
    ]

-- a literal that is a value of the kind is a cut
pub cut_of : (kind : Kind) (lits : List Value) (l : Value) → Among l lits → has_kind kind l ≡ true → Among l (sort_values (filter (has_kind kind) lits))
cut_of kind lits l at e = fold_has [] (filter (has_kind kind) lits) l (among_filter (has_kind kind) l lits at e)

pub number_cuts : (lits : List Value) → RisingCuts Number (sort_values (filter (has_kind kinds.Number) lits))
number_cuts lits = rising_cuts numbers_placed (filter (has_kind kinds.Number) lits) (each_filter (has_kind kinds.Number) (Made Number) number_is lits)

pub day_cuts : (lits : List Value) → RisingCuts Day (sort_values (filter (has_kind kinds.Day) lits))
day_cuts lits = rising_cuts days_placed (filter (has_kind kinds.Day) lits) (each_filter (has_kind kinds.Day) (Made Day) day_is lits)

-- no test of a literal of another kind holds for a value
pub number_text : (a : ℤ) (t : List ℕ) → Apart (Number a) (Text t)
number_text a t = record { equal = refl; less = refl; more = refl; at_most = refl; at_least = refl }

pub number_flag : (a : ℤ) (b : Bool) → Apart (Number a) (Flag b)
number_flag a b = record { equal = refl; less = refl; more = refl; at_most = refl; at_least = refl }

pub number_day : (a d : ℤ) → Apart (Number a) (Day d)
number_day a d = record { equal = refl; less = refl; more = refl; at_most = refl; at_least = refl }

pub day_text : (a : ℤ) (t : List ℕ) → Apart (Day a) (Text t)
day_text a t = record { equal = refl; less = refl; more = refl; at_most = refl; at_least = refl }

pub day_flag : (a : ℤ) (b : Bool) → Apart (Day a) (Flag b)
day_flag a b = record { equal = refl; less = refl; more = refl; at_most = refl; at_least = refl }

pub day_number : (a d : ℤ) → Apart (Day a) (Number d)
day_number a d = record { equal = refl; less = refl; more = refl; at_most = refl; at_least = refl }

pub text_number : (t : List ℕ) (a : ℤ) → Apart (Text t) (Number a)
text_number t a = record { equal = refl; less = refl; more = refl; at_most = refl; at_least = refl }

pub text_flag : (t : List ℕ) (b : Bool) → Apart (Text t) (Flag b)
text_flag t b = record { equal = refl; less = refl; more = refl; at_most = refl; at_least = refl }

pub text_day : (t : List ℕ) (d : ℤ) → Apart (Text t) (Day d)
text_day t d = record { equal = refl; less = refl; more = refl; at_most = refl; at_least = refl }

pub text_text : (t u : List ℕ) → is_equal (Text t) (Text u) ≡ false → Apart (Text t) (Text u)
text_text t u e = record { equal = e; less = refl; more = refl; at_most = refl; at_least = refl }

pub flag_number : (b : Bool) (a : ℤ) → Apart (Flag b) (Number a)
flag_number b a = record { equal = refl; less = refl; more = refl; at_most = refl; at_least = refl }

pub flag_text : (b : Bool) (t : List ℕ) → Apart (Flag b) (Text t)
flag_text b t = record { equal = refl; less = refl; more = refl; at_most = refl; at_least = refl }

pub flag_day : (b : Bool) (d : ℤ) → Apart (Flag b) (Day d)
flag_day b d = record { equal = refl; less = refl; more = refl; at_most = refl; at_least = refl }

number_among : (c : ℤ) (zs : List ℤ) → Among (Number c) (map Number zs) → Among c zs
number_among c [] at = absurd at
number_among c (z ∷ zs) (inl e) = (let same : z ≡ c = cc in inl same)
number_among c (z ∷ zs) (inr at) = inr (number_among c zs at)

-- numbers of one region and a literal
number_alike : (lits : List Value) (r : Region) → Among r (regions_of_order (sort_values (filter (has_kind kinds.Number) lits))) → (a b : ℤ)
    → is_in r (Number a) ≡ true → is_in r (Number b) ≡ true
    → (l : Value) → Among l lits → Alike (Number a) (Number b) l
number_alike lits r at a b in_a in_b (Text t) l_at = alike_apart (number_text a t) (number_text b t)
number_alike lits r at a b in_a in_b (Flag f) l_at = alike_apart (number_flag a f) (number_flag b f)
number_alike lits r at a b in_a in_b (Day d) l_at = alike_apart (number_day a d) (number_day b d)
number_alike lits r at a b in_a in_b (Number c) l_at =
    let cuts = number_cuts lits in
    let cut : Among (Number c) (map Number cuts.numbers) = subst (λ cs. Among (Number c) cs) cuts.made (cut_of kinds.Number lits (Number c) l_at refl) in
    let region : Among r (regions_of_order (map Number cuts.numbers)) = subst (λ cs. Among r (regions_of_order cs)) cuts.made at in
    alike_number a b c (each_at (OneSide Number c) (regions_of_order (map Number cuts.numbers)) r (sides numbers cuts.numbers c cuts.rising (number_among c cuts.numbers cut)) region a b in_a in_b)

day_among : (c : ℤ) (zs : List ℤ) → Among (Day c) (map Day zs) → Among c zs
day_among c [] at = absurd at
day_among c (z ∷ zs) (inl e) = (let same : z ≡ c = cc in inl same)
day_among c (z ∷ zs) (inr at) = inr (day_among c zs at)

-- days of one region and a literal
day_alike : (lits : List Value) (r : Region) → Among r (regions_of_order (sort_values (filter (has_kind kinds.Day) lits))) → (a b : ℤ)
    → is_in r (Day a) ≡ true → is_in r (Day b) ≡ true
    → (l : Value) → Among l lits → Alike (Day a) (Day b) l
day_alike lits r at a b in_a in_b (Number c) l_at = alike_apart (day_number a c) (day_number b c)
day_alike lits r at a b in_a in_b (Text t) l_at = alike_apart (day_text a t) (day_text b t)
day_alike lits r at a b in_a in_b (Flag f) l_at = alike_apart (day_flag a f) (day_flag b f)
day_alike lits r at a b in_a in_b (Day c) l_at =
    let cuts = day_cuts lits in
    let cut : Among (Day c) (map Day cuts.numbers) = subst (λ cs. Among (Day c) cs) cuts.made (cut_of kinds.Day lits (Day c) l_at refl) in
    let region : Among r (regions_of_order (map Day cuts.numbers)) = subst (λ cs. Among r (regions_of_order cs)) cuts.made at in
    alike_day a b c (each_at (OneSide Day c) (regions_of_order (map Day cuts.numbers)) r (sides days cuts.numbers c cuts.rising (day_among c cuts.numbers cut)) region a b in_a in_b)

-- no test of a literal holds for a text that is not named
not_named : (t : List ℕ) (names : List Value) (l : Value) → list_any (λ name. is_equal (Text t) name) names ≡ false → Among l names → is_equal (Text t) l ≡ false
not_named t [] l out at = absurd at
not_named t (name ∷ names) l out (inl e) = ap (λ x. is_equal (Text t) x) (sym e) ∙ (or_parts (is_equal (Text t) name) (list_any (λ x. is_equal (Text t) x) names) out).0
not_named t (name ∷ names) l out (inr at) = not_named t names l (or_parts (is_equal (Text t) name) (list_any (λ x. is_equal (Text t) x) names) out).1 at

-- no test of a literal of the column holds for a text in the region of other texts
pub unnamed_apart : (lits : List Value) (t : List ℕ) → list_any (λ name. is_equal (Text t) name) (sort_values (filter (has_kind kinds.Text) lits)) ≡ false → (l : Value) → Among l lits → Apart (Text t) l
unnamed_apart lits t out (Number c) at = text_number t c
unnamed_apart lits t out (Flag f) at = text_flag t f
unnamed_apart lits t out (Day d) at = text_day t d
unnamed_apart lits t out (Text u) at = text_text t u (not_named t (sort_values (filter (has_kind kinds.Text) lits)) (Text u) out (cut_of kinds.Text lits (Text u) at refl))

-- a region of a single value
at_alike : (u v w l : Value) → is_equal v u ≡ true → is_equal w u ≡ true → Alike v w l
at_alike u v w l in_v in_w = alike_same v w l (equal_same v u in_v ∙ sym (equal_same w u in_w))

pub among_split : {X : Type 0} (x : X) (xs ys : List X) → Among x (xs ++ ys) → Among x xs ⊎ Among x ys
among_split x [] ys at = inr at
among_split x (z ∷ zs) ys (inl e) = inl (inl e)
among_split x (z ∷ zs) ys (inr at) = elim (among_split x zs ys at) [ inl here ↦ inl (inr here) | inr there ↦ inr there ]

pub among_at : (r : Region) (cs : List Value) → Among r (map At cs) → (u : Value) × (At u ≡ r)
among_at r [] at = absurd at
among_at r (c ∷ cs) (inl e) = (c, e)
among_at r (c ∷ cs) (inr at) = among_at r cs at

-- texts of one region and a literal
text_alike : (lits cuts : List Value) → cuts ≡ sort_values (filter (has_kind kinds.Text) lits) → (r : Region) → Among r (regions_of_names cuts) → (t u : List ℕ)
    → is_in r (Text t) ≡ true → is_in r (Text u) ≡ true → (l : Value) → Among l lits → Alike (Text t) (Text u) l
text_alike lits [] cuts_are r at t u in_t in_u l l_at =
    let none = λ (x : List ℕ). ap (λ cs. list_any (λ name. is_equal (Text x) name) cs) (sym cuts_are) in
    alike_apart (unnamed_apart lits t (none t) l l_at) (unnamed_apart lits u (none u) l l_at)
text_alike lits (c ∷ cs) cuts_are r at t u in_t in_u l l_at =
    elim (among_split r (map At (c ∷ cs)) (Other (c ∷ cs) ∷ []) at) [
      | inl one ↦
          (let regions_of_names = among_at r (c ∷ cs) one in
          at_alike regions_of_names.0 (Text t) (Text u) l (subst (λ x. is_in x (Text t) ≡ true) (sym regions_of_names.1) in_t) (subst (λ x. is_in x (Text u) ≡ true) (sym regions_of_names.1) in_u))
      | inr rest ↦
          (elim rest [
            | inl e ↦
                (let out = λ (x : List ℕ) (in_x : is_in r (Text x) ≡ true).
                ap (λ names. list_any (λ name. is_equal (Text x) name) names) (sym cuts_are) ∙ not-true (list_any (λ name. is_equal (Text x) name) (c ∷ cs)) (subst (λ y. is_in y (Text x) ≡ true) (sym e) in_x) in
                alike_apart (unnamed_apart lits t (out t in_t) l l_at) (unnamed_apart lits u (out u in_u) l l_at))
            | inr none ↦ absurd none
          ])
    ]

-- values of one region of a column and a literal of the column
pub region_alike : (kind : Kind) (lits : List Value) (r : Region) → Among r (stretches kind (sort_values (filter (has_kind kind) lits))) → (v w : Value)
    → has_kind kind v ≡ true → has_kind kind w ≡ true → is_in r v ≡ true → is_in r w ≡ true → (l : Value) → Among l lits → Alike v w l
region_alike kinds.Number lits r at v w value_v value_w in_v in_w l l_at =
    let a = number_is v value_v in
    let b = number_is w value_w in
    subst (λ x. Alike x w l) (sym a.1) (subst (λ y. Alike (Number a.0) y l) (sym b.1)
    (number_alike lits r at a.0 b.0 (subst (λ x. is_in r x ≡ true) a.1 in_v) (subst (λ x. is_in r x ≡ true) b.1 in_w) l l_at))
region_alike kinds.Day lits r at v w value_v value_w in_v in_w l l_at =
    let a = day_is v value_v in
    let b = day_is w value_w in
    subst (λ x. Alike x w l) (sym a.1) (subst (λ y. Alike (Day a.0) y l) (sym b.1)
    (day_alike lits r at a.0 b.0 (subst (λ x. is_in r x ≡ true) a.1 in_v) (subst (λ x. is_in r x ≡ true) b.1 in_w) l l_at))
region_alike kinds.Text lits r at v w value_v value_w in_v in_w l l_at =
    let a = text_is v value_v in
    let b = text_is w value_w in
    subst (λ x. Alike x w l) (sym a.1) (subst (λ y. Alike (Text a.0) y l) (sym b.1)
    (text_alike lits (sort_values (filter (has_kind kinds.Text) lits)) refl r at a.0 b.0 (subst (λ x. is_in r x ≡ true) a.1 in_v) (subst (λ x. is_in r x ≡ true) b.1 in_w) l l_at))
region_alike kinds.Flag lits r (inl e) v w value_v value_w in_v in_w l l_at =
    at_alike (Flag false) v w l (subst (λ x. is_in x v ≡ true) (sym e) in_v) (subst (λ x. is_in x w ≡ true) (sym e) in_w)
region_alike kinds.Flag lits r (inr (inl e)) v w value_v value_w in_v in_w l l_at =
    at_alike (Flag true) v w l (subst (λ x. is_in x v ≡ true) (sym e) in_v) (subst (λ x. is_in x w ≡ true) (sym e) in_w)
region_alike kinds.Flag lits r (inr (inr none)) v w value_v value_w in_v in_w l l_at = absurd none
