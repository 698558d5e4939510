-- The lists of regions, of literals and of places that are made for joint names.
use Rattle.std.proofs.Common.{◌≡◌, ℕ, ◌<◌, length, get_or, take, append-nil, None, ◌+◌, ◌&&◌, Bool, true, false, cond, List, [], ◌∷◌, ◌++◌, filter, map, Option, Some, refl, ap, sym, ◌∙◌}
use Rattle.std.specs.List.{fold, range_with_len, slice_get}
use Rattle.std.specs.Option.{option_to_list}
use Rattle.std.proofs.lemmas.List.{map-append}
use Rattle.feel_tests.specs.declared.kind.Kind.{Kind}
use Rattle.feel_tests.specs.declared.value.Value.{Value}
use Rattle.tables.specs.Plan.{has_kind}
use Rattle.tables.proofs.Steps.{filter_map_more}
use Rattle.regions.specs.declared.region.Region.{Region}
use Rattle.regions.specs.declared.region.Region.TheVariants.{Every}
use Rattle.cutplan.specs.CheckSteps.{with_literal}
use Rattle.cutplan.proofs.Sorting.{collected}
use Rattle.plan_zones.specs.declared.joint.JointName.{JointName}
use Rattle.plan_zones.specs.Amounts.{is_possible_region}
use Rattle.plan_zones.specs.Joint.{TwoPlans, by_places, is_joint_amount, is_joint_read, joint_kind, literals_by, meets_in, name_text, regions_of, regions_of_kind, regions_read}
use Rattle.plan_zones.proofs.Lists.{range_mapped}

-- the first item of a list, if there is one, and the others
abbrev pub first_or : {X : Type 0} → X → List X → X
first_or d [] = d
first_or d (x ∷ xs) = x

abbrev pub rest_of : {X : Type 0} → List X → List X
rest_of [] = []
rest_of (x ∷ xs) = xs

-- the regions of a name that is read, and of one that is not
pub read_regions : (plans : TwoPlans) (n : JointName) → is_joint_read plans n ≡ true → regions_read plans n ≡ regions_of plans n
read_regions plans n read = ap (λ b. cond b (regions_read plans n) (Every ∷ [])) (sym read)

pub unread_regions : (plans : TwoPlans) (n : JointName) → is_joint_read plans n ≡ false → Every ∷ [] ≡ regions_of plans n
unread_regions plans n unread = ap (λ b. cond b (regions_read plans n) (Every ∷ [])) (sym unread)

pub listed_as : (plans : TwoPlans) (n : JointName) (text : List ℕ) (kind : Kind) (amount : Bool) (all : List Region) → text ≡ name_text plans n → kind ≡ joint_kind plans.old plans.new n
    → amount ≡ is_joint_amount plans.old plans.new n → all ≡ regions_of_kind kind (literals_by plans text n)
    → filter (λ r. is_possible_region amount r && meets_in plans.narrowed text r) all ≡ regions_read plans n
listed_as plans n text kind amount all text_is kind_is amount_is all_is =
    ap (filter (λ r. is_possible_region amount r && meets_in plans.narrowed text r)) all_is
    ∙ ap (λ b. filter (λ r. is_possible_region b r && meets_in plans.narrowed text r) (regions_of_kind kind (literals_by plans text n))) amount_is
    ∙ ap (λ k. filter (λ r. is_possible_region (is_joint_amount plans.old plans.new n) r && meets_in plans.narrowed text r) (regions_of_kind k (literals_by plans text n))) kind_is
    ∙ ap
    (λ t. filter (λ r. is_possible_region (is_joint_amount plans.old plans.new n) r && meets_in plans.narrowed t r) (regions_of_kind (joint_kind plans.old plans.new n) (literals_by plans t n)))
    text_is

fold_both : {X Y : Type 0} (f : Y → X → Y) (y : Y) (xs more : List X) → fold f y (xs ++ more) ≡ fold f (fold f y xs) more
fold_both f y [] more = refl
fold_both f y (x ∷ xs) more = fold_both f (f y x) xs more

-- literals that are added in three steps
pub collected_thrice : (kind : Kind) (a b c d xs ys zs : List Value) → a ≡ [] → b ≡ fold (with_literal kind) a xs → c ≡ fold (with_literal kind) b ys → d ≡ fold (with_literal kind) c zs
    → d ≡ filter (has_kind kind) (xs ++ (ys ++ zs))
collected_thrice kind a b c d xs ys zs none first second third =
    collected kind a d (xs ++ (ys ++ zs)) none
    (third ∙ ap (λ found. fold (with_literal kind) found zs) (second ∙ ap (λ found. fold (with_literal kind) found ys) first)
    ∙ sym (fold_both (with_literal kind) (fold (with_literal kind) a xs) ys zs) ∙ sym (fold_both (with_literal kind) a xs (ys ++ zs)))

-- the items at one more place
pub chosen_more : {X : Type 0} (items : List X) (places : List ℕ) (i d : ℕ) (x : X) → i < length places → Some x ≡ slice_get items (get_or places i d)
    → by_places (take (i + 1) places) items ≡ by_places (take i places) items ++ x ∷ []
chosen_more items places i d x below is =
    filter_map_more (slice_get items) places i d below ∙ ap (λ found. by_places (take i places) items ++ option_to_list found) (sym is)

pub skipped_more : {X : Type 0} (items : List X) (places : List ℕ) (i d : ℕ) → i < length places → None ≡ slice_get items (get_or places i d)
    → by_places (take (i + 1) places) items ≡ by_places (take i places) items
skipped_more items places i d below is =
    filter_map_more (slice_get items) places i d below ∙ ap (λ found. by_places (take i places) items ++ option_to_list found) (sym is) ∙ append-nil (by_places (take i places) items)

-- one more name is at its place
pub placed_more : (f : ℕ → Option ℕ) (places : List ℕ) (n place : ℕ) → map (λ p. Some p) places ≡ map f (range_with_len 0 n) → f n ≡ Some place
    → map (λ p. Some p) (places ++ place ∷ []) ≡ map f (range_with_len 0 (n + 1))
placed_more f places n place are found =
    map-append (λ p. Some p) places (place ∷ []) ∙ ap (λ front. front ++ Some place ∷ []) are ∙ ap (λ last. map f (range_with_len 0 n) ++ last ∷ []) (sym found) ∙ sym (range_mapped f n)
