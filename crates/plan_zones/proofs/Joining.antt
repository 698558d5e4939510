-- Boxes are right: in one zone, in the groups of a name's regions, and in the boxes of all groups.
use Rattle.std.proofs.Common.{◌≡◌, ℕ, ◌+◌, ◌<◌, inl, inr, List, [], ◌∷◌, ◌++◌, length, Option, Some, None, set, refl, sym, ◌∙◌, subst, arith}
use Rattle.std.specs.List.{AllByRecursion, flat_map, slice_get}
use Rattle.std.proofs.lemmas.Bool.{cases_lt}
use Rattle.std.proofs.lemmas.Option.{none-some, slice_get_within}
use Rattle.regions.specs.declared.region.Region.{Region}
use Rattle.plan_zones.specs.declared.zone_box.ZoneBox.{ZoneBox}
use Rattle.plan_zones.specs.declared.zone_box.RegionGroup.{RegionGroup}
use Rattle.plan_zones.specs.Zones.{IsZone}
use Rattle.plan_zones.specs.Boxes.{AreBoxesOf, AreGroupsOf, Extends, IsInside, IsJoined, IsListed, IsBoxed, OneOf, group_boxes, new_group, with_region, with_side}
use Rattle.plan_zones.proofs.Lists.{all_append, all_at, all_map, all_mapped, all_one, all_set, get_left, get_right, longer, one_all_map, one_left, one_map, one_mapped, one_right, one_set, one_set_here, one_some, one_split, one_unmapped}

-- the box has the outcome, and the zone
abbrev Has : {X : Type 0} → List X → List ℕ → X → ZoneBox → Type 0
Has outcomes zone outcome b = (slice_get outcomes b.outcome ≡ Some outcome) × IsInside b.sides zone

-- a zone without an outcome is in no box
pub no_box : {X : Type 0} (outcomes : List X) (HasOutcome : List ℕ → Option X → Type 0) → HasOutcome [] None → AreBoxesOf outcomes HasOutcome [] []
no_box {X} outcomes HasOutcome is = record {
  each = own;
  right = λ zone found at. absurd at;
  known = tt;
  held = tt;
} where
  own : (zone : List ℕ) → IsZone [] zone → IsBoxed outcomes HasOutcome [] zone
  own [] fits = record { outcome = None; is = is; listed = λ found e. none-some found e }
  own (k ∷ ks) fits = absurd fits

-- a zone with an outcome is a box
pub one_box : {X : Type 0} (outcomes : List X) (HasOutcome : List ℕ → Option X → Type 0) (one : X) (index : ℕ) → HasOutcome [] (Some one) → slice_get outcomes index ≡ Some one
    → AreBoxesOf outcomes HasOutcome [] (record { outcome = index; sides = [] } ∷ [])
one_box {X} outcomes HasOutcome one index is at = record {
  each = own;
  right = right_here;
  known = (slice_get_within outcomes index one at, tt);
  held = (([], tt), tt);
} where
  own : (zone : List ℕ) → IsZone [] zone → IsBoxed outcomes HasOutcome (record { outcome = index; sides = [] } ∷ []) zone
  own [] fits = record { outcome = Some one; is = is; listed = λ found e. inl (at ∙ e, tt) }
  own (k ∷ ks) fits = absurd fits

  right_here : (zone : List ℕ) (found : X) → IsListed outcomes (record { outcome = index; sides = [] } ∷ []) zone found → IsZone [] zone × HasOutcome zone (Some found)
  right_here [] found (inl here) = (tt, subst (λ outcome. HasOutcome [] outcome) (sym at ∙ here.0) is)
  right_here (k ∷ ks) found (inl here) = absurd here.1
  right_here zone found (inr none) = absurd none

-- boxes are right for any outcomes that zones have wherever they have these
pub boxes_alike : {X : Type 0} (outcomes : List X) (One Other : List ℕ → Option X → Type 0) (regions : List (List Region)) (boxes : List ZoneBox)
    → ((zone : List ℕ) (outcome : Option X) → One zone outcome → Other zone outcome) → AreBoxesOf outcomes One regions boxes → AreBoxesOf outcomes Other regions boxes
boxes_alike outcomes One Other regions boxes same are = record {
  each = λ zone fits. let own = are.each zone fits in record { outcome = own.outcome; is = same zone own.outcome own.is; listed = own.listed };
  right = λ zone found at. let here = are.right zone found at in (here.0, same zone (Some found) here.1);
  known = are.known;
  held = are.held;
}

-- boxes are right for a list with more outcomes
pub boxes_extended : {X : Type 0} (outcomes more : List X) (HasOutcome : List ℕ → Option X → Type 0) (regions : List (List Region)) (boxes : List ZoneBox)
    → AreBoxesOf outcomes HasOutcome regions boxes → AreBoxesOf (outcomes ++ more) HasOutcome regions boxes
boxes_extended outcomes more HasOutcome regions boxes are = record {
  each = λ zone fits.
      let own = are.each zone fits in
      record {
        outcome = own.outcome;
        is = own.is;
        listed = λ found e. one_map (Has outcomes zone found) (Has (outcomes ++ more) zone found) (λ b has. (get_left outcomes more b.outcome found has.0, has.1)) boxes (own.listed found e);
      };
  right = λ zone found at.
      are.right zone found
      (one_all_map (λ b. b.outcome < length outcomes) (Has (outcomes ++ more) zone found) (Has outcomes zone found) (λ b below has. (get_right outcomes more b.outcome found below has.0, has.1)) boxes are.known at);
  known = all_map (λ b. b.outcome < length outcomes) (λ b. b.outcome < length (outcomes ++ more)) (λ b below. longer outcomes more b.outcome below) boxes are.known;
  held = are.held;
}

-- no region is grouped yet
pub no_groups : (R : ℕ → List ZoneBox → Type 0) → AreGroupsOf R 0 []
no_groups R = record { each = tt; used = tt; whole = λ region below. absurd (omega (arith, below)) }

-- the region is on the group's side
abbrev On : ℕ → RegionGroup → Type 0
On region g = OneOf (λ listed. listed ≡ region) g.side

-- a region below the count, for which these boxes are right
abbrev Counted : (ℕ → List ZoneBox → Type 0) → ℕ → List ZoneBox → ℕ → Type 0
Counted R count boxes region = (region < count) × R region boxes

-- each region of the group is below the count, and the group's boxes are right for it
abbrev Sided : (ℕ → List ZoneBox → Type 0) → ℕ → RegionGroup → Type 0
Sided R count g = AllByRecursion (Counted R count g.boxes) g.side

abbrev Used : RegionGroup → Type 0
Used g = (region : ℕ) × On region g

module _ (R : ℕ → List ZoneBox → Type 0) (count : ℕ) (groups : List RegionGroup) (boxes : List ZoneBox) (are : AreGroupsOf R count groups) (right : R count boxes) where
  -- what held of the regions of a group holds still
  side_kept : (g : RegionGroup) → Sided R count g → Sided R (count + 1) g
  side_kept g all = all_map (Counted R count g.boxes) (Counted R (count + 1) g.boxes) (λ region was. (let low = was.0 in omega (arith, low), was.1)) g.side all

  each_kept : AllByRecursion (Sided R (count + 1)) groups
  each_kept = all_map (Sided R count) (Sided R (count + 1)) side_kept groups are.each

  below_next : count < count + 1
  below_next = omega arith

  grouped_new : AreGroupsOf R (count + 1) (groups ++ new_group count boxes ∷ [])
  grouped_new = record {
    each = all_append (Sided R (count + 1)) groups (new_group count boxes ∷ []) each_kept (((below_next, right), tt), tt);
    used = all_append Used groups (new_group count boxes ∷ []) are.used ((count, inl refl), tt);
    whole = λ region below. elim (cases_lt region count) [
      | inl less ↦ one_left (On region) groups (new_group count boxes ∷ []) (are.whole region less)
      | inr most ↦ (let same : count ≡ region = omega (arith, most, below) in one_right (On region) groups (new_group count boxes ∷ []) (inl (inl same)))
    ];
  }

  grouped_old : (place : ℕ) (group : RegionGroup) → slice_get groups place ≡ Some group → group.boxes ≡ boxes → AreGroupsOf R (count + 1) (set groups place (with_region group count))
  grouped_old place group at alike =
      let here : R count group.boxes = subst (λ bs. R count bs) (sym alike) right in
      let old : Sided R (count + 1) group = all_at (Sided R (count + 1)) groups place group at each_kept in
      record {
        each = all_set (Sided R (count + 1)) groups place (with_region group count) (all_append (Counted R (count + 1) group.boxes) group.side (count ∷ []) old ((below_next, here), tt)) each_kept;
        used = all_set Used groups place (with_region group count) (count, one_right (λ listed. listed ≡ count) group.side (count ∷ []) (inl refl)) are.used;
        whole = λ region below. elim (cases_lt region count) [
          | inl less ↦ one_set (On region) groups place group (with_region group count) at (λ on. one_left (λ listed. listed ≡ region) group.side (count ∷ []) on) (are.whole region less)
          | inr most ↦
              (let same : count ≡ region = omega (arith, most, below) in
              one_set_here (On region) groups place group (with_region group count) at (one_right (λ listed. listed ≡ region) group.side (count ∷ []) (inl same)))
        ];
      }

  -- the groups are right with one more region
  pub grouped : (new : List RegionGroup) → IsJoined groups count boxes new → AreGroupsOf R (count + 1) new
  grouped new (inl pushed) = subst (λ gs. AreGroupsOf R (count + 1) gs) (sym pushed) grouped_new
  grouped new (inr joined) = subst (λ gs. AreGroupsOf R (count + 1) gs) (sym joined.joined) (grouped_old joined.place joined.group joined.at joined.alike)

-- groups are right for any property of boxes that follows from theirs
pub groups_map : (R S : ℕ → List ZoneBox → Type 0) (count : ℕ) (groups : List RegionGroup) → ((region : ℕ) (boxes : List ZoneBox) → R region boxes → S region boxes) → AreGroupsOf R count groups
    → AreGroupsOf S count groups
groups_map R S count groups follows are = record {
  each = all_map (Sided R count) (Sided S count)
      (λ g sided. all_map (Counted R count g.boxes) (Counted S count g.boxes) (λ region was. (was.0, follows region g.boxes was.1)) g.side sided) groups are.each;
  used = are.used;
  whole = are.whole;
}

-- groups are right for a list with more outcomes
pub groups_extended : {X : Type 0} (old new : List X) (HasOutcome : ℕ → List ℕ → Option X → Type 0) (regions : List (List Region)) (count : ℕ) (groups : List RegionGroup) → Extends old new
    → AreGroupsOf (λ region boxes. AreBoxesOf old (HasOutcome region) regions boxes) count groups → AreGroupsOf (λ region boxes. AreBoxesOf new (HasOutcome region) regions boxes) count groups
groups_extended old new HasOutcome regions count groups extends =
    groups_map (λ region boxes. AreBoxesOf old (HasOutcome region) regions boxes) (λ region boxes. AreBoxesOf new (HasOutcome region) regions boxes) count groups
    (λ region boxes are. subst (λ outcomes. AreBoxesOf outcomes (HasOutcome region) regions boxes) (sym extends.1) (boxes_extended old extends.0 (HasOutcome region) regions boxes are))

module _ {X : Type 0} (outcomes : List X) (HasOutcome : List ℕ → Option X → Type 0) (choices : List Region) (more : List (List Region)) where
  -- the boxes of the other names are right for this region of the first name
  abbrev Right : ℕ → List ZoneBox → Type 0
  Right region boxes = AreBoxesOf outcomes (λ zone. HasOutcome (region ∷ zone)) more boxes

  -- the boxes of a group are right for a region on its side
  right_for : (g : RegionGroup) (region : ℕ) → Sided Right (length choices) g → On region g → Counted Right (length choices) g.boxes region
  right_for g region sided on =
      let found = all_one (Counted Right (length choices) g.boxes) (λ listed. listed ≡ region) g.side sided on in
      subst (λ k. Counted Right (length choices) g.boxes k) found.2 found.1

  -- a zone of a group's region is in the boxes of all groups as in those of its group
  boxed_in : (groups : List RegionGroup) (region : ℕ) (rest : List ℕ) → AllByRecursion (Sided Right (length choices)) groups → OneOf (On region) groups → IsZone more rest
      → IsBoxed outcomes HasOutcome (flat_map group_boxes groups) (region ∷ rest)
  boxed_in [] region rest each at fits = absurd at
  boxed_in (g ∷ gs) region rest each (inl on) fits =
      let here = (right_for g region each.0 on).1.each rest fits in
      record {
        outcome = here.outcome;
        is = here.is;
        listed = λ found e.
            one_left (Has outcomes (region ∷ rest) found) (group_boxes g) (flat_map group_boxes gs)
            (one_mapped (Has outcomes (region ∷ rest) found) (with_side g.side) g.boxes
            (one_map (Has outcomes rest found) (λ b. Has outcomes (region ∷ rest) found (with_side g.side b)) (λ b is. (is.0, (on, is.1))) g.boxes (here.listed found e)));
      }
  boxed_in (g ∷ gs) region rest each (inr later) fits =
      let here = boxed_in gs region rest each.1 later fits in
      record {
        outcome = here.outcome;
        is = here.is;
        listed = λ found e. one_right (Has outcomes (region ∷ rest) found) (group_boxes g) (flat_map group_boxes gs) (here.listed found e);
      }

  right_in_group : (g : RegionGroup) (zone : List ℕ) (outcome : X) → Sided Right (length choices) g → OneOf (λ b. Has outcomes zone outcome (with_side g.side b)) g.boxes
      → IsZone (choices ∷ more) zone × (HasOutcome zone (Some outcome))
  right_in_group g [] outcome sided at = absurd ((one_some (λ b. Has outcomes [] outcome (with_side g.side b)) g.boxes at).1.1)
  right_in_group g (region ∷ rest) outcome sided at =
      let one = one_some (λ b. Has outcomes (region ∷ rest) outcome (with_side g.side b)) g.boxes at in
      let here = right_for g region sided one.1.1.0 in
      let found = here.1.right rest outcome (one_map (λ b. Has outcomes (region ∷ rest) outcome (with_side g.side b)) (Has outcomes rest outcome) (λ b is. (is.0, is.1.1)) g.boxes at) in
      ((here.0, found.0), found.1)

  right_in : (groups : List RegionGroup) (zone : List ℕ) (outcome : X) → AllByRecursion (Sided Right (length choices)) groups → IsListed outcomes (flat_map group_boxes groups) zone outcome
      → IsZone (choices ∷ more) zone × (HasOutcome zone (Some outcome))
  right_in [] zone outcome each at = absurd at
  right_in (g ∷ gs) zone outcome each at = elim (one_split (Has outcomes zone outcome) (group_boxes g) (flat_map group_boxes gs) at) [
    | inl here ↦ right_in_group g zone outcome each.0 (one_unmapped (Has outcomes zone outcome) (with_side g.side) g.boxes here)
    | inr later ↦ right_in gs zone outcome each.1 later
  ]

  -- the outcome of the box is in the list
  abbrev Known : ZoneBox → Type 0
  Known b = b.outcome < length outcomes

  -- the box has a zone
  abbrev Holds : ZoneBox → Type 0
  Holds b = (zone : List ℕ) × IsInside b.sides zone

  held_in : (groups : List RegionGroup) → AllByRecursion (Sided Right (length choices)) groups → AllByRecursion Used groups → AllByRecursion Holds (flat_map group_boxes groups)
  held_in [] each used = tt
  held_in (g ∷ gs) each used =
      let region = used.0.0 in
      let on = used.0.1 in
      let here = right_for g region each.0 on in
      all_append Holds (group_boxes g) (flat_map group_boxes gs)
      (all_mapped Holds (with_side g.side) g.boxes (all_map Holds (λ b. Holds (with_side g.side b)) (λ b is. (region ∷ is.0, (on, is.1))) g.boxes here.1.held))
      (held_in gs each.1 used.1)

  known_in : (groups : List RegionGroup) → AllByRecursion (Sided Right (length choices)) groups → AllByRecursion Used groups → AllByRecursion Known (flat_map group_boxes groups)
  known_in [] each used = tt
  known_in (g ∷ gs) each used =
      let here = right_for g used.0.0 each.0 used.0.1 in
      all_append Known (group_boxes g) (flat_map group_boxes gs) (all_mapped Known (with_side g.side) g.boxes here.1.known) (known_in gs each.1 used.1)

  -- the boxes of right groups of all regions are right
  pub boxes_grouped : (groups : List RegionGroup) → AreGroupsOf Right (length choices) groups → AreBoxesOf outcomes HasOutcome (choices ∷ more) (flat_map group_boxes groups)
  boxes_grouped groups are = record {
    each = own;
    right = λ zone outcome at. right_in groups zone outcome are.each at;
    known = known_in groups are.each are.used;
    held = held_in groups are.each are.used;
  } where
    own : (zone : List ℕ) → IsZone (choices ∷ more) zone → IsBoxed outcomes HasOutcome (flat_map group_boxes groups) zone
    own [] fits = absurd fits
    own (region ∷ rest) fits = boxed_in groups region rest are.each (are.whole region fits.0) fits.1
