-- The lines of a comparison have exactly the parts of the changes, with their zones.
use Rattle.std.proofs.Common.{◌≡◌, ◌↔◌, ℕ, ◌+◌, ◌<◌, ◌⊎◌, Bool, false, IsTrue, inl, inr, List, [], ◌∷◌, ◌++◌, length, get_or, take, Some, None, set, sym, ◌∙◌, subst, arith}
use Rattle.std.specs.List.{slice_get}
use Rattle.std.proofs.lemmas.Bool.{cases_lt, false≢true}
use Rattle.std.proofs.lemmas.Option.{none-some, same_Some}
use Rattle.plan_zones.specs.Boxes.{IsInside, OneOf}
use Rattle.plan_commands.specs.ChangeLines.{AreLinesOf, DifferIn, HasPart, HavePart, HaveZonesWith, IsOnLine}
use Rattle.plan_commands.specs.ZoneSets.{AreIn, HaveSameZones, IsOn}
use Rattle.plan_commands.specs.declared.change_lines.Line.{Line}
use Rattle.plan_zones.specs.declared.zone_box.ZoneBox.{ZoneBox}
use Rattle.plan_commands.specs.declared.zone_sets.ZoneSet.{ZoneSet}
use Rattle.plan_commands.proofs.Unions.{last_join, last_split, set_here, set_join, set_split, take_join, take_split}

-- the parts of a change have the part, or the change is unknown
pub part_by : (parts : List (List ℕ)) (change part : ℕ) (own : List ℕ) (found : Bool) → slice_get parts change ≡ Some own → (IsTrue found ↔ IsOn own part)
    → IsTrue found ↔ HasPart parts change part
part_by parts change part own found at is =
    (λ t. record { own = own; at = at; on = is.0 t }, λ has. is.1 (subst (λ o. IsOn o part) (same_Some has.own own (sym has.at ∙ at)) has.on))

pub no_part : (parts : List (List ℕ)) (change part : ℕ) → slice_get parts change ≡ None → IsTrue false ↔ HasPart parts change part
no_part parts change part at = (λ t. absurd (false≢true t), λ has. absurd (none-some has.own (sym at ∙ has.at)))

-- a box is left out, or added
pub box_left_out : (sets : List ZoneSet) (b : ZoneBox) (with_part : Bool) (zone : List ℕ) → with_part ≡ false → AreIn sets zone ↔ (AreIn sets zone ⊎ (IsTrue with_part × IsInside b.sides zone))
box_left_out sets b with_part zone is = (λ at. inl at, λ at. elim at [ inl old ↦ old | inr more ↦ absurd (false≢true (sym is ∙ more.0)) ])

pub box_added : (sets new : List ZoneSet) (b : ZoneBox) (s : ZoneSet) (with_part : Bool) (zone : List ℕ) → IsTrue with_part → s.sides ≡ b.sides → new ≡ sets ++ s ∷ []
    → AreIn new zone ↔ (AreIn sets zone ⊎ (IsTrue with_part × IsInside b.sides zone))
box_added sets new b s with_part zone is same made = (
  λ at. elim (last_split (λ x. IsInside x.sides zone) sets s (subst (λ xs. AreIn xs zone) made at)) [ inl old ↦ inl old | inr more ↦ inr (is, subst (λ sides. IsInside sides zone) same more) ],
  λ at. subst (λ xs. AreIn xs zone) (sym made) (last_join (λ x. IsInside x.sides zone) sets s (elim at [ inl old ↦ inl old | inr more ↦ inr (subst (λ sides. IsInside sides zone) (sym same) more.1) ])),
)

-- the zones of the first boxes, and of one more
pub zones_more : (parts : List (List ℕ)) (boxes : List ZoneBox) (part i : ℕ) (b d : ZoneBox) (with_part : Bool) (sets new : List ZoneSet) → i < length boxes → b ≡ get_or boxes i d
    → (IsTrue with_part ↔ HasPart parts b.outcome part) → HaveZonesWith parts (take i boxes) part sets
    → ((zone : List ℕ) → AreIn new zone ↔ (AreIn sets zone ⊎ (IsTrue with_part × IsInside b.sides zone))) → HaveZonesWith parts (take (i + 1) boxes) part new
zones_more parts boxes part i b d with_part sets new below is has have added zone = (there, back) where
  Has : ZoneBox → Type 0
  Has x = HasPart parts x.outcome part × IsInside x.sides zone

  there : AreIn new zone → DifferIn parts (take (i + 1) boxes) part zone
  there at = elim ((added zone).0 at) [
    | inl old ↦ take_join Has boxes i b d below is (inl ((have zone).0 old))
    | inr more ↦ take_join Has boxes i b d below is (inr (has.0 more.0, more.1))
  ]

  back : DifferIn parts (take (i + 1) boxes) part zone → AreIn new zone
  back at = elim (take_split Has boxes i b d below is at) [
    | inl old ↦ (added zone).1 (inl ((have zone).1 old))
    | inr more ↦ (added zone).1 (inr (has.1 more.0, more.1))
  ]

-- a line has one part more
pub line_extended : (lines new : List Line) (place part : ℕ) (old : Line) (s : ZoneSet) → slice_get lines place ≡ Some old → old.zones.sides ≡ s.sides
    → new ≡ set lines place (record { parts = old.parts ++ part ∷ []; zones = old.zones }) → HavePart lines part (IsInside s.sides) new
line_extended lines new place part old s at same made own zone = (there, back) where
  Has : Line → Type 0
  Has l = IsOn l.parts own × IsInside l.zones.sides zone

  Now : Line
  Now = record { parts = old.parts ++ part ∷ []; zones = old.zones }

  split : Has Now → Has old ⊎ ((own ≡ part) × IsInside s.sides zone)
  split has = elim (last_split (λ p. p ≡ own) old.parts part has.0) [
    | inl on ↦ inl (on, has.1)
    | inr is ↦ inr (sym is, subst (λ sides. IsInside sides zone) same has.1)
  ]

  there : IsOnLine new own zone → IsOnLine lines own zone ⊎ ((own ≡ part) × IsInside s.sides zone)
  there found = set_split Has (λ x. (own ≡ part) × IsInside s.sides zone) lines place old Now at split (subst (OneOf Has) made found)

  back : IsOnLine lines own zone ⊎ ((own ≡ part) × IsInside s.sides zone) → IsOnLine new own zone
  back (inl on) = subst (OneOf Has) (sym made) (set_join Has lines place old Now at (λ has. (last_join (λ p. p ≡ own) old.parts part (inl has.0), has.1)) on)
  back (inr more) =
      subst (OneOf Has) (sym made) (set_here Has lines place old Now at (last_join (λ p. p ≡ own) old.parts part (inr (sym more.0)), subst (λ sides. IsInside sides zone) (sym same) more.1))

-- a line of its own
pub line_added : (lines new : List Line) (part : ℕ) (line : Line) (s : ZoneSet) → line.parts ≡ part ∷ [] → line.zones.sides ≡ s.sides → new ≡ lines ++ line ∷ []
    → HavePart lines part (IsInside s.sides) new
line_added lines new part line s only same made own zone = (there, back) where
  Has : Line → Type 0
  Has l = IsOn l.parts own × IsInside l.zones.sides zone

  is_part : IsOn line.parts own → own ≡ part
  is_part on = elim (subst (λ parts. IsOn parts own) only on) [ inl is ↦ sym is | inr none ↦ absurd none ]

  there : IsOnLine new own zone → IsOnLine lines own zone ⊎ ((own ≡ part) × IsInside s.sides zone)
  there found = elim (last_split Has lines line (subst (OneOf Has) made found)) [
    | inl old ↦ inl old
    | inr has ↦ inr (is_part has.0, subst (λ sides. IsInside sides zone) same has.1)
  ]

  back : IsOnLine lines own zone ⊎ ((own ≡ part) × IsInside s.sides zone) → IsOnLine new own zone
  back (inl on) = subst (OneOf Has) (sym made) (last_join Has lines line (inl on))
  back (inr more) =
      let here : Has line = (subst (λ parts. IsOn parts own) (sym only) (inl (sym more.0)), subst (λ sides. IsInside sides zone) (sym same) more.1) in
      subst (OneOf Has) (sym made) (last_join Has lines line (inr here))

-- no set is added yet, and one set more
pub sets_begun : (lines : List Line) (part : ℕ) → HavePart lines part (AreIn []) lines
sets_begun lines part own zone = (λ at. inl at, λ at. elim at [ inl old ↦ old | inr none ↦ absurd none.1 ])

pub sets_added : (old mid new : List Line) (part i : ℕ) (sets : List ZoneSet) (s d : ZoneSet) → i < length sets → s ≡ get_or sets i d → HavePart old part (AreIn (take i sets)) mid
    → HavePart mid part (IsInside s.sides) new → HavePart old part (AreIn (take (i + 1) sets)) new
sets_added old mid new part i sets s d below is first second own zone = (there, back) where
  Has : ZoneSet → Type 0
  Has x = IsInside x.sides zone

  there : IsOnLine new own zone → IsOnLine old own zone ⊎ ((own ≡ part) × AreIn (take (i + 1) sets) zone)
  there found = elim ((second own zone).0 found) [
    | inl at ↦ elim ((first own zone).0 at) [ inl on ↦ inl on | inr more ↦ inr (more.0, take_join Has sets i s d below is (inl more.1)) ]
    | inr more ↦ inr (more.0, take_join Has sets i s d below is (inr more.1))
  ]

  back : IsOnLine old own zone ⊎ ((own ≡ part) × AreIn (take (i + 1) sets) zone) → IsOnLine new own zone
  back (inl on) = (second own zone).1 (inl ((first own zone).1 (inl on)))
  back (inr more) = elim (take_split Has sets i s d below is more.1) [
    | inl earlier ↦ (second own zone).1 (inl ((first own zone).1 (inr (more.0, earlier))))
    | inr last ↦ (second own zone).1 (inr (more.0, last))
  ]

-- the joined sets are those of the boxes
pub part_added : (parts : List (List ℕ)) (boxes : List ZoneBox) (part : ℕ) (sets joined : List ZoneSet) (old new : List Line) → HaveZonesWith parts boxes part sets → HaveSameZones sets joined
    → HavePart old part (AreIn joined) new → HavePart old part (DifferIn parts boxes part) new
part_added parts boxes part sets joined old new have same added own zone = (
  λ found. elim ((added own zone).0 found) [ inl on ↦ inl on | inr more ↦ inr (more.0, (have zone).0 ((same zone).1 more.1)) ],
  λ at. (added own zone).1 (elim at [ inl on ↦ inl on | inr more ↦ inr (more.0, (same zone).0 ((have zone).1 more.1)) ]),
)

-- no part has a line yet, and one part more
pub lines_begun : (parts : List (List ℕ)) (boxes : List ZoneBox) → AreLinesOf parts boxes 0 []
lines_begun parts boxes part zone = (λ none. absurd none, λ more. absurd (let below = more.0 in omega (arith, below)))

pub lines_more : (parts : List (List ℕ)) (boxes : List ZoneBox) (count : ℕ) (lines new : List Line) → AreLinesOf parts boxes count lines → HavePart lines count (DifferIn parts boxes count) new
    → AreLinesOf parts boxes (count + 1) new
lines_more parts boxes count lines new are added part zone = (there, back) where
  there : IsOnLine new part zone → (part < count + 1) × DifferIn parts boxes part zone
  there found = elim ((added part zone).0 found) [
    | inl on ↦ (let own = (are part zone).0 on in let below = own.0 in (omega (arith, below), own.1))
    | inr more ↦ (let same = more.0 in (omega (arith, same), subst (λ p. DifferIn parts boxes p zone) (sym same) more.1))
  ]

  back : (part < count + 1) × DifferIn parts boxes part zone → IsOnLine new part zone
  back has = elim (cases_lt part count) [
    | inl less ↦ (added part zone).1 (inl ((are part zone).1 (less, has.1)))
    | inr most ↦ (let below = has.0 in let same : part ≡ count = omega (arith, most, below) in (added part zone).1 (inr (same, subst (λ p. DifferIn parts boxes p zone) same has.1)))
  ]
