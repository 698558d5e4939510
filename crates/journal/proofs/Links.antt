-- The links of the lanes after one more slot is added.
use Rattle.std.proofs.Common.{◌≡◌, ◌==◌, ℕ, zero, suc, cond, List, [], ◌∷◌, ◌++◌, length, Some, None, Option, refl, sym, ap, subst, ◌∙◌, ◌⊎◌, inl, inr, arith, eqb-true}
use Rattle.std.specs.List.{slice_get, slice_set}
use Rattle.std.proofs.lemmas.Bool.{cases_Bool, cases_eq, cases_order, both_ways, eq-eqb}
use Rattle.std.proofs.lemmas.List.{length-set, length_push}
use Rattle.std.proofs.lemmas.Option.{none-some, same_Some, slice_get_within}
use Rattle.journal.specs.FamilyQueues.{AreLinked, IsEnd, IsFollowedBy, IsLast, IsNext, NoneAfter}
use Rattle.journal.proofs.Linking.{get-set-other, get-set-within}

-- an item of a longer list is an item of the shorter list or the last one
pub get-push : {X : Type 0} (xs : List X) (y x : X) (k : ℕ) → slice_get (xs ++ y ∷ []) k ≡ Some x → (slice_get xs k ≡ Some x) ⊎ ((k ≡ length xs) × (y ≡ x))
get-push [] y x zero there = inr (refl, same_Some y x there)
get-push [] y x (suc k) there = absurd (none-some x there)
get-push (z ∷ zs) y x zero there = inl there
get-push (z ∷ zs) y x (suc k) there = elim (get-push zs y x k there) [
  | inl before ↦ inl before
  | inr last ↦ inr (ap suc last.0, last.1)
]

pub get-front : {X : Type 0} (xs : List X) (y x : X) (k : ℕ) → slice_get xs k ≡ Some x → slice_get (xs ++ y ∷ []) k ≡ Some x
get-front [] y x k there = absurd (none-some x there)
get-front (z ∷ zs) y x zero there = there
get-front (z ∷ zs) y x (suc k) there = get-front zs y x k there

pub get-end : {X : Type 0} (xs : List X) (y : X) → slice_get (xs ++ y ∷ []) (length xs) ≡ Some y
get-end [] y = refl
get-end (z ∷ zs) y = get-end zs y

-- no slot comes after the last one
none-following-end : (lanes : List ℕ) (x l : ℕ) → NoneAfter (lanes ++ x ∷ []) l (length lanes)
none-following-end lanes x l k following there =
    let size = length_push lanes x in
    let within = slice_get_within (lanes ++ x ∷ []) k l there in
    omega (arith, size, within, following)

-- the added slot is the last of its lane
new-last : (lanes : List ℕ) (x : ℕ) → IsLast (lanes ++ x ∷ []) x (length lanes)
new-last lanes x = record { there = get-end lanes x; last = none-following-end lanes x x }

-- the last slot of a lane stays the last if a slot is added to another lane
none-more : (lanes : List ℕ) (x l k : ℕ) → NoneAfter lanes l k → ¬ (l ≡ x) → NoneAfter (lanes ++ x ∷ []) l k
none-more lanes x l k none other j following there = elim (get-push lanes x l j there) [
  | inl before ↦ none j following before
  | inr last ↦ other (sym last.1)
]

last-more : (lanes : List ℕ) (x l e : ℕ) → IsLast lanes l e → ¬ (l ≡ x) → IsLast (lanes ++ x ∷ []) l e
last-more lanes x l e h other = record { there = get-front lanes x l e h.there; last = none-more lanes x l e h.last other }

followed-more : (lanes : List ℕ) (x l k : ℕ) (next : Option ℕ) → IsFollowedBy lanes l k next → (next ≡ None → ¬ (l ≡ x)) → IsFollowedBy (lanes ++ x ∷ []) l k next
followed-more lanes x l k None h other = none-more lanes x l k h (other refl)
followed-more lanes x l k (Some n) h other = record {
  there = get-front lanes x l n h.there;
  following = h.following;
  first = λ j following before there. elim (get-push lanes x l j there) [
    | inl there_before ↦ h.first j following before there_before
    | inr last ↦
        let within = slice_get_within lanes n l h.there in
        let at_end = last.0 in
        absurd (omega (arith, within, before, at_end))
  ];
}

-- the end of a lane does not change if a slot is added to another lane
end-more : (lanes : List ℕ) (x l : ℕ) (e : Option ℕ) → IsEnd lanes l e → ¬ (l ≡ x) → IsEnd (lanes ++ x ∷ []) l e
end-more lanes x l None none other = λ k there. elim (get-push lanes x l k there) [
  | inl before ↦ none k before
  | inr last ↦ other (sym last.1)
]
end-more lanes x l (Some e) h other = last-more lanes x l e h other

-- the ends of all lanes after a slot is added
ended-more : (lanes : List ℕ) (end new : ℕ → Option ℕ) (lane : ℕ) → ((l : ℕ) → IsEnd lanes l (end l))
    → ((l : ℕ) → new l ≡ cond (lane == l) (Some (length lanes)) (end l)) → (l : ℕ) → IsEnd (lanes ++ lane ∷ []) l (new l)
ended-more lanes end new lane h reported l = elim (cases_Bool (lane == l)) [
  | inl here ↦
      let same : lane ≡ l = eqb-true lane l here in
      let is : new l ≡ Some (length lanes) = reported l ∙ ap (λ b. cond b (Some (length lanes)) (end l)) here in
      subst (IsEnd (lanes ++ lane ∷ []) l) (sym is) (subst (λ x. IsLast (lanes ++ lane ∷ []) x (length lanes)) same (new-last lanes lane))
  | inr there ↦
      let is : new l ≡ end l = reported l ∙ ap (λ b. cond b (Some (length lanes)) (end l)) there in
      subst (IsEnd (lanes ++ lane ∷ []) l) (sym is) (end-more lanes lane l (end l) (h l) (λ same. both_ways (lane == l) there (eq-eqb lane l (sym same))))
]

-- the links after the first slot of a lane is added
pub linked-first : (lanes : List ℕ) (nexts : List (Option ℕ)) (end new : ℕ → Option ℕ) (lane : ℕ) → AreLinked lanes nexts end
    → length nexts ≡ length lanes → end lane ≡ None → ((l : ℕ) → new l ≡ cond (lane == l) (Some (length lanes)) (end l))
    → AreLinked (lanes ++ lane ∷ []) (nexts ++ None ∷ []) new
linked-first lanes nexts end new lane h same none reported =
    let empty : (k : ℕ) → ¬ (slice_get lanes k ≡ Some lane) = subst (IsEnd lanes lane) none (h.ended lane) in
    record {
      ended = ended-more lanes end new lane h.ended reported;
      followed = λ k l next in_lane there. elim (get-push lanes lane l k in_lane) [
        | inl before ↦ elim (get-push nexts None next k there) [
          | inl next_before ↦ followed-more lanes lane l k next (h.followed k l next before next_before) (λ _ is. empty k (before ∙ ap Some is))
          | inr last ↦
              let within = slice_get_within lanes k l before in
              let at_end = last.0 in
              absurd (omega (arith, within, at_end, same))
        ]
        | inr last ↦ elim (get-push nexts None next k there) [
          | inl next_before ↦
              let within = slice_get_within nexts k next next_before in
              let at_end = last.0 in
              absurd (omega (arith, within, at_end, same))
          | inr next_last ↦
              subst (IsFollowedBy (lanes ++ lane ∷ []) l k) next_last.1 (subst (NoneAfter (lanes ++ lane ∷ []) l) (sym last.0) (none-following-end lanes lane l))
        ]
      ];
    }

-- the link of each slot after a slot is added to a lane that has one
follow-followed : (lanes : List ℕ) (nexts : List (Option ℕ)) (end : ℕ → Option ℕ) (lane last : ℕ) → AreLinked lanes nexts end
    → length nexts ≡ length lanes → end lane ≡ Some last → (k l : ℕ) (next : Option ℕ) → slice_get (lanes ++ lane ∷ []) k ≡ Some l
    → slice_get (slice_set nexts last (Some (length lanes)) ++ None ∷ []) k ≡ Some next → IsFollowedBy (lanes ++ lane ∷ []) l k next
follow-followed lanes nexts end lane last h same is_end k l next in_lane there =
    let n = length lanes in
    let size = length-set nexts last (Some n) in
    let was_last : IsLast lanes lane last = subst (IsEnd lanes lane) is_end (h.ended lane) in
    elim (get-push lanes lane l k in_lane) [
      | inl before ↦ elim (get-push (slice_set nexts last (Some n)) None next k there) [
        | inl next_before ↦ elim (cases_eq k last) [
          | inl is ↦
              let within = slice_get_within lanes last lane was_last.there in
              let linked = get-set-within nexts last (Some n) (omega (arith, within, same)) in
              let next_is : Some n ≡ next = same_Some (Some n) next (sym linked ∙ ap (slice_get (slice_set nexts last (Some n))) (sym is) ∙ next_before) in
              let lane_is : lane ≡ l = same_Some lane l (sym was_last.there ∙ ap (slice_get lanes) (sym is) ∙ before) in
              let follows : IsNext (lanes ++ lane ∷ []) lane last n = record {
                there = get-end lanes lane;
                following = within;
                first = λ j following front at. elim (get-push lanes lane lane j at) [
                  | inl at_before ↦ was_last.last j following at_before
                  | inr at_end ↦ let e = at_end.0 in absurd (omega (arith, e, front))
                ];
              } in
              subst (IsFollowedBy (lanes ++ lane ∷ []) l k) next_is
              (subst (λ x. IsNext (lanes ++ lane ∷ []) x k n) lane_is (subst (λ x. IsNext (lanes ++ lane ∷ []) lane x n) (sym is) follows))
          | inr other ↦
              let followed = h.followed k l next before (sym (get-set-other nexts last k (Some n) other) ∙ next_before) in
              followed-more lanes lane l k next followed (λ none is.
              let alone : NoneAfter lanes l k = subst (IsFollowedBy lanes l k) none followed in
              elim (cases_order k last) [
                | inl equal ↦ other equal
                | inr unequal ↦ elim unequal [
                  | inl front ↦ alone last front (was_last.there ∙ ap Some (sym is))
                  | inr following ↦ was_last.last k following (before ∙ ap Some is)
                ]
              ]
              )
        ]
        | inr next_last ↦
            let within = slice_get_within lanes k l before in
            let at_end = next_last.0 in
            absurd (omega (arith, within, at_end, same, size))
      ]
      | inr here ↦ elim (get-push (slice_set nexts last (Some n)) None next k there) [
        | inl next_before ↦
            let within = slice_get_within (slice_set nexts last (Some n)) k next next_before in
            let at_end = here.0 in
            absurd (omega (arith, within, at_end, same, size))
        | inr next_last ↦
            subst (IsFollowedBy (lanes ++ lane ∷ []) l k) next_last.1 (subst (NoneAfter (lanes ++ lane ∷ []) l) (sym here.0) (none-following-end lanes lane l))
      ]
    ]

-- the links after a slot is added to a lane that has one
pub linked-follow : (lanes : List ℕ) (nexts : List (Option ℕ)) (end new : ℕ → Option ℕ) (lane last : ℕ) → AreLinked lanes nexts end
    → length nexts ≡ length lanes → end lane ≡ Some last → ((l : ℕ) → new l ≡ cond (lane == l) (Some (length lanes)) (end l))
    → AreLinked (lanes ++ lane ∷ []) (slice_set nexts last (Some (length lanes)) ++ None ∷ []) new
linked-follow lanes nexts end new lane last h same is_end reported = record {
  ended = ended-more lanes end new lane h.ended reported;
  followed = follow-followed lanes nexts end lane last h same is_end;
}
