-- The last positions that are kept by member.
use Rattle.std.proofs.Common.{◌≡◌, ◌<◌, ◌%◌, ◌==◌, ◌&&◌, ℕ, Bool, true, false, not, cond, List, Option, Some, None, refl, sym, ap, ◌∙◌, subst, inl, inr, arith, eqb-true}
use Rattle.std.proofs.Math.Nat.{mod-lt}
use Rattle.std.specs.List.{slice_get, slice_set}
use Rattle.std.proofs.lemmas.Bool.{and_parts, both_ways, cases_Bool, cases_eq, eq-eqb, false_from_ne_true}
use Rattle.journal.specs.LastByKey.{AccumulatorKey, entry_place, is_entry_at, is_entry_of, is_key, last_by_entry}
use Rattle.journal.specs.declared.last_by_member.MemberLast.{MemberLast}
use Rattle.journal.proofs.Keys.{one_key}
use Rattle.journal.proofs.Linking.{get-set-other, get-set-same}

-- the last position of a key in these entries, with this position in the map
abbrev pub look : List MemberLast → (AccumulatorKey → Option ℕ) → AccumulatorKey → Option ℕ
look entries others q = last_by_entry (slice_get entries (entry_place q)) q (others q)

-- keys with one place are of one member
same_member : (k q : AccumulatorKey) → entry_place k ≡ entry_place q → k.member ≡ q.member
same_member k q same =
    let one : k.year % 4 < 4 = mod-lt k.year (omega arith) in
    let two : q.year % 4 < 4 = mod-lt q.year (omega arith) in
    omega arith

front : (f y : Bool) → ((true && f) && y) ≡ ((f && true) && y)
front true y = refl
front false y = refl

-- an entry of a key is of another key with its place if and only if the keys are equal
same_test : (e : MemberLast) (key q : AccumulatorKey) → is_entry_of e key ≡ true → entry_place key ≡ entry_place q → is_entry_of e q ≡ is_key key q
same_test e key q is same =
    let parts = and_parts (e.is_used && (e.family == key.family)) (e.year == key.year) is in
    let inner = and_parts e.is_used (e.family == key.family) parts.0 in
    (λ i. (inner.0 i && (eqb-true e.family key.family inner.1 i == q.family)) && (eqb-true e.year key.year parts.1 i == q.year))
    ∙ front (key.family == q.family) (key.year == q.year)
    ∙ (λ i. ((key.family == q.family) && sym (eq-eqb key.member q.member (same_member key q same)) i) && (key.year == q.year))

-- keys with two places differ
other_place : (key q : AccumulatorKey) → ¬ (entry_place key ≡ entry_place q) → is_key key q ≡ false
other_place key q other = false_from_ne_true (is_key key q) (λ same. other (ap entry_place (one_key key q same)))

-- where no entry is of the key, the map has its position
pub unheld : (o : Option MemberLast) (q : AccumulatorKey) (other : Option ℕ) → is_entry_at o q ≡ false → last_by_entry o q other ≡ other
unheld None q other free = refl
unheld (Some e) q other free = rw free refl

-- the entry of a key exists
pub held : (o : Option MemberLast) (q : AccumulatorKey) → is_entry_at o q ≡ true → (e : MemberLast) × (o ≡ Some e) × (is_entry_of e q ≡ true)
held None q is = absurd (both_ways false refl is)
held (Some e) q is = (e, refl, is)

in-entry : (e : MemberLast) (b : Bool) (w other : Option ℕ) → cond b w other ≡ cond b w (cond b e.last other)
in-entry e true w other = refl
in-entry e false w other = refl

module _ (entries : List MemberLast) (key : AccumulatorKey) where
  -- an entry of the key gets another position
  pub put-entry : (others : AccumulatorKey → Option ℕ) (e : MemberLast) (w : Option ℕ) → slice_get entries (entry_place key) ≡ Some e → is_entry_of e key ≡ true
      → (q : AccumulatorKey) → look (slice_set entries (entry_place key) (record e { last = w })) others q ≡ cond (is_key key q) w (look entries others q)
  put-entry others e w there is q = elim (cases_eq (entry_place key) (entry_place q)) [
    | inl same ↦
        let put = record e { last = w } in
        let now : slice_get (slice_set entries (entry_place key) put) (entry_place q) ≡ Some put =
        ap (slice_get (slice_set entries (entry_place key) put)) (sym same) ∙ get-set-same entries (entry_place key) e put there in
        let was : slice_get entries (entry_place q) ≡ Some e = ap (slice_get entries) (sym same) ∙ there in
        rw (now, was, same_test e key q is same) (in-entry e (is_key key q) w (others q))
    | inr other ↦
        let now = get-set-other entries (entry_place key) (entry_place q) (record e { last = w }) (λ same. other (sym same)) in
        rw (now, other_place key q other) refl
  ]

  -- the map gets another position for a key that has no entry
  pub put-map : (old new : AccumulatorKey → Option ℕ) (w : Option ℕ) → is_entry_at (slice_get entries (entry_place key)) key ≡ false
      → ((q : AccumulatorKey) → new q ≡ cond (is_key key q) w (old q)) → (q : AccumulatorKey) → look entries new q ≡ cond (is_key key q) w (look entries old q)
  put-map old new w free updates q = elim (cases_Bool (is_key key q)) [
    | inl here ↦
        let here-free = subst (λ (k : AccumulatorKey). is_entry_at (slice_get entries (entry_place k)) k ≡ false) (one_key key q here) free in
        unheld (slice_get entries (entry_place q)) q (new q) here-free ∙ updates q ∙ ap (λ b. cond b w (old q)) here ∙ sym (ap (λ b. cond b w (look entries old q)) here)
    | inr there ↦
        ap (last_by_entry (slice_get entries (entry_place q)) q) (updates q ∙ ap (λ b. cond b w (old q)) there) ∙ sym (ap (λ b. cond b w (look entries old q)) there)
  ]

  -- the key comes into the entry of its member, after the map has the positions of the other keys
  pub brought : (old new : AccumulatorKey → Option ℕ) (e put : MemberLast) → slice_get entries (entry_place key) ≡ Some e
      → ((q : AccumulatorKey) → entry_place q ≡ entry_place key → new q ≡ look entries old q) → ((q : AccumulatorKey) → ¬ (entry_place q ≡ entry_place key) → new q ≡ old q)
      → is_entry_of put key ≡ true → put.last ≡ new key → (q : AccumulatorKey) → look (slice_set entries (entry_place key) put) new q ≡ look entries old q
  brought old new e put there moved kept is last q = elim (cases_eq (entry_place key) (entry_place q)) [
    | inl same ↦
        let now : slice_get (slice_set entries (entry_place key) put) (entry_place q) ≡ Some put =
        ap (slice_get (slice_set entries (entry_place key) put)) (sym same) ∙ get-set-same entries (entry_place key) e put there in
        let whole : cond (is_key key q) put.last (new q) ≡ new q = elim (cases_Bool (is_key key q)) [
          | inl here ↦ rw here (last ∙ ap new (one_key key q here))
          | inr apart ↦ rw apart refl
        ] in
        ap (λ o. last_by_entry o q (new q)) now ∙ ap (λ b. cond b put.last (new q)) (same_test put key q is same) ∙ whole ∙ moved q (sym same)
    | inr other ↦
        ap (λ o. last_by_entry o q (new q)) (get-set-other entries (entry_place key) (entry_place q) put (λ same. other (sym same)))
        ∙ ap (last_by_entry (slice_get entries (entry_place q)) q) (kept q (λ same. other (sym same)))
  ]

-- the map gets the position of an entry
pub moved : (entries : List MemberLast) (key : AccumulatorKey) (old new : AccumulatorKey → Option ℕ) (e : MemberLast) → slice_get entries (entry_place key) ≡ Some e
    → is_entry_of e key ≡ true → ((q : AccumulatorKey) → new q ≡ cond (is_key key q) e.last (old q)) → (q : AccumulatorKey) → entry_place q ≡ entry_place key → new q ≡ look entries old q
moved entries key old new e there is updates q same =
    let was : slice_get entries (entry_place q) ≡ Some e = ap (slice_get entries) same ∙ there in
    updates q ∙ ap (λ b. cond b e.last (old q)) (sym (same_test e key q is (sym same))) ∙ sym (ap (λ o. last_by_entry o q (old q)) was)

pub not-moved : (key : AccumulatorKey) (old new : AccumulatorKey → Option ℕ) (w : Option ℕ) → ((q : AccumulatorKey) → new q ≡ cond (is_key key q) w (old q))
    → (q : AccumulatorKey) → ¬ (entry_place q ≡ entry_place key) → new q ≡ old q
not-moved key old new w updates q other = updates q ∙ ap (λ b. cond b w (old q)) (other_place key q (λ same. other (sym same)))

pub not_true : (b : Bool) → not b ≡ true → b ≡ false
not_true true h = sym h
not_true false h = refl

pub not_false : (b : Bool) → not b ≡ false → b ≡ true
not_false true h = refl
not_false false h = sym h

-- an entry that is used is of its own key
pub its_key : (e : MemberLast) (member : ℕ) → e.is_used ≡ true → is_entry_of e (record { family = e.family; member = member; year = e.year }) ≡ true
its_key e member is = λ i. (is i && eq-eqb e.family e.family refl i) && eq-eqb e.year e.year refl i

-- an entry that is not used is of no key
unused : (e : MemberLast) (q : AccumulatorKey) (other : Option ℕ) → e.is_used ≡ false → last_by_entry (Some e) q other ≡ other
unused e q other is = ap (λ u. cond ((u && (e.family == q.family)) && (e.year == q.year)) e.last other) is

pub nothing-moved : (entries : List MemberLast) (place : ℕ) (others : AccumulatorKey → Option ℕ) (e : MemberLast) → slice_get entries place ≡ Some e → e.is_used ≡ false
    → (q : AccumulatorKey) → entry_place q ≡ place → others q ≡ look entries others q
nothing-moved entries place others e there is q same =
    let was : slice_get entries (entry_place q) ≡ Some e = ap (slice_get entries) same ∙ there in
    sym (ap (λ o. last_by_entry o q (others q)) was ∙ unused e q (others q) is)
