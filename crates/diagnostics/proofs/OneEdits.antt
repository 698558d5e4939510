-- Words that differ by one edit, by their first bytes.
use Rattle.std.proofs.Common.{◌≡◌, ◌≤◌, ◌-◌, ◌↔◌, Bool, false, IsTrue, ℕ, List, [], ◌∷◌, ◌++◌, length, take, drop, slice_index, ◌∙◌, ap, sym, subst, refl, arith}
use Rattle.std.proofs.lemmas.Bool.{false≢true}
use Rattle.std.proofs.lemmas.List.{length-drop, take-append-drop, take_all}
use Rattle.diagnostics.specs.Edits.{DoNotMeet, IsEdit, IsExchanged, IsOneEdit, IsOtherFirst, IsWithoutFirst}
use Rattle.diagnostics.specs.Edits.IsEdit.{more, less, another, exchanged}

-- an edit can be undone by an edit
edit_back : (old new : List ℕ) → IsEdit old new → IsEdit new old
edit_back _ _ (more byte) = less byte
edit_back _ _ (less byte) = more byte
edit_back _ _ (another old new other) = another new old (λ same. other (sym same))
edit_back _ _ (exchanged first second other) = exchanged second first (λ same. other (sym same))

pub goes_back : (one other : List ℕ) → IsOneEdit one other → IsOneEdit other one
goes_back one other edit = record {
  front = edit.front;
  back = edit.back;
  old = edit.new;
  new = edit.old;
  edit = edit_back edit.old edit.new edit.edit;
  one_is = edit.other_is;
  other_is = edit.one_is;
}

-- a word without its first byte differs from it by one edit
pub from_without : (one other : List ℕ) → IsWithoutFirst one other → IsOneEdit one other
from_without [] other without = absurd (omega (arith, without.0))
from_without (x ∷ xs) other without = record {
  front = [];
  back = other;
  old = x ∷ [];
  new = [];
  edit = less x;
  one_is = ap (λ it. x ∷ it) without.1;
  other_is = refl;
}

-- a word with another first byte differs by one edit
pub from_other_first : (one other : List ℕ) → DoNotMeet one other → IsOtherFirst one other → IsOneEdit one other
from_other_first [] other apart alike = absurd (omega (arith, alike.0))
from_other_first (x ∷ xs) [] apart alike = absurd (omega (arith, alike.1))
from_other_first (x ∷ xs) (y ∷ ys) apart alike = record {
  front = [];
  back = ys;
  old = x ∷ [];
  new = y ∷ [];
  edit = another x y (λ same. apart x xs ys refl (ap (λ it. it ∷ ys) (sym same)));
  one_is = ap (λ it. x ∷ it) alike.2;
  other_is = refl;
}

-- a word with its first two bytes swapped differs by one edit
pub from_exchanged : (one other : List ℕ) → DoNotMeet one other → IsExchanged one other → IsOneEdit one other
from_exchanged [] other apart alike = absurd (omega (arith, alike.one_has))
from_exchanged (x ∷ []) other apart alike = absurd (omega (arith, alike.one_has))
from_exchanged (x ∷ z ∷ xs) [] apart alike = absurd (omega (arith, alike.other_has))
from_exchanged (x ∷ z ∷ xs) (y ∷ []) apart alike = absurd (omega (arith, alike.other_has))
from_exchanged (x ∷ z ∷ xs) (y ∷ w ∷ ys) apart alike = record {
  front = [];
  back = ys;
  old = x ∷ z ∷ [];
  new = z ∷ x ∷ [];
  edit = exchanged x z (λ same. apart x (z ∷ xs) (w ∷ ys) refl (ap (λ it. it ∷ (w ∷ ys)) (sym (same ∙ alike.second))));
  one_is = ap (λ it. x ∷ (z ∷ it)) alike.back;
  other_is = ap (λ it. it ∷ (w ∷ ys)) (sym alike.second) ∙ ap (λ it. z ∷ (it ∷ ys)) (sym alike.first);
}

-- an edit at the first byte is one of the four forms
data Fronts (one other : List ℕ) : Type 0 where
  without : IsWithoutFirst one other → Fronts one other
  with_more : IsWithoutFirst other one → Fronts one other
  other_first : IsOtherFirst one other → Fronts one other
  turned : IsExchanged one other → Fronts one other

front_of : (old new back : List ℕ) → IsEdit old new → Fronts (old ++ back) (new ++ back)
front_of _ _ back (more byte) = with_more (omega arith, refl)
front_of _ _ back (less byte) = without (omega arith, refl)
front_of _ _ back (another old new other) = other_first (omega arith, omega arith, refl)
front_of _ _ back (exchanged first second other) = turned (record { one_has = omega arith; other_has = omega arith; first = refl; second = refl; back = refl })

fronts : (one other front back old new : List ℕ) → DoNotMeet one other → IsEdit old new → one ≡ front ++ (old ++ back) → other ≡ front ++ (new ++ back) → Fronts one other
fronts one other [] back old new apart edit one_is other_is = rw (one_is, other_is) (front_of old new back edit)
fronts one other (x ∷ xs) back old new apart edit one_is other_is = absurd (apart x (xs ++ (old ++ back)) (xs ++ (new ++ back)) one_is other_is)

is_of_front : (one other : List ℕ) (w v o x : Bool) → Fronts one other → (IsTrue w ↔ IsWithoutFirst one other) → (IsTrue v ↔ IsWithoutFirst other one)
    → (IsTrue o ↔ IsOtherFirst one other) → (IsTrue x ↔ IsExchanged one other) → w ≡ false → v ≡ false → o ≡ false → IsTrue x
is_of_front one other w v o x (without it) is_w is_v is_o is_x no_w no_v no_o = absurd (false≢true (sym no_w ∙ is_w.1 it))
is_of_front one other w v o x (with_more it) is_w is_v is_o is_x no_w no_v no_o = absurd (false≢true (sym no_v ∙ is_v.1 it))
is_of_front one other w v o x (other_first it) is_w is_v is_o is_x no_w no_v no_o = absurd (false≢true (sym no_o ∙ is_o.1 it))
is_of_front one other w v o x (turned it) is_w is_v is_o is_x no_w no_v no_o = is_x.1 it

-- an edit that is none of the first three forms is the fourth
pub last_front : (one other : List ℕ) (w v o x : Bool) → DoNotMeet one other → (IsTrue w ↔ IsWithoutFirst one other) → (IsTrue v ↔ IsWithoutFirst other one)
    → (IsTrue o ↔ IsOtherFirst one other) → (IsTrue x ↔ IsExchanged one other) → w ≡ false → v ≡ false → o ≡ false → IsTrue x ↔ IsOneEdit one other
last_front one other w v o x apart is_w is_v is_o is_x no_w no_v no_o = (
  λ it. from_exchanged one other apart (is_x.0 it),
  λ edit. is_of_front one other w v o x (fronts one other edit.front edit.back edit.old edit.new apart edit.edit edit.one_is edit.other_is) is_w is_v is_o is_x no_w no_v no_o,
)

-- words with a common beginning differ by one edit if their rests do
begins_alike : (byte : ℕ) (one other : List ℕ) → IsOneEdit one other → IsOneEdit (byte ∷ one) (byte ∷ other)
begins_alike byte one other edit = record {
  front = byte ∷ edit.front;
  back = edit.back;
  old = edit.old;
  new = edit.new;
  edit = edit.edit;
  one_is = ap (λ it. byte ∷ it) edit.one_is;
  other_is = ap (λ it. byte ∷ it) edit.other_is;
}

pub front_alike : (front one other : List ℕ) → IsOneEdit one other → IsOneEdit (front ++ one) (front ++ other)
front_alike [] one other edit = edit
front_alike (x ∷ xs) one other edit = begins_alike x (xs ++ one) (xs ++ other) (front_alike xs one other edit)

-- a common first byte before the edit
edited_after : (byte : ℕ) (one other front back old new : List ℕ) → IsEdit old new → byte ∷ one ≡ front ++ (old ++ back) → byte ∷ other ≡ front ++ (new ++ back) → IsOneEdit one other
edited_after byte one other (x ∷ xs) back old new edit one_is other_is = record {
  front = xs;
  back = back;
  old = old;
  new = new;
  edit = edit;
  one_is = ap (drop 1) one_is;
  other_is = ap (drop 1) other_is;
}
edited_after byte one other [] back _ _ (more added) one_is other_is =
    let same : other ≡ byte ∷ one = ap (drop 1) other_is ∙ sym one_is in
    goes_back other one (from_without other one (omega (arith, ap length same), ap (drop 1) same))
edited_after byte one other [] back _ _ (less gone) one_is other_is =
    let same : one ≡ byte ∷ other = ap (drop 1) one_is ∙ sym other_is in
    from_without one other (omega (arith, ap length same), ap (drop 1) same)
edited_after byte one other [] back _ _ (another old new differs) one_is other_is =
    absurd (differs (sym (ap (λ it. slice_index it 0) one_is) ∙ ap (λ it. slice_index it 0) other_is))
edited_after byte one other [] back _ _ (exchanged first second differs) one_is other_is =
    absurd (differs (sym (ap (λ it. slice_index it 0) one_is) ∙ ap (λ it. slice_index it 0) other_is))

edited_after_front : (front one other : List ℕ) → IsOneEdit (front ++ one) (front ++ other) → IsOneEdit one other
edited_after_front [] one other edit = edit
edited_after_front (x ∷ xs) one other edit =
    edited_after_front xs one other
    (edited_after x (xs ++ one) (xs ++ other) edit.front edit.back edit.old edit.new edit.edit edit.one_is edit.other_is)

-- the rest of a list from an index on
rest_is : (place : ℕ) (text : List ℕ) → place ≤ length text → take (length text - place) (drop place text) ≡ drop place text
rest_is place text within = take_all (length text - place) (drop place text) (omega (arith, length-drop place text))

-- words with a common beginning differ by one edit if and only if their rests do
pub after_common : (one other : List ℕ) (place : ℕ) (result : Bool) → take place one ≡ take place other → place ≤ length one → place ≤ length other
    → (IsTrue result ↔ IsOneEdit (take (length one - place) (drop place one)) (take (length other - place) (drop place other))) → IsTrue result ↔ IsOneEdit one other
after_common one other place result alike within_one within_other is =
    let whole_one : take place one ++ drop place one ≡ one = take-append-drop place one in
    let whole_other : take place one ++ drop place other ≡ other = ap (λ it. it ++ drop place other) alike ∙ take-append-drop place other in
    let rests : IsTrue result ↔ IsOneEdit (drop place one) (drop place other) = rw (rest_is place one within_one, rest_is place other within_other) at is in (
      λ it. subst (λ it. IsOneEdit one it) whole_other (subst (λ it. IsOneEdit it (take place one ++ drop place other)) whole_one
          (front_alike (take place one) (drop place one) (drop place other) (rests.0 it))),
      λ edit. rests.1 (edited_after_front (take place one) (drop place one) (drop place other) (subst (λ it. IsOneEdit it (take place one ++ drop place other)) (sym whole_one) (subst (λ it. IsOneEdit one it) (sym whole_other) edit))),
    )
