-- Two different texts that are compared record by record.
use Rattle.std.proofs.Common.{inl, inr, ◌≡◌, ◌≢◌, ℕ, ◌+◌, ◌<◌, ◌≤◌, Bool, true, false, not, List, [], ◌∷◌, ◌++◌, length, take, drop, refl, sym, ap, subst, ◌∙◌, arith, append-nil, length-append, take-append-drop}
use Rattle.std.specs.List.{All, concat}
use Rattle.std.proofs.Math.Seq.{take-add}
use Rattle.std.specs.Str.{bytes_eq}
use Rattle.std.proofs.lemmas.Bool.{both_ways, not-false, not-true}
use Rattle.std.proofs.lemmas.Slice.Eq.{bytes_eq-Decides}
use Rattle.std.proofs.lemmas.List.{length-take, length-take-le, length_push, take_all}
use Rattle.std.proofs.lemmas.List.Elements.{All-push}
use Rattle.std.proofs.lemmas.List.Folds.{concat-append}
use Rattle.adjudicate.specs.Differing.{IsFirstDifference}
use Rattle.adjudicate.specs.RecordEnds.{HasNoEnd, IsFirstRecord, IsRecord, ends_at}
use Rattle.adjudicate.specs.declared.audit.difference.Difference.{Difference}

-- what the test of two texts by `!=` says
pub differ_from_ne : (xs ys : List ℕ) (r : Bool) → r ≡ not (bytes_eq xs ys) → r ≡ true → xs ≢ ys
differ_from_ne xs ys r test is_true same = both_ways (bytes_eq xs ys) (not-true (bytes_eq xs ys) (sym test ∙ is_true)) ((bytes_eq-Decides xs ys).1 same)

pub same_from_ne : (xs ys : List ℕ) (r : Bool) → r ≡ not (bytes_eq xs ys) → r ≡ false → xs ≡ ys
same_from_ne xs ys r test is_false = (bytes_eq-Decides xs ys).0 (not-false (bytes_eq xs ys) (sym test ∙ is_false))

-- what the test of two texts by `==` says
pub same_from_eq : (xs ys : List ℕ) (r : Bool) → r ≡ bytes_eq xs ys → r ≡ true → xs ≡ ys
same_from_eq xs ys r test is_true = (bytes_eq-Decides xs ys).0 (sym test ∙ is_true)

-- both texts begin with these whole records, which have this many bytes in all
pub record HasShared (given due : List ℕ) (number start : ℕ) : Type 0 where
  pub before : List (List ℕ)
  pub each : All IsRecord before
  pub counted : number ≡ length before
  pub given_begins : take start given ≡ concat before
  pub due_begins : take start due ≡ concat before
  pub long : start ≡ length (concat before)
  pub fewer : number ≤ start

pub shares_none : (given due : List ℕ) → HasShared given due 0 0
shares_none given due = record { before = []; each = λ k d below. absurd (omega (arith, below)); counted = refl; given_begins = refl; due_begins = refl; long = refl; fewer = omega arith }

-- a beginning of a text that has all its bytes is no longer than the text
pub start_within : (text front : List ℕ) (start : ℕ) → take start text ≡ front → start ≡ length front → start ≤ length text
start_within text front start begins long = omega (arith, ap length begins, length-take start text, long)

-- a text in which a record ends is not one in which none does
no_end_within : (text record_bytes : List ℕ) → record_bytes ≡ text → IsRecord record_bytes → ¬ HasNoEnd text
no_end_within text record_bytes same whole none =
    let is : IsRecord text = subst IsRecord same whole in
    both_ways (ends_at text is.last) (none is.last (omega (arith, is.long))) is.ends

-- after a shared record, both texts begin with one more
pub record SharesMore (given due : List ℕ) (number start size : ℕ) : Type 0 where
  pub shared : HasShared given due (number + 1) (start + size)
  pub some : 0 < size

module _ (given due : List ℕ) (differ : given ≢ due) (number start : ℕ) (shared : HasShared given due number start) where
  -- the texts are not both at their ends
  not_both_ended : drop start given ≢ drop start due
  not_both_ended same =
      differ (sym (take-append-drop start given) ∙ ap (λ xs. xs ++ drop start given) (shared.given_begins ∙ sym shared.due_begins)
      ∙ ap (λ xs. take start due ++ xs) same ∙ take-append-drop start due)

  module _ (found expected : ℕ) (is_found : IsFirstRecord (drop start given) found) (is_expected : IsFirstRecord (drop start due) expected)
      (same : take found (drop start given) ≡ take expected (drop start due)) where
    -- the same record has the same number of bytes
    same_size : found ≡ expected
    same_size =
        let one = length-take-le found (drop start given) is_found.within in
        let other = length-take-le expected (drop start due) is_expected.within in
        sym one ∙ ap length same ∙ other

    -- the shared record is a whole one
    is_whole : IsRecord (take found (drop start given))
    is_whole = elim is_found.whole [
      | inl whole ↦ whole
      | inr (all, none) ↦
          let bytes : take found (drop start given) ≡ drop start given = take_all found (drop start given) (omega (arith, all)) in
          elim is_expected.whole [
            | inl whole ↦ absurd (no_end_within (drop start given) (take expected (drop start due)) (sym same ∙ bytes) whole none)
            | inr (all_due, none_due) ↦
                absurd (not_both_ended (sym bytes ∙ same ∙ take_all expected (drop start due) (omega (arith, all_due))))
          ]
    ]

    longer : concat (shared.before ++ take found (drop start given) ∷ []) ≡ concat shared.before ++ take found (drop start given)
    longer = concat-append shared.before (take found (drop start given) ∷ []) ∙ ap (λ xs. concat shared.before ++ xs) (append-nil (take found (drop start given)))

    pub shares_more : SharesMore given due number start found
    shares_more = record {
      shared = record {
        before = shared.before ++ take found (drop start given) ∷ [];
        each = All-push IsRecord shared.before (take found (drop start given)) shared.each is_whole;
        counted = ap (λ n. n + 1) shared.counted ∙ sym (length_push shared.before (take found (drop start given)));
        given_begins = take-add start found given ∙ ap (λ xs. xs ++ take found (drop start given)) shared.given_begins ∙ sym longer;
        due_begins =
            take-add start found due ∙ ap (λ n. take start due ++ take n (drop start due)) same_size
            ∙ ap (λ xs. take start due ++ xs) (sym same) ∙ ap (λ xs. xs ++ take found (drop start given)) shared.due_begins ∙ sym longer;
        long =
            ap (λ n. n + found) shared.long ∙ ap (λ n. length (concat shared.before) + n) (sym (length-take-le found (drop start given) is_found.within))
            ∙ sym (length-append (concat shared.before) (take found (drop start given))) ∙ ap length (sym longer);
        fewer = omega (arith, shared.fewer, is_whole.long, length-take-le found (drop start given) is_found.within);
      };
      some = omega (arith, is_whole.long, length-take-le found (drop start given) is_found.within);
    }

-- the record at which the comparison ends is the first that differs
pub first_differs : (given due : List ℕ) (difference : Difference) → HasShared given due difference.number difference.start
    → IsFirstRecord (drop difference.start given) difference.found_bytes → IsFirstRecord (drop difference.start due) difference.expected_bytes
    → take difference.found_bytes (drop difference.start given) ≢ take difference.expected_bytes (drop difference.start due) → IsFirstDifference given due difference
first_differs given due difference shared found expected differ = record {
  before = shared.before;
  each = shared.each;
  counted = shared.counted;
  given_begins = shared.given_begins;
  due_begins = shared.due_begins;
  start = shared.long;
  found = found;
  expected = expected;
  differ = differ;
}
