use Rattle.std.proofs.Common.{◌≡◌, ◌<◌, ◌+◌, ℕ, List, [], ◌∷◌, ◌++◌, get_or, length, inl, inr, ap, ◌∙◌, arith}
use Rattle.std.proofs.lemmas.Bool.{cases_lt}
use Rattle.std.proofs.lemmas.List.{get_or_append_left, get_or_push, length_push}
use Rattle.std.specs.Global.{Vec}
use Rattle.remit_records.proofs.decisions.Notes.of_none.Goals as goal

-- one more empty list
empty-more :
    (xs : List (Vec ℕ)) (x : Vec ℕ) (n : ℕ) → length xs ≡ n → x.items ≡ [] → ((i : ℕ) (d : Vec ℕ) → i < n → (get_or xs i d).items ≡ [])
    → (i : ℕ) (d : Vec ℕ) → i < n + 1 → (get_or (xs ++ x ∷ []) i d).items ≡ []
empty-more xs x n long empty each i d below =
    elim (cases_lt i n) [
      | inl within ↦ ap (λ v. v.items) (get_or_append_left xs (x ∷ []) d i (omega arith)) ∙ each i d within
      | inr past ↦ ap (λ v. v.items) (get_or_push xs x d i (omega arith)) ∙ empty
    ]

pub loop-preserved : goal.loop-preserved
loop-preserved c = record {
  count = rw c.in_ok-push.ensures.items (omega (arith, length_push c.loop.positions.items c.new.result, c.loop.invariant.count));
  each = λ i d below.
      rw c.in_ok-push.ensures.items
      (empty-more c.loop.positions.items c.new.result c.loop.counter c.loop.invariant.count c.new.ensures.items c.loop.invariant.each i d below);
}
