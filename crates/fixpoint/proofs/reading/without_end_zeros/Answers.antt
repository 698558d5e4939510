use Rattle.std.proofs.Common.{◌≡◌, ℕ, ◌≤◌, List, take, length, sym, ap, ◌∙◌, arith}
use Rattle.std.proofs.lemmas.List.{take_all}
use Rattle.fixpoint.specs.NumberText.{without_end_zeros}
use Rattle.fixpoint.proofs.Digits.{without_end_zeros_less, without_end_zeros_stop}
use Rattle.fixpoint.proofs.reading.without_end_zeros.Goals as goal
use Rattle.fixpoint.proofs.reading.without_end_zeros.Goals.{then-loop-len-test+else-digits-len-eq48, else-loop-len-test}

pub loop-len-init : goal.loop-len-init
loop-len-init c = (omega arith, ap without_end_zeros (take_all (length c.args.digits.now) c.args.digits.now (omega arith)))

pub loop-len-preserved : goal.loop-len-preserved
loop-len-preserved c = (
  omega arith,
  without_end_zeros_less c.args.digits.now c.loop-len.len c.loop-len-test.true c.loop-len.invariant.0 c.if-digits-len-eq48.true
      ∙ c.loop-len.invariant.1,
)

none_left : (n : ℕ) (xs : List ℕ) → n ≤ 0 → take n xs ≡ without_end_zeros (take n xs)
none_left n xs h = let none : 0 ≡ n = omega arith in ap (λ k. take k xs) (sym none) ∙ ap (λ k. without_end_zeros (take k xs)) none

pub returns : goal.returns
returns c = elim c.loop-len-test.branch [
  | then-loop-len-test+else-digits-len-eq48 w ↦
      sym (without_end_zeros_stop c.args.digits.now c.loop-len.len w.loop-len-test.true c.loop-len.invariant.0 w.if-digits-len-eq48.false)
      ∙ c.loop-len.invariant.1
  | else-loop-len-test w ↦ none_left c.loop-len.len c.args.digits.now w.loop-len-test.false ∙ c.loop-len.invariant.1
]
