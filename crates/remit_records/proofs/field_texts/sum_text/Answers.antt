use Rattle.std.proofs.Common.{◌≡◌, ◌/◌, ◌%◌, ℕ, pos, ◌++◌, ◌∷◌, decimal, ap₂, ◌∙◌, arith}
use Rattle.std.proofs.lemmas.Fmt.{decimal_digit}
use Rattle.std.proofs.lemmas.Result.{IfOk-weaker}
use Rattle.fixpoint.specs.Money.{money_text}
use Rattle.remit_records.proofs.field_texts.sum_text.Goals as goal

-- the two digits of the cents are written one by one
by_digits : (units : ℕ) → decimal (units / 10000) ++ (46 ∷ (decimal (units % 10000 / 100 / 10) ++ decimal (units % 10000 / 100 % 10))) ≡ money_text (pos units)
by_digits units =
    let tens = decimal_digit (units % 10000 / 100 / 10) (omega arith) in
    let ones = decimal_digit (units % 10000 / 100 % 10) (omega arith) in
    ap₂ (λ t o. decimal (units / 10000) ++ (46 ∷ (t ++ o))) tens ones

pub returns : goal.returns
returns c = IfOk-weaker c.format.result _ _ (λ text is. is ∙ by_digits c.args.units) c.format.ensures.ok
