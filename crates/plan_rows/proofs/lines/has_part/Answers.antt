use Rattle.std.proofs.Common.{◌↔◌, IfOk, IsTrue, IsUtf8, subst, ◌∙◌}
use Rattle.feel_tests.specs.declared.value.Value.TheVariants.{Number}
use Rattle.plan_rows.specs.Expected.{Denotes}
use Rattle.plan_rows.proofs.lines.has_part.Goals as goal

pub returns-in-Amount : goal.returns-in-Amount
returns-in-Amount c =
    let units = c.amount.ensures.value ∙ c.of.ensures in
    rw c.in-Amount.is (subst (λ u. IfOk c.denotes_number.result (λ same. IsTrue same ↔ (IsUtf8 c.args.field.now × Denotes c.args.field.now (Number u)))) units c.denotes_number.ensures)
