use Rattle.std.proofs.lemmas.Grind.{common_steps}
use Rattle.std.proofs.Common.{sym, ◌∙◌, arith}
use denote.Enum.Bare.{differs_true}
use Rattle.feel_tests.specs.contracts.kind.Kind.{the_type}
use Rattle.feel_tests.specs.declared.kind.Kind.TheVariants as kinds
use Rattle.feel_tests.specs.Words.{Digits}
use Rattle.feel_tests.proofs.Denials.{number_denied, kind_denied}
use Rattle.feel_tests.proofs.literals.number_at.Goals as goal

pub returns-then-ne-clause-refused : goal.returns-then-ne-clause-refused
returns-then-ne-clause-refused c memory =
    kind_denied c.args.kind c.args.text.now (Digits c.args.digits.now) c.args.rest.now c.requires (differs_true the_type c.args.kind kinds.Number (sym c.ne.ensures ∙ c.if-ne.true))

pub returns-in-Err-clause-refused : goal.returns-in-Err-clause-refused
returns-in-Err-clause-refused c memory =
    number_denied c.args.kind c.args.text.now c.args.digits.now c.args.rest.now c.requires c.in-Err.ensures.refused

pub returns-in-Ok-clause-ok : goal.returns-in-Ok-clause-ok
returns-in-Ok-clause-ok c = grind (arith, common_steps)
