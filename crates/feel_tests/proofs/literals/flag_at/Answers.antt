use Rattle.std.proofs.lemmas.Grind.{common_steps}
use Rattle.std.proofs.Common.{sym, ◌∙◌, arith}
use denote.Enum.Bare.{differs_true}
use Rattle.feel_tests.specs.contracts.kind.Kind.{the_type}
use Rattle.feel_tests.specs.declared.kind.Kind.TheVariants as kinds
use Rattle.feel_tests.proofs.Denials.{flag_denied}
use Rattle.feel_tests.proofs.literals.flag_at.Goals as goal

pub returns-then-ne-clause-refused : goal.returns-then-ne-clause-refused
returns-then-ne-clause-refused c memory =
    flag_denied c.args.kind c.args.text.now c.args.flag c.args.rest.now c.requires (differs_true the_type c.args.kind kinds.Flag (sym c.ne.ensures ∙ c.if-ne.true))

pub returns-clause-ok : goal.returns-clause-ok
returns-clause-ok c = grind (arith, common_steps)
