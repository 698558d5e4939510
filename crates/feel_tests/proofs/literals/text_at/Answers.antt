use Rattle.std.proofs.lemmas.Grind.{common_steps}
use Rattle.std.proofs.Common.{sym, ◌∙◌, arith}
use denote.Enum.Bare.{differs_true}
use Rattle.feel_tests.specs.contracts.kind.Kind.{the_type}
use Rattle.feel_tests.specs.declared.kind.Kind.TheVariants as kinds
use Rattle.std.proofs.lemmas.Result.{err_from_is_err_and}
use Rattle.feel_tests.specs.Words.{Quoted}
use Rattle.feel_tests.proofs.Denials.{string_denied, kind_denied, text_denied}
use Rattle.feel_tests.proofs.literals.text_at.Goals as goal

pub returns-in_err-bytes-clause-refused : goal.returns-in_err-bytes-clause-refused
returns-in_err-bytes-clause-refused c =
    let p = err_from_is_err_and c.from_residual.result c.from_residual.ensures.1 in
    rw (p.1, p.2) (string_denied c.args.kind c.args.text.now c.requires.0 c.in_err-bytes.field-0.0 c.requires.1 c.in_err-bytes.ensures.refused)

pub returns-then-ne-clause-refused : goal.returns-then-ne-clause-refused
returns-then-ne-clause-refused c memory =
    kind_denied c.args.kind c.args.text.now (Quoted c.in_ok-bytes.bytes.items) c.in_ok-bytes.rest.now c.in_ok-bytes.ensures.ok (differs_true the_type c.args.kind kinds.Text (sym c.ne.ensures ∙ c.if-ne.true))

pub returns-in-None-clause-refused : goal.returns-in-None-clause-refused
returns-in-None-clause-refused c memory =
    text_denied c.args.kind c.args.text.now c.in_ok-bytes.bytes.items c.in_ok-bytes.rest.now c.in_ok-bytes.ensures.ok c.in-None.ensures.none

pub returns-in-Some-clause-ok : goal.returns-in-Some-clause-ok
returns-in-Some-clause-ok c = grind (arith, common_steps)
