use Rattle.std.specs.Prelude.{codes}
use Rattle.feel_tests.proofs.PlainValues.{no_flag}
use Rattle.feel_tests.proofs.SameBytes.{bytes_apart}
use Rattle.feel_tests.proofs.plain.plain_flag.Goals as goal

pub returns-else-eq-2-clause-refused : goal.returns-else-eq-2-clause-refused
returns-else-eq-2-clause-refused c memory =
    no_flag c.args.text.now
    (λ e. bytes_apart c.args.text.now (codes "true") c.eq.result c.eq.ensures c.if-eq.false e)
    (λ e. bytes_apart c.args.text.now (codes "false") c.eq-else-eq.result c.eq-else-eq.ensures c.if-eq-2.false e)
