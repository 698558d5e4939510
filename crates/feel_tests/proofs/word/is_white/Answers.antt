use Rattle.std.proofs.lemmas.Bool.{ne_eqb}
use Rattle.feel_tests.proofs.word.is_white.Goals as goal

pub returns-else-byte-eq13 : goal.returns-else-byte-eq13
returns-else-byte-eq13 c =
    let not = c.if-byte-eq13.false in
    rw (ne_eqb c.args.byte 32 not.0, ne_eqb c.args.byte 9 not.1, ne_eqb c.args.byte 13 not.2)
