use Rattle.std.proofs.lemmas.Grind.{common_steps}
use Rattle.std.proofs.lemmas.Bool.{iff_false}
use Rattle.std.proofs.Common.{refl, ◌∙◌, arith}
use Rattle.feel_tests.proofs.Denials.{value_trailing}
use Rattle.feel_tests.proofs.reading.read_value.Goals as goal

pub returns-then-is_blank-clause-ok : goal.returns-then-is_blank-clause-ok
returns-then-is_blank-clause-ok c =
    (c.in-Ok.rest.now, rw (← c.as_bytes.ensures.value) c.in-Ok.ensures.ok, c.if-is_blank.ensures.0 refl)

pub returns-else-is_blank-clause-refused : goal.returns-else-is_blank-clause-refused
returns-else-is_blank-clause-refused c memory value h =
    value_trailing c.args.kind c.as_bytes.result.now c.in-Ok.value c.in-Ok.rest.now c.in-Ok.ensures.ok (iff_false c.is_blank.ensures c.if-is_blank.false) value (rw c.as_bytes.ensures.value h)

pub returns-in-Err-clause-refused : goal.returns-in-Err-clause-refused
returns-in-Err-clause-refused c memory value h =
    c.in-Err.ensures.refused (λ e. memory (c.fault_in-in-Err.ensures.cause ∙ e)) value h.0 (rw c.as_bytes.ensures.value h.1)

pub returns-else-is_blank-clause-place : goal.returns-else-is_blank-clause-place
returns-else-is_blank-clause-place c = grind (arith, common_steps)

pub returns-then-is_blank-clause-kind : goal.returns-then-is_blank-clause-kind
returns-then-is_blank-clause-kind c = grind (arith, common_steps)
