use Rattle.std.proofs.lemmas.Result.{err_from_is_err_and}
use Rattle.claim_gate.proofs.Files.{validated-more, refused-first}
use Rattle.claim_gate.proofs.terms.validate_files.Goals as goal

pub loop-place-preserved : goal.loop-place-preserved
loop-place-preserved c =
    rw c.in_ok-push.ensures.ok
    (validated-more c.args.plan.now.names c.args.files.now c.loop-place.place _ c.loop-place.validated c.in_ok-validate_file.field-0 c.loop-place-test.true
    c.loop-place.invariant c.in_ok-validate_file.ensures.ok)

pub returns-in_err-validate_file-clause-fault : goal.returns-in_err-validate_file-clause-fault
returns-in_err-validate_file-clause-fault c =
    let p = err_from_is_err_and c.from_residual.result c.from_residual.ensures.1 in
    rw (p.1, p.2)
    (refused-first c.args.plan.now.names c.args.files.now c.loop-place.place _ c.loop-place.validated c.in_err-validate_file.field-0.0 c.loop-place-test.true
    c.loop-place.invariant c.in_err-validate_file.ensures.fault)
