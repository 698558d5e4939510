use Rattle.std.proofs.lemmas.Bool.{eqb-false}
use Rattle.std.proofs.lemmas.Grind.{common_steps}
use Rattle.std.proofs.Common.{arith, length, refl, sym}
use Rattle.std.proofs.lemmas.List.{length-map}
use Rattle.std.proofs.lemmas.Result.{err_from_is_err_and}
use Rattle.claim_gate.specs.Terms.{IsFileCount, text_in, texts_of}
use Rattle.claim_gate.proofs.Files.{are_claim_files, refused-balances, refused-files, have-roles}
use Rattle.claim_gate.proofs.terms.Terms.with_order.Goals as goal

pub returns-in_err-balances_of-clause-fault : goal.returns-in_err-balances_of-clause-fault
returns-in_err-balances_of-clause-fault c =
    let size = length-map c.args.files.now (λ f. f.now) in
    let count : IsFileCount (length (texts_of c.args.files.now)) = record { least = omega (arith, size, eqb-false _ _ (sym c.if-is_empty.ensures)); most = omega (arith, size, c.if-files-gt-FILES_LIMIT.false) } in
    let claims = are_claim_files c.args.plan.now.names (texts_of c.args.files.now) c.in_ok-validate_files.field-0 c.in_ok-validate_files.ensures.ok in
    let p = err_from_is_err_and c.from_residual-in_err-balances_of.result c.from_residual-in_err-balances_of.ensures.1 in
    rw (p.1, p.2)
    (refused-balances c.args.plan.now (texts_of c.args.files.now) (text_in c.args.balances) c.in_err-balances_of.field-0.0 (have-roles c.roles.result c.args.plan.now.roles c.roles.ensures.roles c.if-is_none.ensures) count claims
    c.in_err-balances_of.ensures.fault)

pub invariant_of-result : goal.invariant_of-result
invariant_of-result c =
    let size = length-map c.args.files.now (λ f. f.now) in
    let count : IsFileCount (length (texts_of c.args.files.now)) = record { least = omega (arith, size, eqb-false _ _ (sym c.if-is_empty.ensures)); most = omega (arith, size, c.if-files-gt-FILES_LIMIT.false) } in
    let claims = are_claim_files c.args.plan.now.names (texts_of c.args.files.now) c.in_ok-validate_files.field-0 c.in_ok-validate_files.ensures.ok in
    (record { roles = have-roles c.roles.result c.args.plan.now.roles c.roles.ensures.roles c.if-is_none.ensures; count = count; files = claims }, c.in_ok-validate_files.ensures.ok)

pub returns-clause-ok : goal.returns-clause-ok
returns-clause-ok c =
    let size = length-map c.args.files.now (λ f. f.now) in
    let count : IsFileCount (length (texts_of c.args.files.now)) = record { least = omega (arith, size, eqb-false _ _ (sym c.if-is_empty.ensures)); most = omega (arith, size, c.if-files-gt-FILES_LIMIT.false) } in
    let claims = are_claim_files c.args.plan.now.names (texts_of c.args.files.now) c.in_ok-validate_files.field-0 c.in_ok-validate_files.ensures.ok in
    record {
      plan_is = refl;
      files_are = refl;
      balances_are = c.in_ok-balances_of.ensures.ok;
      cutoff_is = refl;
      holds = record { roles = have-roles c.roles.result c.args.plan.now.roles c.roles.ensures.roles c.if-is_none.ensures; count = count; files = claims };
    }

pub returns-in_err-validate_files-clause-fault : goal.returns-in_err-validate_files-clause-fault
returns-in_err-validate_files-clause-fault c =
    let size = length-map c.args.files.now (λ f. f.now) in
    let count : IsFileCount (length (texts_of c.args.files.now)) = record { least = omega (arith, size, eqb-false _ _ (sym c.if-is_empty.ensures)); most = omega (arith, size, c.if-files-gt-FILES_LIMIT.false) } in
    let p = err_from_is_err_and c.from_residual.result c.from_residual.ensures.1 in
    rw (p.1, p.2)
    (refused-files c.args.plan.now (texts_of c.args.files.now) (text_in c.args.balances) c.in_err-validate_files.field-0.0
    (have-roles c.roles.result c.args.plan.now.roles c.roles.ensures.roles c.if-is_none.ensures) count c.in_err-validate_files.ensures.fault)

pub returns-then-is_empty-clause-fault : goal.returns-then-is_empty-clause-fault
returns-then-is_empty-clause-fault c = grind (arith, common_steps)
