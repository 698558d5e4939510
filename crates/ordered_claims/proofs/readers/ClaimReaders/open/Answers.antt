use Rattle.std.proofs.Common.{◌≡◌, [], ap, arith, length, rules}
use Rattle.std.proofs.lemmas.Grind.{common_steps}
use Rattle.std.proofs.lemmas.List.{length-map}
use Rattle.ordered_claims.proofs.Keeping.{opened_all, opened_more, opened_none, opened_taken}
use Rattle.ordered_claims.proofs.readers.ClaimReaders.open.Goals as goal

pub files-init : goal.files-init
files-init c =
    let none : c.new-files.result.items ≡ [] = search rules in
    rw none (opened_none c.args.terms.now)

pub files-preserved : goal.files-preserved
files-preserved c =
    let opened = c.in_ok-open.ensures in
    rw c.in_ok-push.ensures.items (opened_more c.args.terms.now c.files.place c.files.files.items c.in_ok-open.field-0 c.files.invariant opened.none opened.sound)

pub invariant_of-result : goal.invariant_of-result
invariant_of-result c =
    let texts = ap length c.files-place-end.ensures.files in
    let size = length-map c.files-place-end.result.now (λ f. f.now) in
    let all : c.files.place ≡ length c.args.terms.now.files = omega (arith, texts, size, c.files.auto.place-end, c.files-test.false) in
    opened_all c.args.terms.now c.files.place c.files.files.items c.files.invariant all

pub returns-clause-none : goal.returns-clause-none
returns-clause-none c =
    let texts = ap length c.files-place-end.ensures.files in
    let size = length-map c.files-place-end.result.now (λ f. f.now) in
    let all : c.files.place ≡ length c.args.terms.now.files = omega (arith, texts, size, c.files.auto.place-end, c.files-test.false) in
    opened_taken c.args.terms.now c.files.place c.files.files.items c.files.invariant all

pub overflow_add-place : goal.overflow_add-place
overflow_add-place c = grind (arith, common_steps)

pub open-requires-clause-most : goal.open-requires-clause-most
open-requires-clause-most c = grind (arith, common_steps)
