use Rattle.std.proofs.Common.{◌≡◌, [], ap, arith, length, rules}
use Rattle.std.proofs.lemmas.List.{length-map}
use Rattle.ordered_claims.proofs.Keeping.{empty_begins, empty_kept, empty_more, empty_none, empty_read}
use Rattle.ordered_claims.proofs.queues.ClaimQueues.new.Goals as goal

pub files-init : goal.files-init
files-init c =
    let none : c.new-files.result.items ≡ [] = search rules in
    rw none empty_none

pub files-preserved : goal.files-preserved
files-preserved c =
    let is = c.new.ensures in
    rw c.in_ok-push.ensures.items (empty_more c.files.place c.files.files.items c.new.result c.files.invariant (record { claims = is.empty; given = is.none; more = is.more }))

pub invariant_of-result : goal.invariant_of-result
invariant_of-result c =
    let texts = ap length c.files-place-end.ensures.files in
    let size = length-map c.files-place-end.result.now (λ f. f.now) in
    let all : c.files.place ≡ length c.args.terms.now.files = omega (arith, texts, size, c.files.auto.place-end, c.files-test.false) in
    empty_kept c.args.terms.now c.files.place c.files.files.items c.files.invariant all

pub returns-clause-start : goal.returns-clause-start
returns-clause-start c = empty_begins c.args.terms.now c.files.place c.files.files.items c.files.invariant

pub returns-clause-read : goal.returns-clause-read
returns-clause-read c =
    let texts = ap length c.files-place-end.ensures.files in
    let size = length-map c.files-place-end.result.now (λ f. f.now) in
    let all : c.files.place ≡ length c.args.terms.now.files = omega (arith, texts, size, c.files.auto.place-end, c.files-test.false) in
    empty_read c.args.terms.now c.files.place c.files.files.items c.files.invariant all
