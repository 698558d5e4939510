use Rattle.std.proofs.Common.{◌≡◌, ap, arith, length}
use Rattle.std.proofs.lemmas.List.{length-map}
use Rattle.remit_records.proofs.Counting.{run-counted}
use Rattle.remit_records.proofs.counts.count_run.Goals as goal

pub count_files-requires : goal.count_files-requires
count_files-requires c =
    let size = length-map c.files-providers.result.now (λ f. f.now) in
    let long = ap length c.files-providers.ensures.files in
    omega (arith, size, long)

pub returns : goal.returns
returns c =
    let size = length-map c.files-providers.result.now (λ f. f.now) in
    let long = ap length c.files-providers.ensures.files in
    let as_many : length c.files-providers.result.now ≡ length c.args.terms.now.files = omega (arith, size, long) in
    run-counted c.args.terms.now c.args.batch.now.terms c.journal-journal.result.now c.args.batch.now.journal (length c.files-providers.result.now)
    c.in_ok-decisions.decisions c.over.result (record { files = c.in_ok-files.files; paid = c.paid-paid.result }) c.requires.same_terms
    c.journal-journal.ensures.finished c.journal-journal.ensures.journal c.in_ok-decisions.ensures as_many c.in_ok-files.ensures c.over.ensures c.paid-paid.ensures
