use Rattle.std.proofs.Common.{◌≡◌, ap, arith, length}
use Rattle.std.proofs.lemmas.List.{length-map}
use Rattle.run_lists.specs.Entries.{entries_of}
use Rattle.run_lists.proofs.Closes.{batch_closes}
use Rattle.run_lists.proofs.closing.posting.closing_balances.Goals as goal

pub post_files-requires : goal.post_files-requires
post_files-requires c =
    let size = length-map c.files-providers.result.now (λ f. f.now) in
    let long = ap length c.files-providers.ensures.files in
    omega (arith, size, long)

pub returns : goal.returns
returns c =
    let size = length-map c.files-providers.result.now (λ f. f.now) in
    let long = ap length c.files-providers.ensures.files in
    let as_many : length c.files-providers.result.now ≡ length c.args.terms.now.files = omega (arith, size, long) in
    batch_closes c.args.terms.now c.args.batch.now.terms c.journal-journal.result.now c.args.batch.now.journal (length c.files-providers.result.now) c.in_ok-decisions.decisions
    (entries_of c.in_ok-closing.closing) (entries_of c.post_files.new.closing) c.requires.same_terms c.journal-journal.ensures.finished c.journal-journal.ensures.journal c.in_ok-decisions.ensures as_many
    c.in_ok-closing.ensures c.in_ok-post_files.ensures c.len-accounts.ensures.sorted
