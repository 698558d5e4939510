use Rattle.std.proofs.Common.{◌≡◌, ◌<◌, ◌≤◌, length, false, ap, arith, sym, ◌∙◌}
use Rattle.std.proofs.lemmas.Grind.{common_steps}
use Rattle.std.proofs.lemmas.Bool.{false≢true}
use Rattle.std.proofs.lemmas.Option.{same_Some, slice_get_read}
use Rattle.ordered_claims.specs.declared.file_reader.FileReader.{FileReader}
use Rattle.ordered_claims.proofs.Moving.{joined_at, moves_nothing, moves_one, stocked_all, stocked_more}
use Rattle.ordered_claims.proofs.queues.take_each.Goals as goal
use Rattle.ordered_claims.proofs.queues.take_each.Goals.{then-not-stocked, else-not-stocked}

pub files-init : goal.files-init
files-init c = (
  moves_nothing c.args.terms.now c.args.queues.now.items c.args.readers.now.items c.requires.queued c.requires.reading c.requires.joined,
  λ all i queue within there. absurd (omega (arith, within)),
)

pub take_from-requires-clause-joined : goal.take_from-requires-clause-joined
take_from-requires-clause-joined c =
    let queues = c.files.queues in
    let readers = c.files.readers in
    let moves = c.files.invariant.0 in
    let old = c.index_mut.result.now in
    let source = c.index_mut-in-files.result.now in
    let queue_in : c.files.index < queues.len = omega (arith, c.files-test.true, c.len-index-end.ensures, c.files.auto.index-end, c.requires.queued.as_many, moves.queued.as_many, c.args.queues.now.ok.0, queues.ok.0) in
    let there = slice_get_read queues.items queues.len c.files.index old queues.ok.0 queue_in c.index_mut.ensures.value in
    let reader_in : c.files.index < readers.len = omega (arith, queue_in, moves.queued.as_many, moves.reading.as_many, queues.ok.0, readers.ok.0) in
    let beside = slice_get_read readers.items readers.len c.files.index source readers.ok.0 reader_in c.index_mut-in-files.ensures.value in
    joined_at c.args.terms.now c.args.queues.now.items queues.items c.args.readers.now.items readers.items moves c.files.index old source there beside

pub take_from-requires-clause-placed : goal.take_from-requires-clause-placed
take_from-requires-clause-placed c =
    let queues = c.files.queues in
    let readers = c.files.readers in
    let moves = c.files.invariant.0 in
    let old = c.index_mut.result.now in
    let source = c.index_mut-in-files.result.now in
    let queue_in : c.files.index < queues.len = omega (arith, c.files-test.true, c.len-index-end.ensures, c.files.auto.index-end, c.requires.queued.as_many, moves.queued.as_many, c.args.queues.now.ok.0, queues.ok.0) in
    let there = slice_get_read queues.items queues.len c.files.index old queues.ok.0 queue_in c.index_mut.ensures.value in
    let reader_in : c.files.index < readers.len = omega (arith, queue_in, moves.queued.as_many, moves.reading.as_many, queues.ok.0, readers.ok.0) in
    let beside = slice_get_read readers.items readers.len c.files.index source readers.ok.0 reader_in c.index_mut-in-files.ensures.value in
    let looked = slice_get_read readers.items readers.len c.files.index c.index.result.now readers.ok.0 reader_in c.index.ensures in
    let same : c.index.result.now ≡ source = same_Some c.index.result.now source (sym looked ∙ beside) in
    let works : source.has_failed ≡ false = ap (λ (r : FileReader). r.has_failed) (sym same) ∙ c.if-index.false in
    (moves.reading.sound c.files.index source beside works).placed

pub take_from-requires-clause-fits : goal.take_from-requires-clause-fits
take_from-requires-clause-fits c =
    let queues = c.files.queues in
    let moves = c.files.invariant.0 in
    let old = c.index_mut.result.now in
    let queue_in : c.files.index < queues.len = omega (arith, c.files-test.true, c.len-index-end.ensures, c.files.auto.index-end, c.requires.queued.as_many, moves.queued.as_many, c.args.queues.now.ok.0, queues.ok.0) in
    let there = slice_get_read queues.items queues.len c.files.index old queues.ok.0 queue_in c.index_mut.ensures.value in
    moves.queued.fits c.files.index old there

pub files-preserved : goal.files-preserved
files-preserved c =
    let queues = c.files.queues in
    let readers = c.files.readers in
    let moves = c.files.invariant.0 in
    let old = c.index_mut.result.now in
    let source = c.index_mut-in-files.result.now in
    let queue_in : c.files.index < queues.len = omega (arith, c.files-test.true, c.len-index-end.ensures, c.files.auto.index-end, c.requires.queued.as_many, moves.queued.as_many, c.args.queues.now.ok.0, queues.ok.0) in
    let there = slice_get_read queues.items queues.len c.files.index old queues.ok.0 queue_in c.index_mut.ensures.value in
    let reader_in : c.files.index < readers.len = omega (arith, queue_in, moves.queued.as_many, moves.reading.as_many, queues.ok.0, readers.ok.0) in
    let beside = slice_get_read readers.items readers.len c.files.index source readers.ok.0 reader_in c.index_mut-in-files.ensures.value in
    let looked = slice_get_read readers.items readers.len c.files.index c.index.result.now readers.ok.0 reader_in c.index.ensures in
    let same : c.index.result.now ≡ source = same_Some c.index.result.now source (sym looked ∙ beside) in
    let works : source.has_failed ≡ false = ap (λ (r : FileReader). r.has_failed) (sym same) ∙ c.if-index.false in
    let new = c.take_from.new.self in (
      moves_one c.args.terms.now c.args.queues.now.items queues.items c.args.readers.now.items readers.items moves c.files.index old source there beside new c.take_from.new.reader works c.take_from.ensures.takes,
      elim c.if-not-stocked.branch [
        | then-not-stocked w ↦ λ all. absurd (false≢true (sym w.all-is ∙ all))
        | else-not-stocked w ↦ λ all.
            stocked_more queues.items c.files.index old new there (c.in_ok-stocked.ensures.stocked w.if-not-stocked.false) (c.files.invariant.1 (sym w.all-is ∙ all))
      ],
    )

pub returns-in_err-stocked-clause-moves : goal.returns-in_err-stocked-clause-moves
returns-in_err-stocked-clause-moves c =
    let queues = c.files.queues in
    let readers = c.files.readers in
    let moves = c.files.invariant.0 in
    let old = c.index_mut.result.now in
    let source = c.index_mut-in-files.result.now in
    let queue_in : c.files.index < queues.len = omega (arith, c.files-test.true, c.len-index-end.ensures, c.files.auto.index-end, c.requires.queued.as_many, moves.queued.as_many, c.args.queues.now.ok.0, queues.ok.0) in
    let there = slice_get_read queues.items queues.len c.files.index old queues.ok.0 queue_in c.index_mut.ensures.value in
    let reader_in : c.files.index < readers.len = omega (arith, queue_in, moves.queued.as_many, moves.reading.as_many, queues.ok.0, readers.ok.0) in
    let beside = slice_get_read readers.items readers.len c.files.index source readers.ok.0 reader_in c.index_mut-in-files.ensures.value in
    let looked = slice_get_read readers.items readers.len c.files.index c.index.result.now readers.ok.0 reader_in c.index.ensures in
    let same : c.index.result.now ≡ source = same_Some c.index.result.now source (sym looked ∙ beside) in
    let works : source.has_failed ≡ false = ap (λ (r : FileReader). r.has_failed) (sym same) ∙ c.if-index.false in
    moves_one c.args.terms.now c.args.queues.now.items queues.items c.args.readers.now.items readers.items moves c.files.index old source there beside c.take_from.new.self c.take_from.new.reader works c.take_from.ensures.takes

pub returns-clause-stocked : goal.returns-clause-stocked
returns-clause-stocked c =
    let queues = c.files.queues in
    let moves = c.files.invariant.0 in
    let all_in : length queues.items ≤ c.files.index = omega (arith, c.files-test.false, c.len-index-end.ensures, c.requires.queued.as_many, moves.queued.as_many, c.args.queues.now.ok.0) in
    λ all. stocked_all queues.items c.files.index all_in (c.files.invariant.1 all)

pub index_mut-requires : goal.index_mut-requires
index_mut-requires c = grind (arith, common_steps)

pub index_mut-requires-in-files : goal.index_mut-requires-in-files
index_mut-requires-in-files c = grind (arith, common_steps)
