use Rattle.std.proofs.Common.{◌≡◌, ◌+◌, length, map, subst, sym, arith}
use Rattle.remit_records.specs.Looked.{looked_up}
use Rattle.remit_records.specs.declared.counts.FileCounts.{FileCounts}
use Rattle.remit_records.proofs.Counting.{FilesCounted, files-all, files-next, files-none}
use Rattle.remit_records.proofs.counts.count_files.Goals as goal

pub loop-place-init : goal.loop-place-init
loop-place-init c =
    subst
    (λ items. FilesCounted (looked_up c.args.decisions.now) c.args.terms.now.plan.names c.args.terms.now.files 0 (map (λ (file : FileCounts). file.counts) items))
    (sym c.new-files.ensures.items) (files-none (looked_up c.args.decisions.now) c.args.terms.now.plan.names c.args.terms.now.files)

pub loop-place-preserved : goal.loop-place-preserved
loop-place-preserved c =
    subst
    (λ items. FilesCounted (looked_up c.args.decisions.now) c.args.terms.now.plan.names c.args.terms.now.files (c.loop-place.place + 1) (map (λ (file : FileCounts). file.counts) items))
    (sym c.in_ok-push.ensures.items)
    (files-next (looked_up c.args.decisions.now) c.args.terms.now.plan.names c.args.terms.now.files c.loop-place.place c.loop-place.files.items
    _ c.loop-place.invariant c.in_ok-count_file.ensures)

pub returns : goal.returns
returns c =
    let all : c.loop-place.place ≡ length c.args.terms.now.files = omega arith in
    files-all (looked_up c.args.decisions.now) c.args.terms.now.plan.names c.args.terms.now.files c.loop-place.place (map (λ file. file.counts) c.loop-place.files.items) all
    c.loop-place.invariant
