use Rattle.std.proofs.Common.{◌≡◌, ◌<◌, length, arith, subst}
use Rattle.remit_records.specs.Looked.{looked_up}
use Rattle.run_lists.proofs.NotesWalking.{files-all, files-next, files-none}
use Rattle.run_lists.proofs.notes.note_files.Goals as goal

pub loop-place-init : goal.loop-place-init
loop-place-init c = files-none c.args.terms.now (looked_up c.args.decisions.now) c.args.notes.now.items c.requires.empty

pub loop-place-preserved : goal.loop-place-preserved
loop-place-preserved c =
    files-next c.args.terms.now (looked_up c.args.decisions.now) c.loop-place.place _ _
    (subst (λ n. c.loop-place.place < n) c.requires.all c.loop-place-test.true) c.loop-place.invariant c.in_ok-note_file.ensures

pub returns : goal.returns
returns c =
    let all : c.loop-place.place ≡ length c.args.terms.now.files = omega arith in
    files-all c.args.terms.now (looked_up c.args.decisions.now) c.loop-place.place _ all c.loop-place.invariant
