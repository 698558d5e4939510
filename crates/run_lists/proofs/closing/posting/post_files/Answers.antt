use Rattle.std.proofs.Common.{◌≡◌, ◌<◌, length, arith, subst}
use Rattle.remit_records.specs.Looked.{looked_up}
use Rattle.run_lists.specs.Entries.{entries_of}
use Rattle.run_lists.proofs.Walking.{files-all, files-next, files-none}
use Rattle.run_lists.proofs.closing.posting.post_files.Goals as goal

pub loop-place-init : goal.loop-place-init
loop-place-init c = files-none c.args.terms.now.plan (looked_up c.args.decisions.now) c.args.terms.now.files (entries_of c.args.closing.now)

pub loop-place-preserved : goal.loop-place-preserved
loop-place-preserved c =
    files-next c.args.terms.now.plan (looked_up c.args.decisions.now) c.args.terms.now.files c.loop-place.place _ _ _
    (subst (λ n. c.loop-place.place < n) c.requires c.loop-place-test.true) c.loop-place.invariant c.in_ok-post_file.ensures

pub returns : goal.returns
returns c =
    let all : c.loop-place.place ≡ length c.args.terms.now.files = omega arith in
    files-all c.args.terms.now.plan (looked_up c.args.decisions.now) c.args.terms.now.files c.loop-place.place _ _ all c.loop-place.invariant
