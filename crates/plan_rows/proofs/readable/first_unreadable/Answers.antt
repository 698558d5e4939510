use Rattle.std.proofs.Common.{refl}
use Rattle.std.proofs.lemmas.Bool.{false≢true}
use Rattle.std.proofs.lemmas.Option.{slice_get-get_or}
use Rattle.plan_rows.proofs.Readings.{readable_all, readable_more}
use Rattle.plan_rows.proofs.readable.first_unreadable.Goals as goal

pub loop-place-preserved : goal.loop-place-preserved
loop-place-preserved c =
    let says = rw c.if-not-branch.false at c.in_ok-is_readable.ensures in
    readable_more c.args.plan.now c.args.columns.now _ c.loop-place.place _ _ c.loop-place-test.true c.field_of.ensures c.loop-place.invariant (says.0 refl)

pub returns-then-not-branch-clause-unreadable : goal.returns-then-not-branch-clause-unreadable
returns-then-not-branch-clause-unreadable c =
    let says = rw c.if-not-branch.true at c.in_ok-is_readable.ensures in
    record {
      column = _;
      present = slice_get-get_or c.args.columns.now c.loop-place.place _ c.loop-place-test.true;
      field = _;
      found = c.field_of.ensures;
      unreadable = λ readable. false≢true (says.1 readable);
    }

pub returns-clause-readable : goal.returns-clause-readable
returns-clause-readable c = readable_all c.args.plan.now c.args.columns.now _ c.loop-place.place c.requires c.loop-place-test.false c.loop-place.invariant
