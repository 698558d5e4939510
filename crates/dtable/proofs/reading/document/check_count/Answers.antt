use Rattle.std.proofs.Common.{arith}
use Rattle.dtable.proofs.Entries.{item_count-view}
use Rattle.dtable.proofs.reading.document.check_count.Goals as goal

pub returns-then-items-limit-clause-refused : goal.returns-then-items-limit-clause-refused
returns-then-items-limit-clause-refused c h =
    let e = item_count-view c.args.items.now in
    omega arith

pub returns-clause-ok : goal.returns-clause-ok
returns-clause-ok c =
    let e = item_count-view c.args.items.now in
    omega arith
