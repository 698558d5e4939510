use Rattle.remarks.proofs.Marks.{marked_by, unmarked_by}
use Rattle.remarks.proofs.lines.without_mark.Goals as goal

pub returns-in-Some : goal.returns-in-Some
returns-in-Some c = marked_by c.args.text.now c.in-Some.rest.now c.as_slice.result.now c.as_slice.ensures c.in-Some.ensures.cases.0 c.in-Some.ensures.cases.1

pub returns-in-None : goal.returns-in-None
returns-in-None c = unmarked_by c.args.text.now c.as_slice.result.now c.as_slice.ensures c.in-None.ensures.cases
