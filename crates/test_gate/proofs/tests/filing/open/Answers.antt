use Rattle.std.proofs.Common.{rules, arith}
use Rattle.std.proofs.lemmas.Grind.{common_steps}
use Rattle.test_gate.proofs.Filing.{among_texts, reads}
use Rattle.test_gate.proofs.tests.filing.open.Goals as goal

pub rows-requires-clause-most : goal.rows-requires-clause-most
rows-requires-clause-most g c = among_texts c.files-files.result.now c.args.terms.now.files c.args.provider c.files-files.ensures.files (search rules)

pub returns-clause-reader : goal.returns-clause-reader
returns-clause-reader g c =
    reads c.reader_begins_with_all_rows.ensures c.args.terms.now c.args.provider c.in_ok-rows.rows c.in_ok-rows.ensures.apart
    (search rules) (among_texts c.files-files.result.now c.args.terms.now.files c.args.provider c.files-files.ensures.files (search rules)) c.in_ok-rows.ensures.start

pub returns-clause-place : goal.returns-clause-place
returns-clause-place g c = grind (arith, common_steps)
