use Rattle.std.proofs.Common.{arith}
use Rattle.remit_records.specs.RecordWriter.{at}
use Rattle.remit_records.specs.Looked.{looked_up}
use Rattle.remit_records.proofs.Filing.{all-written}
use Rattle.remit.proofs.report.ByThreadsRendering.write_files.Goals as goal

pub write_files_by_threads-requires-clause-most : goal.write_files_by_threads-requires-clause-most
write_files_by_threads-requires-clause-most g c = omega (arith, c.requires.all)

pub returns-clause-writes : goal.returns-clause-writes
returns-clause-writes g c =
    all-written (looked_up c.args.report.now.decisions.now) c.args.terms.now.plan.names c.args.terms.now.files c.args.providers (at _ _ c.args.report.now.writer)
    (at _ _ c.write_files_by_threads.new.report.writer) c.write_files_by_threads.result c.requires.all c.write_files_by_threads.ensures.writes
