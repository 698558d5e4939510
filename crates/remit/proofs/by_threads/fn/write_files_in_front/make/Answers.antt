use Rattle.std.proofs.Common.{rules}
use Rattle.remit.proofs.by_threads.fn.write_files_in_front.make.Goals as goal

pub returns : goal.returns
returns c = search rules
