use Rattle.std.proofs.Common.{rules}
use Rattle.console.proofs.files.read_source.Goals as goal

pub returns-in-Ok : goal.returns-in-Ok
returns-in-Ok g c = search rules
