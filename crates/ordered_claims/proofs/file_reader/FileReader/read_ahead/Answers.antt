use Rattle.std.proofs.Common.{refl, ◌∙◌, arith}
use Rattle.std.proofs.lemmas.Grind.{common_steps}
use Rattle.ordered_claims.proofs.Reading.{reads_failed, reads_further, reads_nothing}
use Rattle.ordered_claims.proofs.file_reader.FileReader.read_ahead.Goals as goal

pub claims-init : goal.claims-init
claims-init c = reads_nothing c.args.self.now

pub claims-preserved : goal.claims-preserved
claims-preserved c =
    reads_further c.args.self.now c.claims.self c.read_next.new.self c.claims.invariant (record { taken = c.read_next.ensures.taken; reads = λ works. c.in-Ok.ensures.reads })

pub returns-in_default : goal.returns-in_default
returns-in_default c = reads_failed c.args.self.now _ (c.read_next.ensures.taken ∙ c.claims.invariant.taken) refl

pub read_next-requires-clause-placed : goal.read_next-requires-clause-placed
read_next-requires-clause-placed c = grind (arith, common_steps)
