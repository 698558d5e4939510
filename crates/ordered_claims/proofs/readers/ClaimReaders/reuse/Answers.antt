use Rattle.std.proofs.Common.{◌<◌, ◌∙◌, arith}
use Rattle.std.proofs.lemmas.Grind.{common_steps}
use Rattle.std.proofs.lemmas.Option.{slice_get_read}
use Rattle.ordered_claims.proofs.Moving.{reads_one, spared, taken_by_one}
use Rattle.ordered_claims.proofs.readers.ClaimReaders.reuse.Goals as goal

pub files-preserved : goal.files-preserved
files-preserved c =
    let files = c.files.self-inside.files in
    let old = c.index_mut.result.now in
    let within : c.files.index < files.len = omega (arith, c.files-test.true, c.files.auto.index-end) in
    let there = slice_get_read files.items files.len c.files.index old files.ok.0 within c.index_mut.ensures.value in
    let ahead = spared old c.add_spare.new.self c.add_spare.ensures in (
      c.files.invariant.0,
      reads_one c.self.inside.terms.now files.items c.files.index old c.add_spare.new.self c.files.invariant.1 there ahead,
      taken_by_one files.items c.files.index old c.add_spare.new.self there ahead ∙ c.files.invariant.2,
    )

pub invariant_of-self : goal.invariant_of-self
invariant_of-self c = grind (arith, common_steps)

pub returns-clause-terms : goal.returns-clause-terms
returns-clause-terms c = grind (arith, common_steps)
