use Rattle.std.proofs.Common.{◌<◌, arith}
use Rattle.std.proofs.lemmas.Grind.{common_steps, elements}
use Rattle.std.proofs.lemmas.Option.{slice_get_read}
use Rattle.ordered_claims.proofs.Moving.{reads_one, taken_by_one}
use Rattle.ordered_claims.proofs.readers.ClaimReaders.read_next_of.Goals as goal

pub invariant_of-self : goal.invariant_of-self
invariant_of-self c =
    let files = c.self.inside.files in
    let asked = rw (← c.self.view_is) at c.requires in
    let old = c.index_mut.result.now in
    let within : c.args.index < files.len = omega (arith, asked, c.self.invariant.as_many, files.ok.0) in
    let there = slice_get_read files.items files.len c.args.index old files.ok.0 within c.index_mut.ensures.value in
    reads_one c.self.inside.terms.now files.items c.args.index old c.read_ahead.new.self c.self.invariant there c.read_ahead.ensures

pub returns-then-index-clause-taken : goal.returns-then-index-clause-taken
returns-then-index-clause-taken c =
    let files = c.self.inside.files in
    let asked = rw (← c.self.view_is) at c.requires in
    let old = c.index_mut.result.now in
    let within : c.args.index < files.len = omega (arith, asked, c.self.invariant.as_many, files.ok.0) in
    let there = slice_get_read files.items files.len c.args.index old files.ok.0 within c.index_mut.ensures.value in
    rw (← c.self.view_is) (taken_by_one files.items c.args.index old c.read_ahead.new.self there c.read_ahead.ensures)

pub invariant_of-self-2 : goal.invariant_of-self-2
invariant_of-self-2 c =
    let files = c.self.inside.files in
    let asked = rw (← c.self.view_is) at c.requires in
    let old = c.index_mut.result.now in
    let within : c.args.index < files.len = omega (arith, asked, c.self.invariant.as_many, files.ok.0) in
    let there = slice_get_read files.items files.len c.args.index old files.ok.0 within c.index_mut.ensures.value in
    reads_one c.self.inside.terms.now files.items c.args.index old c.read_ahead.new.self c.self.invariant there c.read_ahead.ensures

pub returns-clause-taken : goal.returns-clause-taken
returns-clause-taken c =
    let files = c.self.inside.files in
    let asked = rw (← c.self.view_is) at c.requires in
    let old = c.index_mut.result.now in
    let within : c.args.index < files.len = omega (arith, asked, c.self.invariant.as_many, files.ok.0) in
    let there = slice_get_read files.items files.len c.args.index old files.ok.0 within c.index_mut.ensures.value in
    rw (← c.self.view_is) (taken_by_one files.items c.args.index old c.read_ahead.new.self there c.read_ahead.ensures)

pub returns-clause-terms : goal.returns-clause-terms
returns-clause-terms c = grind (arith, common_steps)

pub returns-clause-fewer : goal.returns-clause-fewer
returns-clause-fewer c = grind (arith, common_steps)

pub index-requires : goal.index-requires
index-requires c = grind (arith, common_steps)

pub read_ahead-requires : goal.read_ahead-requires
read_ahead-requires c = grind (arith, elements)

pub index_mut-requires : goal.index_mut-requires
index_mut-requires c = grind (arith, common_steps)

pub returns-then-index-clause-terms : goal.returns-then-index-clause-terms
returns-then-index-clause-terms c = grind (arith, common_steps)
