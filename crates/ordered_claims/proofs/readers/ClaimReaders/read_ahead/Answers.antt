use Rattle.std.proofs.Common.{ap, subst, sym, ◌∙◌, arith}
use Rattle.std.proofs.lemmas.Grind.{common_steps}
use Rattle.ordered_claims.specs.Kept.{IsReading, taken_in}
use Rattle.ordered_claims.proofs.Lists.{written_back}
use Rattle.ordered_claims.proofs.Moving.{all_placed, reads_all, taken_by_all}
use Rattle.ordered_claims.proofs.readers.ClaimReaders.read_ahead.Goals as goal

pub invariant_of-self : goal.invariant_of-self
invariant_of-self g c =
    let files = c.self.inside.files in
    let new = c.read_each.new.files in
    let long = rw c.as_mut_slice.ensures.value at c.read_each.ensures.as_many in
    let each = rw c.as_mut_slice.ensures.value at c.read_each.ensures.each in
    subst (λ readers. IsReading c.self.inside.terms.now readers) (sym (written_back files.len files.items new files.ok.0 long))
    (reads_all c.self.inside.terms.now files.items new c.self.invariant long each)

pub returns-clause-taken : goal.returns-clause-taken
returns-clause-taken g c =
    let files = c.self.inside.files in
    let new = c.read_each.new.files in
    let long = rw c.as_mut_slice.ensures.value at c.read_each.ensures.as_many in
    let each = rw c.as_mut_slice.ensures.value at c.read_each.ensures.each in
    rw (← c.self.view_is) (ap taken_in (written_back files.len files.items new files.ok.0 long) ∙ taken_by_all files.items new long each)

pub read_each-requires-clause-placed : goal.read_each-requires-clause-placed
read_each-requires-clause-placed g c κs within = rw c.as_mut_slice.ensures.value (all_placed c.self.inside.terms.now c.self.inside.files.items c.self.invariant)

pub returns-clause-terms : goal.returns-clause-terms
returns-clause-terms c = grind (arith, common_steps)
