use Rattle.std.proofs.Common.{map}
use Rattle.std.proofs.lemmas.Map.Iter.{rest_all, rest_more}
use Rattle.std.specs.Map.Iter.{deref_pair}
use Rattle.intake_csv.specs.Balances.{opening_of}
use Rattle.intake_csv.proofs.Listing.{families-end, families-next}
use Rattle.intake_csv.proofs.balances.list_year.Goals as goal

pub loop-family-preserved : goal.loop-family-preserved
loop-family-preserved c =
    families-next c.args.year (map opening_of c.loop-family.entries.items) (map opening_of c.list.new.entries.items) _ c.loop-family.family-iterator c.next.new.self _
    (rest_more deref_pair c.loop-family.family-iterator c.next.new.self c.next.result c.in-Some.family c.in-Some.is c.next.ensures.steps) (rw c.as_str.ensures.value at c.in_ok-list.ensures) c.loop-family.invariant

pub returns : goal.returns
returns c =
    families-end c.args.year (map opening_of c.loop-family.entries.items) _ c.loop-family.family-iterator
    (rest_all deref_pair c.loop-family.family-iterator c.next.new.self c.next.result c.in-None.is c.next.ensures.steps) c.loop-family.invariant
