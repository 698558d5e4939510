use Rattle.std.proofs.Common.{sym, ◌∙◌, subst}
use Rattle.std.specs.Prelude.{IsTrue}
use Rattle.std.proofs.lemmas.Option.{IfSome_then}
use Rattle.cutplan.specs.Matching.{has_at, OthersRise}
use Rattle.cutplan.proofs.partition.Partition.place_of.Goals as goal

pub place_of-requires : goal.place_of-requires
place_of-requires c = subst OthersRise (sym c.as_slice.ensures.value) c.requires

pub returns : goal.returns
returns c =
    IfSome_then c.place_of.result c.place_of.ensures
    (λ place found. record {
      of_kind = sym c.is_value.ensures ∙ c.if-not-is_value.false;
      inside = subst (λ rs. IsTrue (has_at rs place c.args.value.now)) c.as_slice.ensures.value found;
    })
