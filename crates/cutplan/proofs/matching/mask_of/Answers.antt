use Rattle.std.proofs.Common.{ap, sym, ◌∙◌}
use Rattle.std.specs.Prelude.{slice_get}
use Rattle.cutplan.proofs.ByMasks.{found_at}
use Rattle.cutplan.proofs.matching.mask_of.Goals as goal

pub returns : goal.returns
returns c =
    let place = c.in_ok-place.place in
    let found = c.in_ok-mask.ensures.lookup in
    record {
      place = place;
      is = c.in_ok-place.ensures;
      mask_at = ap (λ ms. slice_get ms place) (sym c.as_slice.ensures) ∙ found_at c.as_slice.result.now place c.in_ok-mask.mask.now found.0 found.1;
    }
