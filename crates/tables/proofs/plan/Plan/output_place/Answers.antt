use Rattle.std.proofs.Common.{sym, subst, map}
use Rattle.tables.specs.Plan.{AreDistinct}
use Rattle.tables.proofs.OutputPlaces.{names_of_outputs, distinct_after}
use Rattle.tables.proofs.plan.Plan.output_place.Goals as goal

pub place_named-requires : goal.place_named-requires
place_named-requires c =
    let s = c.self.inside in
    let distinct = distinct_after (map (λ d. d.name) s.names) (names_of_outputs s.tables) c.self.invariant.distinct in
    subst (λ ts. AreDistinct (names_of_outputs ts)) (sym c.as_slice.ensures) distinct
