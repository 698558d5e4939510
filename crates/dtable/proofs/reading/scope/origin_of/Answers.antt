use Rattle.std.proofs.Common.{◌≡◌, Some, None, position, sym, ◌∙◌}
use Rattle.std.specs.Str.{bytes_eq}
use Rattle.dtable.proofs.reading.scope.origin_of.Goals as goal

pub returns-in-Some : goal.returns-in-Some
returns-in-Some c =
    let here : position (λ d. bytes_eq d.name c.args.name.now) c.args.names.now ≡ Some c.in-Some.place = sym c.data_place.ensures ∙ c.in-Some.is in
    rw here

pub returns-in-None : goal.returns-in-None
returns-in-None c =
    let none : position (λ d. bytes_eq d.name c.args.name.now) c.args.names.now ≡ None = sym c.data_place.ensures ∙ c.in-None.is in
    rw none c.earlier_origin.ensures
