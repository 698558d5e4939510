use Rattle.std.proofs.Common.{Some, ap, sym, ◌∙◌}
use Rattle.std.specs.Option.{option_and_then, option_map}
use Rattle.toml.specs.Data.{as_array}
use Rattle.toml.specs.View.{array_view, items_view}
use Rattle.dtable.proofs.reading.document.required_array.Goals as goal

pub returns-in-None-clause-refused : goal.returns-in-None-clause-refused
returns-in-None-clause-refused c = ap (option_and_then as_array) c.in_ok-value.ensures.ok ∙ (sym c.as_array.ensures ∙ ap (option_map (λ array. array_view array.now)) c.in-None.is)

pub returns-in-Some-clause-ok : goal.returns-in-Some-clause-ok
returns-in-Some-clause-ok c =
    ap (option_and_then as_array) c.in_ok-value.ensures.ok ∙ (sym c.as_array.ensures ∙ ap (option_map (λ array. array_view array.now)) c.in-Some.is) ∙ ap (λ items. Some (items_view items)) (sym c.as_slice.ensures.value)

pub returns-in-Some-clause-refused : goal.returns-in-Some-clause-refused
returns-in-Some-clause-refused c = tt

pub returns-in-None-clause-ok : goal.returns-in-None-clause-ok
returns-in-None-clause-ok c = tt
