use Rattle.std.proofs.Common.{Some, ap, sym, ◌∙◌}
use Rattle.std.specs.Option.{option_map}
use Rattle.toml.specs.View.{array_view, items_view, view}
use Rattle.dtable.specs.Document.{items_or_none}
use Rattle.dtable.proofs.reading.document.optional_array.Goals as goal

pub returns-in-None-as_array-clause-refused : goal.returns-in-None-as_array-clause-refused
returns-in-None-as_array-clause-refused c = ap items_or_none (sym c.get.ensures ∙ ap (option_map (λ value. view value.now)) c.in-Some.is) ∙ (sym c.as_array.ensures ∙ ap (option_map (λ array. array_view array.now)) c.in-None-as_array.is)

pub returns-in-Some-as_array-clause-ok : goal.returns-in-Some-as_array-clause-ok
returns-in-Some-as_array-clause-ok c =
    ap items_or_none (sym c.get.ensures ∙ ap (option_map (λ value. view value.now)) c.in-Some.is) ∙ (sym c.as_array.ensures ∙ ap (option_map (λ array. array_view array.now)) c.in-Some-as_array.is) ∙ ap (λ items. Some (items_view items)) (sym c.as_slice.ensures.value)

pub returns-in-Some-as_array-clause-refused : goal.returns-in-Some-as_array-clause-refused
returns-in-Some-as_array-clause-refused c = tt

pub returns-in-None-as_array-clause-ok : goal.returns-in-None-as_array-clause-ok
returns-in-None-as_array-clause-ok c = tt

pub returns-in-None-clause-refused : goal.returns-in-None-clause-refused
returns-in-None-clause-refused c = tt

pub returns-in-None-clause-ok : goal.returns-in-None-clause-ok
returns-in-None-clause-ok c = ap items_or_none (sym c.get.ensures ∙ ap (option_map (λ value. view value.now)) c.in-None.is)
