use Rattle.std.proofs.Common.{refl, sym, ◌∙◌}
use Rattle.std.proofs.lemmas.Option.{slice_get_read}
use Rattle.std.proofs.lemmas.Bool.{false≢true}
use Rattle.std.proofs.lemmas.Bool.Decides.{Decides-eqb}
use Rattle.std.proofs.lemmas.Slice.Eq.{slice_eq-Decides}
use Rattle.evaluation.proofs.Names.{unnamed_more, unknown_name}
use Rattle.evaluation.proofs.value.arguments.data_named.Goals as goal

pub loop-place-preserved : goal.loop-place-preserved
loop-place-preserved c =
    let tested = slice_eq-Decides Decides-eqb c.as_str.result.now c.args.name.now c.eq.result c.eq.ensures in
    unnamed_more _ _ _ c.index-names-place.result c.loop-place-test.true c.index-names-place.is
    (λ e. false≢true (sym c.if-eq.false ∙ tested.1 (c.as_str.ensures.text ∙ e))) c.loop-place.invariant

pub returns-clause-unknown : goal.returns-clause-unknown
returns-clause-unknown c = unknown_name _ _ _ c.loop-place-test.false c.loop-place.invariant

pub returns-then-eq-clause-present : goal.returns-then-eq-clause-present
returns-then-eq-clause-present c =
    slice_get_read c.args.names.now _ c.loop-place.place c.index-names-place.result refl c.loop-place-test.true c.index-names-place.is

pub returns-then-eq-clause-named : goal.returns-then-eq-clause-named
returns-then-eq-clause-named c =
    let tested = slice_eq-Decides Decides-eqb c.as_str.result.now c.args.name.now c.eq.result c.eq.ensures in
    sym c.as_str.ensures.text ∙ tested.0 c.if-eq.true
