use Rattle.std.proofs.Common.{◌<◌, ◌&&◌, refl, arith, ap, length, subst, sym, ◌∙◌}
use Rattle.std.proofs.lemmas.Bool.{le-ltb}
use Rattle.std.proofs.lemmas.List.{set-get_or}
use Rattle.std.specs.List.{slice_set}
use Rattle.cutplan.specs.CheckSteps.{cell_holds_in, holds_among}
use Rattle.cutplan.proofs.CellProbes.{among_at, has_more, has_all}
use Rattle.cutplan.proofs.cell_probe.mask_of.Goals as goal

pub rules-preserved : goal.rules-preserved
rules-preserved c =
    let asked = c.rules.asked in
    let i = c.rules.place in
    let cell = c.index-asked-place.result in
    let same = c.rules.invariant.0 in
    let r = c.args.region.now in (
      (ap (slice_set asked i) c.holds_in-holds.ensures.same ∙ set-get_or asked i cell) ∙ same,
      c.insert_if.ensures.words,
      has_more c.rules.mask c.insert_if.new.self i (holds_among c.args.asked.now r) c.holds_in-holds.result c.rules.invariant.2
          (c.holds_in-holds.ensures.answer ∙ ap (λ x. cell_holds_in x r) (sym c.index-asked-place.is) ∙ sym (among_at asked r i cell (subst (λ cells. i < length cells) (sym same) c.rules-test.true) c.index-asked-place.is) ∙ ap (λ cells. holds_among cells r i) same)
          c.insert_if.ensures.has,
    )

pub returns-clause-marks : goal.returns-clause-marks
returns-clause-marks c =
    has_all c.rules.mask c.rules.place c.args.asked.now c.args.region.now c.rules-test.false c.rules.invariant.1 c.rules.invariant.2

pub rules-init : goal.rules-init
rules-init c = (
  refl,
  c.none-mask.ensures.words,
  λ place within. c.none-mask.ensures.has place within ∙ sym (ap (λ b. b && holds_among c.args.asked.now c.args.region.now place) (le-ltb place 0 (omega arith))),
)
