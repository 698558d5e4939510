use Rattle.std.proofs.Common.{◌-◌, ℕ, filter, length, ap, sym, ◌∙◌, subst}
use Rattle.cutplan.specs.Check.{cells, meet, pairs}
use Rattle.cutplan.specs.CompiledColumns.{regions_kept, AreMasked}
use Rattle.cutplan.specs.Places.{is_gap, ArePlaces}
use Rattle.cutplan.proofs.Compiling.{kept_masked, kept_regions}
use Rattle.cutplan.proofs.table_check.check_of.Goals as goal

pub overlaps_of-requires : goal.overlaps_of-requires
overlaps_of-requires c = record {
  few = c.requires;
  masks = subst (AreMasked c.args.table.now 0) (sym c.as_slice.ensures) (kept_masked c.args.plan.now c.args.table.now c.in_ok-compiled.compiled c.in_ok-compiled.ensures);
}

pub gap_places-requires-clause-masks : goal.gap_places-requires-clause-masks
gap_places-requires-clause-masks c = subst (AreMasked c.args.table.now 0) (sym c.as_slice-2.ensures) (kept_masked c.args.plan.now c.args.table.now c.in_ok-compiled.compiled c.in_ok-compiled.ensures)

pub returns-clause-overlaps : goal.returns-clause-overlaps
returns-clause-overlaps c =
    let t = c.args.table.now in
    c.in_ok-overlaps.ensures
    ∙ ap (λ rs. filter (λ (pair : ℕ × ℕ). meet rs t (pair.0 - 1) (pair.1 - 1)) (pairs (length t.rules))) (ap regions_kept c.as_slice.ensures ∙ kept_regions c.args.plan.now t c.in_ok-compiled.compiled c.in_ok-compiled.ensures)

pub returns-clause-columns : goal.returns-clause-columns
returns-clause-columns c =
    c.in_ok-columns.ensures ∙ ap regions_kept c.as_slice-3.ensures ∙ kept_regions c.args.plan.now c.args.table.now c.in_ok-compiled.compiled c.in_ok-compiled.ensures

pub returns-clause-gaps : goal.returns-clause-gaps
returns-clause-gaps c =
    let t = c.args.table.now in
    subst (λ rs. ArePlaces (cells rs) (is_gap t) c.in_ok-gaps.gaps) (ap regions_kept c.as_slice-2.ensures ∙ kept_regions c.args.plan.now t c.in_ok-compiled.compiled c.in_ok-compiled.ensures) c.in_ok-gaps.ensures
