use Rattle.std.proofs.Common.{◌≡◌, Bool, List, map, refl, sym, ap, ◌∙◌}
use Rattle.feel_tests.specs.declared.kind.Kind.{Kind}
use Rattle.intake_csv.specs.Columns.{fields_among, have_family}
use Rattle.intake_csv.specs.Record.{claim_contents}
use Rattle.intake_csv.proofs.PlanColumns.{columns-apart-under, family-kept}
use Rattle.intake_csv.proofs.Shapes.{claim-contents}
use Rattle.intake_csv.proofs.claim_file.ClaimFile.new.Goals as goal

pub invariant_of-result : goal.invariant_of-result
invariant_of-result c =
    let s = rw (c.as_slice.ensures, c.in_ok-needed.ensures) at c.in_ok-headered_file.ensures.ok in
    let plan = c.args.plan.now in
    let columns = c.in_ok-headered_file.headered_file.layout.columns in
    let kinds : List Kind = map (λ d. d.kind) (fields_among plan.names) in
    let families : have_family plan.names ≡ c.keeps_families.result = family-kept plan c.names-names.ensures.sound ∙ sym c.keeps_families.ensures in
    record {
      names = plan.names;
      under = s.is_headered_file;
      within = s.within;
      columns = (kinds, claim-contents plan.names s.is_headered_file.header columns s.is_headered_file.columns ∙ ap (λ (b : Bool). claim_contents b kinds) families);
      apart = columns-apart-under plan s.is_headered_file.header columns c.names-names.ensures.sound s.is_headered_file.columns;
    }

pub returns-clause-ok : goal.returns-clause-ok
returns-clause-ok c =
    let s = rw (c.as_slice.ensures, c.in_ok-needed.ensures) at c.in_ok-headered_file.ensures.ok in
    record { text_is = refl; under = s.is_headered_file }
