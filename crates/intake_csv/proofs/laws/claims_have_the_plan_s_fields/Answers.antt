use Rattle.tables.specs.Plan.{keeps_families}
use Rattle.intake_csv.proofs.ClaimFields.{claim-has}
use Rattle.intake_csv.proofs.laws.claims_have_the_plan_s_fields.Goals as goal

pub returns : goal.returns
returns c plan fields text layout records row claim names headered_file values =
    let has = claim-has headered_file.header row plan.names (keeps_families plan) fields layout.columns claim names headered_file.columns values.1 in
    record { family = has.0; fields = fields; names = names; kinds = has.1 }
