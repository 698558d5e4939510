use Rattle.std.specs.List.{All}
use Rattle.std.proofs.lemmas.Grind.{common_steps}
use Rattle.std.proofs.Common.{◌≡◌, Bool, length, subst, sym, ◌∙◌, arith, ◌<◌}
use Rattle.intake_csv.specs.Record.{IsClaimShaped}
use Rattle.intake_csv.proofs.ValidRecords.{is-alone, is-joined}
use Rattle.intake_csv.proofs.Shapes.{claim-shaped}
use Rattle.intake_csv.proofs.validation.validate_claim.Goals as goal
use Rattle.intake_csv.proofs.validation.validate_claim.Goals.{then-families, else-families}

pub returns-clause-claim : goal.returns-clause-claim
returns-clause-claim c =
    let line = c.args.line.now in
    let layout = c.args.layout.now in
    let validated = rw (c.as_slice-columns.ensures, c.in_default.is) at c.in_ok-fault.ensures in
    let shaped = claim-shaped c.args.families line layout.columns validated.0 c.requires.claims.0 c.requires.claims.1 validated.1.0 in
    let width : length line ≡ layout.width = sym c.len.ensures ∙ c.if-len-layout.false in
    elim c.if-families.branch [
      | then-families w ↦
          let claim = is-joined line layout.columns _ validated.0 (subst (λ (b : Bool). IsClaimShaped b validated.0) w.if-families.true shaped) validated.1.0 in
          rw (w.family-is, c.as_slice-columns.ensures) (claim.claim, (width, claim.values), claim.id_columns)
      | else-families w ↦
          let claim = is-alone line layout.columns _ validated.0 (subst (λ (b : Bool). IsClaimShaped b validated.0) w.if-families.false shaped) validated.1.0 in
          rw (w.family-is, c.as_slice-columns.ensures) (claim.claim, (width, claim.values), claim.id_columns)
    ]

pub bounds-columns-1 : goal.bounds-columns-1
bounds-columns-1 c = grind (arith, common_steps)

pub bounds-columns-following-2 : goal.bounds-columns-following-2
bounds-columns-following-2 c = grind (arith, common_steps)

pub bounds-columns-following : goal.bounds-columns-following
bounds-columns-following c = grind (arith, common_steps)

pub bounds-columns-0 : goal.bounds-columns-0
bounds-columns-0 c = grind (arith, common_steps)

pub first_fault-requires-clause-within : goal.first_fault-requires-clause-within
first_fault-requires-clause-within c =
    let width : c.args.layout.now.width ≡ length c.args.line.now = sym c.if-len-layout.false ∙ c.len.ensures in
    rw c.as_slice-columns.ensures (subst (λ count. All (λ column. column.place < count) c.args.layout.now.columns) width c.requires.within)
