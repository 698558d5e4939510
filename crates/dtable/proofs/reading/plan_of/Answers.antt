use Rattle.toml.specs.View.{view}
use Rattle.dtable.proofs.ReadPlan.{IsPlan-of, plan_made, no_names, no_tables, no_roles}
use Rattle.dtable.proofs.Exits.{passed_on}
use Rattle.dtable.specs.PlanFile.{IsPlanDocument}
use Rattle.dtable.proofs.reading.plan_of.Goals as goal

pub returns-in_err-version : goal.returns-in_err-version
returns-in_err-version c =
    passed_on (IsPlanDocument (view c.args.document.now)) c.from_residual.result _ c.from_residual.ensures.1
    (λ memory plan h. c.in_err-version.ensures memory plan.version h.version)

pub returns-in_err-names : goal.returns-in_err-names
returns-in_err-names c =
    let none = rw c.has_families-families.ensures at c.in_err-names.ensures in
    passed_on (IsPlanDocument (view c.args.document.now)) c.from_residual-in_err-names.result _ c.from_residual-in_err-names.ensures.1
    (λ memory. no_names (view c.args.document.now) c.in_ok-version.version c.in_ok-version.ensures (none memory))

pub returns-in_err-tables : goal.returns-in_err-tables
returns-in_err-tables c =
    let names = rw c.has_families-families.ensures at c.in_ok-names.ensures in
    let none = rw c.as_slice.ensures at c.in_err-tables.ensures in
    passed_on (IsPlanDocument (view c.args.document.now)) c.from_residual-in_err-tables.result _ c.from_residual-in_err-tables.ensures.1
    (λ memory. no_tables (view c.args.document.now) c.in_ok-version.version c.in_ok-names.names c.in_ok-version.ensures names (none memory))

pub returns-in_err-roles : goal.returns-in_err-roles
returns-in_err-roles c =
    let tables = rw c.as_slice.ensures at c.in_ok-tables.ensures in
    let names = rw c.has_families-families.ensures at c.in_ok-names.ensures in
    let none = rw (c.has_families-families.ensures, c.as_slice-2.ensures, c.as_slice-3.ensures) at c.in_err-roles.ensures in
    passed_on (IsPlanDocument (view c.args.document.now)) c.from_residual-in_err-roles.result _ c.from_residual-in_err-roles.ensures.1
    (λ memory.
    no_roles c.text_spells_at_most_one_value.ensures (view c.args.document.now) c.in_ok-version.version c.in_ok-names.names c.in_ok-tables.tables c.in_ok-version.ensures names tables (none memory))

pub new-requires : goal.new-requires
new-requires c =
    let tables = rw c.as_slice.ensures at c.in_ok-tables.ensures in
    let names = rw c.has_families-families.ensures at c.in_ok-names.ensures in
    let roles = rw (c.has_families-families.ensures, c.as_slice-2.ensures, c.as_slice-3.ensures) at c.in_ok-roles.ensures in
    IsPlan-of (view c.args.document.now) (record { version = c.in_ok-version.version; names = c.in_ok-names.names; tables = c.in_ok-tables.tables; roles = c.in_ok-roles.roles })
    (plan_made (view c.args.document.now) c.in_ok-version.version c.in_ok-names.names c.in_ok-tables.tables c.in_ok-roles.roles c.in_ok-version.ensures names tables roles)

pub returns : goal.returns
returns c =
    let tables = rw c.as_slice.ensures at c.in_ok-tables.ensures in
    let names = rw c.has_families-families.ensures at c.in_ok-names.ensures in
    let roles = rw (c.has_families-families.ensures, c.as_slice-2.ensures, c.as_slice-3.ensures) at c.in_ok-roles.ensures in
    rw c.new.ensures (plan_made (view c.args.document.now) c.in_ok-version.version c.in_ok-names.names c.in_ok-tables.tables c.in_ok-roles.roles c.in_ok-version.ensures names tables roles)
