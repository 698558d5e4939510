use Rattle.std.proofs.Common.{rules}
use Rattle.std.proofs.lemmas.Result.{IfOk-weaker}
use Rattle.plan_zones.specs.declared.comparing.Comparing.{Comparing}
use Rattle.plan_commands.specs.Comparing.{IsAsked}
use Rattle.plan_commands.proofs.compare_report.report_on.Goals as goal

pub returns-clause-compared : goal.returns-clause-compared
returns-clause-compared c =
    let comparing : Comparing = record { renames = c.as_slice.result; narrowed = c.as_slice-2.result; terms_only = c.get_flag.result } in
    let asked : IsAsked c.args.matches.now c.args.old.now c.args.new.now comparing = search rules in
    IfOk-weaker c.report_by.result _ _ (λ r are. record { comparing = comparing; asked = asked; compared = are }) c.report_by.ensures.compared
