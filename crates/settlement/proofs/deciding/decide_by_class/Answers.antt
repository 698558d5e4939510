use Rattle.std.proofs.Common.{◌≡◌, false, List, None, Option, ap, sym, subst, ◌∙◌}
use Rattle.std.proofs.lemmas.Result.{IfOk-weaker}
use Rattle.tables.specs.Plan.{PlanParts}
use Rattle.settlement.specs.declared.determination_cache.CacheEntry.{CacheEntry}
use Rattle.settlement.specs.declared.outcome.Outcome.{Outcome}
use Rattle.settlement.specs.Determinations.{IsTrueOf}
use Rattle.settlement.specs.Reads.{any_role_reads}
use Rattle.settlement.specs.Settlement.{determination_of, outcome_from}
use Rattle.settlement.proofs.Determinations.{kept_true}
use Rattle.settlement.proofs.deciding.decide_by_class.Goals as goal

pub returns-in_default-clause-decided : goal.returns-in_default-clause-decided
returns-in_default-clause-decided g c =
    let given = determination_of (g.V.Valuer.plan_of c.args.valuer.now) c.args.workspace.now.inputs in
    let by_found : Outcome → Type 0 = λ decided. decided ≡ outcome_from c.args.billed c.args.acc c.in_ok-determination.determination in
    let by_given : Outcome → Type 0 = λ decided. decided ≡ outcome_from c.args.billed c.args.acc given in
    IfOk-weaker c.outcome.result by_found by_given (λ decided is. is ∙ ap (outcome_from c.args.billed c.args.acc) {y = given} c.in_ok-determination.ensures) c.outcome.ensures

pub returns-in-Some-get-clause-decided : goal.returns-in-Some-get-clause-decided
returns-in-Some-get-clause-decided g c =
    let given = c.args.workspace.now.inputs in
    let entry = c.requires.true_yet c.in-Some.input_class c.in-Some-get.determination.now c.in-Some-get.ensures given c.in-Some.ensures.inside in
    c.in_ok-decided.ensures ∙ ap (outcome_from c.args.billed c.args.acc) {y = determination_of (g.V.Valuer.plan_of c.args.valuer.now) given} entry

pub returns-in-Some-get-clause-true_still : goal.returns-in-Some-get-clause-true_still
returns-in-Some-get-clause-true_still g c =
    subst (λ (slots : List (Option CacheEntry)). IsTrueOf (g.V.InputClasses.in_class c.args.valuer.now) (g.V.Valuer.plan_of c.args.valuer.now) slots) (sym c.record_hit.ensures)
    c.requires.true_yet

pub returns-then-any_role_reads-clause-decided : goal.returns-then-any_role_reads-clause-decided
returns-then-any_role_reads-clause-decided g c =
    c.in_ok-decided-2.ensures
    ∙ ap (outcome_from c.args.billed c.args.acc) {y = determination_of (g.V.Valuer.plan_of c.args.valuer.now) c.args.workspace.now.inputs} c.in_ok-determination-2.ensures

pub returns-then-any_role_reads-clause-true_still : goal.returns-then-any_role_reads-clause-true_still
returns-then-any_role_reads-clause-true_still g c =
    subst (λ (slots : List (Option CacheEntry)). IsTrueOf (g.V.InputClasses.in_class c.args.valuer.now) (g.V.Valuer.plan_of c.args.valuer.now) slots) (sym c.disable.ensures)
    c.requires.true_yet

pub returns-clause-decided : goal.returns-clause-decided
returns-clause-decided g c =
    c.in_ok-decided-2.ensures
    ∙ ap (outcome_from c.args.billed c.args.acc) {y = determination_of (g.V.Valuer.plan_of c.args.valuer.now) c.args.workspace.now.inputs} c.in_ok-determination-2.ensures

pub returns-clause-true_still : goal.returns-clause-true_still
returns-clause-true_still g c =
    let plan = g.V.Valuer.plan_of c.args.valuer.now in
    let none : any_role_reads None plan.roles ≡ false = sym (c.any_role_reads.ensures ∙ ap (λ (p : PlanParts). any_role_reads None p.roles) c.plan.ensures) ∙ c.if-any_role_reads.false in
    kept_true (g.V.InputClasses.in_class c.args.valuer.now) plan c.args.cache.now c.keep.new.self c.args.workspace.now.inputs c.in-Some.input_class c.in_ok-determination-2.determination c.requires.true_yet c.in_ok-determination-2.ensures
    none c.in-Some.ensures.alike c.keep.ensures

pub returns-in_err-determination-clause-true_still : goal.returns-in_err-determination-clause-true_still
returns-in_err-determination-clause-true_still g c =
    subst (λ (slots : List (Option CacheEntry)). IsTrueOf (g.V.InputClasses.in_class c.args.valuer.now) (g.V.Valuer.plan_of c.args.valuer.now) slots) (sym c.record_miss.ensures)
    c.requires.true_yet

pub returns-in_default-clause-true_still : goal.returns-in_default-clause-true_still
returns-in_default-clause-true_still g c =
    subst (λ (slots : List (Option CacheEntry)). IsTrueOf (g.V.InputClasses.in_class c.args.valuer.now) (g.V.Valuer.plan_of c.args.valuer.now) slots) (sym c.record_miss.ensures)
    c.requires.true_yet
