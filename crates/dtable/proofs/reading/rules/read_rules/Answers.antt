use Rattle.std.proofs.lemmas.Grind.{common_steps}
use Rattle.std.proofs.Common.{arith, map, ◌+◌, take, refl, sym, subst}
use Rattle.toml.specs.View.{view, items_view}
use Rattle.dtable.specs.PlanFile.{IsRule, AreRules}
use Rattle.dtable.specs.Scope.{seen_of}
use Rattle.dtable.proofs.Entries.{Each-more}
use Rattle.dtable.proofs.ReadTables.{AreRules-none}
use Rattle.std.proofs.lemmas.List.{take_all}
use Rattle.tables.specs.Limits.{rules_limit}
use Rattle.dtable.specs.Document.{Each}
use Rattle.dtable.proofs.Exits.{missing, over_limit, passed_on}
use Rattle.dtable.proofs.reading.rules.read_rules.Goals as goal

pub loop-index-preserved : goal.loop-index-preserved
loop-index-preserved c =
    let entries = c.in_ok-entries.entries.now in
    let is_rule = IsRule c.args.names.now (map seen_of c.args.tables.now) c.args.inputs.now c.args.outputs.now in
    subst (λ rules. Each is_rule (items_view (take (c.loop-index.index + 1) entries)) rules) (sym c.in_ok-push.ensures.ok)
    (Each-more is_rule entries c.loop-index.index c.index-entries-index.result c.loop-index.rules c.in_ok-rule.rule c.loop-index-test.true c.index-entries-index.is c.loop-index.invariant c.in_ok-rule.ensures)

pub returns-in_err-rule : goal.returns-in_err-rule
returns-in_err-rule c =
    passed_on (AreRules c.args.names.now (map seen_of c.args.tables.now) c.args.inputs.now c.args.outputs.now (view c.args.table.now)) c.from_residual-in_err-rule.result _ c.from_residual-in_err-rule.ensures.1
    (λ memory. AreRules-none c.args.names.now (map seen_of c.args.tables.now) c.args.inputs.now c.args.outputs.now (view c.args.table.now) c.in_ok-entries.entries.now c.loop-index.index c.index-entries-index.result c.in_ok-entries.ensures.ok c.loop-index-test.true c.index-entries-index.is (c.in_err-rule.ensures memory))

pub returns : goal.returns
returns c =
    let entries = c.in_ok-entries.entries.now in
    record {
      entries = items_view entries;
      written = c.in_ok-entries.ensures.ok;
      within = c.in_ok-check_count.ensures.ok;
      each = subst (λ read. Each (IsRule c.args.names.now (map seen_of c.args.tables.now) c.args.inputs.now c.args.outputs.now) (items_view read) c.loop-index.rules) (take_all c.loop-index.index entries c.loop-index-test.false) c.loop-index.invariant;
    }

pub returns-in_err-push : goal.returns-in_err-push
returns-in_err-push c = passed_on (AreRules c.args.names.now (map seen_of c.args.tables.now) c.args.inputs.now c.args.outputs.now (view c.args.table.now)) c.from_residual-in_err-push.result _ c.from_residual-in_err-push.ensures.1 (λ memory rules h. memory refl)

pub loop-index-init : goal.loop-index-init
loop-index-init c = rw c.new-rules.ensures tt

pub bounds-entries-index : goal.bounds-entries-index
bounds-entries-index c = c.loop-index-test.true

pub returns-in_err-entries : goal.returns-in_err-entries
returns-in_err-entries c =
    passed_on (AreRules c.args.names.now (map seen_of c.args.tables.now) c.args.inputs.now c.args.outputs.now (view c.args.table.now)) c.from_residual.result _ c.from_residual.ensures.1 (λ memory rules h. missing _ _ c.in_err-entries.ensures.refused h.written)

pub returns-in_err-check_count : goal.returns-in_err-check_count
returns-in_err-check_count c =
    passed_on (AreRules c.args.names.now (map seen_of c.args.tables.now) c.args.inputs.now c.args.outputs.now (view c.args.table.now)) c.from_residual-in_err-check_count.result _ c.from_residual-in_err-check_count.ensures.1
    (λ memory rules h. over_limit _ _ _ rules_limit c.in_ok-entries.ensures.ok h.written c.in_err-check_count.ensures.refused h.within)

pub offset_bounds-entries-index : goal.offset_bounds-entries-index
offset_bounds-entries-index c = grind (arith, common_steps)
