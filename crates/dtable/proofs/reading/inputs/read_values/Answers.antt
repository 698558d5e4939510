use Rattle.std.proofs.Common.{codes, ap, sym, ◌∙◌, map}
use Rattle.std.specs.Option.{option_map}
use Rattle.toml.specs.Data.{get}
use Rattle.toml.specs.View.{view}
use Rattle.dtable.specs.Document.{Optionally}
use Rattle.dtable.proofs.Entries.{Optionally-none}
use Rattle.dtable.proofs.Exits.{Optionally-missing, Optionally-some, passed_on}
use Rattle.dtable.specs.PlanFile.{IsCell}
use Rattle.dtable.specs.Scope.{seen_of}
use Rattle.dtable.proofs.reading.inputs.read_values.Goals as goal

pub returns-in-None : goal.returns-in-None
returns-in-None c = Optionally-missing (IsCell c.args.names.now (map seen_of c.args.tables.now) c.args.origin) _ (sym c.get.ensures ∙ ap (option_map (λ value. view value.now)) c.in-None.is)

pub returns-in_ok-cell-in-Some : goal.returns-in_ok-cell-in-Some
returns-in_ok-cell-in-Some c = Optionally-some (IsCell c.args.names.now (map seen_of c.args.tables.now) c.args.origin) _ _ _ (sym c.get.ensures ∙ ap (option_map (λ value. view value.now)) c.in-Some.is) c.in_ok-cell-in-Some.ensures

pub returns-in_err-cell-in-Some : goal.returns-in_err-cell-in-Some
returns-in_err-cell-in-Some c =
    let there = sym c.get.ensures ∙ ap (option_map (λ value. view value.now)) c.in-Some.is in
    passed_on (Optionally (IsCell c.args.names.now (map seen_of c.args.tables.now) c.args.origin) (get (codes "values") (view c.args.entry.now))) c.from_residual.result _ c.from_residual.ensures.1 (λ memory. Optionally-none (IsCell c.args.names.now (map seen_of c.args.tables.now) c.args.origin) _ _ there (c.in_err-cell-in-Some.ensures memory))
