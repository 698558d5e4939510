use Rattle.std.proofs.Common.{codes, ap, sym, ◌∙◌}
use Rattle.std.specs.Option.{option_map}
use Rattle.toml.specs.Data.{get}
use Rattle.toml.specs.View.{view}
use Rattle.dtable.specs.Document.{Optionally}
use Rattle.dtable.proofs.Entries.{Optionally-none}
use Rattle.dtable.proofs.Exits.{Optionally-missing, Optionally-some, passed_on}
use Rattle.dtable.specs.PlanFile.{ArePriorities}
use Rattle.dtable.proofs.reading.outputs.read_priority.Goals as goal

pub returns-in-None : goal.returns-in-None
returns-in-None c = Optionally-missing (ArePriorities c.args.kind) _ (sym c.get.ensures ∙ ap (option_map (λ value. view value.now)) c.in-None.is)

pub returns-in_ok-list-in-Some : goal.returns-in_ok-list-in-Some
returns-in_ok-list-in-Some c = Optionally-some (ArePriorities c.args.kind) _ _ _ (sym c.get.ensures ∙ ap (option_map (λ value. view value.now)) c.in-Some.is) c.in_ok-list-in-Some.ensures

pub returns-in_err-list-in-Some : goal.returns-in_err-list-in-Some
returns-in_err-list-in-Some c =
    let there = sym c.get.ensures ∙ ap (option_map (λ value. view value.now)) c.in-Some.is in
    passed_on (Optionally (ArePriorities c.args.kind) (get (codes "priority") (view c.args.entry.now))) c.from_residual.result _ c.from_residual.ensures.1 (λ memory. Optionally-none (ArePriorities c.args.kind) _ _ there (c.in_err-list-in-Some.ensures memory))
