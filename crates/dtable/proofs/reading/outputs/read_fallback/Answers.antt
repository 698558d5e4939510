use Rattle.std.proofs.Common.{codes, ap, sym, ◌∙◌}
use Rattle.std.specs.Option.{option_map}
use Rattle.toml.specs.Data.{get}
use Rattle.toml.specs.View.{view}
use Rattle.dtable.specs.Document.{Optionally}
use Rattle.dtable.proofs.Entries.{Optionally-none}
use Rattle.dtable.proofs.Exits.{Optionally-missing, Optionally-some, passed_on}
use Rattle.dtable.specs.PlanFile.{IsLiteral}
use Rattle.dtable.proofs.reading.outputs.read_fallback.Goals as goal

pub returns-in-None : goal.returns-in-None
returns-in-None c = Optionally-missing (IsLiteral c.args.kind) _ (sym c.get.ensures ∙ ap (option_map (λ value. view value.now)) c.in-None.is)

pub returns-in_ok-literal-in-Some : goal.returns-in_ok-literal-in-Some
returns-in_ok-literal-in-Some c = Optionally-some (IsLiteral c.args.kind) _ _ _ (sym c.get.ensures ∙ ap (option_map (λ value. view value.now)) c.in-Some.is) c.in_ok-literal-in-Some.ensures

pub returns-in_err-literal-in-Some : goal.returns-in_err-literal-in-Some
returns-in_err-literal-in-Some c =
    let there = sym c.get.ensures ∙ ap (option_map (λ value. view value.now)) c.in-Some.is in
    passed_on (Optionally (IsLiteral c.args.kind) (get (codes "default") (view c.args.entry.now))) c.from_residual.result _ c.from_residual.ensures.1 (λ memory. Optionally-none (IsLiteral c.args.kind) _ _ there (c.in_err-literal-in-Some.ensures memory))
