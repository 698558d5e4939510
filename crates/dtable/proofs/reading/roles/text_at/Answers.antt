use Rattle.std.proofs.Common.{ap, sym, ◌∙◌}
use Rattle.std.specs.Option.{option_and_then, option_map}
use Rattle.toml.specs.Data.{as_str, get}
use Rattle.toml.specs.View.{view}
use Rattle.dtable.proofs.reading.roles.text_at.Goals as goal

pub returns-in-None : goal.returns-in-None
returns-in-None c =
    ap (option_and_then as_str) (sym (ap (option_map (λ entry. view entry.now)) c.in-None.is) ∙ c.get.ensures ∙ ap (λ key. get key (view c.args.roles.now)) c.key.ensures)

pub returns-in-Some : goal.returns-in-Some
returns-in-Some c =
    c.as_str.ensures
    ∙ ap (option_and_then as_str) (sym (ap (option_map (λ entry. view entry.now)) c.in-Some.is) ∙ c.get.ensures ∙ ap (λ key. get key (view c.args.roles.now)) c.key.ensures)
