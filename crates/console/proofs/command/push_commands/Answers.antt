use Rattle.std.proofs.Common.{ℕ, List, Bor, ◌∷◌, [], ◌∙◌, map, take, get_or, sym, ap}
use Rattle.std.proofs.lemmas.List.{take_more, map-append}
use Rattle.console.specs.declared.command_rows.Form.{Form}
use Rattle.console.proofs.Subcommands.{pushed_name}
use Rattle.console.proofs.command.push_commands.Goals as goal

pub forms-preserved : goal.forms-preserved
forms-preserved c =
    let at = c.forms in
    let forms = c.args.forms.now in
    let text : Bor (List ℕ) = record { ref_ptr = (0, 0); now = [] } in
    let other : Form = record { name = text; about = text; after_help = text; choice = record { ref_ptr = (0, 0); now = [] } } in
    let form = get_or forms at.form-index other in
    let name : Form → List ℕ = λ of. of.name.now in
    let longer = sym (map-append name (take at.form-index forms) (form ∷ [])) ∙ ap (map name) (sym (take_more forms at.form-index other c.forms-test.true)) in
    pushed_name _ _ _ _ (name form) at.invariant c.in_ok-command.ensures.name c.in_ok-push_command.ensures ∙ longer
