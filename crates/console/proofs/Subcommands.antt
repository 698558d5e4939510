-- The names of a command's subcommands.
use Rattle.std.proofs.Common.{◌≡◌, ◌∙◌, ◌∷◌, ◌++◌, ℕ, List, [], ap, ap₂, refl, subst, sym, append_assoc, append-nil}
use Rattle.clap.specs.Words.{AddsArg, AddsGroup, AddsInTurn, AddsSubcommand, SameNames, names_in, subcommand_names, subcommands_of}
use Rattle.clap.specs.declared.builder.command.Command.TheViews.{out-Command as fields_of}
use Rattle.clap.specs.declared.builder.arg.Arg.{Arg}
use Rattle.clap.specs.declared.builder.arg_group.ArgGroup.{ArgGroup}
use Rattle.clap.specs.declared.builder.command.Command.{Command}
use Rattle.clap.proofs.NameLemmas.{names_push, same_trans}

-- adding arguments changes no name
pub arguments_keep : (old new : Command) (arguments : List Arg) → AddsInTurn AddsArg old arguments new → SameNames old new
arguments_keep old new [] added = subst (SameNames old) added (refl, refl, refl)
arguments_keep old new (_ ∷ arguments) added = same_trans _ _ _ added.1.names (arguments_keep added.0 new arguments added.2)

-- adding groups changes no name
pub groups_keep : (old new : Command) (groups : List ArgGroup) → AddsInTurn AddsGroup old groups new → SameNames old new
groups_keep old new [] added = subst (SameNames old) added (refl, refl, refl)
groups_keep old new (_ ∷ groups) added =
    let fields = added.1.0 in
    let one : SameNames old added.0 = (ap (λ f. f.name.now) fields, ap (λ f. f.allow_external_subcommands) fields, ap (λ f. names_in f.subcommands.items) fields) in
    same_trans _ _ _ one (groups_keep added.0 new groups added.2)

-- a command that is pushed appends its name
pub pushed_name : (before after : List Command) (command : Command) (names : List (List ℕ)) (name : List ℕ) → names_in before ≡ names
    → (fields_of command).name.now ≡ name → after ≡ before ++ command ∷ [] → names_in after ≡ names ++ name ∷ []
pushed_name before after command names name had named pushed = ap names_in pushed ∙ (names_push before command ∙ ap₂ (λ ns n. ns ++ n ∷ []) had named)

-- adding subcommands to a command without any gives it their names
pub adds_names : (old new : Command) (added : List Command) → AddsInTurn AddsSubcommand old added new
    → subcommand_names new ≡ subcommand_names old ++ names_in added
adds_names old new [] adds = ap subcommand_names (sym adds) ∙ sym (append-nil (subcommand_names old))
adds_names old new (first ∷ rest) adds =
    let one = ap names_in adds.1.subcommands ∙ (names_push (subcommands_of old) adds.1.added
    ∙ ap (λ name. subcommand_names old ++ name.now ∷ []) adds.1.name) in
    adds_names adds.0 new rest adds.2 ∙ (ap (λ names. names ++ names_in rest) one
    ∙ append_assoc (subcommand_names old) ((fields_of first).name.now ∷ []) (names_in rest))
