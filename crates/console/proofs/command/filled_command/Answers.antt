use Rattle.std.proofs.lemmas.Result.{IfOk-weaker}
use Rattle.clap.proofs.NameLemmas.{same_trans}
use Rattle.console.proofs.Subcommands.{arguments_keep, groups_keep}
use Rattle.console.proofs.command.filled_command.Goals as goal

pub returns : goal.returns
returns c =
    let had = arguments_keep _ _ _ c.in_ok-args.ensures in
    IfOk-weaker c.groups.result _ _ (λ m added. same_trans _ _ _ had (groups_keep _ _ _ added)) c.groups.ensures
