use Rattle.remit_records.proofs.Noting.{ListsReplacedTo}
use Rattle.remit_records.proofs.decisions.replace_each.Given as goal

-- the lists so far are replaced
abbrev pub invariant-loop-provider : goal.invariant-loop-provider
invariant-loop-provider l = ListsReplacedTo l.decided l.end l.initial.positions.items l.positions.items l.provider
