use Rattle.std.proofs.Common.{◌≡◌, ◌++◌, take, flat_map}
use Rattle.settlement.specs.Remarked.{word_at}
use Rattle.settlement.proofs.remarks.append_others.Given as goal

-- the text ends with the words so far, each after the mark
abbrev pub invariant-loop-place : goal.invariant-loop-place
invariant-loop-place l = l.text.items ≡ l.initial.text.items ++ flat_map (λ place. l.mark ++ word_at l.words place) (take l.place-index l.places)
