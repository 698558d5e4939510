use Rattle.std.proofs.Common.{◌≡◌, ◌++◌, take, flat_map}
use Rattle.feel_tests.proofs.joined.append_others.Given as goal

-- the texts so far, each after a separator
abbrev pub invariant-loop-item : goal.invariant-loop-item
invariant-loop-item g l = l.text.items ≡ l.initial.text.items ++ flat_map (λ item. l.mark ++ g.S.Spelling.text_of item) (take l.item-index l.items)
