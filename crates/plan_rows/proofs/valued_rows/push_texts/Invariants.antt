use Rattle.std.proofs.Common.{◌≡◌, ◌++◌, map, take}
use Rattle.plan_rows.proofs.valued_rows.push_texts.Given as goal

-- the texts so far
abbrev pub invariant-loop-text : goal.invariant-loop-text
invariant-loop-text l = l.line ≡ l.fn.line ++ map (λ n. n.now) (take l.text-index l.texts)
