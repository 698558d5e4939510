use Rattle.std.proofs.Common.{◌≡◌, ◌++◌, take, flat_map}
use Rattle.explanation.specs.Facts.{fact_text}
use Rattle.explanation.proofs.format.append_facts.Given as goal

-- the facts so far are appended
abbrev pub invariant-loop-fact : goal.invariant-loop-fact
invariant-loop-fact l = l.text.items ≡ l.initial.text.items ++ flat_map (fact_text l.format) (take l.fact-index l.facts)
