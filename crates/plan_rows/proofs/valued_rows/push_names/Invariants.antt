use Rattle.std.proofs.Common.{◌≡◌, ◌++◌, map, take}
use Rattle.plan_rows.proofs.valued_rows.push_names.Given as goal

-- the names of the outputs so far
abbrev pub invariant-loop-output : goal.invariant-loop-output
invariant-loop-output l = map (λ n. n.now) l.names.items ≡ map (λ n. n.now) l.fn.names.items ++ map (λ o. o.name) (take l.output-index l.outputs)
