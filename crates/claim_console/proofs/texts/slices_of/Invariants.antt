use Rattle.std.proofs.Common.{◌≡◌, map, take}
use Rattle.claim_gate.specs.Terms.{texts_of}
use Rattle.claim_console.proofs.texts.slices_of.Given as goal

-- the texts before the index are borrowed
abbrev pub invariant-loop-text : goal.invariant-loop-text
invariant-loop-text l = texts_of l.slices.items ≡ map (λ f. f.items) (take l.text-index l.files)
