use Rattle.std.proofs.Common.{ℕ}
use Rattle.settlement.specs.declared.determination.Determination.{Determination}
use Rattle.settlement.specs.Determinations.{IsCached}
use Rattle.settlement.proofs.determination_cache.DeterminationCache.new.Given as goal

abbrev pub invariant-loop : goal.invariant-loop
invariant-loop l = (input_class : ℕ) (determination : Determination) → IsCached l.slots.items input_class determination → ⊥
