use Rattle.std.proofs.Common.{ℕ, List, Option, subst, sym}
use Rattle.settlement.specs.declared.determination.Determination.{Determination}
use Rattle.settlement.specs.declared.determination_cache.CacheEntry.{CacheEntry}
use Rattle.settlement.specs.Determinations.{IsCached}
use Rattle.settlement.proofs.CacheSlots.{nothing_more}
use Rattle.settlement.proofs.determination_cache.DeterminationCache.new.Goals as goal

pub loop-preserved : goal.loop-preserved
loop-preserved c =
    subst (λ (slots : List (Option CacheEntry)). (input_class : ℕ) (determination : Determination) → IsCached slots input_class determination → ⊥) (sym c.in_ok-push.ensures.items)
    (nothing_more c.loop.slots.items c.loop.invariant)
