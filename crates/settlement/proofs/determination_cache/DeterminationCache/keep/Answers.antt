use Rattle.std.proofs.Common.{◌≡◌, ◌⊎◌, List, Option, slice_get, ap, sym, subst, ◌∙◌}
use Rattle.settlement.specs.declared.determination_cache.CacheEntry.{CacheEntry}
use Rattle.settlement.specs.Determinations.{IsCached}
use Rattle.settlement.proofs.CacheSlots.{one_room}
use Rattle.settlement.proofs.determination_cache.DeterminationCache.keep.Goals.{in-Some-1, in-None-1}
use Rattle.settlement.proofs.determination_cache.DeterminationCache.keep.Goals as goal

pub returns-then-room-len : goal.returns-then-room-len
returns-then-room-len c = λ other found entry.
    let located = λ (set : List (Option CacheEntry)) (is : c.match-index_mut.self ≡ set). ap (λ (slots : List (Option CacheEntry)). slice_get slots entry.0) (sym is) ∙ entry.1 in
    let room = one_room c.self.inside.slots.items c.slot_of_class-room.result c.args.input_class c.args.determination other found in
    subst (λ (slots : List (Option CacheEntry)). IsCached slots other found ⊎ ((other ≡ c.args.input_class) × (found ≡ c.args.determination))) c.self.view_is
    (elim c.match-index_mut.branch [
      | in-Some-1 w ↦ room (entry.0, located _ w.self-is)
      | in-None-1 w ↦ room (entry.0, located _ w.self-is)
    ])
