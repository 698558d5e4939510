use Rattle.std.proofs.Common.{◌<◌, ℕ, List, Option, Some, length, slice_get, refl, ap, sym, ◌∙◌, arith}
use Rattle.std.proofs.lemmas.Option.{slice_get_read}
use Rattle.settlement.specs.declared.determination_cache.CacheEntry.{CacheEntry}
use Rattle.settlement.proofs.determination_cache.DeterminationCache.get.Goals as goal

pub returns-in-Some-Some : goal.returns-in-Some-Some
returns-in-Some-Some c =
    let slots = c.as_slice.result.now in
    let room = c.slot_of_class.result in
    let read = c.in-Some-Some.ensures.lookup in
    let within : room < length slots = grind (arith, read.0) in
    let found = slice_get_read slots (length slots) room c.in-Some-Some.field-0.now refl within read.1 in
    let of_class : ℕ → CacheEntry = λ input_class. record { input_class = input_class; determination = c.in-Some-Some.entry.determination } in (
      room,
      ap (λ (slots : List (Option CacheEntry)). slice_get slots room) (sym (c.as_slice.ensures.value ∙ c.self.view_is)) ∙ found
          ∙ ap Some (c.in-Some-Some.field-0-is ∙ ap Some (ap of_class c.if-entry-input_class.true)),
    )
