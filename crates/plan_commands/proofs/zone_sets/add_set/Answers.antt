use Rattle.std.proofs.Common.{◌≡◌, ◌<◌, ◌∙◌, OnOk, Some, ap, arith, length, refl, set, slice_get, subst, sym}
use Rattle.std.proofs.lemmas.Grind.{common_steps}
use Rattle.std.proofs.lemmas.Option.{slice_get-get_or}
use Rattle.plan_commands.specs.ZoneSets.{HasBoth, HaveAlso}
use Rattle.plan_commands.specs.declared.zone_sets.ZoneSet.{ZoneSet}
use Rattle.plan_commands.proofs.Unions.{set_joined}
use Rattle.plan_commands.proofs.zone_sets.add_set.Goals as goal

pub returns-in-Some : goal.returns-in-Some
returns-in-Some c =
    let items = c.loop-place.sets.items in
    let old = c.index.result.now in
    let both : ZoneSet = record { sides = c.in-Some.sides } in
    let within : c.loop-place.place < length items = grind (arith, common_steps) in
    let at : slice_get items c.loop-place.place ≡ Some old = slice_get-get_or items c.loop-place.place old within ∙ ap (λ s. Some s) (sym c.index.ensures) in
    let found = rw c.in-Some.is at c.in_ok-sides.ensures in
    let has : HasBoth old.sides c.args.set.now.sides c.in-Some.sides = rw (c.as_slice.ensures, c.as_slice-in-loop-place.ensures) at found in
    let joined = set_joined items (set items c.loop-place.place both) c.loop-place.place old c.args.set.now both at has refl in
    subst (λ xs. HaveAlso xs c.args.set.now (set items c.loop-place.place both)) c.loop-place.invariant joined

pub returns : goal.returns
returns c = subst (λ xs. OnOk c.push_set-2.result (HaveAlso xs c.args.set.now c.push_set-2.new.sets.items)) c.loop-place.invariant c.push_set-2.ensures

pub index-requires : goal.index-requires
index-requires c = grind (arith, common_steps)

pub index_mut-requires : goal.index_mut-requires
index_mut-requires c = grind (arith, common_steps)
