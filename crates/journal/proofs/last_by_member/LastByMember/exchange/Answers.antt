use Rattle.std.proofs.Common.{◌≡◌, true, refl, sym, ap, subst, length, get_or, Vec, Global, arith}
use Rattle.std.proofs.lemmas.Grind.{common_steps}
use Rattle.std.specs.List.{slice_set}
use Rattle.std.proofs.lemmas.Option.{slice_get_read}
use Rattle.journal.specs.LastByKey.{AccumulatorKey, last_in_map, entry_place}
use Rattle.journal.specs.declared.last_by_member.MemberLast.{MemberLast}
use Rattle.journal.proofs.Members.{brought, its_key, look}
use Rattle.journal.proofs.last_by_member.LastByMember.exchange.Goals as goal

pub returns : goal.returns
returns c =
    let place = entry_place c.args.key in
    let was = c.args.self.now.entries.items in
    let e = c.in_ok-move_to_map.ensures in
    let same = ap (λ (x : Vec MemberLast Global). x.items) e.entries in
    let entry = c.index_mut.result.now in
    let read = subst (λ xs. entry ≡ get_or xs place entry) same (subst (λ p. entry ≡ get_or c.move_to_map.new.self.entries.items p entry) c.place_of.ensures c.index_mut.ensures.value) in
    let there = slice_get_read was (length was) place entry refl c.requires read in
    let put : MemberLast = record { family = c.args.key.family; last = c.find.result; year = c.args.key.year; is_used = true } in
    let old = last_in_map c.args.self.now.others in
    let new = last_in_map c.move_to_map.new.self.others in
    subst (λ p. (q : AccumulatorKey) → look (slice_set c.move_to_map.new.self.entries.items p put) new q ≡ look was old q) (sym c.place_of.ensures) (
    subst (λ xs. (q : AccumulatorKey) → look (slice_set xs place put) new q ≡ look was old q) (sym same)
    (brought was c.args.key old new entry put there e.moved e.others (its_key put c.args.key.member refl) c.find.ensures)
    )

pub index_mut-requires : goal.index_mut-requires
index_mut-requires c = grind (arith, common_steps)
