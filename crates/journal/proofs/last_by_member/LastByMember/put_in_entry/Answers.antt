use Rattle.std.proofs.Common.{◌≡◌, Some, true, refl, sym, ap, subst, ◌∙◌, length, get_or, arith}
use Rattle.std.proofs.lemmas.Grind.{elements}
use Rattle.std.specs.List.{slice_get}
use Rattle.std.proofs.lemmas.Option.{slice_get_read, slice_get_within}
use Rattle.journal.specs.LastByKey.{is_entry_at, is_entry_of, last_in_map, entry_place}
use Rattle.journal.specs.declared.last_by_member.MemberLast.{MemberLast}
use Rattle.journal.proofs.Linking.{get-set-same}
use Rattle.journal.proofs.Members.{held, put-entry}
use Rattle.journal.proofs.last_by_member.LastByMember.put_in_entry.Goals as goal

-- the entry is there
there : (c : goal.After-self-1) → slice_get c.args.self.now.entries.items (entry_place c.args.key) ≡ Some c.index_mut-entry.result.now
there c =
    let entries = c.args.self.now.entries.items in
    let entry = held (slice_get entries (entry_place c.args.key)) c.args.key c.requires in
    let read = subst (λ place. c.index_mut-entry.result.now ≡ get_or entries place c.index_mut-entry.result.now) c.place_of.ensures c.index_mut-entry.ensures.value in
    slice_get_read entries (length entries) (entry_place c.args.key) c.index_mut-entry.result.now refl (slice_get_within entries (entry_place c.args.key) entry.0 entry.1) read

-- the entry is of the key
is_its : (c : goal.After-self-1) → is_entry_of c.index_mut-entry.result.now c.args.key ≡ true
is_its c = ap (λ o. is_entry_at o c.args.key) (sym (there c)) ∙ c.requires

pub returns-clause-found : goal.returns-clause-found
returns-clause-found c = λ q.
    let entries = c.args.self.now.entries.items in
    let others = last_in_map c.args.self.now.others in
    rw (c.place_of.ensures, c.replace.ensures.after) (put-entry entries c.args.key others c.index_mut-entry.result.now c.args.position (there c) (is_its c) q)

pub returns-clause-held : goal.returns-clause-held
returns-clause-held c =
    let entries = c.args.self.now.entries.items in
    let put : MemberLast = record c.index_mut-entry.result.now { last = c.replace.new.dest } in
    rw c.place_of.ensures (ap (λ o. is_entry_at o c.args.key) (get-set-same entries (entry_place c.args.key) c.index_mut-entry.result.now put (there c)) ∙ is_its c)

pub returns-clause-before : goal.returns-clause-before
returns-clause-before c = grind (arith, elements)

pub index_mut-entry-requires : goal.index_mut-entry-requires
index_mut-entry-requires c = grind (arith, elements)
