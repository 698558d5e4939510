use Rattle.std.proofs.Common.{cond, Some, sym, ap, ◌∙◌, arith}
use Rattle.std.proofs.lemmas.Grind.{common_steps}
use Rattle.std.specs.List.{slice_get}
use Rattle.journal.specs.LastByKey.{AccumulatorKey, is_key, last_in_map, entry_place}
use Rattle.journal.proofs.Members.{put-map, unheld}
use Rattle.journal.proofs.last_by_member.LastByMember.put_in_map.Goals as goal

pub returns-clause-before : goal.returns-clause-before
returns-clause-before c =
    let self = c.args.self.now in
    c.in_ok-before.ensures.before ∙ sym (unheld (slice_get self.entries.items (entry_place c.args.key)) c.args.key (last_in_map self.others c.args.key) c.requires.apart)

pub returns-clause-found : goal.returns-clause-found
returns-clause-found c =
    let old = last_in_map c.args.self.now.others in
    let updates = λ (q : AccumulatorKey). c.in_ok-before.ensures.found q ∙ ap (λ w. cond (is_key c.args.key q) w (old q)) c.to.ensures in
    put-map c.args.self.now.entries.items c.args.key old (last_in_map c.insert.new.others) (Some c.args.position) c.requires.apart updates

pub returns-clause-room : goal.returns-clause-room
returns-clause-room c = grind (arith, common_steps)
