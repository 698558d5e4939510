use Rattle.std.proofs.Common.{false, refl, arith}
use Rattle.std.proofs.lemmas.Grind.{common_steps}
use Rattle.ordered_claims.specs.declared.file_reader.FileReader.{FileReader}
use Rattle.ordered_claims.proofs.Reading.{opened, sound_after}
use Rattle.ordered_claims.proofs.file_reader.FileReader.open.Goals as goal

pub returns-clause-sound : goal.returns-clause-sound
returns-clause-sound c works =
    let start : FileReader = record { rows = c.in_ok-rows.rows; ahead = c.new.result; taken = 0; wanted = 1; is_over = false; has_failed = false; spare = c.new-2.result } in
    let sound = opened c.reader_begins_with_all_rows.ensures c.args.terms.now c.args.provider start c.requires.least c.requires.most c.in_ok-rows.ensures.start refl c.new.ensures.items refl in
    sound_after c.args.terms.now c.args.provider start c.read_ahead.new.self (λ _. sound) c.read_ahead.ensures works

pub returns-clause-none : goal.returns-clause-none
returns-clause-none c = grind (arith, common_steps)

pub read_ahead-requires : goal.read_ahead-requires
read_ahead-requires c = grind (arith, common_steps)
