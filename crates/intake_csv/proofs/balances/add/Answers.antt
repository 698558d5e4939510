use Rattle.std.proofs.Common.{◌≡◌, get_or, string_bytes, Some, rules}
use Rattle.std.proofs.lemmas.Map.Text.{hash_map_updates_text}
use Rattle.std.specs.Str.{bytes_eq}
use Rattle.intake_csv.specs.FamilyYears.{AreOnceBy}
use Rattle.intake_csv.proofs.FamilyYears.{all-put}
use Rattle.intake_csv.proofs.Books.{put_found, put_once}
use Rattle.intake_csv.proofs.balances.add.Goals as goal

pub returns-in-Ok-clause-added : goal.returns-in-Ok-clause-added
returns-in-Ok-clause-added c =
    let old = c.index_mut.result.now in
    let present : get_or c.args.years.now.items c.from.result old ≡ old = search rules in
    let year : c.from.result ≡ c.args.year = search rules in
    λ holder. rw year (put_found c.args.years.now.items c.args.year old c.insert.new.self (string_bytes c.args.family) c.args.family_year holder c.requires.room
    (λ p. rw (← year, present) (hash_map_updates_text (string_bytes c.args.family) old c.insert.new.self (Some c.args.family_year) c.in-Ok.ensures.updates p)))

pub returns-in-Ok-clause-once : goal.returns-in-Ok-clause-once
returns-in-Ok-clause-once c =
    let old = c.index_mut.result.now in
    let present : get_or c.args.years.now.items c.from.result old ≡ old = search rules in
    let year : c.from.result ≡ c.args.year = search rules in
    rw year (put_once c.args.years.now.items c.args.year old c.insert.new.self c.requires.room c.insert.ensures.unique (rw (← year, present)
    (all-put (AreOnceBy bytes_eq) c.args.family c.args.family_year old c.insert.new.self _ c.in-Ok.ensures.entries c.requires.once)))

pub returns-clause-once : goal.returns-clause-once
returns-clause-once c =
    let old = c.index_mut.result.now in
    let present : get_or c.args.years.now.items c.from.result old ≡ old = search rules in
    let year : c.from.result ≡ c.args.year = search rules in
    rw year (put_once c.args.years.now.items c.args.year old c.insert.new.self c.requires.room c.insert.ensures.unique (rw (← year, present, c.in-Err.ensures.err) (λ all. all)))
