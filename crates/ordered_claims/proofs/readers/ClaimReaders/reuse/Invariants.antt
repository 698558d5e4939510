use Rattle.std.proofs.Common.{◌≡◌}
use Rattle.ordered_claims.specs.Kept.{IsReading, taken_in}
use Rattle.ordered_claims.proofs.readers.ClaimReaders.reuse.Given as goal

abbrev pub invariant-files : goal.invariant-files
invariant-files l =
    let old = l.initial.self-inside in
    let new = l.self-inside in
    (new.terms ≡ old.terms) × IsReading old.terms.now new.files.items × (taken_in new.files.items ≡ taken_in old.files.items)
