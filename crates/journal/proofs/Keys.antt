-- Keys that compare as equal are equal.
use Rattle.std.proofs.Common.{◌≡◌, ◌==◌, ◌&&◌, true, eqb-true}
use Rattle.std.proofs.lemmas.Bool.{and_parts}
use Rattle.journal.specs.LastByKey.{AccumulatorKey, is_key}

pub one_key : (a b : AccumulatorKey) → is_key a b ≡ true → a ≡ b
one_key a b h =
    let parts = and_parts ((a.family == b.family) && (a.member == b.member)) (a.year == b.year) h in
    let front = and_parts (a.family == b.family) (a.member == b.member) parts.0 in
    λ i. record { family = eqb-true a.family b.family front.0 i; member = eqb-true a.member b.member front.1 i; year = eqb-true a.year b.year parts.1 i }
