use Rattle.std.proofs.Common.{◌≡◌, ◌+◌, ◌-◌, ◌*◌, ◌^◌, ◌<◌, length, subst, sym, arith}
use Rattle.std.specs.Str.Parse.{AllDigits, digits_value}
use Rattle.fixpoint.specs.NumberText.{IsCountOf}
use Rattle.fixpoint.proofs.Digits.{AllDigits-without_end_zeros}
use Rattle.fixpoint.proofs.Counts.{no_count, rest_is, whole_count}
use Rattle.fixpoint.proofs.reading.ten_thousandths.Goals as goal

pub returns-then-decimals-gt4 : goal.returns-then-decimals-gt4
returns-then-decimals-gt4 c =
    no_count c.args.whole.now c.args.fraction.now c.requires.fraction
    (subst (λ l. 4 < length l) c.without_end_zeros-decimals.ensures c.if-decimals-gt4.true)

pub capped_value-requires : goal.capped_value-requires
capped_value-requires c =
    subst (AllDigits 10) (sym c.without_end_zeros-decimals.ensures) (AllDigits-without_end_zeros c.args.fraction.now c.requires.fraction)

pub overflow_mul-rest : goal.overflow_mul-rest
overflow_mul-rest c =
    let rest = rest_is c.args.fraction.now c.without_end_zeros-decimals.result.now c.capped_value.result c.unit_of_last.result
    c.requires.fraction c.without_end_zeros-decimals.ensures c.if-decimals-gt4.false c.capped_value.ensures c.unit_of_last.ensures in
    omega (arith, rest)

pub overflow_add-count : goal.overflow_add-count
overflow_add-count c =
    let rest = rest_is c.args.fraction.now c.without_end_zeros-decimals.result.now c.capped_value.result c.unit_of_last.result
    c.requires.fraction c.without_end_zeros-decimals.ensures c.if-decimals-gt4.false c.capped_value.ensures c.unit_of_last.ensures in
    omega (arith, rest)

pub returns-then-count : goal.returns-then-count
returns-then-count c =
    let whole = c.args.whole.now in
    let kept = c.without_end_zeros-decimals.result.now in
    let rest = rest_is c.args.fraction.now kept c.capped_value.result c.unit_of_last.result
    c.requires.fraction c.without_end_zeros-decimals.ensures c.if-decimals-gt4.false c.capped_value.ensures c.unit_of_last.ensures in (
      digits_value 10 whole * 10000 + digits_value 10 kept * 10 ^ (4 - length kept),
      whole_count whole c.args.fraction.now kept c.without_end_zeros-decimals.ensures c.if-decimals-gt4.false,
      omega (arith, rest),
    )

pub returns-else-count : goal.returns-else-count
returns-else-count c =
    let whole = c.args.whole.now in
    let kept = c.without_end_zeros-decimals.result.now in
    let rest = rest_is c.args.fraction.now kept c.capped_value.result c.unit_of_last.result
    c.requires.fraction c.without_end_zeros-decimals.ensures c.if-decimals-gt4.false c.capped_value.ensures c.unit_of_last.ensures in
    let exact : digits_value 10 whole * 10000 + digits_value 10 kept * 10 ^ (4 - length kept)
    ≡ c.capped_value-ones.result * 10000 + c.capped_value.result * c.unit_of_last.result = omega (arith, rest) in (
      subst (IsCountOf whole c.args.fraction.now) exact
          (whole_count whole c.args.fraction.now kept c.without_end_zeros-decimals.ensures c.if-decimals-gt4.false),
      omega arith,
    )
