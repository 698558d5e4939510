use Rattle.std.proofs.Common.{◌≡◌, ◌∷◌, take}
use Rattle.feel_tests.specs.declared.value.Value.TheVariants.{Number, Text, Day}
use Rattle.settlement.specs.Bindings.{after_family}
use Rattle.explanation.proofs.given.values_of.Given as goal

-- the fields so far follow the other values
abbrev pub invariant-loop-value : goal.invariant-loop-value
invariant-loop-value l =
    l.values ≡ Text l.claim.id ∷ after_family l.claim.family (Text l.claim.member ∷ Day l.claim.service ∷ Number l.claim.billed ∷ take l.value-index l.claim.fields)
