use Rattle.std.proofs.Common.{rules, tests}
use Rattle.std.proofs.lemmas.Iterator.{YieldsList-from_slice}
use Rattle.std.proofs.lemmas.Iterator.Search.{any_from_yields_List}
use Rattle.feel_tests.specs.Holds.{is_equal}
use Rattle.regions.proofs.region.is_among.Goals as goal

pub returns : goal.returns
returns c =
    any_from_yields_List (λ name. is_equal c.args.value.now name) _ _ _ c.any.ensures.ran (YieldsList-from_slice c.args.names.now cc) (λ x b q k. search (rules, tests))
