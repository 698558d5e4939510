use Rattle.std.proofs.Common.{◌≡◌, ◌<◌, ◌∙◌, ap, sym, length, Some, arith, refl}
use Rattle.std.proofs.lemmas.Grind.{common_steps}
use Rattle.std.proofs.lemmas.Bool.Decides.{nat_tests}
use Rattle.std.specs.List.{slice_get}
use Rattle.std.proofs.lemmas.Option.{slice_get_read}
use Rattle.std.proofs.lemmas.Slice.Eq.{bytes_eq-Decides}
use Rattle.journal.proofs.Numbers.{distinct-names}
use Rattle.journal.proofs.names.Names.check_candidate.Goals as goal

pub returns-then-eq-clause-found : goal.returns-then-eq-clause-found
returns-then-eq-clause-found c =
    let names = c.as_slice-names.result.now in
    let same : c.in_ok-there.there.now ≡ c.args.name.now =
    sym c.as_str.ensures.value ∙ ((bytes_eq-Decides c.as_str.result.now c.as_str-2.result.now).0 (sym c.eq.ensures ∙ c.if-eq.true)) ∙ c.as_str-2.ensures.value in
    let within : c.in_ok-hint.hint < length names = grind (arith, nat_tests, c.in_ok-there.ensures.lookup.0) in
    let there : slice_get names c.in_ok-hint.hint ≡ Some c.in_ok-there.there.now =
    slice_get_read names (length names) c.in_ok-hint.hint c.in_ok-there.there.now refl within c.in_ok-there.ensures.lookup.1 in
    rw (← c.self.view_is) (ap (λ xs. slice_get xs c.in_ok-hint.hint) (sym c.as_slice-names.ensures.value) ∙ there ∙ ap Some same)

pub returns-in_err-hint-clause-distinct : goal.returns-in_err-hint-clause-distinct
returns-in_err-hint-clause-distinct c = rw (← c.self.view_is) (distinct-names c.self.inside.names.items c.self.inside.numbers c.self.invariant)

pub returns-in_err-there-clause-distinct : goal.returns-in_err-there-clause-distinct
returns-in_err-there-clause-distinct c = rw (← c.self.view_is) (distinct-names c.self.inside.names.items c.self.inside.numbers c.self.invariant)

pub returns-then-eq-clause-distinct : goal.returns-then-eq-clause-distinct
returns-then-eq-clause-distinct c = rw (← c.self.view_is) (distinct-names c.self.inside.names.items c.self.inside.numbers c.self.invariant)

pub returns-else-eq-clause-distinct : goal.returns-else-eq-clause-distinct
returns-else-eq-clause-distinct c = rw (← c.self.view_is) (distinct-names c.self.inside.names.items c.self.inside.numbers c.self.invariant)

pub returns-in_err-hint-clause-found : goal.returns-in_err-hint-clause-found
returns-in_err-hint-clause-found c = grind (arith, common_steps)

pub returns-in_err-there-clause-found : goal.returns-in_err-there-clause-found
returns-in_err-there-clause-found c = grind (arith, common_steps)
