-- Journals that are finished under the same terms and accept in the same order accept the same
-- claims.
use Rattle.std.proofs.Common.{◌≡◌, ◌≢◌, ◌≤◌, List, take, length, sym, ap, ◌∙◌, arith}
use Rattle.std.proofs.lemmas.List.{take_all}
use Rattle.settlement.specs.declared.claim.Claim.{Claim}
use Rattle.journal.specs.Terms.{Terms}
use Rattle.journal.specs.Events.{Filed, accepted_count, accepts}
use Rattle.journal.specs.InOrder.{AreFirstInOrder, OrderIsOne}
use Rattle.journal.specs.Lawful.{Finished}
use Rattle.journal.specs.declared.event.Event.{Event}
use Rattle.journal.specs.declared.order.Order.{Order}
use Rattle.journal.specs.declared.order.Order.TheVariants.{Any}
use Rattle.journal.specs.Laws.{FinishedTakesAll}

-- as many first claims of an order are the same
pub same_claims : OrderIsOne → (order : Order) (files : List (List Claim)) (claims others : List Filed) → order ≢ Any → AreFirstInOrder order files claims → AreFirstInOrder order files others
    → length claims ≡ length others → claims ≡ others
same_claims one order files claims others is a b as_many =
    one order files claims others is a b (omega (arith, as_many))
    ∙ ap (λ n. take n others) as_many
    ∙ take_all (length others) others (omega arith)

pub alike_so : FinishedTakesAll → OrderIsOne → (order : Order) (T : Terms) (J K : List Event) → order ≢ Any → Finished T J → Finished T K → AreFirstInOrder order T.files (accepts J)
    → AreFirstInOrder order T.files (accepts K) → accepts J ≡ accepts K
alike_so all one order T J K is F G O P =
    let as_many : accepted_count J ≡ accepted_count K = all T J F ∙ sym (all T K G) in
    same_claims one order T.files (accepts J) (accepts K) is O P as_many
