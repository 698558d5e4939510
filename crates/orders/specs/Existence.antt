-- An order of acceptance goes on to the last claim, and each terms have a finished journal in it.
use Rattle.std.specs.Prelude.{◌≡◌, ◌≤◌, ℕ, List, length}
use Rattle.settlement.specs.declared.claim.Claim.{Claim}
use Rattle.journal.specs.Terms.{Terms, claims_in_all}
use Rattle.journal.specs.Events.{Filed, accepts}
use Rattle.journal.specs.InOrder.{AreFirstInOrder}
use Rattle.journal.specs.Lawful.{Finished}
use Rattle.journal.specs.declared.event.Event.{Event}
use Rattle.journal.specs.declared.order.Order.{Order}

-- the first claims of an order, as many as are asked for
pub record FirstClaims (order : Order) (files : List (List Claim)) (count : ℕ) : Type 0 where
  pub claims : List Filed
  pub in_order : AreFirstInOrder order files claims
  pub exactly : length claims ≡ count

-- an order has as many first claims as are asked for, up to all claims of the files
abbrev pub OrderTakesAllClaims : Type 0
OrderTakesAllClaims = (order : Order) (files : List (List Claim)) (count : ℕ) → count ≤ claims_in_all files → FirstClaims order files count

-- a journal that is finished under the terms, and accepts claims in the order
pub record OrderedJournal (order : Order) (T : Terms) : Type 0 where
  pub journal : List Event
  pub finished : Finished T journal
  pub in_order : AreFirstInOrder order T.files (accepts journal)

-- for all terms there is such a journal
abbrev pub OrderHasAJournal : Type 0
OrderHasAJournal = (order : Order) (T : Terms) → OrderedJournal order T
