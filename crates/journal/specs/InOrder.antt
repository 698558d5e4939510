-- The orders in which claims can be accepted, and the claims that are the first ones in an order.
use Rattle.std.specs.Prelude.{◌≡◌, ◌≢◌, ◌<◌, ◌≤◌, ◌⊎◌, ℕ, ◌==◌, cond, ℤ, pos, ◌<ℤ◌, ⊤, List, [], ◌∷◌, ◌++◌, flat_map, take, length, slice_get, Option, Some, None}
use Rattle.settlement.specs.declared.claim.Claim.{Claim}
use Rattle.journal.specs.Terms.{Terms, claims_in}
use Rattle.journal.specs.Events.{Filed, accepts, places}
use Rattle.journal.specs.Lawful.{IsNextClaim}
use Rattle.journal.specs.declared.event.Event.{Event}
use Rattle.journal.specs.declared.event.Event.TheVariants.{Accept}
use Rattle.journal.specs.declared.order.Order.{Order}
use Rattle.journal.specs.declared.order.Order.TheVariants.{Any, Files, Service}

abbrev pub place_of : ℕ → Filed → List ℕ
place_of provider filed = cond (filed.provider == provider) (filed.place ∷ []) []

-- the number of a provider's claims in a list
abbrev pub filed_count : ℕ → List Filed → ℕ
filed_count provider claims = length (flat_map (place_of provider) claims)

-- the claim of a provider that follows those in the list
abbrev pub following_claim : List Filed → ℕ → Filed
following_claim earlier provider = record { provider = provider; place = filed_count provider earlier }

-- the provider's file has the claim
abbrev pub IsInFile : List (List Claim) → Filed → Type 0
IsInFile files filed = filed.place < length (claims_in files filed.provider)

abbrev pub service_in : Option Claim → ℤ
service_in None = pos 0
service_in (Some claim) = claim.service

-- the day of service of a claim
abbrev pub service_of : List (List Claim) → Filed → ℤ
service_of files filed = service_in (slice_get (claims_in files filed.provider) filed.place)

-- of two files' next claims, this one may come before the other
abbrev pub MayComeFirst : Order → List (List Claim) → Filed → Filed → Type 0
MayComeFirst Any files one other = ⊤
MayComeFirst Files files one other = one.provider ≤ other.provider
MayComeFirst Service files one other =
    (service_of files one <ℤ service_of files other) ⊎ ((service_of files one ≡ service_of files other) × (one.provider ≤ other.provider))

-- the claim is its file's next one after the earlier claims, and may come before each other file's
-- next one
pub record IsNextInOrder (order : Order) (files : List (List Claim)) (earlier : List Filed) (filed : Filed) : Type 0 where
  pub follows : filed ≡ following_claim earlier filed.provider
  pub there : IsInFile files filed
  pub first : (provider : ℕ) → IsInFile files (following_claim earlier provider) → MayComeFirst order files filed (following_claim earlier provider)

-- these claims of the files are the first ones in the order
abbrev pub AreFirstInOrder : Order → List (List Claim) → List Filed → Type 0
AreFirstInOrder order files claims = (n : ℕ) (filed : Filed) → slice_get claims n ≡ Some filed → IsNextInOrder order files (take n claims) filed

-- all claims that come before this one in the order are accepted
pub record IsDue (order : Order) (T : Terms) (J : List Event) (filed : Filed) : Type 0 where
  pub earlier : List Filed
  pub in_order : AreFirstInOrder order T.files (earlier ++ filed ∷ [])
  pub accepted : (n : ℕ) (other : Filed) → slice_get earlier n ≡ Some other → other.place < length (places J other.provider)

-- the order, if there is one, leaves no choice: of two lists of first claims the shorter one begins
-- the longer one
abbrev pub OrderIsOne : Type 0
OrderIsOne = (order : Order) (files : List (List Claim)) (claims others : List Filed) → order ≢ Any → AreFirstInOrder order files claims → AreFirstInOrder order files others
    → length claims ≤ length others → claims ≡ take (length claims) others

-- a journal that accepts in an order still does when a claim that is due is accepted
abbrev pub DueClaimStaysInOrder : Type 0
DueClaimStaysInOrder = (order : Order) (T : Terms) (J : List Event) (filed : Filed) → order ≢ Any → AreFirstInOrder order T.files (accepts J) → IsDue order T J filed
    → IsNextClaim T J filed.provider filed.place → AreFirstInOrder order T.files (accepts (J ++ Accept filed.provider filed.place ∷ []))
