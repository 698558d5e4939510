-- The members of a family in a year, with their opening balances.
use Rattle.std.specs.Prelude.{◌≡◌, ℕ, ℤ, Bool, pos, ◌+ℤ◌, List, [], ◌∷◌, map, Option, Some, None, string_bytes, cond, if◌then◌else◌}
use Rattle.std.specs.Map.{lookup}
use Rattle.std.specs.Option.{unwrap_or}
use Rattle.std.specs.Str.{bytes_eq}
use Rattle.std.specs.BTreeMap.{BTreeMap}
use Rattle.std.specs.declared.string.String.{String}
use Rattle.settlement.specs.Amount.{is_in_range}
use Rattle.settlement.specs.Opening.{begun_beside, no_balance}
use Rattle.settlement.specs.declared.acc.Acc.{Acc}
use Rattle.settlement.specs.declared.account.Balance.{Balance}
use Rattle.intake_csv.specs.declared.family_year.Refusal.{Refusal}
use Rattle.intake_csv.specs.declared.family_year.Refusal.TheVariants.{Again, Met, Oop}

-- the members of a family in a year, each with its balance
abbrev pub Members : Type 0
Members = List (List ℕ × Balance)

-- the members of a map, in the order of the map's keys
abbrev pub members_among : {Y : Type 0} → BTreeMap (String Y) Balance → Members
members_among others = map (λ e. (string_bytes e.0, e.1)) others.entries

-- the members of a family: the first one with its balance, and the others
abbrev pub members_of : {Y : Type 0} → List ℕ → Balance → BTreeMap (String Y) Balance → Members
members_of first balance others = (first, balance) ∷ members_among others

-- no key occurs twice
abbrev pub AreOnceBy : {K V : Type 0} → (K → K → Bool) → List (K × V) → Type 0
AreOnceBy same [] = Unit {0}
AreOnceBy same (entry ∷ rest) = (lookup (same entry.0) rest ≡ None) × AreOnceBy same rest

-- the sum of an amount over the members' balances
abbrev pub sum_over : (Balance → ℤ) → Members → ℤ
sum_over amount [] = pos 0
sum_over amount (member ∷ rest) = amount member.1 +ℤ sum_over amount rest

-- the family's sum of the deductible met
abbrev pub met_of : Members → ℤ
met_of members = sum_over (λ b. b.met) members

-- the family's sum of the out-of-pocket amounts
abbrev pub oop_of : Members → ℤ
oop_of members = sum_over (λ b. b.oop) members

-- the invariant of a family and year: its members are distinct, and the sums are over them
pub record IsFamilyYear (members : Members) (met oop : ℤ) : Type 0 where
  pub once : AreOnceBy bytes_eq members
  pub met_is : met ≡ met_of members
  pub oop_is : oop ≡ oop_of members

-- the balance of a member, if it has one
abbrev pub balance_in : Members → List ℕ → Option Balance
balance_in members member = lookup (bytes_eq member) members

-- the refusal of a new member's balance by the sums: the sum of `met` would be out of range, or
-- otherwise the sum of `oop`
abbrev pub refused_by_sums : Members → Balance → Option Refusal
refused_by_sums members balance =
    if is_in_range (met_of members +ℤ balance.met) then (if is_in_range (oop_of members +ℤ balance.oop) then None else Some Oop) else Some Met

-- the refusal of a member's balance: the member has a balance already, or a sum refuses it
abbrev pub refused_after : Members → Option Balance → Balance → Option Refusal
refused_after members (Some own) balance = Some Again
refused_after members None balance = refused_by_sums members balance

-- the new members are the old ones and this member: its balance is added, every other balance is
-- unchanged, and the sums include it
pub record HasJoined (member : List ℕ) (balance : Balance) (old new : Members) : Type 0 where
  pub found : (other : List ℕ) → balance_in new other ≡ cond (bytes_eq member other) (Some balance) (balance_in old other)
  pub met : met_of new ≡ balance.met +ℤ met_of old
  pub oop : oop_of new ≡ balance.oop +ℤ oop_of old

-- the opening accumulators of a member of this family: its own amounts are its balance, or zero
-- without one, and the family's sums are over the members
abbrev pub begins : Members → Option Balance → Acc
begins members own = begun_beside (met_of members) (oop_of members) (unwrap_or own no_balance)
