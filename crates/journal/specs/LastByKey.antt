-- The last position of each accumulator key.
use Rattle.std.specs.Prelude.{◌≡◌, ◌<◌, ℕ, ◌+◌, ◌*◌, ◌%◌, ◌==◌, ◌&&◌, Bool, true, false, get_or, slice_get, length, if◌then◌else◌, Option, Some, None, IsSome}
use Rattle.std.specs.Option.{option_or}
use Rattle.std.specs.Ordering.{nat_cmp, ordering_then}
use Rattle.std.specs.declared.cmp.Ordering.{Ordering}
use Rattle.std.specs.BTreeMap.{BTreeMap, get}
use Rattle.journal.specs.declared.last_by_number.LastByNumber.{LastByNumber}
use Rattle.journal.specs.declared.last_by_member.MemberLast.{MemberLast}
use Rattle.journal.specs.declared.last_by_member.LastByMember.{LastByMember}
use Rattle.journal.specs.declared.last_claim_index.Predecessors.{Predecessors}
use Rattle.journal.specs.declared.last_claim_index.LastClaimIndex.{LastClaimIndex}
use Rattle.journal.specs.declared.last_by_key.LastByKey.{LastByKey}
-- the key of an account: the numbers of its family and of its member, and its year
pub use Rattle.journal.specs.declared.accumulator_key.AccumulatorKey.{AccumulatorKey}

-- the order of keys: by family, then by member, then by year
abbrev pub key_cmp : AccumulatorKey → AccumulatorKey → Ordering
key_cmp a b = ordering_then (nat_cmp a.family b.family) (ordering_then (nat_cmp a.member b.member) (nat_cmp a.year b.year))

-- both keys are equal
abbrev pub is_key : AccumulatorKey → AccumulatorKey → Bool
is_key a b = ((a.family == b.family) && (a.member == b.member)) && (a.year == b.year)

-- the member is its own family, in year 0
abbrev pub is_own_family : AccumulatorKey → Bool
is_own_family key = (key.family == key.member) && (key.year == 0)

-- the key of a family and year: the family takes the place of the member
abbrev pub family_key : AccumulatorKey → AccumulatorKey
family_key key = record key { member = key.family }

-- the last position of a number
abbrev pub last_of_number : LastByNumber → ℕ → Option ℕ
last_of_number ends number = get_or ends.positions.items number None

-- the position in a map's entry, if there is an entry with a position
abbrev pub flatten : Option (Option ℕ) → Option ℕ
flatten None = None
flatten (Some last) = last

-- the last position of a key in a map, whose keys may have no position
abbrev pub last_in_map : BTreeMap AccumulatorKey (Option ℕ) → AccumulatorKey → Option ℕ
last_in_map others key = flatten (get key_cmp others key)

-- the place of the entry for a key: each member has four places, which its years take in turn
abbrev pub entry_place : AccumulatorKey → ℕ
entry_place key = key.member * 4 + key.year % 4

-- the entry at the place of a key is of the key
abbrev pub is_entry_of : MemberLast → AccumulatorKey → Bool
is_entry_of entry key = (entry.is_used && (entry.family == key.family)) && (entry.year == key.year)

-- there is an entry, and it is of the key
abbrev pub is_entry_at : Option MemberLast → AccumulatorKey → Bool
is_entry_at None key = false
is_entry_at (Some entry) key = is_entry_of entry key

-- there is an entry at the place of the key, and it is of the key
abbrev pub is_held : LastByMember → AccumulatorKey → Bool
is_held lasts key = is_entry_at (slice_get lasts.entries.items (entry_place key)) key

-- the last position of a key: in the entry at its place, if this is of the key, and otherwise as in
-- the map
abbrev pub last_by_entry : Option MemberLast → AccumulatorKey → Option ℕ → Option ℕ
last_by_entry None key other = other
last_by_entry (Some entry) key other = if is_entry_of entry key then entry.last else other

-- the last position of a key in an index that is kept by member
abbrev pub last_among : LastByMember → AccumulatorKey → Option ℕ
last_among lasts key = last_by_entry (slice_get lasts.entries.items (entry_place key)) key (last_in_map lasts.others key)

-- the last position of a key
abbrev pub last_of_key : LastByKey → AccumulatorKey → Option ℕ
last_of_key lasts key = if is_own_family key then last_of_number lasts.plain key.family else last_among lasts.others key

-- the entry is of the key, or else the map has the key
abbrev pub HasRoomIf : Bool → LastByMember → AccumulatorKey → Type 0
HasRoomIf true lasts key = Unit {0}
HasRoomIf false lasts key = IsSome (get key_cmp lasts.others key)

-- the index that is kept by member has room for the key
abbrev pub HasRoomAmong : LastByMember → AccumulatorKey → Type 0
HasRoomAmong lasts key = HasRoomIf (is_held lasts key) lasts key

-- the index has room for the key in its list or by its member
abbrev pub HasRoomBy : Bool → LastByKey → AccumulatorKey → Type 0
HasRoomBy true lasts key = key.family < length lasts.plain.positions.items
HasRoomBy false lasts key = HasRoomAmong lasts.others key

-- the index has room for the key
abbrev pub HasRoomFor : LastByKey → AccumulatorKey → Type 0
HasRoomFor lasts key = HasRoomBy (is_own_family key) lasts key

-- the new position, if there was one before
abbrev pub replaced : Option ℕ → ℕ → Option ℕ
replaced None position = None
replaced (Some before) position = Some position

-- the last position of a family and year: its own entry, or without one the last position of the
-- account whose member is the family itself
abbrev pub family_year_in : LastClaimIndex → AccumulatorKey → Option ℕ
family_year_in lasts key = option_or (last_of_key lasts.family_years key) (last_of_key lasts.accounts key)

-- the predecessors of a claim: the last positions of its account and of its family and year
pub record IsAfter (lasts : LastClaimIndex) (key : AccumulatorKey) (following : Predecessors) : Type 0 where
  pub own : following.own ≡ last_of_key lasts.accounts key
  pub family_year : following.family_year ≡ family_year_in lasts (family_key key)

-- both indices have the same positions
pub record AreFoundAlike (old new : LastClaimIndex) : Type 0 where
  pub accounts : (q : AccumulatorKey) → last_of_key new.accounts q ≡ last_of_key old.accounts q
  pub family_years : (q : AccumulatorKey) → family_year_in new q ≡ family_year_in old q
