-- Families and years: lookups in the map of the members, and one more member.
use Rattle.std.proofs.Common.{inl, inr, ◌≡◌, ◌+ℤ◌, ℕ, ℤ, Bool, true, false, List, [], ◌∷◌, map, Option, Some, None, String, string_bytes, nat_cmp, cond, refl, sym, ap, subst, ◌∙◌, arith}
use Rattle.std.specs.List.{All, AllByRecursion, IsDistinct}
use Rattle.std.specs.List.Sorted.{IsStrictlySortedBy}
use Rattle.std.specs.Map.{keys_of, lookup, set_value}
use Rattle.std.specs.BTreeMap.{BTreeMap, IsOrdered, UpdatesBy, get_by_text, insert_entry, is_at}
use Rattle.std.specs.HashMap.{HashMap, PutsEntry}
use Rattle.std.specs.Ordering.{is_eq, match_ordering}
use Rattle.std.specs.String.{string_cmp, string_eq}
use Rattle.std.specs.declared.cmp.Ordering.{Ordering}
use Rattle.std.specs.declared.cmp.Ordering.TheVariants.{Less, Equal, Greater}
use Rattle.std.specs.Cmp.Lexicographic.{slice_cmp}
use Rattle.std.specs.Str.{bytes_eq}
use Rattle.std.proofs.lemmas.Bool.{cases_Bool, false≢true}
use Rattle.std.proofs.lemmas.Int.{ints}
use Rattle.std.proofs.lemmas.List.Elements.{All-cons, All-head, All-tail}
use Rattle.std.proofs.lemmas.Map.Keys.{sorted_head, sorted_tail}
use Rattle.std.proofs.lemmas.Map.Views.{All-map-IsPermutation}
use Rattle.std.proofs.lemmas.Map.Text.{btree_map_updates_text, is_eq-slice_cmp}
use Rattle.std.proofs.lemmas.Slice.Eq.{bytes_eq-Decides}
use Rattle.settlement.specs.declared.account.Balance.{Balance}
use Rattle.intake_csv.specs.FamilyYears.{AreOnceBy, HasJoined, IsFamilyYear, Members, balance_in, members_among, members_of, refused_after, sum_over}

-- the test for equal bytes is symmetric
pub bytes-turned : (a b : List ℕ) → bytes_eq a b ≡ bytes_eq b a
bytes-turned a b = elim (cases_Bool (bytes_eq a b)) [
  | inl same ↦ same ∙ sym ((bytes_eq-Decides b a).1 (sym ((bytes_eq-Decides a b).0 same)))
  | inr other ↦ elim (cases_Bool (bytes_eq b a)) [
    | inl same ↦ absurd (false≢true (sym other ∙ (bytes_eq-Decides a b).1 (sym ((bytes_eq-Decides b a).0 same))))
    | inr turned ↦ other ∙ sym turned
  ]
]

-- a lookup in a map of names is a lookup in its entries by the names' bytes
pub looked : {Y V : Type 0} (es : List (String Y × V)) (m : List ℕ)
    → lookup (is_at (λ k. slice_cmp nat_cmp m (string_bytes k))) es ≡ lookup (bytes_eq m) (map (λ e. (string_bytes e.0, e.1)) es)
looked [] m = refl
looked (e ∷ es) m =
    let same = is_eq-slice_cmp m (string_bytes e.0) in
    elim (cases_Bool (bytes_eq m (string_bytes e.0))) [
      | inl here ↦ rw (same, here) refl
      | inr other ↦ rw (same, other) (looked es m)
    ]

-- the same for a map that finds names by their hashes
pub looked-name : {Y V : Type 0} (es : List (String Y × V)) (m : List ℕ) → lookup (λ k. bytes_eq m (string_bytes k)) es ≡ lookup (bytes_eq m) (map (λ e. (string_bytes e.0, e.1)) es)
looked-name [] m = refl
looked-name (e ∷ es) m = elim (cases_Bool (bytes_eq m (string_bytes e.0))) [
  | inl here ↦ rw here refl
  | inr other ↦ rw other (looked-name es m)
]

-- the keys of such a map occur once, since they are distinct
unfound-among : {Y V : Type 0} (key : String Y) (es : List (String Y × V)) → AllByRecursion (λ y. string_eq key y ≡ false) (keys_of es)
    → lookup (bytes_eq (string_bytes key)) (map (λ e. (string_bytes e.0, e.1)) es) ≡ None
unfound-among key [] h = refl
unfound-among key (e ∷ es) h =
    let other : bytes_eq (string_bytes key) (string_bytes e.0) ≡ false = h.0 in
    rw other (unfound-among key es h.1)

pub once-distinct : {Y V : Type 0} (es : List (String Y × V)) → IsDistinct string_eq (keys_of es) → AreOnceBy bytes_eq (map (λ e. (string_bytes e.0, e.1)) es)
unfolding IsDistinct
once-distinct [] h = tt
once-distinct (e ∷ es) h = (unfound-among e.0 es h.0, once-distinct es h.1)

-- the keys of a map occur once, since they increase
unfound-below : {Y V : Type 0} (key : String Y) (es : List (String Y × V)) → AllByRecursion (λ y. string_cmp key y ≡ Less) (keys_of es)
    → lookup (bytes_eq (string_bytes key)) (map (λ e. (string_bytes e.0, e.1)) es) ≡ None
unfound-below key [] h = refl
unfound-below key (e ∷ es) h =
    let other : bytes_eq (string_bytes key) (string_bytes e.0) ≡ false = sym (is_eq-slice_cmp (string_bytes key) (string_bytes e.0)) ∙ ap is_eq h.0 in
    rw other (unfound-below key es h.1)

pub once-sorted : {Y V : Type 0} (es : List (String Y × V)) → IsStrictlySortedBy string_cmp (keys_of es) → AreOnceBy bytes_eq (map (λ e. (string_bytes e.0, e.1)) es)
once-sorted [] h = tt
once-sorted (e ∷ es) h = (unfound-below e.0 es (sorted_head string_cmp e.0 (keys_of es) h), once-sorted es (sorted_tail string_cmp e.0 (keys_of es) h))

-- a property of the value of an entry
abbrev Has : {V : Type 0} → (V → Type 0) → List ℕ × V → Type 0
Has P named = P named.1

-- a property of all values of a map still holds after a value with that property is written
set-placed : {Y V : Type 0} (P : V → Type 0) (v : V) (e : String Y × V) (es rest : List (String Y × V)) (here : Bool) → P v → P e.1
    → All (Has P) (map (λ e. (string_bytes e.0, e.1)) es) → All (Has P) (map (λ e. (string_bytes e.0, e.1)) rest)
    → All (Has P) (map (λ e. (string_bytes e.0, e.1)) (cond here ((e.0, v) ∷ es) (e ∷ rest)))
set-placed P v e es rest true new first others more = All-cons (Has P) (string_bytes e.0, v) (map (λ e. (string_bytes e.0, e.1)) es) new others
set-placed P v e es rest false new first others more = All-cons (Has P) (string_bytes e.0, e.1) (map (λ e. (string_bytes e.0, e.1)) rest) first more

pub all-set : {Y V : Type 0} (P : V → Type 0) (test : String Y → Bool) (v : V) (es : List (String Y × V)) → P v → All (Has P) (map (λ e. (string_bytes e.0, e.1)) es)
    → All (Has P) (map (λ e. (string_bytes e.0, e.1)) (set_value test es v))
all-set P test v [] new all = all
all-set P test v (e ∷ es) new all =
    let following = map (λ e. (string_bytes e.0, e.1)) es in
    let others = All-tail (Has P) (string_bytes e.0, e.1) following all in
    set-placed P v e es (set_value test es v) (test e.0) new (All-head (Has P) (string_bytes e.0, e.1) following all) others (all-set P test v es new others)

pub all-put : {Y V S : Type 0} (P : V → Type 0) (key : String Y) (v : V) (old new : HashMap (String Y) V S) (before : Option V) → PutsEntry string_eq old new key v before → P v
    → All (Has P) (map (λ e. (string_bytes e.0, e.1)) old.entries) → All (Has P) (map (λ e. (string_bytes e.0, e.1)) new.entries)
all-put P key v old new None puts one all =
    let others = map (λ e. (string_bytes e.0, e.1)) old.entries in
    All-map-IsPermutation (λ e. (string_bytes e.0, e.1)) (Has P) ((key, v) ∷ old.entries) new.entries puts (All-cons (Has P) (string_bytes key, v) others one all)
all-put P key v old new (Some w) puts one all = subst (λ es. All (Has P) (map (λ e. (string_bytes e.0, e.1)) es)) (sym puts) (all-set P (string_eq key) v old.entries one all)

-- the balance of the first member, and of one in the map of the others
pub found_first : {Y : Type 0} (first : List ℕ) (own : Balance) (others : BTreeMap (String Y) Balance) (member : List ℕ) → bytes_eq first member ≡ true
    → Some own ≡ balance_in (members_of first own others) member
found_first first own others member here =
    let found : bytes_eq member first ≡ true = bytes-turned member first ∙ here in
    sym (ap (λ (b : Bool). cond b (Some own) (lookup (bytes_eq member) (members_among others))) found)

pub found_after : {Y : Type 0} (first : List ℕ) (own : Balance) (others : BTreeMap (String Y) Balance) (member : List ℕ) → bytes_eq first member ≡ false
    → get_by_text others member ≡ balance_in (members_of first own others) member
found_after first own others member other =
    let missed : bytes_eq member first ≡ false = bytes-turned member first ∙ other in
    looked others.entries member ∙ sym (ap (λ (b : Bool). cond b (Some own) (lookup (bytes_eq member) (members_among others))) missed)

-- the map after the balance of a new name is inserted
pub record Inserts {Y : Type 0} (key : String Y) (balance : Balance) (old new : BTreeMap (String Y) Balance) : Type 0 where
  pub entries : new.entries ≡ insert_entry string_cmp old.entries key balance
  pub ordered : IsOrdered string_cmp new
  pub found : (p : List ℕ) → get_by_text new p ≡ cond (bytes_eq (string_bytes key) p) (Some balance) (get_by_text old p)

-- the map after a call of `insert`
pub inserted : {Y : Type 0} (key : String Y) (balance : Balance) (old new : BTreeMap (String Y) Balance) → new.entries ≡ insert_entry string_cmp old.entries key balance
    → IsOrdered string_cmp new → UpdatesBy string_cmp (string_cmp key) old new (Some balance) → Inserts key balance old new
inserted key balance old new entries ordered updates =
    record { entries = entries; ordered = ordered; found = λ p. btree_map_updates_text (string_bytes key) old new (Some balance) updates p }

-- the sum after an entry is inserted at any position
sum-placed : {Y : Type 0} (amount : Balance → ℤ) (key : String Y) (v : Balance) (e : String Y × Balance) (es : List (String Y × Balance)) (order : Ordering)
    → cond (is_eq order) (Some e.1) (lookup (is_at (string_cmp key)) es) ≡ None
    → (lookup (is_at (string_cmp key)) es ≡ None
    → sum_over amount (map (λ e. (string_bytes e.0, e.1)) (insert_entry string_cmp es key v)) ≡ amount v +ℤ sum_over amount (map (λ e. (string_bytes e.0, e.1)) es))
    → sum_over amount (map (λ e. (string_bytes e.0, e.1)) (match_ordering order ((key, v) ∷ e ∷ es) ((e.0, v) ∷ es) (e ∷ insert_entry string_cmp es key v)))
    ≡ amount v +ℤ (amount e.1 +ℤ sum_over amount (map (λ e. (string_bytes e.0, e.1)) es))
sum-placed amount key v e es Less none more = refl
sum-placed amount key v e es Equal none more = absurd (cc none)
sum-placed amount key v e es Greater none more =
    let rest = more none in
    omega (arith, ints, rest)

sum-more : {Y : Type 0} (amount : Balance → ℤ) (key : String Y) (v : Balance) (es : List (String Y × Balance)) → lookup (is_at (string_cmp key)) es ≡ None
    → sum_over amount (map (λ e. (string_bytes e.0, e.1)) (insert_entry string_cmp es key v)) ≡ amount v +ℤ sum_over amount (map (λ e. (string_bytes e.0, e.1)) es)
sum-more amount key v [] none = refl
sum-more amount key v (e ∷ es) none = sum-placed amount key v e es (string_cmp key e.0) none (λ none. sum-more amount key v es none)

-- a member that is not refused has no balance yet
pub lacking : (members : Members) (own : Option Balance) (balance : Balance) → refused_after members own balance ≡ None → own ≡ None
lacking members None balance none = refl
lacking members (Some own) balance none = cc none

module _ {Y : Type 0} (first : List ℕ) (own : Balance) (old new : BTreeMap (String Y) Balance) (key : String Y) (balance : Balance)
    (free : refused_after (members_of first own old) (balance_in (members_of first own old) (string_bytes key)) balance ≡ None)
    (inserts : Inserts key balance old new) where
  absent : balance_in (members_of first own old) (string_bytes key) ≡ None
  absent = lacking (members_of first own old) (balance_in (members_of first own old) (string_bytes key)) balance free

  -- the name is not that of the first member
  unlike : bytes_eq (string_bytes key) first ≡ false
  unlike = elim (cases_Bool (bytes_eq (string_bytes key) first)) [
    | inl here ↦ absurd (cc (rw here at absent))
    | inr other ↦ other
  ]

  -- the name is not that of another member
  not-among : lookup (is_at (string_cmp key)) old.entries ≡ None
  not-among = looked old.entries (string_bytes key) ∙ rw unlike at absent

  found-among : (other : List ℕ) → lookup (bytes_eq other) (members_among new) ≡ cond (bytes_eq (string_bytes key) other) (Some balance) (lookup (bytes_eq other) (members_among old))
  found-among other = sym (looked new.entries other) ∙ inserts.found other ∙ ap (cond (bytes_eq (string_bytes key) other) (Some balance)) (looked old.entries other)

  sum-joined : (amount : Balance → ℤ) → sum_over amount (members_of first own new) ≡ amount balance +ℤ sum_over amount (members_of first own old)
  sum-joined amount =
      let more : sum_over amount (members_among new) ≡ amount balance +ℤ sum_over amount (members_among old) =
      ap (λ es. sum_over amount (map (λ e. (string_bytes e.0, e.1)) es)) inserts.entries ∙ sum-more amount key balance old.entries not-among in
      omega (arith, ints, more)

  -- the family has the new member
  pub joined : HasJoined (string_bytes key) balance (members_of first own old) (members_of first own new)
  joined = record {
    found = λ other. elim (cases_Bool (bytes_eq other first)) [
      | inl here ↦
          let same : other ≡ first = (bytes_eq-Decides other first).0 here in
          let apart : bytes_eq (string_bytes key) other ≡ false = ap (bytes_eq (string_bytes key)) same ∙ unlike in
          rw (here, apart) refl
      | inr following ↦ rw following (found-among other)
    ];
    met = sum-joined (λ b. b.met);
    oop = sum-joined (λ b. b.oop);
  }

  -- the family satisfies its invariant with the new sums
  pub joined-family_year : (met oop more_met more_oop : ℤ) → IsFamilyYear (members_of first own old) met oop → more_met ≡ met +ℤ balance.met → more_oop ≡ oop +ℤ balance.oop
      → IsFamilyYear (members_of first own new) more_met more_oop
  joined-family_year met oop more_met more_oop before is_met is_oop =
      let met_sum = sum-joined (λ b. b.met) in
      let oop_sum = sum-joined (λ b. b.oop) in
      let met_before = before.met_is in
      let oop_before = before.oop_is in
      record {
        once = (found-among first ∙ ap (λ (b : Bool). cond b (Some balance) (lookup (bytes_eq first) (members_among old))) unlike ∙ before.once.0, once-sorted new.entries inserts.ordered);
        met_is = omega (arith, ints, met_sum, met_before, is_met);
        oop_is = omega (arith, ints, oop_sum, oop_before, is_oop);
      }
