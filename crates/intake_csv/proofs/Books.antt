-- Books: the families of each year, with their members and opening balances.
use Rattle.std.proofs.Common.{inl, inr, ◌≡◌, ◌≢◌, ◌<◌, ◌≤◌, ◌+◌, ◌==◌, ◌&&◌, ◌+ℤ◌, ℕ, ℤ, pos, suc, zero, Bool, true, false, List, [], ◌∷◌, ◌++◌, length, map, flat_map, get_or, set, Option, Some, None, IsSome, is_some, Result, Ok, Err, OnOk, String, string_bytes, cond, refl, sym, ap, subst, append_assoc, ◌∙◌, arith}
use Rattle.std.specs.List.{All}
use Rattle.std.specs.Map.{lookup}
use Rattle.std.specs.Option.{unwrap_or}
use Rattle.std.specs.HashMap.{HashMap, IsUnique, get_by_text}
use Rattle.std.specs.String.{string_eq}
use Rattle.std.specs.Str.{bytes_eq}
use Rattle.std.proofs.lemmas.Bool.{cases_Bool, cases_eq, cases_lt, false≢true}
use Rattle.std.proofs.lemmas.Bool.Decides.{nat_tests}
use Rattle.std.proofs.lemmas.Int.{ints}
use Rattle.std.proofs.lemmas.List.{get_or-set_same, get_or-set_other, map-append, map-set, length-map}
use Rattle.std.proofs.lemmas.List.Elements.{All-get_or, All-head, All-nil, All-push, All-set, All-tail}
use Rattle.std.proofs.lemmas.Slice.Eq.{bytes_eq-Decides}
use Rattle.settlement.specs.Accounts.{Account}
use Rattle.settlement.specs.declared.acc.Acc.{Acc}
use Rattle.settlement.specs.declared.account.Balance.{Balance}
use Rattle.settlement.specs.Claim.{nothing_yet}
use Rattle.settlement.specs.Opening.{begun_beside, joins, no_balance, opening}
use Rattle.intake_csv.specs.FamilyYears.{AreOnceBy, HasJoined, Members, balance_in, begins, met_of, oop_of}
use Rattle.intake_csv.specs.Balances.{AreOnce, AreOnceIn, Book, Entry, Holder, JoinsIn, accounts_from, accounts_in, accounts_of, book_of, books_of, found_in, holder_of, is_holder}
use Rattle.intake_csv.proofs.FamilyYears.{bytes-turned, looked-name, once-distinct}

-- the members of a family in a year, or none if the family has no balances
abbrev pub members_at : List Book → Holder → Members
members_at books holder = unwrap_or (found_in books holder) []

-- the opening accumulators of an account whose family has these members
abbrev pub begins_among : Members → List ℕ → Acc
begins_among members member = begins members (balance_in members member)

years-apart : (m n : ℕ) → m ≢ n → (m == n) ≡ false
years-apart m n h = grind (arith, nat_tests)

pub year-self : (n : ℕ) → (n == n) ≡ true
year-self n = grind (arith, nat_tests)

and-false : (b : Bool) → (b && false) ≡ false
and-false true = refl
and-false false = refl

and-true : (b : Bool) → (b && true) ≡ b
and-true true = refl
and-true false = refl

none-added : (x : ℤ) → x +ℤ pos 0 ≡ x
none-added x = omega (arith, ints)

added-turned : (x y z : ℤ) → z ≡ x +ℤ y → y +ℤ x ≡ z
added-turned x y z e = omega (arith, ints, e)

-- a balance of another family or year adds nothing
pub joined-other : (b : Balance) (acc : Acc) → joins false false b acc ≡ acc
joined-other b acc =
    let fmet = none-added acc.fmet in
    let foop = none-added acc.foop in
    λ i. record { met = acc.met; oop = acc.oop; paid = acc.paid; fmet = fmet i; foop = foop i }

-- a balance of the same family and year is the account's own, or adds only to the sums
pub joined-house : (own : Bool) (b : Balance) (members : Members) (begun : Option Balance) (fmet foop : ℤ) → fmet ≡ b.met +ℤ met_of members → foop ≡ b.oop +ℤ oop_of members
    → joins own true b (begins members begun) ≡ begun_beside fmet foop (unwrap_or (cond own (Some b) begun) no_balance)
joined-house true b members begun fmet foop is_met is_oop =
    let met = added-turned b.met (met_of members) fmet is_met in
    let oop = added-turned b.oop (oop_of members) foop is_oop in
    λ i. record { met = b.met; oop = b.oop; paid = b.paid; fmet = met i; foop = oop i }
joined-house false b members begun fmet foop is_met is_oop =
    let own = unwrap_or begun no_balance in
    let met = added-turned b.met (met_of members) fmet is_met in
    let oop = added-turned b.oop (oop_of members) foop is_oop in
    λ i. record { met = own.met; oop = own.oop; paid = own.paid; fmet = met i; foop = oop i }

-- the members of another family or year add nothing
passed-house : (z : ℕ) (name : List ℕ) (members : Members) (rest : List Entry) (a : Account) → is_holder (name, z) (holder_of a) ≡ false
    → opening (accounts_in z (name, members) ++ rest) a ≡ opening rest a
passed-house z name [] rest a other = refl
passed-house z name (m ∷ ms) rest a other =
    let before = opening (accounts_in z (name, ms) ++ rest) a in
    ap (λ (b : Bool). joins (b && bytes_eq m.0 a.member) b m.1 before) other ∙ joined-other m.1 before ∙ passed-house z name ms rest a other

-- the members of its family and year determine the opening accumulators of an account, if the other
-- entries add nothing
in-house : (z : ℕ) (name : List ℕ) (members : Members) (rest : List Entry) (a : Account) → is_holder (name, z) (holder_of a) ≡ true → opening rest a ≡ nothing_yet
    → opening (accounts_in z (name, members) ++ rest) a ≡ begins_among members a.member
in-house z name [] rest a here none = none
in-house z name (m ∷ ms) rest a here none =
    let before = opening (accounts_in z (name, ms) ++ rest) a in
    let own = bytes_eq m.0 a.member in
    let others : before ≡ begins_among ms a.member = in-house z name ms rest a here none in
    let turned : own ≡ bytes_eq a.member m.0 = bytes-turned m.0 a.member in
    ap (λ (b : Bool). joins (b && own) b m.1 before) here ∙ ap (joins own true m.1) others
    ∙ joined-house own m.1 ms (balance_in ms a.member) (met_of (m ∷ ms)) (oop_of (m ∷ ms)) refl refl
    ∙ ap (λ (b : Bool). begins (m ∷ ms) (cond b (Some m.1) (balance_in ms a.member))) turned

-- a book of another year adds nothing
passed : (book : Book) (z : ℕ) (rest : List Entry) (a : Account) → z ≢ a.year → opening (flat_map (accounts_in z) book ++ rest) a ≡ opening rest a
passed [] z rest a other = refl
passed (h ∷ hs) z rest a other =
    let house : is_holder (h.0, z) (holder_of a) ≡ false = ap (λ (b : Bool). bytes_eq h.0 a.family && b) (years-apart z a.year other) ∙ and-false (bytes_eq h.0 a.family) in
    ap (λ (es : List Entry). opening es a) (append_assoc (accounts_in z h) (flat_map (accounts_in z) hs) rest)
    ∙ passed-house z h.0 h.1 (flat_map (accounts_in z) hs ++ rest) a house ∙ passed hs z rest a other

-- the books of later years add nothing
later : (books : List Book) (z : ℕ) (a : Account) → a.year < z → opening (accounts_from z books) a ≡ nothing_yet
later [] z a less = refl
later (b ∷ bs) z a less = passed b z (accounts_from (suc z) bs) a (λ same. omega (arith, less, same)) ∙ later bs (suc z) a (omega (arith, less))

-- the opening accumulators of an account by the book of its year, if the other entries add nothing
in-book : (book : Book) (rest : List Entry) (a : Account) → AreOnceBy bytes_eq book → opening rest a ≡ nothing_yet
    → opening (flat_map (accounts_in a.year) book ++ rest) a ≡ begins_among (unwrap_or (lookup (bytes_eq a.family) book) []) a.member
in-book [] rest a once none = none
in-book (h ∷ hs) rest a once none =
    let following = flat_map (accounts_in a.year) hs ++ rest in
    let others : opening following a ≡ begins_among (unwrap_or (lookup (bytes_eq a.family) hs) []) a.member = in-book hs rest a once.1 none in
    let first = ap (λ (es : List Entry). opening es a) (append_assoc (accounts_in a.year h) (flat_map (accounts_in a.year) hs) rest) in
    let turned : bytes_eq a.family h.0 ≡ bytes_eq h.0 a.family = bytes-turned a.family h.0 in
    let year : is_holder (h.0, a.year) (holder_of a) ≡ bytes_eq h.0 a.family = ap (λ (b : Bool). bytes_eq h.0 a.family && b) (year-self a.year) ∙ and-true (bytes_eq h.0 a.family) in
    elim (cases_Bool (bytes_eq h.0 a.family)) [
      | inl here ↦
          let same : h.0 ≡ a.family = (bytes_eq-Decides h.0 a.family).0 here in
          let nobody : lookup (bytes_eq a.family) hs ≡ None = ap (λ name. lookup (bytes_eq name) hs) (sym same) ∙ once.0 in
          let nothing : opening following a ≡ nothing_yet = others ∙ ap (λ (o : Option Members). begins_among (unwrap_or o []) a.member) nobody in
          first ∙ in-house a.year h.0 h.1 following a (year ∙ here) nothing
          ∙ sym (ap (λ (b : Bool). begins_among (unwrap_or (cond b (Some h.1) (lookup (bytes_eq a.family) hs)) []) a.member) (turned ∙ here))
      | inr other ↦
          first ∙ passed-house a.year h.0 h.1 following a (year ∙ other) ∙ others
          ∙ sym (ap (λ (b : Bool). begins_among (unwrap_or (cond b (Some h.1) (lookup (bytes_eq a.family) hs)) []) a.member) (turned ∙ other))
    ]

opened-from : (books : List Book) (z k : ℕ) (a : Account) → z + k ≡ a.year → AreOnce books
    → opening (accounts_from z books) a ≡ begins_among (unwrap_or (lookup (bytes_eq a.family) (get_or books k [])) []) a.member
opened-from [] z k a is once = refl
opened-from (b ∷ bs) z zero a is once =
    let here : z ≡ a.year = omega (arith, is) in
    let rest = accounts_from (suc z) bs in
    ap (λ (n : ℕ). opening (flat_map (accounts_in n) b ++ rest) a) here ∙ in-book b rest a (All-head AreOnceIn b bs once).families (later bs (suc z) a (omega (arith, here)))
opened-from (b ∷ bs) z (suc k) a is once =
    let next : suc z + k ≡ a.year = omega (arith, is) in
    passed b z (accounts_from (suc z) bs) a (λ same. omega (arith, same, is)) ∙ opened-from bs (suc z) k a next (All-tail AreOnceIn b bs once)

-- the opening accumulators of an account by books without repeated families
pub opened-books : (books : List Book) (a : Account) → AreOnce books → opening (accounts_of books) a ≡ begins_among (members_at books (holder_of a)) a.member
opened-books books a once = opened-from books 0 a.year a (omega arith) once

pub begun_some : (books : List Book) (family member : List ℕ) (year : ℕ) (members : Members) → AreOnce books → found_in books (family, year) ≡ Some members
    → begins members (balance_in members member) ≡ opening (accounts_of books) (record { family = family; member = member; year = year })
begun_some books family member year members once is =
    ap (λ (o : Option Members). begins_among (unwrap_or o []) member) (sym is) ∙ sym (opened-books books (record { family = family; member = member; year = year }) once)

pub begun_none : (books : List Book) (family member : List ℕ) (year : ℕ) → AreOnce books → found_in books (family, year) ≡ None
    → nothing_yet ≡ opening (accounts_of books) (record { family = family; member = member; year = year })
begun_none books family member year once is =
    ap (λ (o : Option Members). begins_among (unwrap_or o []) member) (sym is) ∙ sym (opened-books books (record { family = family; member = member; year = year }) once)

-- an appended empty book changes no lookup
room-same : (books : List Book) (k : ℕ) → get_or (books ++ [] ∷ []) k [] ≡ get_or books k []
room-same [] zero = refl
room-same [] (suc k) = refl
room-same (b ∷ bs) zero = refl
room-same (b ∷ bs) (suc k) = room-same bs k

-- an empty map has an empty book
empty-book : {Y S : Type 0} (family_years : HashMap (String Y) Members S) → family_years.entries ≡ [] → book_of family_years ≡ []
empty-book family_years empty = ap (λ es. map (λ e. (string_bytes e.0, e.1)) es) empty

more-books : {Y S : Type 0} (years : List (HashMap (String Y) Members S)) (family_years : HashMap (String Y) Members S) → family_years.entries ≡ []
    → books_of (years ++ family_years ∷ []) ≡ books_of years ++ [] ∷ []
more-books years family_years empty = map-append book_of years (family_years ∷ []) ∙ ap (λ b. books_of years ++ b ∷ []) (empty-book family_years empty)

-- the lookups in books, and the families' distinctness, after an empty map is appended
pub room_found : {Y S : Type 0} (years : List (HashMap (String Y) Members S)) (family_years : HashMap (String Y) Members S) (q : Holder) → family_years.entries ≡ []
    → found_in (books_of (years ++ family_years ∷ [])) q ≡ found_in (books_of years) q
room_found years family_years q empty =
    ap (λ bs. lookup (bytes_eq q.0) (get_or bs q.1 [])) (more-books years family_years empty) ∙ ap (lookup (bytes_eq q.0)) (room-same (books_of years) q.1)

pub room_kept : {Y S : Type 0} (years : List (HashMap (String Y) Members S)) (family_years : HashMap (String Y) Members S) → family_years.entries ≡ []
    → AreOnce (books_of years) → AreOnce (books_of (years ++ family_years ∷ []))
room_kept years family_years empty once = subst AreOnce (sym (more-books years family_years empty)) (All-push AreOnceIn (books_of years) [] once (record { families = tt; members = All-nil (λ family_year. AreOnceBy bytes_eq family_year.1) }))

-- the book of a year, from its map
pub book-at : {Y S : Type 0} (years : List (HashMap (String Y) Members S)) (y : ℕ) (d : HashMap (String Y) Members S) → y < length years
    → get_or (books_of years) y [] ≡ book_of (get_or years y d)
book-at [] y d within = absurd (omega (arith, within))
book-at (m ∷ ms) zero d within = refl
book-at (m ∷ ms) (suc y) d within = book-at ms y d (omega (arith, within))

-- the families and members stay distinct after the map of a year is replaced
pub put_once : {Y S : Type 0} (years : List (HashMap (String Y) Members S)) (y : ℕ) (d family_years : HashMap (String Y) Members S) → y < length years → IsUnique string_eq family_years
    → (All (λ family_year. AreOnceBy bytes_eq family_year.1) (book_of (get_or years y d)) → All (λ family_year. AreOnceBy bytes_eq family_year.1) (book_of family_years))
    → AreOnce (books_of years) → AreOnce (books_of (set years y family_years))
put_once years y d family_years within unique kept once =
    let size : length (books_of years) ≡ length years = length-map years book_of in
    let before : AreOnceIn (book_of (get_or years y d)) = rw (← book-at years y d within) (All-get_or AreOnceIn (books_of years) y [] (omega (arith, within, size)) once) in
    let after : AreOnceIn (book_of family_years) = record { families = once-distinct family_years.entries unique; members = kept before.members } in
    subst AreOnce (sym (map-set book_of years y family_years)) (All-set AreOnceIn (books_of years) y (book_of family_years) after once)

-- a year after the last book has no book
book-none : (books : List Book) (y : ℕ) → ¬ (y < length books) → get_or books y [] ≡ []
book-none [] y beyond = refl
book-none (b ∷ bs) zero beyond = absurd (beyond (omega arith))
book-none (b ∷ bs) (suc y) beyond = book-none bs y (λ within. beyond (omega (arith, within)))

-- a lookup in a year that has a map, and in a year after the last one
pub found_within : {Y S : Type 0} (years : List (HashMap (String Y) Members S)) (y : ℕ) (d : HashMap (String Y) Members S) (family : List ℕ) → y < length years
    → get_by_text (get_or years y d) family ≡ found_in (books_of years) (family, y)
found_within years y d family within = looked-name (get_or years y d).entries family ∙ sym (ap (lookup (bytes_eq family)) (book-at years y d within))

pub found_beyond : {Y S : Type 0} (years : List (HashMap (String Y) Members S)) (y : ℕ) (family : List ℕ) → length years ≤ y → None ≡ found_in (books_of years) (family, y)
found_beyond years y family beyond =
    let size : length (books_of years) ≡ length years = length-map years book_of in
    sym (ap (lookup (bytes_eq family)) (book-none (books_of years) y (λ within. omega (arith, within, beyond, size))))

-- a year in which a family is found has a map
pub there-within : {Y S : Type 0} (years : List (HashMap (String Y) Members S)) (y : ℕ) (family : List ℕ) → IsSome (found_in (books_of years) (family, y)) → y < length years
there-within years y family there = elim (cases_lt y (length years)) [
  | inl within ↦ within
  | inr beyond ↦ absurd (false≢true (ap is_some (found_beyond years y family beyond) ∙ there))
]

-- a lookup in the map of a year is a lookup in the books
pub found-there : {Y S : Type 0} (years : List (HashMap (String Y) Members S)) (y place : ℕ) (family_years : HashMap (String Y) Members S) (family : List ℕ) (found : Option Members)
    → place ≡ y → family_years ≡ get_or years place family_years → IsSome (found_in (books_of years) (family, y)) → found ≡ get_by_text family_years family
    → found_in (books_of years) (family, y) ≡ found
found-there years y place family_years family found same located there is =
    let present : get_or years y family_years ≡ family_years = ap (λ (n : ℕ). get_or years n family_years) (sym same) ∙ sym located in
    sym (is ∙ ap (λ m. get_by_text m family) (sym present) ∙ found_within years y family_years family (there-within years y family there))

put-book : (books : List Book) (y : ℕ) (book : Book) (family : List ℕ) (members : Members) (q : Holder) → y < length books
    → ((p : List ℕ) → lookup (bytes_eq p) book ≡ cond (bytes_eq family p) (Some members) (lookup (bytes_eq p) (get_or books y [])))
    → found_in (set books y book) q ≡ cond (is_holder (family, y) q) (Some members) (found_in books q)
put-book books y book family members q within more = elim (cases_eq q.1 y) [
  | inl same ↦
      let there : get_or (set books y book) q.1 [] ≡ book = ap (λ n. get_or (set books y book) n []) same ∙ get_or-set_same books y book [] within in
      let year : (y == q.1) ≡ true = ap (λ (n : ℕ). y == n) same ∙ year-self y in
      let one : is_holder (family, y) q ≡ bytes_eq family q.0 = ap (λ (b : Bool). bytes_eq family q.0 && b) year ∙ and-true (bytes_eq family q.0) in
      ap (lookup (bytes_eq q.0)) there ∙ more q.0 ∙ ap (λ n. cond (bytes_eq family q.0) (Some members) (lookup (bytes_eq q.0) (get_or books n []))) (sym same)
      ∙ ap (λ (b : Bool). cond b (Some members) (found_in books q)) (sym one)
  | inr other ↦
      let there : get_or (set books y book) q.1 [] ≡ get_or books q.1 [] = get_or-set_other books y q.1 book [] other in
      let year : (y == q.1) ≡ false = years-apart y q.1 (λ same. other (sym same)) in
      let none : is_holder (family, y) q ≡ false = ap (λ (b : Bool). bytes_eq family q.0 && b) year ∙ and-false (bytes_eq family q.0) in
      ap (lookup (bytes_eq q.0)) there ∙ ap (λ (b : Bool). cond b (Some members) (found_in books q)) (sym none)
]

-- the lookups after the members of a family in a year are replaced
pub put_found : {Y S : Type 0} (years : List (HashMap (String Y) Members S)) (y : ℕ) (d family_years : HashMap (String Y) Members S) (family : List ℕ) (members : Members) (q : Holder)
    → y < length years → ((p : List ℕ) → get_by_text family_years p ≡ cond (bytes_eq family p) (Some members) (get_by_text (get_or years y d) p))
    → found_in (books_of (set years y family_years)) q ≡ cond (is_holder (family, y) q) (Some members) (found_in (books_of years) q)
put_found years y d family_years family members q within updated =
    let size : length (books_of years) ≡ length years = length-map years book_of in
    let at = book-at years y d within in
    let more : (p : List ℕ) → lookup (bytes_eq p) (book_of family_years) ≡ cond (bytes_eq family p) (Some members) (lookup (bytes_eq p) (get_or (books_of years) y [])) =
    λ p. sym (looked-name family_years.entries p) ∙ updated p ∙ ap (cond (bytes_eq family p) (Some members)) (looked-name (get_or years y d).entries p ∙ ap (lookup (bytes_eq p)) (sym at)) in
    ap (λ bs. found_in bs q) (map-set book_of years y family_years) ∙ put-book (books_of years) y (book_of family_years) family members q (omega (arith, within, size)) more

-- the books after one more member is added to a family in a year
pub joins_in : {Y S U E : Type 0} (years : List (HashMap (String Y) Members S)) (y : ℕ) (d family_years : HashMap (String Y) Members S) (family member : List ℕ) (balance : Balance) (before after : Members)
    → (joined : Result U E) → y < length years → found_in (books_of years) (family, y) ≡ Some before
    → ((p : List ℕ) → get_by_text family_years p ≡ cond (bytes_eq family p) (Some after) (get_by_text (get_or years y d) p))
    → OnOk joined (HasJoined member balance before after) → OnOk joined (JoinsIn (family, y) member balance (books_of years) (books_of (set years y family_years)))
joins_in years y d family_years family member balance before after (Ok u) within is updated has =
    let old = books_of years in
    let new = books_of (set years y family_years) in
    let put : (q : Holder) → found_in new q ≡ cond (is_holder (family, y) q) (Some after) (found_in old q) = λ q. put_found years y d family_years family after q within updated in
    let itself : is_holder (family, y) (family, y) ≡ true = rw ((bytes_eq-Decides family family).1 refl, year-self y) refl in
    record {
      own = λ other found.
          let same : before ≡ other = cc (sym is ∙ found) in
          record {
            after = after;
            found = put (family, y) ∙ ap (λ (b : Bool). cond b (Some after) (found_in old (family, y))) itself;
            joined = subst (λ (ms : Members). HasJoined member balance ms after) same has;
          };
      others = λ other unlike. put other ∙ ap (λ (b : Bool). cond b (Some after) (found_in old other)) unlike;
    }
joins_in years y d family_years family member balance before after (Err e) within is updated has = tt

-- an empty list of books has no repeated family
pub none_once : {Y S : Type 0} (years : List (HashMap (String Y) Members S)) → years ≡ [] → AreOnce (books_of years)
none_once years empty = subst (λ (ys : List (HashMap (String _) Members _)). AreOnce (books_of ys)) (sym empty) (All-nil AreOnceIn)
