-- Accounts in order, and the accounts of books, are not repeated.
use Rattle.std.proofs.Common.{◌≡◌, ◌≢◌, ◌<◌, ◌==◌, ◌&&◌, ℕ, suc, Bool, true, false, List, [], ◌∷◌, ◌++◌, map, flat_map, None, inl, inr, refl, sym, ap, ◌∙◌, subst, arith, append_assoc}
use Rattle.std.specs.Cmp.{IsTotalOrder}
use Rattle.std.specs.Cmp.Lexicographic.{slice_cmp}
use Rattle.std.specs.List.{All, AllByRecursion}
use Rattle.std.specs.List.Sorted.{IsStrictlySortedBy}
use Rattle.std.specs.Map.{keys_of, lookup}
use Rattle.std.specs.Ordering.{is_eq, nat_cmp, ordering_then}
use Rattle.std.specs.Str.{bytes_eq}
use Rattle.std.specs.declared.cmp.Ordering.{Ordering}
use Rattle.std.specs.declared.cmp.Ordering.TheVariants.{Less, Equal, Greater}
use Rattle.std.proofs.lemmas.Bool.{cases_Bool}
use Rattle.std.proofs.lemmas.Bool.Decides.{nat_tests}
use Rattle.std.proofs.lemmas.Cmp.{nat_cmp_total, nat_list_cmp_total, on_total, ranked, then_total, tied_itself}
use Rattle.std.proofs.lemmas.List.Elements.{All-head, All-tail}
use Rattle.std.proofs.lemmas.Map.Keys.{sorted_head, sorted_tail}
use Rattle.std.proofs.lemmas.Map.Text.{is_eq-slice_cmp}
use Rattle.std.proofs.lemmas.Slice.Eq.{bytes_eq-Decides}
use Rattle.settlement.specs.Accounts.{Account, is_family_year, is_same}
use Rattle.settlement.specs.Opening.{opening}
use Rattle.settlement.specs.declared.account.Balance.{Balance}
use Rattle.intake_csv.specs.Balances.{AreOnce, AreOnceIn, Book, Entry, accounts_from, accounts_in, accounts_of}
use Rattle.intake_csv.specs.FamilyYears.{AreOnceBy, Members}
use Rattle.intake_csv.proofs.FamilyYears.{bytes-turned}
use Rattle.journal.specs.Families.{IsAbsent}
use Rattle.run_lists.specs.Entries.{AreSorted, account_cmp, account_of_key, entry_of_key, key_cmp}
use Rattle.run_lists.specs.declared.closing.account_key.AccountKey.{AccountKey}
use Rattle.run_lists.specs.Charges.{Posts, plus, totals}
use Rattle.run_lists.proofs.Totals.{AreApart, none_plus, one_account, totals_opening}

pub account_total : IsTotalOrder account_cmp
account_total =
    then_total (on_total (λ (a : Account). a.year) nat_cmp_total)
    (then_total (on_total (λ (a : Account). a.family) nat_list_cmp_total) (on_total (λ (a : Account). a.member) nat_list_cmp_total))

pub key_total : IsTotalOrder key_cmp
key_total = on_total account_of_key account_total

then_equal : (a b : Ordering) → ordering_then a b ≡ Equal → (a ≡ Equal) × (b ≡ Equal)
then_equal Less b h = cc h
then_equal Equal b h = (refl, h)
then_equal Greater b h = cc h

equal_names : (x y : List ℕ) → slice_cmp nat_cmp x y ≡ Equal → x ≡ y
equal_names x y h = (bytes_eq-Decides x y).0 (sym (is_eq-slice_cmp x y) ∙ ap is_eq h)

-- accounts that compare as equal are equal
pub equal_accounts : (a b : Account) → account_cmp a b ≡ Equal → a ≡ b
equal_accounts a b h =
    let front = then_equal (nat_cmp a.year b.year) (ordering_then (slice_cmp nat_cmp a.family b.family) (slice_cmp nat_cmp a.member b.member)) h in
    let back = then_equal (slice_cmp nat_cmp a.family b.family) (slice_cmp nat_cmp a.member b.member) front.1 in
    let year : a.year ≡ b.year = ranked a.year b.year Equal (sym front.0) in
    let family : a.family ≡ b.family = equal_names a.family b.family back.0 in
    let member : a.member ≡ b.member = equal_names a.member b.member back.1 in
    λ i. record { family = family i; member = member i; year = year i }

-- an account that comes before another one is not the same
less-apart : (a b : Account) → account_cmp a b ≡ Less → is_same b a ≡ false
less-apart a b less = elim (cases_Bool (is_same b a)) [
  | inl same ↦
      let one : b ≡ a = one_account b a same in
      let itself : account_cmp a a ≡ Less = subst (λ x. account_cmp a x ≡ Less) one less in
      cc (sym (tied_itself account_total a) ∙ itself)
  | inr other ↦ other
]

absent-after : (a : Account) (entries : List Entry) → AllByRecursion (λ b. account_cmp a b ≡ Less) (keys_of entries) → IsAbsent a entries
absent-after a [] h = tt
absent-after a (e ∷ es) h = (less-apart a e.0 h.0, absent-after a es h.1)

pub sorted_apart : (entries : List Entry) → AreSorted entries → AreApart entries
sorted_apart [] h = tt
sorted_apart (e ∷ es) h =
    (absent-after e.0 es (sorted_head account_cmp e.0 (keys_of es) h), sorted_apart es (sorted_tail account_cmp e.0 (keys_of es) h))

-- the entries of keys in order are in order
less-all : (k : AccountKey) (held : List (AccountKey × Balance)) → AllByRecursion (λ l. key_cmp k l ≡ Less) (keys_of held)
    → AllByRecursion (λ b. account_cmp (account_of_key k) b ≡ Less) (keys_of (map entry_of_key held))
less-all k [] h = tt
less-all k (e ∷ es) h = (h.0, less-all k es h.1)

pub sorted_entries : (held : List (AccountKey × Balance)) → IsStrictlySortedBy key_cmp (keys_of held) → AreSorted (map entry_of_key held)
unfolding IsStrictlySortedBy
sorted_entries [] h = tt
sorted_entries (e ∷ es) h = (less-all e.0 es h.0, sorted_entries es h.1)

-- the accounts of books are not repeated
absent-append : (a : Account) (xs ys : List Entry) → IsAbsent a xs → IsAbsent a ys → IsAbsent a (xs ++ ys)
absent-append a [] ys h k = k
absent-append a (x ∷ xs) ys h k = (h.0, absent-append a xs ys h.1 k)

and-false : (b : Bool) → (b && false) ≡ false
and-false true = refl
and-false false = refl

years-apart : (m n : ℕ) → m ≢ n → (m == n) ≡ false
years-apart m n h = grind (arith, nat_tests)

-- accounts of another family or year
other-house : (a : Account) (year : ℕ) (family : List ℕ) (members : Members) → ((member : List ℕ) → is_family_year (record { family = family; member = member; year = year }) a ≡ false)
    → IsAbsent a (accounts_in year (family, members))
other-house a year family [] h = tt
other-house a year family (m ∷ ms) h = (ap (λ (b : Bool). b && bytes_eq m.0 a.member) (h m.0), other-house a year family ms h)

other-year : (a : Account) (year : ℕ) (book : Book) → year ≢ a.year → IsAbsent a (flat_map (accounts_in year) book)
other-year a year [] other = tt
other-year a year (h ∷ hs) other =
    absent-append a (accounts_in year h) (flat_map (accounts_in year) hs)
    (other-house a year h.0 h.1 (λ m. ap (λ (b : Bool). bytes_eq h.0 a.family && b) (years-apart year a.year other) ∙ and-false (bytes_eq h.0 a.family)))
    (other-year a year hs other)

later-years : (a : Account) (year : ℕ) (books : List Book) → a.year < year → IsAbsent a (accounts_from year books)
later-years a year [] before = tt
later-years a year (b ∷ bs) before =
    absent-append a (flat_map (accounts_in year) b) (accounts_from (suc year) bs) (other-year a year b (λ same. omega (arith, before, same)))
    (later-years a (suc year) bs (omega (arith, before)))

-- accounts of other families of the year
none-found : {V : Type 0} (name : List ℕ) (other : List ℕ × V) (rest : List (List ℕ × V)) → lookup (bytes_eq name) (other ∷ rest) ≡ None
    → (bytes_eq other.0 name ≡ false) × (lookup (bytes_eq name) rest ≡ None)
none-found name other rest none = elim (cases_Bool (bytes_eq name other.0)) [
  | inl same ↦ cc (rw same at none)
  | inr apart ↦ (bytes-turned other.0 name ∙ apart, rw apart at none)
]

other-families : (a : Account) (year : ℕ) (book : Book) → lookup (bytes_eq a.family) book ≡ None → IsAbsent a (flat_map (accounts_in year) book)
other-families a year [] none = tt
other-families a year (h ∷ hs) none =
    let parts = none-found a.family h hs none in
    absent-append a (accounts_in year h) (flat_map (accounts_in year) hs) (other-house a year h.0 h.1 (λ m. ap (λ (b : Bool). b && (year == a.year)) parts.0))
    (other-families a year hs parts.1)

other-members : (a : Account) (year : ℕ) (family : List ℕ) (members : Members) → lookup (bytes_eq a.member) members ≡ None → IsAbsent a (accounts_in year (family, members))
other-members a year family [] none = tt
other-members a year family (m ∷ ms) none =
    let parts = none-found a.member m ms none in (
      ap (λ (b : Bool). is_family_year (record { family = family; member = m.0; year = year }) a && b) parts.0
          ∙ and-false (is_family_year (record { family = family; member = m.0; year = year }) a),
      other-members a year family ms parts.1,
    )

-- the members of a family, before other entries
house-apart : (year : ℕ) (family : List ℕ) (members : Members) (rest : List Entry) → AreOnceBy bytes_eq members
    → ((m : List ℕ) → IsAbsent (record { family = family; member = m; year = year }) rest) → AreApart rest → AreApart (accounts_in year (family, members) ++ rest)
house-apart year family [] rest once none apart = apart
house-apart year family (m ∷ ms) rest once none apart =
    let account : Account = record { family = family; member = m.0; year = year } in
    (absent-append account (accounts_in year (family, ms)) rest (other-members account year family ms once.0) (none m.0), house-apart year family ms rest once.1 none apart)

-- the families of a year, before other entries
book-apart : (year : ℕ) (book : Book) (rest : List Entry) → AreOnceBy bytes_eq book → All (λ family_year. AreOnceBy bytes_eq family_year.1) book
    → ((family m : List ℕ) → IsAbsent (record { family = family; member = m; year = year }) rest) → AreApart rest → AreApart (flat_map (accounts_in year) book ++ rest)
book-apart year [] rest once members none apart = apart
book-apart year (h ∷ hs) rest once members none apart =
    let others = flat_map (accounts_in year) hs in
    let following = book-apart year hs rest once.1 (All-tail (λ family_year. AreOnceBy bytes_eq family_year.1) h hs members) none apart in
    subst AreApart (sym (append_assoc (accounts_in year h) others rest))
    (house-apart year h.0 h.1 (others ++ rest) (All-head (λ family_year. AreOnceBy bytes_eq family_year.1) h hs members)
    (λ m. let account : Account = record { family = h.0; member = m; year = year } in absent-append account others rest (other-families account year hs once.0) (none h.0 m)) following)

books-apart : (year : ℕ) (books : List Book) → AreOnce books → AreApart (accounts_from year books)
books-apart year [] once = tt
books-apart year (b ∷ bs) once =
    let first = All-head AreOnceIn b bs once in
    book-apart year b (accounts_from (suc year) bs) first.families first.members
    (λ family m. later-years (record { family = family; member = m; year = year }) (suc year) bs (omega arith)) (books-apart (suc year) bs (All-tail AreOnceIn b bs once))

pub accounts_apart : (books : List Book) → AreOnce books → AreApart (accounts_of books)
accounts_apart books once = books-apart 0 books once

-- entries of accounts that are not repeated are the opening accumulators
pub opened : (books : List Book) (entries start new : List Entry) → AreOnce books → entries ≡ accounts_of books → start ≡ [] → Posts entries start new → (account : Account)
    → totals new account ≡ opening (accounts_of books) account
opened books entries start new once are none posts account =
    posts account ∙ (λ i. plus (totals (none i) account) (totals (are i) account)) ∙ sym (none_plus (totals (accounts_of books) account))
    ∙ totals_opening (accounts_of books) (accounts_apart books once) account
