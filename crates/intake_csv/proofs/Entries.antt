-- The entries of a file of balances, with one more.
use Rattle.std.proofs.Common.{inl, inr, ◌≡◌, ◌≢◌, ◌<◌, ◌+◌, ◌-◌, ◌==◌, ◌&&◌, ◌+ℤ◌, ℕ, ℤ, Bool, true, false, subst, List, [], ◌∷◌, ◌++◌, length, take, drop, Option, Some, None, IsSome, Result, Ok, Err, OnOk, cond, if◌then◌else◌, refl, sym, ap, ◌∙◌, arith}
use Rattle.std.specs.List.{All, AllZip}
use Rattle.std.specs.Option.{is_some, option_and_then, unwrap_or}
use Rattle.std.specs.Str.{bytes_eq}
use Rattle.std.proofs.lemmas.Bool.{cases_Bool, false≢true}
use Rattle.std.proofs.lemmas.Bool.Decides.{nat_tests}
use Rattle.std.proofs.lemmas.Int.{ints}
use Rattle.std.proofs.lemmas.List.{append-nil, take-append-drop}
use Rattle.std.proofs.lemmas.List.Elements.{All-head, All-nil, All-push, All-tail}
use Rattle.std.proofs.lemmas.List.Quantifiers.{Any-push, all_pairs_push}
use Rattle.std.proofs.lemmas.Slice.Eq.{bytes_eq-Decides}
use Rattle.settlement.specs.Accounts.{Account, is_family_year, is_same, part}
use Rattle.settlement.specs.Accumulators.{AreInRange}
use Rattle.settlement.specs.Amount.{is_in_range}
use Rattle.settlement.specs.declared.acc.Acc.{Acc}
use Rattle.settlement.specs.declared.account.Balance.{Balance}
use Rattle.settlement.specs.Opening.{joins, opening}
use Rattle.intake_csv.specs.Records.{Fields}
use Rattle.intake_csv.specs.Columns.{IsHeaderedFile, balance_columns}
use Rattle.intake_csv.specs.FamilyYears.{HasJoined, Members, balance_in, begins, met_of, oop_of, refused_after}
use Rattle.intake_csv.specs.Balances.{AreBalanceColumns, AreBalances, AreOnce, Book, Entry, Holder, HoldsEntries, IsEntry, IsRecordFault, IsReportedAt, JoinsIn, RefusesRecord, TakesEntry, accounts_of, balance_of, found_in, holder_of, is_holder, opening_with, refusal_cause, refusal_of, refusal_place}
use Rattle.intake_csv.specs.declared.column.Layout.{Layout}
use Rattle.intake_csv.specs.declared.column.Column.{Column}
use Rattle.intake_csv.specs.declared.family_year.Refusal.{Refusal}
use Rattle.intake_csv.specs.declared.family_year.Refusal.TheVariants.{Again, Met, Oop}
use Rattle.faults.specs.declared.file_fault.RowFault.{RowFault}
use Rattle.intake_csv.proofs.Books.{begins_among, joined-house, joined-other, members_at, opened-books, year-self}
use Rattle.intake_csv.proofs.EntryColumns.{columns-count}
use Rattle.intake_csv.proofs.FamilyYears.{bytes-turned, lacking}
use Rattle.intake_csv.proofs.Lists.{AllZip-grow, any-more, drop-after, next-at}
use Rattle.intake_csv.proofs.Ranges.{begun-range, entry-amounts, free-sums, family_year-range}

-- families and years that compare as equal are equal
holder-same : (a b : Holder) → is_holder a b ≡ true → a ≡ b
holder-same a b e = elim (cases_Bool (bytes_eq a.0 b.0)) [
  | inr other ↦ absurd (false≢true (rw other at e))
  | inl same ↦
      let years : (a.1 == b.1) ≡ true = rw same at e in
      let year : a.1 ≡ b.1 = grind (arith, nat_tests, years) in
      let family : a.0 ≡ b.0 = (bytes_eq-Decides a.0 b.0).0 same in
      ap (λ (f : List ℕ). (f, a.1)) family ∙ ap (λ (y : ℕ). (b.0, y)) year
]

holder-self : (a : Holder) → is_holder a a ≡ true
holder-self a = rw ((bytes_eq-Decides a.0 a.0).1 refl, year-self a.1) refl

-- accounts that compare as equal are equal
account-same : (a b : Account) → is_same a b ≡ true → a ≡ b
account-same a b e = elim (cases_Bool (is_family_year a b)) [
  | inr other ↦ absurd (false≢true (rw other at e))
  | inl house ↦
      let members : bytes_eq a.member b.member ≡ true = rw house at e in
      let member : a.member ≡ b.member = (bytes_eq-Decides a.member b.member).0 members in
      let holder = holder-same (holder_of a) (holder_of b) house in
      let family : a.family ≡ b.family = ap (λ (h : Holder). h.0) holder in
      let year : a.year ≡ b.year = ap (λ (h : Holder). h.1) holder in
      λ i. record { family = family i; member = member i; year = year i }
]

account-self : (a : Account) → is_same a a ≡ true
account-self a = rw (holder-self (holder_of a), (bytes_eq-Decides a.member a.member).1 refl) refl

account-apart : (a b : Account) → is_same a b ≡ false → a ≢ b
account-apart a b other same = false≢true (sym other ∙ ap (is_same a) (sym same) ∙ account-self a)

-- the balance of an account is that of its member in its family and year
balance-among : (found : Option Members) (member : List ℕ) → option_and_then (λ ms. balance_in ms member) found ≡ balance_in (unwrap_or found []) member
balance-among None member = refl
balance-among (Some members) member = refl

-- the new books have one more balance, and every other family and year is unchanged
pub record PutsIn (account : Account) (balance : Balance) (old new : List Book) : Type 0 where
  pub own : HasJoined account.member balance (members_at old (holder_of account)) (members_at new (holder_of account))
  pub others : (other : Holder) → is_holder (holder_of account) other ≡ false → found_in new other ≡ found_in old other

-- the case of a family and year with earlier balances
pub puts-joined : (account : Account) (balance : Balance) (before : Members) (old new : List Book) → found_in old (holder_of account) ≡ Some before
    → JoinsIn (holder_of account) account.member balance old new → PutsIn account balance old new
puts-joined account balance before old new is joined =
    let own = joined.own before is in
    let before_is : members_at old (holder_of account) ≡ before = ap (λ (o : Option Members). unwrap_or o []) is in
    let after_is : members_at new (holder_of account) ≡ own.after = ap (λ (o : Option Members). unwrap_or o []) own.found in
    record { own = rw (before_is, after_is) own.joined; others = joined.others }

-- a single member is added to an empty family
alone : (member : List ℕ) (balance : Balance) → HasJoined member balance [] ((member, balance) ∷ [])
alone member balance = record { found = λ other. ap (λ (b : Bool). cond b (Some balance) None) (bytes-turned other member); met = refl; oop = refl }

-- the case of a new family, in books that have an entry for the year
pub puts-added : (account : Account) (balance : Balance) (old room new : List Book) → found_in old (holder_of account) ≡ None
    → ((q : Holder) → found_in room q ≡ found_in old q)
    → ((q : Holder) → found_in new q ≡ cond (is_holder (holder_of account) q) (Some ((account.member, balance) ∷ [])) (found_in room q)) → PutsIn account balance old new
puts-added account balance old room new none same added =
    let one : Members = (account.member, balance) ∷ [] in
    let before_is : members_at old (holder_of account) ≡ [] = ap (λ (o : Option Members). unwrap_or o []) none in
    let there : found_in new (holder_of account) ≡ Some one = added (holder_of account) ∙ ap (λ (b : Bool). cond b (Some one) (found_in room (holder_of account))) (holder-self (holder_of account)) in
    let after_is : members_at new (holder_of account) ≡ one = ap (λ (o : Option Members). unwrap_or o []) there in
    record {
      own = rw (before_is, after_is) (alone account.member balance);
      others = λ other unlike. added other ∙ ap (λ (b : Bool). cond b (Some one) (found_in room other)) unlike ∙ same other;
    }

module _ (account : Account) (balance : Balance) (old new : List Book) (puts : PutsIn account balance old new) where
  -- the balance of an account afterwards
  puts-found : (q : Account) → balance_of new q ≡ cond (is_same account q) (Some balance) (balance_of old q)
  puts-found q = elim (cases_Bool (is_holder (holder_of account) (holder_of q))) [
    | inl here ↦
        let same : holder_of account ≡ holder_of q = holder-same (holder_of account) (holder_of q) here in
        let before : balance_in (members_at old (holder_of account)) q.member ≡ balance_of old q =
        ap (λ (h : Holder). balance_in (members_at old h) q.member) same ∙ sym (balance-among (found_in old (holder_of q)) q.member) in
        balance-among (found_in new (holder_of q)) q.member ∙ ap (λ (h : Holder). balance_in (members_at new h) q.member) (sym same) ∙ puts.own.found q.member
        ∙ ap (cond (bytes_eq account.member q.member) (Some balance)) before
        ∙ ap (λ (b : Bool). cond (b && bytes_eq account.member q.member) (Some balance) (balance_of old q)) (sym here)
    | inr other ↦
        ap (option_and_then (λ ms. balance_in ms q.member)) (puts.others (holder_of q) other)
        ∙ ap (λ (b : Bool). cond (b && bytes_eq account.member q.member) (Some balance) (balance_of old q)) (sym other)
  ]

  -- the opening accumulators of an account afterwards
  puts-opened : AreOnce old → AreOnce new → (q : Account) → opening (accounts_of new) q ≡ joins (is_same account q) (is_family_year account q) balance (opening (accounts_of old) q)
  puts-opened once_old once_new q =
      let own = bytes_eq account.member q.member in
      let first = opened-books new q once_new in
      let last = ap (joins (is_same account q) (is_family_year account q) balance) (opened-books old q once_old) in
      elim (cases_Bool (is_holder (holder_of account) (holder_of q))) [
        | inl here ↦
            let same : holder_of account ≡ holder_of q = holder-same (holder_of account) (holder_of q) here in
            let before = members_at old (holder_of account) in
            let after = members_at new (holder_of account) in
            first ∙ ap (λ (h : Holder). begins_among (members_at new h) q.member) (sym same)
            ∙ ap (begins after) (puts.own.found q.member)
            ∙ sym (joined-house own balance before (balance_in before q.member) (met_of after) (oop_of after) puts.own.met puts.own.oop)
            ∙ ap (λ (h : Holder). joins own true balance (begins_among (members_at old h) q.member)) same
            ∙ ap (λ (b : Bool). joins (b && own) b balance (begins_among (members_at old (holder_of q)) q.member)) (sym here)
            ∙ sym last
        | inr other ↦
            first ∙ ap (λ (o : Option Members). begins_among (unwrap_or o []) q.member) (puts.others (holder_of q) other)
            ∙ sym (joined-other balance (begins_among (members_at old (holder_of q)) q.member))
            ∙ ap (λ (b : Bool). joins (b && own) b balance (begins_among (members_at old (holder_of q)) q.member)) (sym other)
            ∙ sym last
      ]

sums-turned : (x y z : ℤ) → x +ℤ y +ℤ z ≡ x +ℤ z +ℤ y
sums-turned x y z = omega (arith, ints)

-- two balances can be added in either order, unless both are the account's own
joins-turned : (one mine other yours : Bool) (b c : Balance) (acc : Acc) → (one ≡ true → other ≡ true → ⊥)
    → joins one mine b (joins other yours c acc) ≡ joins other yours c (joins one mine b acc)
joins-turned true mine true yours b c acc apart = absurd (apart refl refl)
joins-turned true mine false yours b c acc apart =
    let fmet = sums-turned acc.fmet (part yours c.met) (part mine b.met) in
    let foop = sums-turned acc.foop (part yours c.oop) (part mine b.oop) in
    λ i. record { met = b.met; oop = b.oop; paid = b.paid; fmet = fmet i; foop = foop i }
joins-turned false mine true yours b c acc apart =
    let fmet = sums-turned acc.fmet (part yours c.met) (part mine b.met) in
    let foop = sums-turned acc.foop (part yours c.oop) (part mine b.oop) in
    λ i. record { met = c.met; oop = c.oop; paid = c.paid; fmet = fmet i; foop = foop i }
joins-turned false mine false yours b c acc apart =
    let fmet = sums-turned acc.fmet (part yours c.met) (part mine b.met) in
    let foop = sums-turned acc.foop (part yours c.oop) (part mine b.oop) in
    λ i. record { met = acc.met; oop = acc.oop; paid = acc.paid; fmet = fmet i; foop = foop i }

-- the opening accumulators of an account after one more entry of a new account
opening-more : (es : List Entry) (account : Account) (balance : Balance) (q : Account) → All (λ e. e.0 ≢ account) es
    → opening (es ++ (account, balance) ∷ []) q ≡ joins (is_same account q) (is_family_year account q) balance (opening es q)
opening-more [] account balance q none = refl
opening-more (e ∷ es) account balance q none =
    let apart : is_same e.0 q ≡ true → is_same account q ≡ true → ⊥ =
    λ first other. All-head (λ e. e.0 ≢ account) e es none (account-same e.0 q first ∙ sym (account-same account q other)) in
    ap (joins (is_same e.0 q) (is_family_year e.0 q) e.1) (opening-more es account balance q (All-tail (λ e. e.0 ≢ account) e es none))
    ∙ joins-turned (is_same e.0 q) (is_family_year e.0 q) (is_same account q) (is_family_year account q) e.1 balance (opening es q) apart

-- the opening accumulators of the new entry's own account
opening-own : (es : List Entry) (account : Account) (balance : Balance) → All (λ e. e.0 ≢ account) es
    → opening (es ++ (account, balance) ∷ []) account ≡ joins true true balance (opening es account)
opening-own es account balance none =
    opening-more es account balance account none ∙ ap (λ (b : Bool). joins b (is_family_year account account) balance (opening es account)) (account-self account)
    ∙ ap (λ (b : Bool). joins true b balance (opening es account)) (holder-self (holder_of account))

-- the opening accumulators of all accounts stay in range after an entry of a new account, if those
-- of that account are in range
range-more : (es : List Entry) (account : Account) (balance : Balance) → All (λ e. e.0 ≢ account) es → ((q : Account) → AreInRange (opening es q))
    → AreInRange (opening_with es (account, balance)) → (q : Account) → AreInRange (opening (es ++ (account, balance) ∷ []) q)
range-more es account balance none before joined q =
    let own = bytes_eq account.member q.member in
    let more = opening-more es account balance q none in
    elim (cases_Bool (is_family_year account q)) [
      | inl here ↦
          let same : holder_of account ≡ holder_of q = holder-same (holder_of account) (holder_of q) here in
          let is = more ∙ ap (λ (b : Bool). joins (b && own) b balance (opening es q)) here in
          subst AreInRange (sym is) (family_year-range es account q balance own same (subst AreInRange (opening-own es account balance none) joined) (before q))
      | inr other ↦
          let is = more ∙ ap (λ (b : Bool). joins (b && own) b balance (opening es q)) other ∙ joined-other balance (opening es q) in
          subst AreInRange (sym is) (before q)
    ]

-- an empty list of books has no entries
pub holds-none : (books : List Book) → books ≡ [] → HoldsEntries [] books
holds-none books empty = record {
  distinct = λ i j d less within. absurd (omega (arith, within));
  once = subst AreOnce (sym empty) (λ k d within. absurd (omega (arith, within)));
  found = λ account there. absurd (false≢true (ap (λ (bs : List Book). is_some (balance_of bs account)) (sym empty) ∙ there));
  lacking = λ account none. All-nil (λ e. e.0 ≢ account);
  given = λ account. ap (λ (bs : List Book). opening (accounts_of bs) account) empty;
}

-- the balances with the earlier entries and one more
pub holds-more : (entries : List Entry) (account : Account) (balance : Balance) (old new : List Book) → AreOnce new → HoldsEntries entries old
    → balance_of old account ≡ None → PutsIn account balance old new → HoldsEntries (entries ++ (account, balance) ∷ []) new
holds-more entries account balance old new once h absent puts =
    let none = h.lacking account absent in
    let found = puts-found account balance old new puts in
    record {
      distinct = all_pairs_push (λ a b. a.0 ≢ b.0) entries (account, balance) h.distinct none;
      once = once;
      found = λ q there. elim (cases_Bool (is_same account q)) [
        | inl here ↦ Any-push (λ e. e.0 ≡ q) entries (account, balance) (account-same account q here)
        | inr other ↦
            let is : balance_of new q ≡ balance_of old q = found q ∙ ap (λ (b : Bool). cond b (Some balance) (balance_of old q)) other in
            any-more (λ e. e.0 ≡ q) entries (account, balance) (h.found q (ap is_some (sym is) ∙ there))
      ];
      lacking = λ q lacks. elim (cases_Bool (is_same account q)) [
        | inl here ↦
            let is : balance_of new q ≡ Some balance = found q ∙ ap (λ (b : Bool). cond b (Some balance) (balance_of old q)) here in
            absurd (cc (sym is ∙ lacks))
        | inr other ↦
            let is : balance_of new q ≡ balance_of old q = found q ∙ ap (λ (b : Bool). cond b (Some balance) (balance_of old q)) other in
            All-push (λ e. e.0 ≢ q) entries (account, balance) (h.lacking q (sym is ∙ lacks)) (account-apart account q other)
      ];
      given = λ q.
          puts-opened account balance old new puts h.once once q ∙ ap (joins (is_same account q) (is_family_year account q) balance) (h.given q) ∙ sym (opening-more entries account balance q none);
    }

-- the account of an entry that is not refused has no balance yet
pub free-none : (found : Option Members) (member : List ℕ) (balance : Balance) → option_and_then (λ ms. refused_after ms (balance_in ms member) balance) found ≡ None
    → option_and_then (λ ms. balance_in ms member) found ≡ None
free-none None member balance free = refl
free-none (Some members) member balance free = lacking members (balance_in members member) balance free

-- an optional value is present, or it is `None`
pub some-there : {A : Type 0} (o : Option A) → is_some o ≡ true → (x : A) × (o ≡ Some x)
some-there None there = absurd (false≢true there)
some-there (Some x) there = (x, refl)

pub none-there : {A : Type 0} (o : Option A) → is_some o ≡ false → o ≡ None
none-there None there = refl
none-there (Some x) there = absurd (false≢true (sym there))

-- the entries after one is added to a family and year with earlier balances
pub put-joined : {U E : Type 0} (account : Account) (name : List ℕ) (balance : Balance) (old new : List Book) (put : Result U E) → name ≡ account.member → AreOnce new
    → is_some (found_in old (holder_of account)) ≡ true → refusal_of old (account, balance) ≡ None → OnOk put (JoinsIn (holder_of account) name balance old new)
    → OnOk put ((front : List Entry) → HoldsEntries front old → HoldsEntries (front ++ (account, balance) ∷ []) new)
put-joined account name balance old new (Ok u) named once there free joined =
    let (before, is) = some-there (found_in old (holder_of account)) there in
    let absent = free-none (found_in old (holder_of account)) account.member balance free in
    λ front h. holds-more front account balance old new once h absent (puts-joined account balance before old new is (rw named at joined))
put-joined account name balance old new (Err e) named once there free joined = tt

-- the entries after one of a new family is added
pub put-added : {U E : Type 0} (account : Account) (family name : List ℕ) (family_year : Members) (balance : Balance) (old room new : List Book) (put : Result U E)
    → family ≡ account.family → name ≡ account.member → family_year ≡ (name, balance) ∷ [] → AreOnce new → is_some (found_in old (holder_of account)) ≡ false
    → ((q : Holder) → found_in room q ≡ found_in old q)
    → OnOk put ((q : Holder) → found_in new q ≡ cond (is_holder (family, account.year) q) (Some family_year) (found_in room q))
    → OnOk put ((front : List Entry) → HoldsEntries front old → HoldsEntries (front ++ (account, balance) ∷ []) new)
put-added account family name family_year balance old room new (Ok u) lives named one once lacks same added =
    let none = none-there (found_in old (holder_of account)) lacks in
    let absent : balance_of old account ≡ None = ap (option_and_then (λ ms. balance_in ms account.member)) none in
    let puts = puts-added account balance old room new none same (rw (one, lives, named) at added) in
    λ front h. holds-more front account balance old new once h absent puts
put-added account family name family_year balance old room new (Err e) lives named one once lacks same added = tt

-- the meaning of a refusal for the members of the family
abbrev Says : Members → Option Balance → Balance → Refusal → Type 0
Says members own balance Again = IsSome own
Says members own balance Met = (own ≡ None) × (is_in_range (met_of members +ℤ balance.met) ≡ false)
Says members own balance Oop = (own ≡ None) × (is_in_range (met_of members +ℤ balance.met) ≡ true) × (is_in_range (oop_of members +ℤ balance.oop) ≡ false)

sums-say : (members : Members) (balance : Balance) (met oop : Bool) (refusal : Refusal) → is_in_range (met_of members +ℤ balance.met) ≡ met
    → is_in_range (oop_of members +ℤ balance.oop) ≡ oop → (if met then (if oop then None else Some Oop) else Some Met) ≡ Some refusal → Says members None balance refusal
sums-say members balance true true refusal is_met is_oop e = absurd (cc e)
sums-say members balance true false Oop is_met is_oop e = (refl, is_met, is_oop)
sums-say members balance true false Again is_met is_oop e = absurd (cc e)
sums-say members balance true false Met is_met is_oop e = absurd (cc e)
sums-say members balance false oop Met is_met is_oop e = (refl, is_met)
sums-say members balance false oop Again is_met is_oop e = absurd (cc e)
sums-say members balance false oop Oop is_met is_oop e = absurd (cc e)

refusal-says : (members : Members) (own : Option Balance) (balance : Balance) (refusal : Refusal) → refused_after members own balance ≡ Some refusal → Says members own balance refusal
refusal-says members (Some own) balance Again e = refl
refusal-says members (Some own) balance Met e = absurd (cc e)
refusal-says members (Some own) balance Oop e = absurd (cc e)
refusal-says members None balance refusal e =
    sums-say members balance (is_in_range (met_of members +ℤ balance.met)) (is_in_range (oop_of members +ℤ balance.oop)) refusal refl refl e

-- a refusal comes from the members that are found
found-says : (found : Option Members) (member : List ℕ) (balance : Balance) (refusal : Refusal)
    → option_and_then (λ ms. refused_after ms (balance_in ms member) balance) found ≡ Some refusal → Says (unwrap_or found []) (option_and_then (λ ms. balance_in ms member) found) balance refusal
found-says None member balance refusal e = absurd (cc e)
found-says (Some members) member balance refusal e = refusal-says members (balance_in members member) balance refusal e

-- each refusal is reported at a column of the layout
pub reported-within : (version : ℕ) (columns : List Column) (refusal : Refusal) → AreBalanceColumns version columns → refusal_place version refusal < length columns
reported-within version columns Again is = omega (arith, columns-count version columns is)
reported-within version columns Met is = omega (arith, columns-count version columns is)
reported-within version columns Oop is = omega (arith, columns-count version columns is)

-- the opening accumulators of a new entry's account
opened-with : (front : List Entry) (balances : List Book) (entry : Entry) → HoldsEntries front balances → balance_of balances entry.0 ≡ None
    → opening_with front entry ≡ joins true true entry.1 (begins (members_at balances (holder_of entry.0)) None)
opened-with front balances entry h absent =
    let members = members_at balances (holder_of entry.0) in
    let nobody : balance_in members entry.0.member ≡ None = sym (balance-among (found_in balances (holder_of entry.0)) entry.0.member) ∙ absent in
    let before : opening front entry.0 ≡ begins members None = sym (h.given entry.0) ∙ opened-books balances entry.0 h.once ∙ ap (begins members) nobody in
    opening-own front entry.0 entry.1 (h.lacking entry.0 absent) ∙ ap (joins true true entry.1) before

module _ (version : ℕ) where
  -- the fault of a record whose entry is refused after earlier ones
  module _ (layout : Layout) (front : List Entry) (balances : List Book) (fields : Fields) (entry : Entry) (fault : RowFault)
      (read : IsEntry version layout fields entry) (h : HoldsEntries front balances) where
    refuses-said : (refusal : Refusal) → Says (members_at balances (holder_of entry.0)) (balance_of balances entry.0) entry.1 refusal
        → IsReportedAt layout (refusal_place version refusal) (refusal_cause refusal) fault → IsRecordFault version layout front fields fault
    refuses-said Again known reported = inr (inl (record { entry = entry; read = read; again = h.found entry.0 known; reported = reported }))
    refuses-said Met (absent, beyond) reported =
        let met = ap (λ (acc : Acc). is_in_range acc.fmet) (opened-with front balances entry h absent) in
        inr (inr (record { entry = entry; read = read; new = h.lacking entry.0 absent; place = refusal_place version Met; sum = inl (met ∙ beyond, refl); reported = reported }))
    refuses-said Oop (absent, within, beyond) reported =
        let met = ap (λ (acc : Acc). is_in_range acc.fmet) (opened-with front balances entry h absent) in
        let oop = ap (λ (acc : Acc). is_in_range acc.foop) (opened-with front balances entry h absent) in
        inr (inr (record { entry = entry; read = read; new = h.lacking entry.0 absent; place = refusal_place version Oop; sum = inr (met ∙ within, oop ∙ beyond, refl); reported = reported }))

  pub refuses-entry : (layout : Layout) (fields : Fields) (entry : Entry) (refusal : Refusal) (balances : List Book) (fault : RowFault) → IsEntry version layout fields entry
      → refusal_of balances entry ≡ Some refusal → IsReportedAt layout (refusal_place version refusal) (refusal_cause refusal) fault
      → (front : List Entry) → HoldsEntries front balances → IsRecordFault version layout front fields fault
  refuses-entry layout fields entry refusal balances fault read refused reported front h =
      refuses-said layout front balances fields entry fault read h refusal (found-says (found_in balances (holder_of entry.0)) entry.0.member entry.1 refusal refused) reported

  -- the opening accumulators of the account of an entry that is not refused are in range
  pub takes-entry : (layout : Layout) (fields : Fields) (entry : Entry) (old new : List Book) → IsEntry version layout fields entry → refusal_of old entry ≡ None
      → ((front : List Entry) → HoldsEntries front old → HoldsEntries (front ++ entry ∷ []) new)
      → (front : List Entry) → HoldsEntries front old → TakesEntry version layout front fields new
  takes-entry layout fields entry old new read free put front h =
      let found = found_in old (holder_of entry.0) in
      let absent = free-none found entry.0.member entry.1 free in
      let amounts = entry-amounts version layout fields entry read in
      let sums = free-sums found entry.0.member entry.1 amounts free in
      record {
        entry = entry;
        read = read;
        new = h.lacking entry.0 absent;
        holds = put front h;
        in_range = subst AreInRange (sym (opened-with front old entry h absent)) (begun-range entry.1 (members_at old (holder_of entry.0)) amounts sums);
      }

  -- the first `count` records after the header have entries, and the balances have exactly these
  pub record ReadBefore (layout : Layout) (records : List Fields) (count : ℕ) (balances : List Book) : Type 0 where
    pub entries : List Entry
    pub each : AllZip (IsEntry version layout) (take count records) entries
    pub in_range : (account : Account) → AreInRange (opening entries account)
    pub holds : HoldsEntries entries balances

  -- no record is read yet
  pub read_none : (layout : Layout) (records : List Fields) (balances : List Book) → balances ≡ [] → ReadBefore layout records 0 balances
  read_none layout records balances empty = record { entries = []; each = tt; in_range = λ account. refl; holds = holds-none balances empty }

  -- the case that one more record has an entry
  pub read-next : (layout : Layout) (all : List Fields) (count : ℕ) (fields : Fields) (more : List Fields) (old new : List Book) → drop (count + 1) all ≡ fields ∷ more
      → ReadBefore layout (drop 1 all) count old
      → ((front : List Entry) → HoldsEntries front old → TakesEntry version layout front fields new) → ReadBefore layout (drop 1 all) (count + 1) new
  read-next layout all count fields more old new next before step =
      let taken = step before.entries before.holds in
      let one_more = (next-at all count fields more next).1 in
      record {
        entries = before.entries ++ taken.entry ∷ [];
        each = rw one_more (AllZip-grow (IsEntry version layout) (take count (drop 1 all)) before.entries fields taken.entry before.each taken.read);
        in_range = range-more before.entries taken.entry.0 taken.entry.1 taken.new before.in_range taken.in_range;
        holds = taken.holds;
      }

  -- the case that one more record is refused
  pub refused-next : (text : List ℕ) (layout : Layout) (all : List Fields) (count : ℕ) (fields : Fields) (more : List Fields) (balances : List Book) (fault : RowFault)
      → IsHeaderedFile (balance_columns version) text layout (drop 1 all) → drop (count + 1) all ≡ fields ∷ more → ReadBefore layout (drop 1 all) count balances
      → ((front : List Entry) → HoldsEntries front balances → IsRecordFault version layout front fields fault) → RefusesRecord version text (count + 1) fault
  refused-next text layout all count fields more balances fault headered_file next before reason =
      let back : count + 1 - 1 ≡ count = omega arith in
      record {
        layout = layout;
        records = drop 1 all;
        headered_file = headered_file;
        front = before.entries;
        read = record { each = rw back before.each; distinct = before.holds.distinct; in_range = before.in_range };
        fields = fields;
        numbered = omega arith;
        refused = rw back (next-at all count fields more next).0;
        reason = reason before.entries before.holds;
      }

  -- the case that all records have entries
  pub read-all : (text : List ℕ) (layout : Layout) (all : List Fields) (count : ℕ) (balances : List Book) → IsHeaderedFile (balance_columns version) text layout (drop 1 all)
      → drop (count + 1) all ≡ [] → ReadBefore layout (drop 1 all) count balances → AreBalances version text balances
  read-all text layout all count balances headered_file over before =
      let taken = rw append-nil at (sym (ap (λ rest. take count (drop 1 all) ++ rest) (sym (drop-after all count) ∙ over)) ∙ take-append-drop count (drop 1 all)) in
      let held = before.holds in
      record {
        layout = layout;
        records = drop 1 all;
        entries = before.entries;
        headered_file = headered_file;
        read = record { each = rw (← taken) before.each; distinct = held.distinct; in_range = before.in_range };
        given = held.given;
      }
