-- The totals of a map's entries after a balance is added to one of them, or to a new one.
use Rattle.std.proofs.Common.{◌≡◌, ℤ, pos, ◌+ℤ◌, Bool, true, false, cond, List, [], ◌∷◌, map, Option, Some, None, unwrap_or, refl, sym, ap, ◌∙◌, arith}
use Rattle.std.specs.List.{AllByRecursion}
use Rattle.std.specs.List.Sorted.{IsStrictlySortedBy}
use Rattle.std.specs.Map.{keys_of, lookup}
use Rattle.std.specs.BTreeMap.{insert_entry, is_at}
use Rattle.std.specs.Ordering.{is_eq, match_ordering}
use Rattle.std.specs.declared.cmp.Ordering.{Ordering}
use Rattle.std.specs.declared.cmp.Ordering.TheVariants.{Less, Equal, Greater}
use Rattle.std.proofs.lemmas.Int.{ints}
use Rattle.std.proofs.lemmas.Map.Keys.{sorted_head, sorted_tail}
use Rattle.settlement.specs.Accounts.{Account, is_family_year, is_same, part}
use Rattle.settlement.specs.Claim.{nothing_yet}
use Rattle.settlement.specs.Opening.{no_balance}
use Rattle.settlement.specs.declared.acc.Acc.{Acc}
use Rattle.settlement.specs.declared.account.Balance.{Balance}
use Rattle.intake_csv.specs.Balances.{Entry}
use Rattle.run_lists.specs.Charges.{Posts, added, adds, plus, totals}
use Rattle.run_lists.specs.Entries.{account_of_key, entry_of_key, key_cmp}
use Rattle.run_lists.specs.declared.closing.account_key.AccountKey.{AccountKey}
use Rattle.run_lists.proofs.Sorted.{equal_accounts, key_total}
use Rattle.run_lists.proofs.Totals.{adds_within, same_acc}

-- no entry has a key before the first one
none-below : (k : AccountKey) (held : List (AccountKey × Balance)) → AllByRecursion (λ l. key_cmp k l ≡ Less) (keys_of held) → lookup (is_at (key_cmp k)) held ≡ None
none-below k [] h = refl
none-below k (e ∷ es) h =
    let other : is_at (key_cmp k) e.0 ≡ false = ap is_eq h.0 in
    rw other (none-below k es h.1)

less-than-all : (k l : AccountKey) (keys : List AccountKey) → key_cmp k l ≡ Less → AllByRecursion (λ m. key_cmp l m ≡ Less) keys → AllByRecursion (λ m. key_cmp k m ≡ Less) keys
less-than-all k l [] less h = tt
less-than-all k l (m ∷ ms) less h = (key_total.trans k l m less h.0, less-than-all k l ms less h.1)

fresh_part : (b : Bool) (x y z : ℤ) → y ≡ pos 0 → x +ℤ part b (y +ℤ z) ≡ x +ℤ (pos 0 +ℤ part b z)
fresh_part true x y z none = omega (arith, ints, none)
fresh_part false x y z none = omega (arith, ints)

-- a balance is added to an account without an entry
fresh : (own shared : Bool) (before more : Balance) (acc : Acc) → before ≡ no_balance → adds own shared (added before more) acc ≡ plus acc (adds own shared more nothing_yet)
fresh own shared before more acc none =
    let met : before.met ≡ pos 0 = ap (λ (b : Balance). b.met) none in
    let oop : before.oop ≡ pos 0 = ap (λ (b : Balance). b.oop) none in
    let paid : before.paid ≡ pos 0 = ap (λ (b : Balance). b.paid) none in
    same_acc (adds own shared (added before more) acc) (plus acc (adds own shared more nothing_yet)) (fresh_part own acc.met before.met more.met met) (fresh_part own acc.oop before.oop more.oop oop)
    (fresh_part own acc.paid before.paid more.paid paid) (fresh_part shared acc.fmet before.met more.met met) (fresh_part shared acc.foop before.oop more.oop oop)

held_part : (b : Bool) (x y z : ℤ) → x +ℤ part b (y +ℤ z) ≡ (x +ℤ part b y) +ℤ (pos 0 +ℤ part b z)
held_part true x y z = omega (arith, ints)
held_part false x y z = omega (arith, ints)

-- a balance is added to that of an entry
held : (own shared : Bool) (before more : Balance) (acc : Acc) → adds own shared (added before more) acc ≡ plus (adds own shared before acc) (adds own shared more nothing_yet)
held own shared before more acc =
    same_acc (adds own shared (added before more) acc) (plus (adds own shared before acc) (adds own shared more nothing_yet)) (held_part own acc.met before.met more.met)
    (held_part own acc.oop before.oop more.oop) (held_part own acc.paid before.paid more.paid) (held_part shared acc.fmet before.met more.met) (held_part shared acc.foop before.oop more.oop)

module _ (k : AccountKey) (before more : Balance) where
  -- what is added
  abbrev pub one : List Entry
  one = (account_of_key k, more) ∷ []

  placed : (e : AccountKey × Balance) (es : List (AccountKey × Balance)) (order : Ordering) → key_cmp k e.0 ≡ order
      → AllByRecursion (λ l. key_cmp e.0 l ≡ Less) (keys_of es) → before ≡ unwrap_or (cond (is_eq order) (Some e.1) (lookup (is_at (key_cmp k)) es)) no_balance
      → (before ≡ unwrap_or (lookup (is_at (key_cmp k)) es) no_balance → Posts one (map entry_of_key es) (map entry_of_key (insert_entry key_cmp es k (added before more))))
      → Posts one (map entry_of_key (e ∷ es))
      (map entry_of_key (match_ordering order ((k, added before more) ∷ e ∷ es) ((e.0, added before more) ∷ es) (e ∷ insert_entry key_cmp es k (added before more))))
  placed e es Less at sorted is more_of account =
      let none : lookup (is_at (key_cmp k)) es ≡ None = none-below k es (less-than-all k e.0 (keys_of es) at sorted) in
      let zero : before ≡ no_balance = is ∙ ap (λ (o : Option Balance). unwrap_or o no_balance) none in
      fresh (is_same (account_of_key k) account) (is_family_year (account_of_key k) account) before more (totals (map entry_of_key (e ∷ es)) account) zero
  placed e es Equal at sorted is more_of account =
      let same : account_of_key k ≡ account_of_key e.0 = equal_accounts (account_of_key k) (account_of_key e.0) at in
      let own = is_same (account_of_key e.0) account in
      let shared = is_family_year (account_of_key e.0) account in
      let acc = totals (map entry_of_key es) account in
      ap (λ (b : Balance). adds own shared (added b more) acc) is ∙ held own shared e.1 more acc
      ∙ ap (λ (a : Account). plus (adds own shared e.1 acc) (adds (is_same a account) (is_family_year a account) more nothing_yet)) (sym same)
  placed e es Greater at sorted is more_of account =
      let own = is_same (account_of_key e.0) account in
      let shared = is_family_year (account_of_key e.0) account in
      ap (adds own shared e.1) (more_of is account)
      ∙ adds_within own shared e.1 (totals (map entry_of_key es) account) (totals one account)

  pub posted : (es : List (AccountKey × Balance)) → IsStrictlySortedBy key_cmp (keys_of es) → before ≡ unwrap_or (lookup (is_at (key_cmp k)) es) no_balance
      → Posts one (map entry_of_key es) (map entry_of_key (insert_entry key_cmp es k (added before more)))
  posted [] sorted is account =
      fresh (is_same (account_of_key k) account) (is_family_year (account_of_key k) account) before more nothing_yet is
  posted (e ∷ es) sorted is account =
      placed e es (key_cmp k e.0) refl (sorted_head key_cmp e.0 (keys_of es) sorted) is (λ rest. posted es (sorted_tail key_cmp e.0 (keys_of es) sorted) rest) account
