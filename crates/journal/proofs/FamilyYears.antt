-- The last claims of accounts and of families after one more claim.
use Rattle.std.proofs.Common.{◌≡◌, ℕ, ◌==◌, Bool, true, false, cond, Option, Some, None, refl, sym, ap, ◌∙◌, inl, inr, eqb-true}
use Rattle.std.specs.Option.{option_or}
use Rattle.std.proofs.lemmas.Bool.{both_ways, cases_Bool, eq-eqb, false_from_ne_true}
use Rattle.journal.specs.LastByKey.{AreFoundAlike, IsAfter, AccumulatorKey, last_of_key, family_key, family_year_in, is_key, replaced}
use Rattle.journal.specs.declared.last_claim_index.LastClaimIndex.{LastClaimIndex}
use Rattle.journal.proofs.Keys.{one_key}

-- a member who is its own family has the key of the family and year
own_house : (key : AccumulatorKey) → key.family == key.member ≡ true → family_key key ≡ key
own_house key same = let e = eqb-true key.family key.member same in λ i. record { family = key.family; member = e i; year = key.year }

-- the key of any other member is not that of a family and year
no_house : (key q : AccumulatorKey) → key.family == key.member ≡ false → is_key key (family_key q) ≡ false
no_house key q other =
    false_from_ne_true (is_key key (family_key q)) (λ same.
    let one = one_key key (family_key q) same in
    let equal : key.family ≡ key.member = ap (λ (k : AccumulatorKey). k.family) one ∙ sym (ap (λ (k : AccumulatorKey). k.member) one) in
    both_ways (key.family == key.member) other (eq-eqb key.family key.member equal)
    )

-- the entry of the family and year is replaced if it has one
replaced_or : (b : Bool) (noted was own : Option ℕ) (position : ℕ)
    → option_or (cond b (replaced noted position) was) (cond b (Some position) own) ≡ cond b (Some position) (option_or was own)
replaced_or true None was own position = refl
replaced_or true (Some x) was own position = refl
replaced_or false noted was own position = refl

noted_or : (b : Bool) (was own : Option ℕ) (position : ℕ) → option_or (cond b (Some position) was) own ≡ cond b (Some position) (option_or was own)
noted_or true was own position = refl
noted_or false was own position = refl

module _ (old new : LastClaimIndex) (key : AccumulatorKey) (position : ℕ) (reported : (q : AccumulatorKey) → last_of_key new.accounts q ≡ cond (is_key key q) (Some position) (last_of_key old.accounts q)) where
  -- the last positions of families after a claim of a member who is its own family
  pub family_reported : key.family == key.member ≡ true
      → ((q : AccumulatorKey) → last_of_key new.family_years q ≡ cond (is_key key q) (replaced (last_of_key old.family_years key) position) (last_of_key old.family_years q))
      → (q : AccumulatorKey) → family_year_in new (family_key q) ≡ cond (is_key (family_key key) (family_key q)) (Some position) (family_year_in old (family_key q))
  family_reported same reports q =
      let r = family_key q in
      (λ i. option_or (reports r i) (reported r i)) ∙ replaced_or (is_key key r) (last_of_key old.family_years key) (last_of_key old.family_years r) (last_of_key old.accounts r) position
      ∙ ap (λ k. cond (is_key k r) (Some position) (family_year_in old r)) (sym (own_house key same))

  -- the last positions of families after a claim of any other member
  pub member_reported : key.family == key.member ≡ false
      → ((q : AccumulatorKey) → last_of_key new.family_years q ≡ cond (is_key (family_key key) q) (Some position) (last_of_key old.family_years q))
      → (q : AccumulatorKey) → family_year_in new (family_key q) ≡ cond (is_key (family_key key) (family_key q)) (Some position) (family_year_in old (family_key q))
  member_reported other reports q =
      let r = family_key q in
      let here = reported r ∙ ap (λ b. cond b (Some position) (last_of_key old.accounts r)) (no_house key q other) in
      (λ i. option_or (reports r i) (here i)) ∙ noted_or (is_key (family_key key) r) (last_of_key old.family_years r) (last_of_key old.accounts r) position

  -- the account whose member is the family itself is unchanged
  pub family_as_it_was : key.family == key.member ≡ false → last_of_key new.accounts (family_key key) ≡ last_of_key old.accounts (family_key key)
  family_as_it_was other = reported (family_key key) ∙ ap (λ b. cond b (Some position) (last_of_key old.accounts (family_key key))) (no_house key key other)

-- the predecessors of a claim of a member who is its own family
pub after_family : (old : LastClaimIndex) (key : AccumulatorKey) (own noted family_year : Option ℕ) → key.family == key.member ≡ true → own ≡ last_of_key old.accounts key
    → noted ≡ last_of_key old.family_years key → family_year ≡ option_or noted own → IsAfter old key (record { own = own; family_year = family_year })
after_family old key own noted family_year same one two is = record {
  own = one;
  family_year = is ∙ (λ i. option_or (two i) (one i)) ∙ ap (family_year_in old) (sym (own_house key same));
}

-- the index is unchanged after the previous position is restored
pub put_back : (was put again : AccumulatorKey → Option ℕ) (key : AccumulatorKey) (own : Option ℕ) (position : ℕ) → own ≡ was key
    → ((q : AccumulatorKey) → put q ≡ cond (is_key key q) (Some position) (was q)) → ((q : AccumulatorKey) → again q ≡ cond (is_key key q) own (put q)) → (q : AccumulatorKey) → again q ≡ was q
put_back was put again key own position is one two q = elim (cases_Bool (is_key key q)) [
  | inl here ↦ two q ∙ ap (λ b. cond b own (put q)) here ∙ is ∙ ap was (one_key key q here)
  | inr there ↦ two q ∙ ap (λ b. cond b own (put q)) there ∙ one q ∙ ap (λ b. cond b (Some position) (was q)) there
]

-- the last positions of families are equal if the entries are
pub found_alike : (old new : LastClaimIndex) → ((q : AccumulatorKey) → last_of_key new.accounts q ≡ last_of_key old.accounts q) → ((q : AccumulatorKey) → last_of_key new.family_years q ≡ last_of_key old.family_years q)
    → AreFoundAlike old new
found_alike old new accounts family_years = record { accounts = accounts; family_years = λ q i. option_or (family_years q i) (accounts q i) }
