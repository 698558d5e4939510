-- The last claim of an account takes the place of an earlier one of the same account.
use Rattle.std.proofs.Common.{◌≡◌, ◌<◌, ◌==◌, ◌&&◌, ℕ, suc, Bool, true, false, cond, List, [], ◌∷◌, ◌++◌, drop, take, fold, get_or, length, Some, refl, sym, ap, ◌∙◌, eqb-true}
use Rattle.std.specs.Str.{bytes_eq}
use Rattle.std.specs.List.{remove}
use Rattle.std.proofs.lemmas.Bool.{and_parts}
use Rattle.std.proofs.lemmas.List.Sums.{fold-append}
use Rattle.std.proofs.lemmas.Option.{slice_get_read}
use Rattle.std.proofs.lemmas.Slice.Eq.{bytes_eq-Decides}
use Rattle.settlement.specs.Accounts.{Account}
use Rattle.explanation.specs.Families.{Adds, IsOfAccountAt, begun_with, left_by, merged, present}
use Rattle.explanation.specs.declared.family.LastClaim.{LastClaim}
use Rattle.explanation.specs.declared.family.Standing.{Standing}
use Rattle.explanation.proofs.Rows.{split_at}

-- what a claim leaves does not depend on an amount that it replaces
replaced : {X : Type 0} (own other : Bool) (new left x y : X) → cond own new x ≡ cond own new y → cond own new (cond other left x) ≡ cond own new (cond other left y)
replaced true other new left x y e = refl
replaced false true new left x y e = refl
replaced false false new left x y e = e

replaced_twice : {X : Type 0} (own : Bool) (new left x : X) → cond own new (cond own left x) ≡ cond own new x
replaced_twice true new left x = refl
replaced_twice false new left x = refl

module _ (own shared : Bool) (new : LastClaim) where
  -- two accounts that the claim leaves alike are left alike after another claim before it
  merged_alike : (other family : Bool) (left : LastClaim) (x y : Standing) → merged own shared new x ≡ merged own shared new y
      → merged own shared new (merged other family left x) ≡ merged own shared new (merged other family left y)
  merged_alike other family left x y e =
      let met = replaced own other new.acc.met left.acc.met x.acc.met y.acc.met (ap (λ (s : Standing). s.acc.met) e) in
      let oop = replaced own other new.acc.oop left.acc.oop x.acc.oop y.acc.oop (ap (λ (s : Standing). s.acc.oop) e) in
      let paid = replaced own other new.acc.paid left.acc.paid x.acc.paid y.acc.paid (ap (λ (s : Standing). s.acc.paid) e) in
      let fmet = replaced shared family new.acc.fmet left.acc.fmet x.acc.fmet y.acc.fmet (ap (λ (s : Standing). s.acc.fmet) e) in
      let foop = replaced shared family new.acc.foop left.acc.foop x.acc.foop y.acc.foop (ap (λ (s : Standing). s.acc.foop) e) in
      let last = replaced own other (Some new.place) (Some left.place) x.last y.last (ap (λ (s : Standing). s.last) e) in
      λ i. record { acc = record { met = met i; oop = oop i; paid = paid i; fmet = fmet i; foop = foop i }; last = last i }

  merged_twice : (left : LastClaim) (x : Standing) → merged own shared new (merged own shared left x) ≡ merged own shared new x
  merged_twice left x =
      let met = replaced_twice own new.acc.met left.acc.met x.acc.met in
      let oop = replaced_twice own new.acc.oop left.acc.oop x.acc.oop in
      let paid = replaced_twice own new.acc.paid left.acc.paid x.acc.paid in
      let fmet = replaced_twice shared new.acc.fmet left.acc.fmet x.acc.fmet in
      let foop = replaced_twice shared new.acc.foop left.acc.foop x.acc.foop in
      let last = replaced_twice own (Some new.place) (Some left.place) x.last in
      λ i. record { acc = record { met = met i; oop = oop i; paid = paid i; fmet = fmet i; foop = foop i }; last = last i }

module _ (a : Account) (new : LastClaim) where
  left_alike : (lasts : List LastClaim) (x y : Standing) → left_by a x new ≡ left_by a y new → left_by a (fold (left_by a) x lasts) new ≡ left_by a (fold (left_by a) y lasts) new
  left_alike [] x y e = e
  left_alike (left ∷ lasts) x y e =
      left_alike lasts (left_by a x left) (left_by a y left)
      (merged_alike ((new.year == a.year) && bytes_eq new.member a.member) (new.year == a.year) new ((left.year == a.year) && bytes_eq left.member a.member) (left.year == a.year) left x y e)

  left_twice : (old : LastClaim) (x : Standing) → old.year ≡ new.year → old.member ≡ new.member → left_by a (left_by a x old) new ≡ left_by a x new
  left_twice old x year member =
      (λ i. left_by a (merged ((year i == a.year) && bytes_eq (member i) a.member) (year i == a.year) old x) new)
      ∙ merged_twice ((new.year == a.year) && bytes_eq new.member a.member) (new.year == a.year) new old x

-- after a claim whose account had an earlier one
pub adds_again : (lasts without news : List LastClaim) (index : ℕ) (new : LastClaim) → IsOfAccountAt lasts index new → without ≡ remove lasts index → news ≡ without ++ new ∷ []
    → Adds lasts news new
adds_again lasts without news index new is removed pushed a begun =
    let old = is.found in
    let front = fold (left_by a) (begun_with begun) (take index lasts) in
    ap (present a begun) (pushed ∙ ap (λ (ls : List LastClaim). ls ++ new ∷ []) removed)
    ∙ fold-append (left_by a) (begun_with begun) (take index lasts ++ drop (suc index) lasts) (new ∷ [])
    ∙ ap (λ s. left_by a s new) (fold-append (left_by a) (begun_with begun) (take index lasts) (drop (suc index) lasts))
    ∙ sym (left_alike a new (drop (suc index) lasts) (left_by a front old) front (left_twice a new old front is.year is.member))
    ∙ ap (λ s. left_by a s new)
    (sym (fold-append (left_by a) (begun_with begun) (take index lasts) (old ∷ drop (suc index) lasts)) ∙ ap (present a begun) (sym (split_at lasts index old is.there)))

-- after the first claim of its account
pub adds_first : (lasts news : List LastClaim) (new : LastClaim) → news ≡ lasts ++ new ∷ [] → Adds lasts news new
adds_first lasts news new pushed a begun = ap (present a begun) pushed ∙ fold-append (left_by a) (begun_with begun) lasts (new ∷ [])

-- the claim at an index is one of the same account
pub found_account : (lasts : List LastClaim) (n index : ℕ) (found last : LastClaim) → n ≡ length lasts → index < n → found ≡ get_or lasts index found
    → ((found.year == last.year) && bytes_eq found.member last.member) ≡ true → IsOfAccountAt lasts index last
found_account lasts n index found last size below is same =
    let both = and_parts (found.year == last.year) (bytes_eq found.member last.member) same in
    record {
      found = found;
      there = slice_get_read lasts n index found size below is;
      year = eqb-true found.year last.year both.0;
      member = (bytes_eq-Decides found.member last.member).0 both.1;
    }
