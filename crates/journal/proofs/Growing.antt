-- Lists of names that grow.
use Rattle.std.proofs.Common.{◌≡◌, ℕ, zero, suc, List, [], ◌∷◌, ◌++◌, Some, Result, Ok, Err, OnOk, OnErr, sym, ap, ◌∙◌, append-nil, append_assoc}
use Rattle.std.specs.List.{slice_get}
use Rattle.std.proofs.lemmas.Option.{none-some}
use Rattle.settlement.specs.Accounts.{Account}
use Rattle.journal.specs.Names.{Grows}
use Rattle.journal.specs.FamilyQueues.{IsKeyOf}

-- an unchanged list of names
pub grows_same : (names : List (List ℕ)) → Grows names names
grows_same names = record { more = []; following = sym (append-nil names) }

pub grows_still : (old new : List (List ℕ)) → new ≡ old → Grows old new
grows_still old new same = record { more = []; following = same ∙ sym (append-nil old) }

-- a list with one more name, or an unchanged list
pub grows_added : {T E : Type 0} (old new : List (List ℕ)) (name : List ℕ) (r : Result T E) → OnOk r (new ≡ old ++ name ∷ []) → OnErr r (new ≡ old) → Grows old new
grows_added old new name (Ok x) added refused = record { more = name ∷ []; following = added }
grows_added old new name (Err e) added refused = grows_still old new refused

pub grows_on : (a b c : List (List ℕ)) → Grows a b → Grows b c → Grows a c
grows_on a b c one two = record {
  more = one.more ++ two.more;
  following = two.following ∙ ap (λ w. w ++ two.more) one.following ∙ append_assoc a one.more two.more;
}

-- a name has the same number after more names are added
get-before : {X : Type 0} (xs ys : List X) (k : ℕ) (x : X) → slice_get xs k ≡ Some x → slice_get (xs ++ ys) k ≡ Some x
get-before [] ys k x there = absurd (none-some x there)
get-before (y ∷ xs) ys zero x there = there
get-before (y ∷ xs) ys (suc k) x there = get-before xs ys k x there

pub number_stays : (old new : List (List ℕ)) (k : ℕ) (name : List ℕ) → Grows old new → slice_get old k ≡ Some name → slice_get new k ≡ Some name
number_stays old new k name grows there = ap (λ w. slice_get w k) grows.following ∙ get-before old grows.more k name there

-- the key of an account whose member is its own family, and of one whose member is not
pub key_alone : (names : List (List ℕ)) (lane year : ℕ) (account : Account) → slice_get names lane ≡ Some account.family → account.member ≡ account.family
    → year ≡ account.year → IsKeyOf names (record { family = lane; member = lane; year = year }) account
key_alone names lane year account there same dated = record { family = there; member = there ∙ ap Some (sym same); year = dated }

pub key_apart : (before names : List (List ℕ)) (lane number year : ℕ) (account : Account) → slice_get before lane ≡ Some account.family → Grows before names
    → slice_get names number ≡ Some account.member → year ≡ account.year → IsKeyOf names (record { family = lane; member = number; year = year }) account
key_apart before names lane number year account there grows other dated = record {
  family = number_stays before names lane account.family grows there;
  member = other;
  year = dated;
}
