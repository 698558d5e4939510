-- The facts of all claims of a family, claim by claim.
use Rattle.std.proofs.Common.{inl, inr, ◌≡◌, ◌≢◌, ◌+◌, ◌<◌, ◌≤◌, ◌==◌, ℕ, zero, suc, Bool, true, false, List, [], ◌∷◌, ◌++◌, flat_map, take, length, get_or, slice_get, Some, None, refl, sym, ap, subst, ◌∙◌, arith, append-nil, append_assoc, eqb-true, length-append}
use Rattle.std.specs.List.{AllZip}
use Rattle.std.specs.Str.{bytes_eq}
use Rattle.std.proofs.lemmas.Bool.{cases_Bool, cases_lt, cond-false, cond-true}
use Rattle.std.proofs.lemmas.List.{take_all}
use Rattle.std.proofs.lemmas.List.Concat.{flat_map-append}
use Rattle.std.proofs.lemmas.Option.{get_or_from_slice_get, none-some, same_Some, slice_get-get_or, slice_get_within}
use Rattle.std.proofs.lemmas.Slice.Eq.{bytes_eq-Decides}
use Rattle.settlement.specs.Accounts.{family_of}
use Rattle.settlement.specs.declared.claim.Claim.{Claim}
use Rattle.journal.specs.Events.{Filed, accepts, claim_filed}
use Rattle.journal.specs.InOrder.{AreFirstInOrder, filed_count, place_of}
use Rattle.journal.specs.Terms.{Terms, claims_of}
use Rattle.journal.specs.declared.event.Event.{Event}
use Rattle.journal.specs.declared.order.Order.{Order}
use Rattle.journal.proofs.Counts.{claims_known}
use Rattle.journal.proofs.InOrder.{places_counted}
use Rattle.claim_gate.specs.Replies.{HasClaims, IsFiled}
use Rattle.claim_gate.specs.Terms.{ForTerms, IsTermsOf, TermsParts}
use Rattle.claim_gate.specs.declared.offer.Offer.{Offer}
use Rattle.ordered_claims.specs.OrderedParts.{GivesNext, OrderedParts, given_of}
use Rattle.explanation.specs.Cases.{IsCase, IsNumberOf}
use Rattle.explanation.specs.Explanation.{facts_of_case}
use Rattle.explanation.specs.Facts.{FactParts, fact_text, facts_text, head_text}
use Rattle.explanation.specs.FamilyExplanation.{AreFamilyFacts, IsFactsOfRecord, IsFamilyTextOver, IsShare, IsShareOf}
use Rattle.explanation.specs.Walking.{AreSettled, filed_in}
use Rattle.explanation.specs.declared.family.LastClaim.{LastClaim}
use Rattle.explanation.specs.declared.format.Format.{Format}
use Rattle.explanation.specs.declared.search.Case.{Case}
use Rattle.explanation.specs.declared.search.Case.TheVariants.{Accepted, Late}
use Rattle.explanation.proofs.Rows.{zip_at, zip_long}
use Rattle.explanation.proofs.Settling.{GoesOn, Starts, accepts_more}

-- all shares, one after another
abbrev pub joined : List (List FactParts) → List FactParts
joined shares = flat_map (λ share. share) shares

-- the claims so far are explained in the text, those of the family
pub record AreExplained (parts : TermsParts) (family : List ℕ) (format : Format) (given : OrderedParts) (position : ℕ) (lasts : List LastClaim) (text : List ℕ) (found : Bool) : Type 0 where
  pub settled : AreSettled parts family given position lasts
  pub shares : List (List FactParts)
  pub each : ForTerms parts (λ T. AllZip (IsShare parts T family) (accepts settled.journal) shares)
  pub text_is : text ≡ facts_text format (joined shares)
  pub none : found ≡ false → joined shares ≡ []
  pub some : found ≡ true → joined shares ≢ []

pub explained_first : (parts : TermsParts) (family : List ℕ) (format : Format) (given : OrderedParts) (position : ℕ) (lasts : List LastClaim) → Starts parts family given position lasts
    → (text : List ℕ) → text ≡ head_text format → AreExplained parts family format given position lasts text false
explained_first parts family format given position lasts starts text head = record {
  settled = starts.settled;
  shares = [];
  each = λ T is. subst (λ (J : List Event). AllZip (IsShare parts T family) (accepts J) []) (sym starts.none) tt;
  text_is = head ∙ sym (append-nil (head_text format));
  none = λ is. refl;
  some = λ is. absurd (cc is);
}

push_share : {A B : Type 0} (R : A → B → Type 0) (xs : List A) (ys : List B) (x : A) (y : B) → AllZip R xs ys → R x y → AllZip R (xs ++ x ∷ []) (ys ++ y ∷ [])
push_share R [] [] x y all last = (last, tt)
push_share R [] (b ∷ ys) x y all last = absurd all
push_share R (a ∷ xs) [] x y all last = absurd all
push_share R (a ∷ xs) (b ∷ ys) x y all last = (all.0, push_share R xs ys x y all.1 last)

joined_more : (shares : List (List FactParts)) (share : List FactParts) → joined (shares ++ share ∷ []) ≡ joined shares ++ share
joined_more shares share = flat_map-append (λ (s : List FactParts). s) shares (share ∷ []) ∙ ap (λ fs. joined shares ++ fs) (append-nil share)

not_nil : {A : Type 0} (xs : List A) (y : A) (ys : List A) → xs ++ y ∷ ys ≢ []
not_nil [] y ys e = cc e
not_nil (x ∷ xs) y ys e = cc e

-- a claim has facts
case_some : (parts : TermsParts) (provider number : ℕ) (claim : Claim) (case : Case) (facts : List FactParts) → facts ++ facts_of_case parts provider number claim case ≢ []
case_some parts provider number claim (Accepted position before) facts = not_nil facts _ _
case_some parts provider number claim (Late cutoff) facts = not_nil facts _ _

module _ (parts : TermsParts) (family : List ℕ) (format : Format) (given : OrderedParts) (position : ℕ) (lasts : List LastClaim) (text : List ℕ) (found : Bool) (e : AreExplained parts family format given position lasts text found)
    (new : OrderedParts) (offer : Offer) (after : List LastClaim) (goes : GoesOn parts family e.settled.journal offer new (position + 1) after) (located : ForTerms parts (λ T. IsFiled T offer)) where
  each_more : (share : List FactParts) → ForTerms parts (λ T. IsShareOf parts T (filed_in offer) offer.claim share (bytes_eq (family_of offer.claim) family))
      → ForTerms parts (λ T. AllZip (IsShare parts T family) (accepts goes.settled.journal) (e.shares ++ share ∷ []))
  each_more share is_share T is =
      let accepted = ap accepts goes.journal_is ∙ accepts_more e.settled.journal offer.provider offer.place in
      let last : IsShare parts T family (filed_in offer) share = λ claim at.
      let same = same_Some offer.claim claim (sym (located T is) ∙ at) in
      subst (λ (c : Claim). IsShareOf parts T (filed_in offer) c share (bytes_eq (family_of c) family)) same (is_share T is) in
      subst (λ cs. AllZip (IsShare parts T family) cs (e.shares ++ share ∷ [])) (sym accepted)
      (push_share (IsShare parts T family) (accepts e.settled.journal) e.shares (filed_in offer) share (e.each T is) last)

  -- a claim of another family
  pub explained_other : bytes_eq (family_of offer.claim) family ≡ false → AreExplained parts family format new (position + 1) after text found
  explained_other other =
      let same = joined_more e.shares [] ∙ append-nil (joined e.shares) in
      record {
        settled = goes.settled;
        shares = e.shares ++ [] ∷ [];
        each = each_more [] (λ T is. subst (IsShareOf parts T (filed_in offer) offer.claim []) (sym other) refl);
        text_is = e.text_is ∙ ap (facts_text format) (sym same);
        none = λ is. same ∙ e.none is;
        some = λ is empty. e.some is (sym same ∙ empty);
      }

  -- a claim of the family
  pub explained_own : bytes_eq (family_of offer.claim) family ≡ true → (number : ℕ) (case : Case) → ForTerms parts (λ T. IsNumberOf parts T (filed_in offer) number)
      → ForTerms parts (λ T. IsCase parts T (filed_in offer) offer.claim case) → (more : List ℕ)
      → more ≡ text ++ flat_map (fact_text format) (facts_of_case parts offer.provider number offer.claim case) → AreExplained parts family format new (position + 1) after more true
  explained_own own number case numbered is_case more appended =
      let share = facts_of_case parts offer.provider number offer.claim case in
      record {
        settled = goes.settled;
        shares = e.shares ++ share ∷ [];
        each = each_more share (λ T is. subst (IsShareOf parts T (filed_in offer) offer.claim share) (sym own) (record {
          number = number;
          number_is = numbered T is;
          facts_are = record { case = case; is_case = is_case T is; facts_are = refl };
        }));
        text_is =
            appended ∙ ap (λ t. t ++ flat_map (fact_text format) share) e.text_is
            ∙ append_assoc (head_text format) (flat_map (fact_text format) (joined e.shares)) (flat_map (fact_text format) share)
            ∙ ap (λ t. head_text format ++ t) (sym (flat_map-append (fact_text format) (joined e.shares) share))
            ∙ ap (facts_text format) (sym (joined_more e.shares share));
        none = λ is. absurd (cc is);
        some = λ is empty. case_some parts offer.provider number offer.claim case (joined e.shares) (sym (joined_more e.shares share) ∙ empty);
      }

-- a claim that comes before as many claims of its provider as the list has is in the list
record Found (claims : List Filed) (filed : Filed) : Type 0 where
  index : ℕ
  at : slice_get claims index ≡ Some filed

find_filed : (order : Order) (files : List (List Claim)) (claims : List Filed) → AreFirstInOrder order files claims → (filed : Filed) (m : ℕ)
    → filed.place < filed_count filed.provider (take m claims) → Found claims filed
find_filed order files claims first filed zero below = absurd (omega (arith, below))
find_filed order files claims first filed (suc m) below = elim (cases_lt filed.place (filed_count filed.provider (take m claims))) [
  | inl before ↦ find_filed order files claims first filed m before
  | inr not_before ↦ elim (cases_lt m (length claims)) [
    | inl within ↦
        let d : Filed = record { provider = 0; place = 0 } in
        let here = get_or claims m d in
        let at : slice_get claims m ≡ Some here = slice_get-get_or claims m d within in
        let place : here.place ≡ filed_count here.provider (take m claims) = ap (λ (f : Filed). f.place) (first m here at).follows in
        let counts = last_counts claims m here at filed.provider in
        elim (cases_Bool (here.provider == filed.provider)) [
          | inl same ↦
              let provider = eqb-true here.provider filed.provider same in
              let own = ap (λ p. filed_count p (take m claims)) provider in
              let one = ap length (cond-true (here.provider == filed.provider) (here.place ∷ []) [] same) in
              let places : here.place ≡ filed.place = omega (arith, place, counts, own, one, below, not_before) in
              record { index = m; at = at ∙ (λ i. Some (record { provider = provider i; place = places i })) }
          | inr apart ↦
              let none = ap length (cond-false (here.provider == filed.provider) (here.place ∷ []) [] apart) in
              absurd (omega (arith, counts, none, below, not_before))
        ]
    | inr past ↦
        let same : take (suc m) claims ≡ take m claims = take_all (suc m) claims (omega (arith, past)) ∙ sym (take_all m claims past) in
        let counts = ap (filed_count filed.provider) same in
        absurd (omega (arith, counts, below, not_before))
  ]
]
  where
    last_counts : (claims : List Filed) (m : ℕ) (here : Filed) → slice_get claims m ≡ Some here → (provider : ℕ)
        → filed_count provider (take (suc m) claims) ≡ filed_count provider (take m claims) + length (place_of provider here)
    last_counts [] m here at provider = absurd (none-some here at)
    last_counts (x ∷ claims) zero here at provider =
        let same : x ≡ here = same_Some x here at in
        let e = length-append (place_of provider x) [] in
        let p = ap (λ (f : Filed). length (place_of provider f)) same in
        omega (arith, e, p)
    last_counts (x ∷ claims) (suc m) here at provider =
        let rest = last_counts claims m here at provider in
        let more = length-append (place_of provider x) (flat_map (place_of provider) (take (suc m) claims)) in
        let less = length-append (place_of provider x) (flat_map (place_of provider) (take m claims)) in
        omega (arith, rest, more, less)

none_joined : (shares : List (List FactParts)) (n : ℕ) → joined shares ≡ [] → get_or shares n [] ≡ []
none_joined [] n none = refl
none_joined ([] ∷ shares) zero none = refl
none_joined ((x ∷ share) ∷ shares) zero none = absurd (cc none)
none_joined ([] ∷ shares) (suc n) none = none_joined shares n none
none_joined ((x ∷ share) ∷ shares) (suc n) none = absurd (cc none)

-- facts of no claim
no_facts : (parts : TermsParts) (T : Terms) (filed : Filed) (claim : Claim) → ¬ IsFactsOfRecord parts T filed claim []
no_facts parts T filed claim is = by_case is.facts_are.case is.facts_are.facts_are
  where
    by_case : (case : Case) → [] ≡ facts_of_case parts filed.provider is.number claim case → ⊥
    by_case case e = case_some parts filed.provider is.number claim case [] (sym e)

-- without facts there is no claim of the family
none_of_family : (parts : TermsParts) (T : Terms) (family : List ℕ) → IsTermsOf parts T → AreFamilyFacts parts T family [] → (filed : Filed) (claim : Claim) → claim_filed T filed ≡ Some claim → family_of claim ≢ family
none_of_family parts T family is facts filed claim located same =
    let there = slice_get_within (claims_of T filed.provider) filed.place claim located in
    let range = claims_known T.files filed.provider (omega (arith, there)) in
    let long = zip_long _ parts.files T.files is.files in
    let whole = facts.whole filed.provider range.0 (let most = range.1 in omega (arith, most, long)) in
    let all = ap (filed_count filed.provider) (take_all (length facts.claims) facts.claims (omega arith)) in
    let found = find_filed parts.order T.files facts.claims facts.in_order filed (length facts.claims) (omega (arith, there, whole, all)) in
    let within = slice_get_within facts.claims found.index filed found.at in
    let share = zip_at (IsShare parts T family) facts.claims facts.shares found.index filed [] facts.each within in
    let here : get_or facts.claims found.index filed ≡ filed = get_or_from_slice_get facts.claims found.index filed filed found.at in
    let none : get_or facts.shares found.index [] ≡ [] = none_joined facts.shares found.index (sym facts.facts_are) in
    let own = (bytes_eq-Decides (family_of claim) family).1 same in
    let mine : IsShare parts T family filed [] = subst (λ s. IsShare parts T family filed s) none (subst (λ (f : Filed). IsShare parts T family f (get_or facts.shares found.index [])) here share) in
    no_facts parts T filed claim (subst (IsShareOf parts T filed claim []) own (mine claim located))

module _ (parts : TermsParts) (family : List ℕ) (format : Format) (given new : OrderedParts) (position : ℕ) (lasts : List LastClaim) (text : List ℕ) (found : Bool) (e : AreExplained parts family format given position lasts text found)
    (over : GivesNext given new None) where
  all_facts : ForTerms parts (λ T. AreFamilyFacts parts T family (joined e.shares))
  all_facts T is = record {
    claims = accepts e.settled.journal;
    in_order = e.settled.in_order T is;
    whole = λ provider least most.
        let bound : provider ≤ length given.terms.files = subst (λ (terms : TermsParts). provider ≤ length terms.files) (sym e.settled.terms) most in
        let all = subst (λ (terms : TermsParts). ForTerms terms (λ T. HasClaims T provider (given_of given provider))) e.settled.terms (over.2 provider least bound) in
        ap length (sym (places_counted e.settled.journal provider)) ∙ e.settled.as_many provider ∙ (all T is).count_is;
    shares = e.shares;
    each = e.each T is;
    facts_are = refl;
  }

  pub text_whole : found ≡ true → IsFamilyTextOver parts family format (Some text)
  text_whole is = record { facts = joined e.shares; facts_are = all_facts; some = e.some is; text_is = e.text_is }

  pub text_none : found ≡ false → IsFamilyTextOver parts family format None
  text_none is T terms = none_of_family parts T family terms (subst (AreFamilyFacts parts T family) (e.none is) (all_facts T terms))
