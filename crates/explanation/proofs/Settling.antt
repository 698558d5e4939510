-- The walk through the claims of all files in the order of acceptance.
use Rattle.std.proofs.Common.{inl, inr, ◌≡◌, ◌≢◌, ◌⊎◌, ℕ, zero, suc, ◌+◌, ◌<◌, ◌≤◌, ◌==◌, ◌||◌, ◌&&◌, Bool, true, false, cond, List, [], ◌∷◌, ◌++◌, flat_map, take, length, slice_get, Option, Some, None, refl, sym, ap, ap₂, subst, ◌∙◌, arith, length-append, eqb-true}
use Rattle.std.specs.Str.{bytes_eq}
use Rattle.std.proofs.lemmas.Bool.{and_parts, both_ways, cases_Bool, cases_lt, eq-eqb}
use Rattle.std.proofs.lemmas.List.{length-take-le, length_push}
use Rattle.std.proofs.lemmas.List.Concat.{flat_map-append}
use Rattle.std.proofs.lemmas.List.Folds.{list_any-append}
use Rattle.std.proofs.lemmas.Option.{same_Some, slice_get_within}
use Rattle.std.proofs.lemmas.Slice.Eq.{bytes_eq-Decides}
use Rattle.tables.specs.Plan.{PlanParts}
use Rattle.settlement.specs.Accounts.{Account, account_of, family_of}
use Rattle.settlement.specs.Opening.{opening}
use Rattle.settlement.specs.declared.claim.Claim.{Claim}
use Rattle.journal.specs.Events.{Book, Filed, accept_in, accepts, claim_filed, closed, is_close, place_in, places}
use Rattle.journal.specs.InOrder.{AreFirstInOrder, DueClaimStaysInOrder, IsDue, IsNextInOrder, filed_count, place_of}
use Rattle.journal.specs.Lawful.{IsNextClaim}
use Rattle.journal.specs.Terms.{Terms, at_most, claims_of}
use Rattle.journal.specs.declared.event.Event.{Event}
use Rattle.journal.specs.declared.event.Event.TheVariants.{Accept}
use Rattle.journal.specs.declared.order.Order.{Order}
use Rattle.journal.specs.declared.order.Order.TheVariants.{Any}
use Rattle.journal.proofs.InOrder.{places_counted}
use Rattle.claim_gate.specs.Replies.{HasClaims, IsFiled}
use Rattle.claim_gate.specs.Terms.{ForTerms, IsTermsOf, TermsParts}
use Rattle.claim_gate.specs.declared.offer.Offer.{Offer}
use Rattle.ordered_claims.specs.OrderedParts.{BeginsUnder, GivesNext, HasAcceptedGiven, IsNextOffer, OrderedParts, given_of}
use Rattle.explanation.specs.Cases.{IsCase, IsNumberOf, IsWithin, filed_of}
use Rattle.explanation.specs.Families.{AreLeft, IsStanding, begun_with, left_after, left_by, opened, present, present_for}
use Rattle.explanation.specs.Walking.{AreSettled, IsSettledAs, filed_in}
use Rattle.explanation.specs.declared.family.LastClaim.{LastClaim}
use Rattle.explanation.specs.declared.row.Place.{Place}
use Rattle.explanation.specs.declared.search.Case.{Case}
use Rattle.explanation.specs.declared.search.Case.TheVariants.{Accepted, Late}
use Rattle.explanation.specs.declared.search.Wanted.{Wanted}
use Rattle.explanation.proofs.Leaving.{IsAfterAll, from_all, none_left, not_counted, other_after, own_after, to_all}

pub accepts_more : (J : List Event) (provider place : ℕ) → accepts (J ++ Accept provider place ∷ []) ≡ accepts J ++ record { provider = provider; place = place } ∷ []
accepts_more J provider place = flat_map-append accept_in J (Accept provider place ∷ [])

-- the walk goes on after an offer
pub record GoesOn (parts : TermsParts) (family : List ℕ) (journal : List Event) (offer : Offer) (new : OrderedParts) (position : ℕ) (after : List LastClaim) : Type 0 where
  pub settled : AreSettled parts family new position after
  pub journal_is : settled.journal ≡ journal ++ Accept offer.provider offer.place ∷ []

-- before the first claim
pub record Starts (parts : TermsParts) (family : List ℕ) (given : OrderedParts) (position : ℕ) (lasts : List LastClaim) : Type 0 where
  pub settled : AreSettled parts family given position lasts
  pub none : settled.journal ≡ []

pub settled_first : (parts : TermsParts) (family : List ℕ) (given : OrderedParts) (position : ℕ) (lasts : List LastClaim) → BeginsUnder parts given → position ≡ 0 → lasts ≡ [] → Starts parts family given position lasts
settled_first parts family given position lasts begins first empty =
    subst (λ n. Starts parts family given n lasts) (sym first) (subst (Starts parts family given 0) (sym empty) (record {
      settled = record {
        terms = begins.terms_are;
        journal = [];
        open_yet = refl;
        as_many = λ provider. sym (begins.none provider);
        counted = refl;
        in_order = λ T is n filed at. absurd (cc at);
        left = λ T is account own. from_all parts T [] (at_most parts.cutoff 0) account (begun_with (opening T.balances account)) (omega arith) (none_left parts T account);
      };
      none = refl;
    }))

counts_one : (b : Bool) (place : ℕ) → length (cond b (place ∷ []) [] ++ []) ≡ cond b 1 0
counts_one true place = refl
counts_one false place = refl

places_more : (J : List Event) (provider place other : ℕ) → length (places (J ++ Accept provider place ∷ []) other) ≡ length (places J other) + cond (provider == other) 1 0
places_more J provider place other =
    ap length (flat_map-append (place_in other) J (Accept provider place ∷ []))
    ∙ length-append (places J other) (cond (provider == other) (place ∷ []) [] ++ [])
    ∙ ap (λ n. length (places J other) + n) (counts_one (provider == other) place)

stays_open : (J : List Event) (provider place : ℕ) → closed J ≡ false → closed (J ++ Accept provider place ∷ []) ≡ false
stays_open J provider place open_yet = list_any-append is_close J (Accept provider place ∷ []) ∙ ap (λ b. b || (false || false)) open_yet

-- the number of claims that the cutoff admits among the first ones
within_count : (cutoff : Option ℕ) (n : ℕ) → IsWithin cutoff n → (at_most cutoff n ≡ n) × (at_most cutoff (n + 1) ≡ n + 1)
within_count None n within = (refl, refl)
within_count (Some cutoff) n within = let below = within cutoff refl in (omega (arith, below), omega (arith, below))

beyond_count : (cutoff n : ℕ) → cutoff ≤ n → (at_most (Some cutoff) n ≡ cutoff) × (at_most (Some cutoff) (n + 1) ≡ cutoff)
beyond_count cutoff n beyond = (omega (arith, beyond), omega (arith, beyond))

counted_most : (cutoff : Option ℕ) (n : ℕ) → at_most cutoff n ≤ n
counted_most None n = omega arith
counted_most (Some cutoff) n = omega arith

-- the next claim is admitted by the cutoff, or the number of those that are counted stays
admitted_or_not : (cutoff : Option ℕ) (n : ℕ) → IsWithin cutoff n ⊎ (at_most cutoff (n + 1) ≡ at_most cutoff n)
admitted_or_not None n = inl (λ count is. absurd (cc is))
admitted_or_not (Some cutoff) n = elim (cases_lt n cutoff) [
  | inl below ↦ inl (λ count is. let same = same_Some cutoff count is in omega (arith, below, same))
  | inr beyond ↦ inr (omega (arith, beyond))
]

-- the first claims of a list of first claims
front_in_order : (order : Order) (files : List (List Claim)) (n : ℕ) (claims : List Filed) → AreFirstInOrder order files claims → AreFirstInOrder order files (take n claims)
front_in_order order files n claims first k filed at =
    let within = slice_get_within (take n claims) k filed at in
    let there = slice_get_front claims n k filed at in
    subst (λ earlier. IsNextInOrder order files earlier filed) (sym (take_front claims n k (front_within claims n k within))) (first k filed there)
  where
    slice_get_front : (xs : List Filed) (n k : ℕ) (x : Filed) → slice_get (take n xs) k ≡ Some x → slice_get xs k ≡ Some x
    slice_get_front [] zero k x at = at
    slice_get_front [] (suc n) k x at = at
    slice_get_front (y ∷ xs) zero k x at = absurd (cc at)
    slice_get_front (y ∷ xs) (suc n) zero x at = at
    slice_get_front (y ∷ xs) (suc n) (suc k) x at = slice_get_front xs n k x at

    front_within : (xs : List Filed) (n k : ℕ) → k < length (take n xs) → k < n
    front_within [] zero k less = absurd (omega (arith, less))
    front_within [] (suc n) k less = absurd (omega (arith, less))
    front_within (y ∷ xs) zero k less = absurd (omega (arith, less))
    front_within (y ∷ xs) (suc n) zero less = omega arith
    front_within (y ∷ xs) (suc n) (suc k) less = let rest = front_within xs n k (omega (arith, less)) in omega (arith, rest)

    take_front : (xs : List Filed) (n k : ℕ) → k < n → take k (take n xs) ≡ take k xs
    take_front xs zero k less = absurd (omega (arith, less))
    take_front xs (suc n) zero less = refl
    take_front [] (suc n) (suc k) less = refl
    take_front (y ∷ xs) (suc n) (suc k) less = ap (λ ys. y ∷ ys) (take_front xs n k (omega (arith, less)))

-- a list has at least as many claims of a provider as its first part
pub front_counts : (provider n : ℕ) (claims : List Filed) → filed_count provider (take n claims) ≤ filed_count provider claims
front_counts provider zero claims = omega arith
front_counts provider (suc n) [] = omega arith
front_counts provider (suc n) (filed ∷ claims) =
    let rest = front_counts provider n claims in
    let front : filed_count provider (filed ∷ take n claims) ≡ length (place_of provider filed) + filed_count provider (take n claims) = length-append (place_of provider filed) (flat_map (place_of provider) (take n claims)) in
    let whole : filed_count provider (filed ∷ claims) ≡ length (place_of provider filed) + filed_count provider claims = length-append (place_of provider filed) (flat_map (place_of provider) claims) in
    omega (arith, rest, front, whole)

-- the plan and the opening accumulators, as journals have them
same_opening : (parts : TermsParts) (T : Terms) → IsTermsOf parts T → opened parts ≡ opening T.balances
same_opening parts T is = λ i account. sym (is.openings account) i

module _ (parts : TermsParts) (family : List ℕ) (old : OrderedParts) (position : ℕ) (lasts : List LastClaim) (s : AreSettled parts family old position lasts) (asked : parts.order ≢ Any) (law : DueClaimStaysInOrder) where
  long : length (accepts s.journal) ≤ position
  long = let e = s.counted in omega (arith, e)

  module _ (new : OrderedParts) (offer : Offer) (next : IsNextOffer old new offer) where
    abbrev more : List Event
    more = s.journal ++ Accept offer.provider offer.place ∷ []

    located : ForTerms parts (λ T. IsFiled T offer)
    located = subst (λ (terms : TermsParts). ForTerms terms (λ T. IsFiled T offer)) s.terms next.filed

    accepted : HasAcceptedGiven old s.journal
    accepted provider = let e = s.as_many provider in omega (arith, e)

    due : ForTerms parts (λ T. IsDue parts.order T s.journal (filed_in offer))
    due = subst (λ (terms : TermsParts). ForTerms terms (λ T. IsDue terms.order T s.journal (filed_in offer))) s.terms (next.due s.journal accepted)

    next_claim : (T : Terms) → IsTermsOf parts T → IsNextClaim T s.journal offer.provider offer.place
    next_claim T is = record {
      open_yet = s.open_yet;
      place_is = next.place ∙ sym (s.as_many offer.provider);
      there = slice_get_within (claims_of T offer.provider) offer.place offer.claim (located T is);
    }

    more_in_order : ForTerms parts (λ T. AreFirstInOrder parts.order T.files (accepts more))
    more_in_order T is = law parts.order T s.journal (filed_in offer) asked (s.in_order T is) (due T is) (next_claim T is)

    -- after the next claim
    settled_next : (after : List LastClaim) → ForTerms parts (λ T. AreLeft parts T (accepts s.journal ++ filed_in offer ∷ []) (at_most parts.cutoff (position + 1)) family after)
        → GoesOn parts family s.journal offer new (position + 1) after
    settled_next after left = record {
      settled = record {
        terms = next.terms ∙ s.terms;
        journal = more;
        open_yet = stays_open s.journal offer.provider offer.place s.open_yet;
        as_many = λ provider.
            places_more s.journal offer.provider offer.place provider
            ∙ ap (λ n. n + cond (offer.provider == provider) 1 0) (s.as_many provider) ∙ sym (next.given provider);
        counted =
            ap length (accepts_more s.journal offer.provider offer.place) ∙ length_push (accepts s.journal) (filed_in offer)
            ∙ ap (λ n. n + 1) s.counted;
        in_order = more_in_order;
        left = λ T is. subst (λ cs. AreLeft parts T cs (at_most parts.cutoff (position + 1)) family after) (sym (accepts_more s.journal offer.provider offer.place)) (left T is);
      };
      journal_is = refl;
    }

    long_more : length (accepts s.journal ++ filed_in offer ∷ []) ≤ position + 1
    long_more = let e = length_push (accepts s.journal) (filed_in offer) in let n = s.counted in omega (arith, e, n)

    counted_stays : at_most parts.cutoff (position + 1) ≡ at_most parts.cutoff position → ForTerms parts (λ T. AreLeft parts T (accepts s.journal ++ filed_in offer ∷ []) (at_most parts.cutoff (position + 1)) family lasts)
    counted_stays same T is a of_family =
        let most = counted_most parts.cutoff position in
        let size = s.counted in
        subst (λ n. IsStanding parts T (accepts s.journal ++ filed_in offer ∷ []) n a (present a (opening T.balances a) lasts)) (sym same)
        (not_counted parts T (accepts s.journal) (at_most parts.cutoff position) a (present a (opening T.balances a) lasts) (filed_in offer) (omega (arith, most, size)) (s.left T is a of_family))

    -- the accounts of the family before the claim, if the cutoff admits it
    before_claim : IsWithin parts.cutoff position → (T : Terms) → IsTermsOf parts T → (a : Account) → a.family ≡ family → IsAfterAll parts T (accepts s.journal) a (present a (opening T.balances a) lasts)
    before_claim within T is a of_family =
        let count = within_count parts.cutoff position within in
        to_all parts T (accepts s.journal) position a (present a (opening T.balances a) lasts) long
        (subst (λ n. IsStanding parts T (accepts s.journal) n a (present a (opening T.balances a) lasts)) count.0 (s.left T is a of_family))

    -- after a claim of another family
    pub settled_other : bytes_eq (family_of offer.claim) family ≡ false → GoesOn parts family s.journal offer new (position + 1) lasts
    settled_other other = settled_next lasts (elim (admitted_or_not parts.cutoff position) [
      | inl within ↦ λ T is a of_family.
          let count = within_count parts.cutoff position within in
          subst (λ n. IsStanding parts T (accepts s.journal ++ filed_in offer ∷ []) n a (present a (opening T.balances a) lasts)) (sym count.1)
          (from_all parts T (accepts s.journal ++ filed_in offer ∷ []) (position + 1) a (present a (opening T.balances a) lasts) long_more
          (other_after parts T (accepts s.journal) (filed_in offer) offer.claim (located T is) a family of_family (present a (opening T.balances a) lasts) other (before_claim within T is a of_family)))
      | inr stays ↦ counted_stays stays
    ])

    module _ (number : ℕ) (own : bytes_eq (family_of offer.claim) family ≡ true) (numbered : ForTerms parts (λ T. IsNumberOf parts T (filed_in offer) number)) where
      abbrev place : Place
      place = record { provider = offer.provider; number = number }

      own_family : family_of offer.claim ≡ family
      own_family = (bytes_eq-Decides (family_of offer.claim) family).0 own

      -- the account of the claim before it
      own_before : IsWithin parts.cutoff position → (T : Terms) → IsTermsOf parts T → IsAfterAll parts T (accepts s.journal) (account_of T.plan offer.claim) (present_for T.plan (opening T.balances) lasts offer.claim)
      own_before within T is = before_claim within T is (account_of T.plan offer.claim) own_family

      same_left : (T : Terms) → IsTermsOf parts T → left_after parts.plan (opened parts) lasts place offer.claim ≡ left_after T.plan (opening T.balances) lasts place offer.claim
      same_left T is = ap₂ (λ (plan : PlanParts) (begun : Book). left_after plan begun lasts place offer.claim) (sym is.plan) (same_opening parts T is)

      same_present : (T : Terms) → IsTermsOf parts T → present_for parts.plan (opened parts) lasts offer.claim ≡ present_for T.plan (opening T.balances) lasts offer.claim
      same_present T is = ap₂ (λ (plan : PlanParts) (begun : Book). present_for plan begun lasts offer.claim) (sym is.plan) (same_opening parts T is)

      -- after a claim of the family
      pub settled_own : (after : List LastClaim) (case : Case) → IsSettledAs parts position place offer.claim lasts after case → GoesOn parts family s.journal offer new (position + 1) after
      settled_own after (Accepted at before) is_settled = settled_next after (λ T is a of_family.
          let within = is_settled.1 in
          let count = within_count parts.cutoff position within in
          let made = is_settled.3 a (opening T.balances a) ∙ ap (λ (l : LastClaim). left_by a (present a (opening T.balances a) lasts) l) (same_left T is) in
          let stands = own_after parts T (accepts s.journal) (filed_in offer) offer.claim (located T is) a family of_family own_family (opening T.balances) lasts place (present a (opening T.balances a) lasts)
          (own_before within T is).0 (refl, numbered T is) (before_claim within T is a of_family) in
          subst (λ n. IsStanding parts T (accepts s.journal ++ filed_in offer ∷ []) n a (present a (opening T.balances a) after)) (sym count.1)
          (from_all parts T (accepts s.journal ++ filed_in offer ∷ []) (position + 1) a (present a (opening T.balances a) after) long_more
          (subst (IsAfterAll parts T (accepts s.journal ++ filed_in offer ∷ []) a) (sym made) stands)))
      settled_own after (Late cutoff) is_settled =
          let beyond = beyond_count cutoff position is_settled.1 in
          let stays : at_most parts.cutoff (position + 1) ≡ at_most parts.cutoff position = ap (λ c. at_most c (position + 1)) is_settled.0 ∙ beyond.1 ∙ sym beyond.0 ∙ ap (λ c. at_most c position) (sym is_settled.0) in
          subst (GoesOn parts family s.journal offer new (position + 1)) (sym is_settled.2) (settled_next lasts (counted_stays stays))

      -- what is known of a claim of the family
      pub case_reached : (after : List LastClaim) (case : Case) → IsSettledAs parts position place offer.claim lasts after case → ForTerms parts (λ T. IsCase parts T (filed_in offer) offer.claim case)
      case_reached after (Accepted at before) is_settled T is =
          let within = is_settled.1 in
          let stands = subst (IsAfterAll parts T (accepts s.journal) (account_of T.plan offer.claim)) (sym (is_settled.2 ∙ same_present T is)) (own_before within T is) in
          let known = from_all parts T (accepts s.journal) at (account_of T.plan offer.claim) before (let e = is_settled.0 in let l = long in omega (arith, e, l)) stands in
          record {
            earlier = accepts s.journal;
            in_order = subst (AreFirstInOrder parts.order T.files) (accepts_more s.journal offer.provider offer.place) (more_in_order T is);
            counted = is_settled.0 ∙ sym s.counted;
            within = λ count cutoff. let below = within count (sym is.cutoff ∙ cutoff) in let e = is_settled.0 in omega (arith, below, e);
            acc = known.acc;
            last = stands.1;
          }
      case_reached after (Late cutoff) is_settled T is =
          let size : length (take cutoff (accepts s.journal)) ≡ cutoff = length-take-le cutoff (accepts s.journal) (let n = s.counted in let beyond = is_settled.1 in omega (arith, n, beyond)) in
          record {
            admitted = is.cutoff ∙ is_settled.0;
            claims = take cutoff (accepts s.journal);
            in_order = front_in_order parts.order T.files cutoff (accepts s.journal) (s.in_order T is);
            counted = sym size;
            missing =
                let front = front_counts offer.provider cutoff (accepts s.journal) in
                let places_are = ap length (places_counted s.journal offer.provider) in
                let given = s.as_many offer.provider in
                let at = next.place in
                omega (arith, front, places_are, given, at);
          }

  -- the claims do not end before the claim that is wanted
  pub not_over : (new : OrderedParts) (wanted : Wanted) → GivesNext old new None → 1 ≤ wanted.provider → wanted.provider ≤ length parts.files
      → ForTerms parts (λ T. claim_filed T (filed_of wanted) ≡ Some wanted.claim.now) → given_of old wanted.provider ≤ wanted.place → ¬ ForTerms parts (λ T. ⊥) → ⊥
  not_over new wanted gives least most there within readable =
      let bound : wanted.provider ≤ length old.terms.files = subst (λ (terms : TermsParts). wanted.provider ≤ length terms.files) (sym s.terms) most in
      let all = subst (λ (terms : TermsParts). ForTerms terms (λ T. HasClaims T wanted.provider (given_of old wanted.provider))) s.terms (gives.2 wanted.provider least bound) in
      readable (λ T is.
      let more = slice_get_within (claims_of T wanted.provider) wanted.place wanted.claim.now (there T is) in
      let count = (all T is).count_is in
      omega (arith, more, count, within))

-- the claim that is wanted is not given yet
pub not_given : (old new : OrderedParts) (offer : Offer) → IsNextOffer old new offer → (wanted : Wanted) → given_of old wanted.provider ≤ wanted.place
    → (offer.provider ≡ wanted.provider → offer.place ≢ wanted.place) → given_of new wanted.provider ≤ wanted.place
not_given old new offer next wanted within other = elim (cases_Bool (offer.provider == wanted.provider)) [
  | inl same ↦
      let provider = eqb-true offer.provider wanted.provider same in
      let given = next.given wanted.provider ∙ ap (λ b. given_of old wanted.provider + cond b 1 0) same in
      let place : offer.place ≡ given_of old wanted.provider = next.place ∙ ap (given_of old) provider in
      let differs : given_of old wanted.provider ≢ wanted.place = λ e. other provider (place ∙ e) in
      omega (arith, given, within, differs)
  | inr apart ↦
      let given = next.given wanted.provider ∙ ap (λ b. given_of old wanted.provider + cond b 1 0) apart in
      omega (arith, given, within)
]

-- the offer has the claim that is wanted
pub same_claim : (T : Terms) (offer : Offer) (wanted : Wanted) → offer.provider ≡ wanted.provider → offer.place ≡ wanted.place → IsFiled T offer
    → claim_filed T (filed_of wanted) ≡ Some wanted.claim.now → offer.claim ≡ wanted.claim.now
same_claim T offer wanted provider place located there =
    let same : filed_in offer ≡ filed_of wanted = λ i. record { provider = provider i; place = place i } in
    same_Some offer.claim wanted.claim.now (sym located ∙ ap (claim_filed T) same ∙ there)

-- a claim of another family is not the one that is wanted
pub not_wanted : (parts : TermsParts) (family : List ℕ) (offer : Offer) (wanted : Wanted) → ForTerms parts (λ T. IsFiled T offer) → ForTerms parts (λ T. claim_filed T (filed_of wanted) ≡ Some wanted.claim.now)
    → family_of wanted.claim.now ≡ family → bytes_eq (family_of offer.claim) family ≡ false → ¬ ForTerms parts (λ T. ⊥) → offer.provider ≡ wanted.provider → offer.place ≢ wanted.place
not_wanted parts family offer wanted located there of_family other readable provider place =
    readable (λ T is.
    let claim = same_claim T offer wanted provider place (located T is) (there T is) in
    both_ways (bytes_eq (family_of offer.claim) family) other ((bytes_eq-Decides (family_of offer.claim) family).1 (ap family_of claim ∙ of_family)))

-- the case of the claim that is wanted
pub case_wanted : (parts : TermsParts) (offer : Offer) (wanted : Wanted) (case : Case) → offer.provider ≡ wanted.provider → offer.place ≡ wanted.place → ForTerms parts (λ T. IsFiled T offer)
    → ForTerms parts (λ T. claim_filed T (filed_of wanted) ≡ Some wanted.claim.now) → ForTerms parts (λ T. IsCase parts T (filed_in offer) offer.claim case)
    → ForTerms parts (λ T. IsCase parts T (filed_of wanted) wanted.claim.now case)
case_wanted parts offer wanted case provider place located there known T is =
    let claim = same_claim T offer wanted provider place (located T is) (there T is) in
    subst (λ (c : Claim). IsCase parts T (filed_of wanted) c case) claim
    (subst (λ (f : Filed). IsCase parts T f offer.claim case) (λ i. record { provider = provider i; place = place i }) (known T is))

-- the offer is that of the claim, or it is not
pub at_wanted : (p q i k : ℕ) → ((p == q) && (i == k)) ≡ true → (p ≡ q) × (i ≡ k)
at_wanted p q i k is = let parts = and_parts (p == q) (i == k) is in (eqb-true p q parts.0, eqb-true i k parts.1)

pub at_other : (p q i k : ℕ) → ((p == q) && (i == k)) ≡ false → p ≡ q → i ≢ k
at_other p q i k is same also =
    both_ways ((p == q) && (i == k)) is (ap₂ (λ a b. a && b) (eq-eqb p q same) (eq-eqb i k also))

-- what is known of the next position and of the last claims there
pub carried : (P : ℕ → List LastClaim → Type 0) (old position : ℕ) (after lasts : List LastClaim) → position ≡ old + 1 → lasts ≡ after → P (old + 1) after → P position lasts
carried P old position after lasts next same known = subst (λ ls. P position ls) (sym same) (subst (λ n. P n after) (sym next) known)
