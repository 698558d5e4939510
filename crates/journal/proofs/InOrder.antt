-- An order of acceptance leaves no choice, and a claim that is due keeps it.
use Rattle.std.proofs.Common.{◌≡◌, ◌≢◌, ◌<◌, ◌≤◌, ◌+◌, ◌==◌, ℕ, zero, suc, cond, List, [], ◌∷◌, ◌++◌, flat_map, take, drop, length, get_or, slice_get, Some, refl, sym, ap, ◌∙◌, subst, inl, inr, arith, length-append, take-append-drop, eq-eqb}
use Rattle.std.proofs.lemmas.Bool.{cases_lt, cond-true}
use Rattle.std.proofs.lemmas.Int.{ints}
use Rattle.std.proofs.lemmas.List.{length_push, take-append-le, take_all, take_at, take_more}
use Rattle.std.proofs.lemmas.List.Concat.{flat_map-append}
use Rattle.std.proofs.lemmas.Option.{slice_get-get_or, slice_get_within}
use Rattle.settlement.specs.declared.claim.Claim.{Claim}
use Rattle.journal.specs.Terms.{Terms}
use Rattle.journal.specs.Events.{Filed, accept_in, accepts, places}
use Rattle.journal.specs.InOrder.{AreFirstInOrder, IsDue, IsInFile, IsNextInOrder, MayComeFirst, filed_count, following_claim, place_of}
use Rattle.journal.specs.Lawful.{IsNextClaim}
use Rattle.journal.specs.declared.event.Event.{Event}
use Rattle.journal.specs.declared.event.Event.TheVariants.{Accept, End, Close, Take, Decide}
use Rattle.journal.specs.declared.order.Order.{Order}
use Rattle.journal.specs.declared.order.Order.TheVariants.{Any, Files, Service}
use Rattle.journal.proofs.Fronts.{slice_get_at}
use Rattle.journal.proofs.Grown.{earlier as before_it, grown, newest, slice_get-append}

-- if each of two claims may come before the other, both are of one file
one_file : (order : Order) (files : List (List Claim)) (one other : Filed) → order ≢ Any → MayComeFirst order files one other → MayComeFirst order files other one → one.provider ≡ other.provider
one_file Any files one other is a b = absurd (is refl)
one_file Files files one other is a b = omega (arith, a, b)
one_file Service files one other is (inl a) (inl b) = absurd (omega (arith, ints, a, b))
one_file Service files one other is (inl a) (inr b) = let same = b.0 in absurd (omega (arith, ints, a, same))
one_file Service files one other is (inr a) (inl b) = let same = a.0 in absurd (omega (arith, ints, same, b))
one_file Service files one other is (inr a) (inr b) = let x = a.1 in let y = b.1 in omega (arith, x, y)

-- after the same earlier claims the next one is the same
next_is_one : (order : Order) (files : List (List Claim)) (earlier : List Filed) (one other : Filed) → order ≢ Any → IsNextInOrder order files earlier one → IsNextInOrder order files earlier other → one ≡ other
next_is_one order files earlier one other is a b =
    let a_there : IsInFile files (following_claim earlier one.provider) = subst (IsInFile files) a.follows a.there in
    let b_there : IsInFile files (following_claim earlier other.provider) = subst (IsInFile files) b.follows b.there in
    let forth : MayComeFirst order files one other = subst (MayComeFirst order files one) (sym b.follows) (a.first other.provider b_there) in
    let back : MayComeFirst order files other one = subst (MayComeFirst order files other) (sym a.follows) (b.first one.provider a_there) in
    a.follows ∙ ap (following_claim earlier) (one_file order files one other is forth back) ∙ sym b.follows

module _ (order : Order) (files : List (List Claim)) (is : order ≢ Any) where
  -- two lists of first claims begin with the same claims
  same_front : (n : ℕ) (claims others : List Filed) → AreFirstInOrder order files claims → AreFirstInOrder order files others → n ≤ length claims → n ≤ length others → take n claims ≡ take n others
  same_front zero claims others a b l m = refl
  same_front (suc n) claims others a b l m =
      let d = following_claim [] 0 in
      let front : take n claims ≡ take n others = same_front n claims others a b (omega (arith, l)) (omega (arith, m)) in
      let x = get_or claims n d in
      let y = get_or others n d in
      let at_x : slice_get claims n ≡ Some x = slice_get-get_or claims n d (omega (arith, l)) in
      let at_y : slice_get others n ≡ Some y = slice_get-get_or others n d (omega (arith, m)) in
      let here : x ≡ y = next_is_one order files (take n others) x y is (subst (λ w. IsNextInOrder order files w x) front (a n x at_x)) (b n y at_y) in
      let more : n + 1 ≡ suc n = omega arith in
      ap (λ w. take w claims) (sym more)
      ∙ take_more claims n d (omega (arith, l))
      ∙ (λ i. front i ++ here i ∷ [])
      ∙ sym (take_more others n d (omega (arith, m)))
      ∙ ap (λ w. take w others) more

pub order_is_one : (order : Order) (files : List (List Claim)) (claims others : List Filed) → order ≢ Any → AreFirstInOrder order files claims → AreFirstInOrder order files others → length claims ≤ length others
    → claims ≡ take (length claims) others
order_is_one order files claims others is a b shorter =
    sym (take_all (length claims) claims (omega arith)) ∙ same_front order files is (length claims) claims others a b (omega arith) shorter

-- the number of a provider's claims in a journal is their number among the accepted ones
pub places_counted : (J : List Event) (q : ℕ) → places J q ≡ flat_map (place_of q) (accepts J)
places_counted [] q = refl
places_counted (Accept p i ∷ J) q = ap (λ w. cond (p == q) (i ∷ []) [] ++ w) (places_counted J q)
places_counted (End p ∷ J) q = places_counted J q
places_counted (Close ∷ J) q = places_counted J q
places_counted (Take k ∷ J) q = places_counted J q
places_counted (Decide k o ∷ J) q = places_counted J q

filed_count-append : (q : ℕ) (one other : List Filed) → filed_count q (one ++ other) ≡ filed_count q one + filed_count q other
filed_count-append q one other =
    ap length (flat_map-append (place_of q) one other) ∙ length-append (flat_map (place_of q) one) (flat_map (place_of q) other)

-- a list counts at least as many claims of a provider as its first part
front_counts : (q n : ℕ) (claims : List Filed) → filed_count q (take n claims) ≤ filed_count q claims
front_counts q n claims =
    let both : filed_count q (take n claims ++ drop n claims) ≡ filed_count q (take n claims) + filed_count q (drop n claims) = filed_count-append q (take n claims) (drop n claims) in
    let whole : filed_count q (take n claims ++ drop n claims) ≡ filed_count q claims = ap (filed_count q) (take-append-drop n claims) in
    omega (arith, both, whole)

-- a claim counts once, for its provider
own_counts : (filed : Filed) → filed_count filed.provider (filed ∷ []) ≡ 1
own_counts filed = ap (λ ps. length (ps ++ [])) (cond-true (filed.provider == filed.provider) (filed.place ∷ []) [] (eq-eqb filed.provider filed.provider refl))

-- the first claims of a list of first claims, and their next one
next_of_front : (order : Order) (files : List (List Claim)) (earlier : List Filed) (filed : Filed) → AreFirstInOrder order files (earlier ++ filed ∷ []) → IsNextInOrder order files earlier filed
next_of_front order files earlier filed a =
    let at : slice_get (earlier ++ filed ∷ []) (length earlier) ≡ Some filed = slice_get_at earlier filed [] in
    subst (λ w. IsNextInOrder order files w filed) (take_at earlier (filed ∷ []) (length earlier) refl) (a (length earlier) filed at)

earlier_first : (order : Order) (files : List (List Claim)) (earlier : List Filed) (filed : Filed) → AreFirstInOrder order files (earlier ++ filed ∷ []) → AreFirstInOrder order files earlier
earlier_first order files earlier filed a n other at =
    let within : n < length earlier = slice_get_within earlier n other at in
    let at_more : slice_get (earlier ++ filed ∷ []) n ≡ Some other = slice_get-append earlier (filed ∷ []) n other at in
    subst (λ w. IsNextInOrder order files w other) (take-append-le n earlier (filed ∷ []) (omega (arith, within))) (a n other at_more)

module _ (order : Order) (T : Terms) (J : List Event) (filed : Filed) (is : order ≢ Any) (a : AreFirstInOrder order T.files (accepts J)) (d : IsDue order T J filed) (next : IsNextClaim T J filed.provider filed.place) where
  counted : (q : ℕ) → length (places J q) ≡ filed_count q (accepts J)
  counted q = ap length (places_counted J q)

  -- the claims that are accepted are all that come before this one
  accepted_are_earlier : accepts J ≡ d.earlier
  accepted_are_earlier =
      let now = next_of_front order T.files d.earlier filed d.in_order in
      let first = earlier_first order T.files d.earlier filed d.in_order in
      let place : filed.place ≡ filed_count filed.provider d.earlier = ap (λ (f : Filed). f.place) now.follows in
      let own : filed.place ≡ filed_count filed.provider (accepts J) = next.place_is ∙ counted filed.provider in
      elim (cases_lt (length (accepts J)) (length d.earlier)) [
        | inl fewer ↦
            let n = length (accepts J) in
            let other = get_or d.earlier n filed in
            let at : slice_get d.earlier n ≡ Some other = slice_get-get_or d.earlier n filed fewer in
            let front : accepts J ≡ take n d.earlier = order_is_one order T.files (accepts J) d.earlier is a first (omega (arith, fewer)) in
            let there = first n other at in
            let at_place : other.place ≡ filed_count other.provider (take n d.earlier) = ap (λ (f : Filed). f.place) there.follows in
            let same : filed_count other.provider (take n d.earlier) ≡ filed_count other.provider (accepts J) = ap (filed_count other.provider) (sym front) in
            let taken : other.place < length (places J other.provider) = d.accepted n other at in
            let as_many : length (places J other.provider) ≡ filed_count other.provider (accepts J) = counted other.provider in
            absurd (omega (arith, at_place, same, taken, as_many))
        | inr enough ↦ elim (cases_lt (length d.earlier) (length (accepts J))) [
          | inl more ↦
              let long : length (d.earlier ++ filed ∷ []) ≡ suc (length d.earlier) = length_push d.earlier filed ∙ omega arith in
              let front : d.earlier ++ filed ∷ [] ≡ take (length (d.earlier ++ filed ∷ [])) (accepts J) =
              order_is_one order T.files (d.earlier ++ filed ∷ []) (accepts J) is d.in_order a (omega (arith, long, more)) in
              let both : filed_count filed.provider (d.earlier ++ filed ∷ []) ≡ filed_count filed.provider d.earlier + filed_count filed.provider (filed ∷ []) =
              filed_count-append filed.provider d.earlier (filed ∷ []) in
              let one : filed_count filed.provider (filed ∷ []) ≡ 1 = own_counts filed in
              let same : filed_count filed.provider (d.earlier ++ filed ∷ []) ≡ filed_count filed.provider (take (length (d.earlier ++ filed ∷ [])) (accepts J)) = ap (filed_count filed.provider) front in
              let least : filed_count filed.provider (take (length (d.earlier ++ filed ∷ [])) (accepts J)) ≤ filed_count filed.provider (accepts J) =
              front_counts filed.provider (length (d.earlier ++ filed ∷ [])) (accepts J) in
              absurd (omega (arith, place, own, both, one, same, least))
          | inr as_few ↦
              let as_long : length (accepts J) ≡ length d.earlier = omega (arith, enough, as_few) in
              order_is_one order T.files (accepts J) d.earlier is a first (omega (arith, as_long))
              ∙ ap (λ w. take w d.earlier) as_long
              ∙ take_all (length d.earlier) d.earlier (omega arith)
        ]
      ]

  pub stays_in_order : AreFirstInOrder order T.files (accepts (J ++ Accept filed.provider filed.place ∷ []))
  stays_in_order =
      let grown : accepts (J ++ Accept filed.provider filed.place ∷ []) ≡ accepts J ++ filed ∷ [] = flat_map-append accept_in J (Accept filed.provider filed.place ∷ []) in
      subst (AreFirstInOrder order T.files) (sym (grown ∙ ap (λ w. w ++ filed ∷ []) accepted_are_earlier)) d.in_order

-- the first claims of an order and its next claim are first claims
pub one_more : (order : Order) (files : List (List Claim)) (claims : List Filed) (next : Filed) → AreFirstInOrder order files claims → IsNextInOrder order files claims next
    → AreFirstInOrder order files (claims ++ next ∷ [])
one_more order files claims next a is n other at =
    elim (grown claims next other n at) [
      | before_it there front below ↦ subst (λ w. IsNextInOrder order files w other) (sym front) (a n other there)
      | newest here same front ↦ subst (IsNextInOrder order files (take n (claims ++ next ∷ []))) same (subst (λ w. IsNextInOrder order files w next) (sym front) is)
    ]
