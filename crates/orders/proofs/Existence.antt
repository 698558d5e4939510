-- An order of acceptance has a next claim as long as a claim is left.
use Rattle.std.proofs.Common.{◌≡◌, ◌≢◌, ◌<◌, ◌≤◌, ◌+◌, ◌==◌, ◌⊎◌, ℕ, zero, suc, cond, List, [], ◌∷◌, ◌++◌, flat_map, take, length, Some, None, refl, sym, ap, ◌∙◌, subst, inl, inr, arith, length-append, eq-eqb, ne_eqb}
use Rattle.std.proofs.lemmas.Bool.{cases_eq, cases_lt, cond-false, cond-true}
use Rattle.std.proofs.lemmas.Int.{ints, by_lt_z}
use Rattle.std.proofs.lemmas.List.{length_push}
use Rattle.std.proofs.lemmas.Option.{none-some}
use Rattle.settlement.specs.declared.claim.Claim.{Claim}
use Rattle.journal.specs.Terms.{claims_in, claims_in_all}
use Rattle.journal.specs.Events.{Filed}
use Rattle.journal.specs.InOrder.{AreFirstInOrder, IsInFile, IsNextInOrder, MayComeFirst, filed_count, following_claim, place_of, service_of}
use Rattle.journal.specs.declared.order.Order.{Order}
use Rattle.journal.specs.declared.order.Order.TheVariants.{Any, Files, Service}
use Rattle.journal.proofs.Counts.{claims_by_provider, claims_known, counted_before, sum_to, sum_to-add, sum_to-le, sum_to-same}
use Rattle.journal.proofs.InOrder.{one_more}
use Rattle.orders.specs.Existence.{FirstClaims}

-- of two claims one may come before the other
one_first : (order : Order) (files : List (List Claim)) (one other : Filed) → one.provider < other.provider → MayComeFirst order files one other ⊎ MayComeFirst order files other one
one_first Any files one other less = inl tt
one_first Files files one other less = inl (omega (arith, less))
one_first Service files one other less =
    by_lt_z (service_of files other) (service_of files one)
    (λ earlier. inr (inl earlier))
    (λ not_later.
    by_lt_z (service_of files one) (service_of files other)
    (λ earlier. inl (inl earlier))
    (λ no_earlier. inl (inr (omega (arith, ints, not_later, no_earlier), omega (arith, less)))))

first_of_three : (order : Order) (files : List (List Claim)) (one other third : Filed) → MayComeFirst order files one other → MayComeFirst order files other third → MayComeFirst order files one third
first_of_three Any files one other third a b = tt
first_of_three Files files one other third a b = omega (arith, a, b)
first_of_three Service files one other third (inl a) (inl b) = inl (omega (arith, ints, a, b))
first_of_three Service files one other third (inl a) (inr b) = let same = b.0 in inl (omega (arith, ints, a, same))
first_of_three Service files one other third (inr a) (inl b) = let same = a.0 in inl (omega (arith, ints, same, b))
first_of_three Service files one other third (inr a) (inr b) =
    let x = a.1 in
    let y = b.1 in
    inr (a.0 ∙ b.0, omega (arith, x, y))

first_of_itself : (order : Order) (files : List (List Claim)) (one : Filed) → MayComeFirst order files one one
first_of_itself Any files one = tt
first_of_itself Files files one = omega arith
first_of_itself Service files one = inr (refl, omega arith)

-- the providers from 1 to n have at most one claim in a list of one
counted_most : (n : ℕ) (filed : Filed) → sum_to n (λ q. length (place_of q filed)) ≤ 1
counted_most zero filed = omega arith
counted_most (suc n) filed = elim (cases_eq filed.provider (suc n)) [
  | inl same ↦
      let rest : sum_to n (λ q. length (place_of q filed)) ≡ 0 = counted_before n filed.provider filed.place (omega (arith, same)) in
      let here : length (place_of (suc n) filed) ≡ 1 = ap length (cond-true (filed.provider == suc n) (filed.place ∷ []) [] (eq-eqb filed.provider (suc n) same)) in
      omega (arith, rest, here)
  | inr other ↦
      let rest : sum_to n (λ q. length (place_of q filed)) ≤ 1 = counted_most n filed in
      let here : length (place_of (suc n) filed) ≡ 0 = ap length (cond-false (filed.provider == suc n) (filed.place ∷ []) [] (ne_eqb filed.provider (suc n) other)) in
      omega (arith, rest, here)
]

sum_to-zero : (n : ℕ) → sum_to n (λ q. 0) ≡ 0
sum_to-zero zero = refl
sum_to-zero (suc n) = let rest : sum_to n (λ q. 0) ≡ 0 = sum_to-zero n in omega (arith, rest)

-- the claims of the providers from 1 to n are no more than all
counted_within : (n : ℕ) (claims : List Filed) → sum_to n (λ q. filed_count q claims) ≤ length claims
counted_within n [] = let none : sum_to n (λ q. 0) ≡ 0 = sum_to-zero n in omega (arith, none)
counted_within n (filed ∷ claims) =
    let rest : sum_to n (λ q. filed_count q claims) ≤ length claims = counted_within n claims in
    let here : sum_to n (λ q. length (place_of q filed)) ≤ 1 = counted_most n filed in
    let each : sum_to n (λ q. filed_count q (filed ∷ claims)) ≡ sum_to n (λ q. length (place_of q filed) + filed_count q claims) =
    sum_to-same n (λ q. filed_count q (filed ∷ claims)) (λ q. length (place_of q filed) + filed_count q claims)
    (λ q l m. length-append (place_of q filed) (flat_map (place_of q) claims)) in
    let together : sum_to n (λ q. length (place_of q filed) + filed_count q claims) ≡ sum_to n (λ q. length (place_of q filed)) + sum_to n (λ q. filed_count q claims) =
    sum_to-add n (λ q. length (place_of q filed)) (λ q. filed_count q claims) in
    omega (arith, rest, here, each, together)

module _ (order : Order) (files : List (List Claim)) (claims : List Filed) where
  -- the next claim of a provider
  abbrev next : ℕ → Filed
  next q = following_claim claims q

  -- the first one in the order of the next claims of the providers from 1 to n
  record First (n : ℕ) : Type 0 where
    provider : ℕ
    least : provider ≤ n
    left : IsInFile files (next provider)
    first : (q : ℕ) → 1 ≤ q → q ≤ n → IsInFile files (next q) → MayComeFirst order files (next provider) (next q)

  -- no claim of the providers from 1 to n is left, or one is the first
  first_up_to : (n : ℕ) → ((q : ℕ) → 1 ≤ q → q ≤ n → length (claims_in files q) ≤ filed_count q claims) ⊎ First n
  first_up_to zero = inl (λ q l m. absurd (omega (arith, l, m)))
  first_up_to (suc n) = elim (cases_lt (filed_count (suc n) claims) (length (claims_in files (suc n)))) [
    | inl left ↦ elim (first_up_to n) [
      | inl none ↦ inr (record {
        provider = suc n;
        least = omega arith;
        left = left;
        first = λ q l m there. elim (cases_eq q (suc n)) [
          | inl same ↦ subst (λ w. MayComeFirst order files (next (suc n)) (next w)) (sym same) (first_of_itself order files (next (suc n)))
          | inr other ↦
              let gone : length (claims_in files q) ≤ filed_count q claims = none q l (omega (arith, m, other)) in
              absurd (omega (arith, gone, there))
        ];
      })
      | inr f ↦
          let below = f.least in
          elim (one_first order files (next f.provider) (next (suc n)) (omega (arith, below))) [
            | inl stays ↦ inr (record {
              provider = f.provider;
              least = omega (arith, below);
              left = f.left;
              first = λ q l m there. elim (cases_eq q (suc n)) [
                | inl same ↦ subst (λ w. MayComeFirst order files (next f.provider) (next w)) (sym same) stays
                | inr other ↦ f.first q l (omega (arith, m, other)) there
              ];
            })
            | inr earlier ↦ inr (record {
              provider = suc n;
              least = omega arith;
              left = left;
              first = λ q l m there. elim (cases_eq q (suc n)) [
                | inl same ↦ subst (λ w. MayComeFirst order files (next (suc n)) (next w)) (sym same) (first_of_itself order files (next (suc n)))
                | inr other ↦ first_of_three order files (next (suc n)) (next f.provider) (next q) earlier (f.first q l (omega (arith, m, other)) there)
              ];
            })
          ]
    ]
    | inr gone ↦ elim (first_up_to n) [
      | inl none ↦ inl (λ q l m. elim (cases_eq q (suc n)) [
        | inl same ↦ subst (λ w. length (claims_in files w) ≤ filed_count w claims) (sym same) gone
        | inr other ↦ none q l (omega (arith, m, other))
      ])
      | inr f ↦
          let below = f.least in
          inr (record {
            provider = f.provider;
            least = omega (arith, below);
            left = f.left;
            first = λ q l m there. elim (cases_eq q (suc n)) [
              | inl same ↦ absurd (let here : filed_count (suc n) claims < length (claims_in files (suc n)) = subst (λ w. filed_count w claims < length (claims_in files w)) same there in omega (arith, gone, here))
              | inr other ↦ f.first q l (omega (arith, m, other)) there
            ];
          })
    ]
  ]

  -- if a claim is left, there is a next one
  pub next_there : length claims < claims_in_all files → (filed : Filed) × IsNextInOrder order files claims filed
  next_there fewer = elim (first_up_to (length files)) [
    | inl none ↦
        let all : claims_in_all files ≡ sum_to (length files) (λ q. length (claims_in files q)) = claims_by_provider files in
        let least : sum_to (length files) (λ q. length (claims_in files q)) ≤ sum_to (length files) (λ q. filed_count q claims) =
        sum_to-le (length files) (λ q. length (claims_in files q)) (λ q. filed_count q claims) none in
        let most : sum_to (length files) (λ q. filed_count q claims) ≤ length claims = counted_within (length files) claims in
        absurd (omega (arith, fewer, all, least, most))
    | inr f ↦ (
      next f.provider,
      record {
        follows = refl;
        there = f.left;
        first = λ q there.
            let some : 0 < length (claims_in files q) = omega (arith, there) in
            let range = claims_known files q some in
            f.first q range.0 range.1 there;
      },
    )
  ]

pub order_is_whole : (order : Order) (files : List (List Claim)) (count : ℕ) → count ≤ claims_in_all files → FirstClaims order files count
order_is_whole order files zero within = record { claims = []; in_order = λ n filed at. absurd (none-some filed at); exactly = refl }
order_is_whole order files (suc count) within =
    let h = order_is_whole order files count (omega (arith, within)) in
    let long = h.exactly in
    let next = next_there order files h.claims (omega (arith, within, long)) in
    record {
      claims = h.claims ++ next.0 ∷ [];
      in_order = one_more order files h.claims next.0 h.in_order next.1;
      exactly = length_push h.claims next.0 ∙ omega (arith, long);
    }
