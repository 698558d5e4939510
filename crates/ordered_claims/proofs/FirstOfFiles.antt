-- The first of the files' next claims, file by file.
use Rattle.std.proofs.Common.{◌≡◌, ◌<◌, ◌≤◌, ◌<ℤ◌, ◌+◌, ◌≤ℤ◌, ℕ, ℤ, Bool, true, false, not, T, int_lt, List, get_or, length, slice_get, Option, Some, None, option_map, refl, sym, ap, subst, ◌∙◌, inl, inr, arith}
use Rattle.std.specs.Int.Signed.{lt_z_no, lt_z_yes}
use Rattle.std.proofs.lemmas.Bool.{both_ways, cases_eq}
use Rattle.std.proofs.lemmas.Int.{ints, by_lt_z}
use Rattle.std.proofs.lemmas.Option.{none-some, same_Some, slice_get_read}
use Rattle.settlement.specs.declared.claim.Claim.{Claim}
use Rattle.journal.specs.declared.order.Order.{Order}
use Rattle.journal.specs.declared.order.Order.TheVariants.{Any, Files, Service}
use Rattle.ordered_claims.specs.FirstHead.{ComesFirst, HasHead, IsFirstOf, MayPrecede, is_sooner}
use Rattle.ordered_claims.specs.declared.heads.Head.{Head}
use Rattle.ordered_claims.specs.declared.file_queue.FileQueue.{FileQueue}

-- the answer of a comparison
is_less : (a b : ℤ) → int_lt a b ≡ true → a <ℤ b
is_less a b e = lt_z_yes (subst T (sym e) tt)

is_at_most : (a b : ℤ) → int_lt a b ≡ false → b ≤ℤ a
is_at_most a b e = lt_z_no (subst (λ (x : Bool). T (not x)) (sym e) tt)

-- of two claims of files in order the first one may come before the other if the other isn't sooner
no_sooner : (order : Order) (i : ℕ) (day : ℤ) (j : ℕ) (later : ℤ) → i ≤ j → is_sooner order later day ≡ false → MayPrecede order i day j later
no_sooner Any i day j later in_order not_sooner = tt
no_sooner Files i day j later in_order not_sooner = in_order
no_sooner Service i day j later in_order not_sooner =
    let at_least : day ≤ℤ later = is_at_most later day not_sooner in
    by_lt_z day later (λ less. inl less) (λ at_most. inr (omega (arith, ints, at_most, at_least), in_order))

-- a claim that is sooner than the first one comes before all that the first one came before
sooner_first : (order : Order) (i j k : ℕ) (day earlier other : ℤ) → is_sooner order day earlier ≡ true → MayPrecede order i earlier k other → MayPrecede order j day k other
sooner_first Any i j k day earlier other sooner first = tt
sooner_first Files i j k day earlier other sooner first = absurd (both_ways false refl sooner)
sooner_first Service i j k day earlier other sooner (inl before) =
    let less : day <ℤ earlier = is_less day earlier sooner in
    inl (omega (arith, ints, less, before))
sooner_first Service i j k day earlier other sooner (inr same) =
    let less : day <ℤ earlier = is_less day earlier sooner in
    let days : earlier ≡ other = same.0 in
    inl (omega (arith, ints, less, days))

-- a claim may come before itself
first_of_itself : (order : Order) (i : ℕ) (day : ℤ) → MayPrecede order i day i day
first_of_itself Any i day = tt
first_of_itself Files i day = omega arith
first_of_itself Service i day = inr (refl, omega arith)

-- the first claim in a queue
abbrev pub first_claim : FileQueue → Option Claim
first_claim queue = slice_get queue.claims.items 0

-- the next claim of a file is one
one_head : (files : List FileQueue) (i j : ℕ) (a b : Claim) → i ≡ j → HasHead files i a → HasHead files j b → a ≡ b
one_head files i j a b same at_i at_j =
    let there : slice_get files j ≡ Some at_i.file = ap (slice_get files) (sym same) ∙ at_i.there in
    let file : at_i.file ≡ at_j.file = same_Some at_i.file at_j.file (sym there ∙ at_j.there) in
    same_Some a b (sym at_i.next ∙ ap first_claim file ∙ at_j.next)

module _ (order : Order) (files : List FileQueue) (n : ℕ) where
  -- a file without a claim changes nothing
  pub none_here : (first : Option Head) → ((claim : Claim) → ¬ HasHead files n claim) → IsFirstOf order files n first → IsFirstOf order files (n + 1) first
  none_here None none is = λ index claim within has. elim (cases_eq index n) [
    | inl same ↦ none claim (subst (λ i. HasHead files i claim) same has)
    | inr other ↦ is index claim (omega (arith, within, other)) has
  ]
  none_here (Some head) none is = record {
    within = omega (arith, is.within);
    claim = is.claim;
    has = is.has;
    day = is.day;
    first = λ index other within has. elim (cases_eq index n) [
      | inl same ↦ absurd (none other (subst (λ i. HasHead files i other) same has))
      | inr apart ↦ is.first index other (omega (arith, within, apart)) has
    ];
  }

  -- the first file with a claim has the first one
  pub first_here : (claim : Claim) → HasHead files n claim → IsFirstOf order files n None → IsFirstOf order files (n + 1) (Some (record { index = n; day = claim.service }))
  first_here claim has is = record {
    within = omega arith;
    claim = claim;
    has = has;
    day = refl;
    first = λ index other within at. elim (cases_eq index n) [
      | inl same ↦
          let claims : claim ≡ other = one_head files n index claim other (sym same) has at in
          subst (λ i. MayPrecede order n claim.service i other.service) (sym same) (subst (λ (c : Claim). MayPrecede order n claim.service n c.service) claims (first_of_itself order n claim.service))
      | inr apart ↦ absurd (is index other (omega (arith, within, apart)) at)
    ];
  }

  -- a claim that is sooner than the earlier ones is the first one
  pub sooner_here : (claim : Claim) (earlier : Head) → HasHead files n claim → is_sooner order claim.service earlier.day ≡ true → ComesFirst order files n earlier
      → IsFirstOf order files (n + 1) (Some (record { index = n; day = claim.service }))
  sooner_here claim earlier has sooner is = record {
    within = omega arith;
    claim = claim;
    has = has;
    day = refl;
    first = λ index other within at. elim (cases_eq index n) [
      | inl same ↦
          let claims : claim ≡ other = one_head files n index claim other (sym same) has at in
          subst (λ i. MayPrecede order n claim.service i other.service) (sym same) (subst (λ (c : Claim). MayPrecede order n claim.service n c.service) claims (first_of_itself order n claim.service))
      | inr apart ↦
          sooner_first order earlier.index n index claim.service earlier.day other.service sooner (is.first index other (omega (arith, within, apart)) at)
    ];
  }

  -- a claim that is not sooner than the first one leaves it the first one
  pub first_stays : (claim : Claim) (earlier : Head) → HasHead files n claim → is_sooner order claim.service earlier.day ≡ false → ComesFirst order files n earlier
      → IsFirstOf order files (n + 1) (Some earlier)
  first_stays claim earlier has not_sooner is = record {
    within = omega (arith, is.within);
    claim = is.claim;
    has = is.has;
    day = is.day;
    first = λ index other within at. elim (cases_eq index n) [
      | inl same ↦
          let claims : claim ≡ other = one_head files n index claim other (sym same) has at in
          let days : claim.service ≡ other.service = ap (λ (c : Claim). c.service) claims in
          let here : is_sooner order other.service earlier.day ≡ false = subst (λ d. is_sooner order d earlier.day ≡ false) days not_sooner in
          no_sooner order earlier.index earlier.day index other.service (omega (arith, is.within, same)) here
      | inr apart ↦ is.first index other (omega (arith, within, apart)) at
    ];
  }

-- the first claim in the queue that is read at an index, by its day
pub record HeadOn (files : List FileQueue) (n : ℕ) (day : ℤ) : Type 0 where
  pub claim : Claim
  pub has : HasHead files n claim
  pub day_is : day ≡ claim.service

some_day : (first : Option Claim) (day : ℤ) → Some day ≡ option_map (λ (c : Claim). c.service) first → (claim : Claim) × (first ≡ Some claim) × (day ≡ claim.service)
some_day None day is = absurd (none-some day (sym is))
some_day (Some claim) day is = (claim, refl, same_Some day claim.service is)

no_day : (first : Option Claim) → None ≡ option_map (λ (c : Claim). c.service) first → (claim : Claim) → ¬ (first ≡ Some claim)
no_day None is claim some = none-some claim some
no_day (Some other) is claim some = none-some other.service is

pub head_read : (files : List FileQueue) (n : ℕ) (read : FileQueue) (day : ℤ) → n < length files → read ≡ get_or files n read
    → Some day ≡ option_map (λ (c : Claim). c.service) (first_claim read) → HeadOn files n day
head_read files n read day within at is =
    let first = some_day (first_claim read) day is in
    record {
      claim = first.0;
      has = record { file = read; there = slice_get_read files (length files) n read refl within at; next = first.1 };
      day_is = first.2;
    }

pub none_read : (files : List FileQueue) (n : ℕ) (read : FileQueue) → n < length files → read ≡ get_or files n read → None ≡ option_map (λ (c : Claim). c.service) (first_claim read)
    → (claim : Claim) → ¬ HasHead files n claim
none_read files n read within at is claim has =
    let file : has.file ≡ read = same_Some has.file read (sym has.there ∙ slice_get_read files (length files) n read refl within at) in
    no_day (first_claim read) is claim (ap first_claim (sym file) ∙ has.next)
