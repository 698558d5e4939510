-- The two passes over a journal that build the index of its decisions, event by event.
use Rattle.std.proofs.Common.{inl, inr, ◌≡◌, ◌<◌, ◌≤◌, ◌+◌, ◌-◌, ◌==◌, ℕ, zero, suc, cond, List, [], ◌∷◌, ◌++◌, flat_map, get_or, length, take, Option, Some, None, option_and_then, option_map, Result, IfOk, ap, sym, subst, ◌∙◌, refl, append-nil, zero-add, arith}
use Rattle.std.specs.Global.{Vec}
use Rattle.std.specs.List.{slice_get}
use Rattle.std.proofs.lemmas.Bool.{cases_Bool, cases_lt}
use Rattle.std.proofs.lemmas.Grind.{flat_map-append}
use Rattle.std.proofs.lemmas.List.{get_or-set_other, get_or-set_same, get_or_append_left, get_or_default, get_or_push, length-set, length_push, take_more}
use Rattle.std.proofs.lemmas.Option.{slice_get-get_or, slice_get_past, slice_get_read}
use Rattle.std.proofs.Math.ListN.{set}
use Rattle.tables.specs.Environment.{or_else}
use Rattle.tables.specs.Plan.{PlanParts}
use Rattle.settlement.specs.declared.outcome.Outcome.{Outcome}
use Rattle.journal.specs.Events.{Filed, accept_in, accepted_count, accepts}
use Rattle.journal.specs.declared.event.Event.{Event}
use Rattle.journal.specs.declared.event.Event.TheVariants.{Accept, Decide}
use Rattle.remit_records.specs.Decided.{decision_at, decision_in}
use Rattle.remit_records.specs.Looked.{LaidOut, Noted, NotesPlace, NotesPosition, Replaces, ReplacesEach, outcome_at, outcome_by, positions_from, positions_of}
use Rattle.remit_records.specs.declared.decisions.Decisions.{Decisions}
use Rattle.remit_records.specs.declared.decisions.Notes.{Notes}

-- the accepted claims after one more event
accepts-push : (J : List Event) (event : Event) → accepts (J ++ event ∷ []) ≡ accepts J ++ accept_in event
accepts-push J event = flat_map-append accept_in J (event ∷ []) ∙ ap (λ following. accepts J ++ following) (append-nil (accept_in event))

-- the positions of a provider's claims after one more accepted claim
positions-push : (first : ℕ) (fs : List Filed) (f : Filed) (provider : ℕ)
    → positions_from first (fs ++ f ∷ []) provider ≡ positions_from first fs provider ++ cond (f.provider == provider) ((first + length fs) ∷ []) []
positions-push first [] f provider =
    let here : first + 0 ≡ first = omega arith in
    elim (cases_Bool (f.provider == provider)) [
      | inl same ↦ rw (same, here) refl
      | inr other ↦ rw other refl
    ]
positions-push first (g ∷ fs) f provider =
    let next : suc first + length fs ≡ first + suc (length fs) = omega arith in
    let rest = rw next at (positions-push (suc first) fs f provider) in
    elim (cases_Bool (g.provider == provider)) [
      | inl same ↦ rw same (ap (λ ps. first ∷ ps) rest)
      | inr other ↦ rw other rest
    ]

-- an event that accepts no claim changes nothing
pub noted-other : (whole : List Event) (providers : ℕ) (J : List Event) (event : Event) (notes : Notes) → accept_in event ≡ [] → Noted whole providers J [] notes
    → Noted whole providers (J ++ event ∷ []) [] notes
noted-other whole providers J event notes none noted =
    let same : accepts (J ++ event ∷ []) ≡ accepts J = accepts-push J event ∙ ap (λ following. accepts J ++ following) none ∙ append-nil (accepts J) in
    record {
      count = noted.count;
      positions = λ i d within. rw same (noted.positions i d within);
      size = rw same noted.size;
      decided = λ k d within. noted.decided k d (rw same at within);
    }

-- the index at the end of a journal has no decision
at-end : (J : List Event) → outcome_at J (length J) ≡ None
at-end J = ap (option_and_then outcome_by) (slice_get_past J (length J) (omega arith))

-- a new position starts without a decision
undecided-push : (whole accepting : List Event) (items : List ℕ) → length items ≡ accepted_count accepting
    → ((k d : ℕ) → k < accepted_count accepting → outcome_at whole (get_or items k d) ≡ None) → (k d : ℕ)
    → k < length items + 1 → outcome_at whole (get_or (items ++ length whole ∷ []) k d) ≡ None
undecided-push whole accepting items size undecided k d within = elim (cases_lt k (length items)) [
  | inl inside ↦ ap (outcome_at whole) (get_or_append_left items (length whole ∷ []) d k inside) ∙ undecided k d (omega (arith, inside, size))
  | inr last ↦ ap (outcome_at whole) (get_or_push items (length whole) d k (omega (arith, within, last))) ∙ at-end whole
]

-- an accept event adds one position to the notes
pub noted-accept : (whole : List Event) (providers : ℕ) (J : List Event) (event : Event) (provider place : ℕ) (old new : Notes) → event ≡ Accept provider place
    → new.decided.items ≡ old.decided.items ++ length whole ∷ [] → NotesPosition old.positions.items new.positions.items provider (length old.decided.items)
    → Noted whole providers J [] old → Noted whole providers (J ++ event ∷ []) [] new
noted-accept whole providers J event provider place old new is decided notes noted =
    let filed : Filed = record { provider = provider; place = place } in
    let grown : accepts (J ++ event ∷ []) ≡ accepts J ++ filed ∷ [] = accepts-push J event ∙ ap (λ e. accepts J ++ accept_in e) is in
    let longer = ap length decided ∙ length_push old.decided.items (length whole) in
    let counted = ap length grown ∙ length_push (accepts J) filed in
    record {
      count = notes.count ∙ noted.count;
      positions = λ i d within.
          notes.each i d (omega (arith, within, noted.count))
          ∙ ap (λ ps. ps ++ cond (provider == suc i) (length old.decided.items ∷ []) []) (noted.positions i d within)
          ∙ ap (λ n. positions_of J (suc i) ++ cond (provider == suc i) (n ∷ []) []) (noted.size ∙ sym (zero-add (accepted_count J)))
          ∙ sym (ap (λ fs. positions_from 0 fs (suc i)) grown ∙ positions-push 0 (accepts J) filed (suc i));
      size = omega (arith, longer, counted, noted.size);
      decided = λ k d within.
          ap (λ items. outcome_at whole (get_or items k d)) decided
          ∙ undecided-push whole J old.decided.items noted.size noted.decided k d (omega (arith, within, counted, noted.size));
    }

or_else-none : (o : Option Outcome) → or_else o None ≡ o
or_else-none None = refl
or_else-none (Some x) = refl

-- the first element of two lists in sequence
first-of : (one other : List Outcome) → slice_get (one ++ other) 0 ≡ or_else (slice_get one 0) (slice_get other 0)
first-of [] other = refl
first-of (o ∷ one) other = refl

-- the decision on a position after one more event
decision-push : (J : List Event) (event : Event) (k : ℕ) → decision_at (J ++ event ∷ []) k ≡ or_else (decision_at J k) (slice_get (decision_in k event) 0)
decision-push J event k =
    ap (λ os. slice_get os 0) (flat_map-append (decision_in k) J (event ∷ []) ∙ ap (λ os. flat_map (decision_in k) J ++ os) (append-nil (decision_in k event)))
    ∙ first-of (flat_map (decision_in k) J) (decision_in k event)

-- the part of a decide event for a position
decision-here : (position k : ℕ) (outcome : Outcome) → slice_get (decision_in k (Decide position outcome)) 0 ≡ cond (position == k) (Some outcome) None
decision-here position k outcome = elim (cases_Bool (position == k)) [
  | inl same ↦ rw same refl
  | inr other ↦ rw other refl
]

-- a decide event adds its index to the notes
pub noted-decision : (whole : List Event) (providers : ℕ) (accepting J : List Event) (event : Event) (position place : ℕ) (outcome : Outcome) (old new : Notes)
    → event ≡ Decide position outcome → place < length whole → event ≡ get_or whole place event → new.positions.items ≡ old.positions.items
    → NotesPlace whole old.decided.items new.decided.items position (outcome_at whole place) → Noted whole providers accepting J old
    → Noted whole providers accepting (J ++ event ∷ []) new
noted-decision whole providers accepting J event position place outcome old new is within there positions notes noted =
    let here : outcome_at whole place ≡ Some outcome =
    ap (option_and_then outcome_by) (slice_get_read whole (length whole) place event refl within there) ∙ ap outcome_by is in
    record {
      count = ap length positions ∙ noted.count;
      positions = λ i d inside. ap (λ items. (get_or items i d).items) positions ∙ noted.positions i d inside;
      size = notes.count ∙ noted.size;
      decided = λ k d inside.
          notes.each k d (omega (arith, inside, noted.size))
          ∙ ap (λ o. or_else o (cond (position == k) (outcome_at whole place) None)) (noted.decided k d inside)
          ∙ ap (λ o. or_else (decision_at J k) (cond (position == k) o None)) here
          ∙ sym (ap (λ e. decision_at (J ++ e ∷ []) k) is ∙ decision-push J (Decide position outcome) k
          ∙ ap (or_else (decision_at J k)) (decision-here position k outcome));
    }

-- an event that decides no claim changes nothing
pub noted-no-decision : (whole : List Event) (providers : ℕ) (accepting J : List Event) (event : Event) (notes : Notes) → ((k : ℕ) → decision_in k event ≡ [])
    → Noted whole providers accepting J notes → Noted whole providers accepting (J ++ event ∷ []) notes
noted-no-decision whole providers accepting J event notes none noted = record {
  count = noted.count;
  positions = noted.positions;
  size = noted.size;
  decided = λ k d within.
      noted.decided k d within
      ∙ sym (decision-push J event k ∙ ap (λ os. or_else (decision_at J k) (slice_get os 0)) (none k) ∙ or_else-none (decision_at J k));
}

-- the notes of the events before an index and of the event at the index
pub noted-next : (whole : List Event) (providers : ℕ) (J : List Event) (place : ℕ) (event : Event) (notes : Notes) → place < length J → event ≡ get_or J place event
    → Noted whole providers (take place J ++ event ∷ []) [] notes → Noted whole providers (take (place + 1) J) [] notes
noted-next whole providers J place event notes within is noted =
    subst (λ taken. Noted whole providers taken [] notes) (sym (take_more J place event within ∙ ap (λ e. take place J ++ e ∷ []) (sym is))) noted

pub noted-next-decision : (whole : List Event) (providers : ℕ) (accepting J : List Event) (place : ℕ) (event : Event) (notes : Notes) → place < length J → event ≡ get_or J place event
    → Noted whole providers accepting (take place J ++ event ∷ []) notes → Noted whole providers accepting (take (place + 1) J) notes
noted-next-decision whole providers accepting J place event notes within is noted =
    subst (λ taken. Noted whole providers accepting taken notes) (sym (take_more J place event within ∙ ap (λ e. take place J ++ e ∷ []) (sym is))) noted

-- the positions before an index are replaced, and the others are unchanged
pub record ReplacedTo (decided : List ℕ) (end : ℕ) (old new : List ℕ) (place : ℕ) : Type 0 where
  pub size : length new ≡ length old
  pub front : (k d : ℕ) → k < length old → k < place → get_or new k d ≡ get_or decided (get_or old k d) end
  pub following : (k d : ℕ) → place ≤ k → get_or new k d ≡ get_or old k d

pub replaced-none : (decided : List ℕ) (end : ℕ) (old : List ℕ) → ReplacedTo decided end old old 0
replaced-none decided end old = record { size = refl; front = λ k d within less. absurd (omega (arith, less)); following = λ k d least. refl }

pub replaced-next : (decided : List ℕ) (end : ℕ) (old new : List ℕ) (place value : ℕ) → place < length new → value ≡ get_or decided (get_or new place 0) end
    → ReplacedTo decided end old new place → ReplacedTo decided end old (set new place value) (place + 1)
replaced-next decided end old new place value within is so_far = record {
  size = length-set new place value ∙ so_far.size;
  front = λ k d inside less. elim (cases_lt k place) [
    | inl before ↦ get_or-set_other new place k value d (λ e. omega (arith, before, e)) ∙ so_far.front k d inside before
    | inr last ↦
        let here : k ≡ place = omega (arith, last, less) in
        rw here
        (get_or-set_same new place value d within ∙ is
        ∙ ap (λ p. get_or decided p end) (get_or_default new place 0 d within ∙ so_far.following place d (omega arith)))
  ];
  following = λ k d least. get_or-set_other new place k value d (λ e. omega (arith, least, e)) ∙ so_far.following k d (omega (arith, least));
}

pub replaced-all : (decided : List ℕ) (end : ℕ) (old new : List ℕ) (place : ℕ) → length new ≤ place → ReplacedTo decided end old new place → Replaces decided end old new
replaced-all decided end old new place past so_far = record {
  count = so_far.size;
  each = λ k d inside. so_far.front k d inside (let size = so_far.size in omega (arith, inside, past, size));
}

-- the lists before an index are replaced, and the others are unchanged
pub record ListsReplacedTo (decided : List ℕ) (end : ℕ) (old new : List (Vec ℕ)) (place : ℕ) : Type 0 where
  pub size : length new ≡ length old
  pub front : (i : ℕ) (d : Vec ℕ) → i < length old → i < place → Replaces decided end (get_or old i d).items (get_or new i d).items
  pub following : (i : ℕ) (d : Vec ℕ) → place ≤ i → get_or new i d ≡ get_or old i d

pub lists-none : (decided : List ℕ) (end : ℕ) (old : List (Vec ℕ)) → ListsReplacedTo decided end old old 0
lists-none decided end old = record { size = refl; front = λ i d within less. absurd (omega (arith, less)); following = λ i d least. refl }

pub lists-next : (decided : List ℕ) (end : ℕ) (old new : List (Vec ℕ)) (place : ℕ) (list replaced : Vec ℕ) → place < length new → list ≡ get_or new place list
    → Replaces decided end list.items replaced.items → ListsReplacedTo decided end old new place → ListsReplacedTo decided end old (set new place replaced) (place + 1)
lists-next decided end old new place list replaced within is replaces so_far = record {
  size = length-set new place replaced ∙ so_far.size;
  front = λ i d inside less. elim (cases_lt i place) [
    | inl before ↦
        rw (get_or-set_other new place i replaced d (λ e. omega (arith, before, e))) (so_far.front i d inside before)
    | inr last ↦
        let here : i ≡ place = omega (arith, last, less) in
        let old_list : list ≡ get_or old place d = is ∙ get_or_default new place list d within ∙ so_far.following place d (omega arith) in
        rw (here, get_or-set_same new place replaced d within, ← old_list) replaces
  ];
  following = λ i d least. get_or-set_other new place i replaced d (λ e. omega (arith, least, e)) ∙ so_far.following i d (omega (arith, least));
}

pub lists-all : (decided : List ℕ) (end : ℕ) (old new : List (Vec ℕ)) (place : ℕ) → length new ≤ place → ListsReplacedTo decided end old new place
    → ReplacesEach decided end old new
lists-all decided end old new place past so_far = record {
  count = so_far.size;
  each = λ i d inside. so_far.front i d inside (let size = so_far.size in omega (arith, inside, past, size));
}

-- the element at an index of the replaced list
replaced-get : (decided : List ℕ) (end : ℕ) (old new : List ℕ) (place : ℕ) → Replaces decided end old new
    → slice_get new place ≡ option_map (λ position. get_or decided position end) (slice_get old place)
replaced-get decided end old new place replaces = elim (cases_lt place (length old)) [
  | inl inside ↦
      slice_get-get_or new place 0 (let size = replaces.count in omega (arith, inside, size)) ∙ ap Some (replaces.each place 0 inside)
      ∙ ap (option_map (λ position. get_or decided position end)) (sym (slice_get-get_or old place 0 inside))
  | inr past ↦
      slice_get_past new place (let size = replaces.count in omega (arith, past, size))
      ∙ ap (option_map (λ position. get_or decided position end)) (sym (slice_get_past old place past))
]

-- a bound on the first element and on the rest bounds each element of the list
first-or-following : (first k bound : ℕ) (rest : List ℕ) (place : ℕ) → first < bound → ((j : ℕ) → slice_get rest j ≡ Some k → k < bound)
    → slice_get (first ∷ rest) place ≡ Some k → k < bound
first-or-following first k bound rest zero within following is = let here : first ≡ k = cc is in subst (λ n. n < bound) here within
first-or-following first k bound rest (suc j) within following is = following j is

-- a provider's positions are positions of accepted claims
positions-within : (fs : List Filed) (first provider place k : ℕ) → slice_get (positions_from first fs provider) place ≡ Some k → k < first + length fs
positions-within [] first provider place k is = absurd (cc is)
positions-within (f ∷ fs) first provider place k is =
    let following : (j : ℕ) → slice_get (positions_from (suc first) fs provider) j ≡ Some k → k < first + suc (length fs) =
    λ j located. let rest = positions-within fs (suc first) provider j k located in omega (arith, rest) in
    elim (cases_Bool (f.provider == provider)) [
      | inl same ↦
          first-or-following first k (first + suc (length fs)) (positions_from (suc first) fs provider) place (omega arith) following (rw same at is)
      | inr other ↦ following place (rw other at is)
    ]

-- the outcome at the index that replaces a position is the journal's decision on the position
decided-through : (J : List Event) (providers : ℕ) (notes : Notes) (end : ℕ) → Noted J providers J J notes → (position : Option ℕ)
    → ((k : ℕ) → position ≡ Some k → k < accepted_count J)
    → option_and_then (outcome_at J) (option_map (λ p. get_or notes.decided.items p end) position) ≡ option_and_then (decision_at J) position
decided-through J providers notes end noted None within = refl
decided-through J providers notes end noted (Some k) within = noted.decided k end (within k refl)

-- some element of a list that is not empty
some-of : {A : Type 0} (xs : List A) → 0 < length xs → A
some-of [] within = absurd (omega (arith, within))
some-of (x ∷ xs) within = x

-- once all positions are replaced, the index has the journal's decisions
pub laid : (version providers : ℕ) (J : List Event) (notes : Notes) (end : ℕ) (decisions : Decisions) → Noted J providers J J notes
    → ReplacesEach notes.decided.items end notes.positions.items decisions.places.items → decisions.version ≡ version
    → decisions.accepted ≡ length notes.decided.items → decisions.journal.now ≡ J → LaidOut version providers J decisions
laid version providers J notes end decisions noted replaced version_is accepted_is journal_is = record {
  version_is = version_is;
  accepted_is = accepted_is ∙ noted.size;
  found = λ i place within.
      let count = noted.count in
      let size = replaced.count in
      let d = some-of decisions.places.items (omega (arith, within, count, size)) in
      let index : suc i - 1 ≡ i = omega arith in
      let located = slice_get-get_or decisions.places.items i d (omega (arith, within, count, size)) in
      let listed : option_and_then (λ (places : Vec ℕ). slice_get places.items place) (slice_get decisions.places.items (suc i - 1)) ≡ slice_get (get_or decisions.places.items i d).items place =
      rw index (ap (option_and_then (λ (places : Vec ℕ). slice_get places.items place)) located) in
      let got =
      replaced-get notes.decided.items end (get_or notes.positions.items i d).items (get_or decisions.places.items i d).items place
      (replaced.each i d (omega (arith, within, count))) in
      let known = ap (λ ps. option_map (λ p. get_or notes.decided.items p end) (slice_get ps place)) (noted.positions i d within) in
      ap (λ K. option_and_then (outcome_at K) (option_and_then (λ (places : Vec ℕ). slice_get places.items place) (slice_get decisions.places.items (suc i - 1)))) journal_is
      ∙ ap (option_and_then (outcome_at J)) (listed ∙ got ∙ known)
      ∙ decided-through J providers notes end noted (slice_get (positions_of J (suc i)) place)
      (λ k is. let inside = positions-within (accepts J) 0 (suc i) place k is in omega (arith, inside));
}

-- an index that is built with the plan's version is an index under the plan
pub laid_under : {E : Type 0} (plan other : PlanParts) (version : ℕ) (providers : ℕ) (J : List Event) (made : Result Decisions E) → version ≡ other.version → other ≡ plan
    → IfOk made (LaidOut version providers J) → IfOk made (LaidOut plan.version providers J)
laid_under plan other version providers J made is same laid = subst (λ v. IfOk made (LaidOut v providers J)) (is ∙ ap (λ (p : PlanParts). p.version) same) laid
