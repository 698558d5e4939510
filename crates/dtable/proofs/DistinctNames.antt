-- The names of a plan that a document denotes are pairwise distinct.
use Rattle.std.proofs.Common.{◌≡◌, ◌≢◌, ◌<◌, ◌+◌, ◌-◌, ◌||◌, ◌&&◌, ℕ, zero, suc, Bool, true, false, not, inl, inr, List, [], ◌∷◌, ◌++◌, length, map, get_or, refl, sym, ap, subst, ◌∙◌, arith, append_assoc}
use Rattle.std.specs.List.{All, flat_map, list_all}
use Rattle.std.specs.Str.{bytes_eq}
use Rattle.std.proofs.lemmas.Bool.{cases_Bool, cases_lt, false≢true, and_parts}
use Rattle.std.proofs.lemmas.Grind.{flat_map-append}
use Rattle.std.proofs.lemmas.List.{append-nil, get_or_append_left, get_or-append_right, length-append, map-append}
use Rattle.std.proofs.lemmas.List.Kept.{AllPairs-cons}
use Rattle.std.proofs.lemmas.List.Quantifiers.{all_pairs_push}
use Rattle.std.proofs.lemmas.Slice.Eq.{bytes_eq-Decides}
use Rattle.toml.specs.Data.{Data, Items, no_items, item}
use Rattle.tables.specs.declared.table.InputData.{InputData}
use Rattle.tables.specs.declared.table.Output.{Output}
use Rattle.tables.specs.declared.table.Table.{Table}
use Rattle.dtable.specs.Document.{EachAfter}
use Rattle.dtable.specs.NameForm.{family_names, is_among, names_taken, reserved_names}
use Rattle.tables.specs.Names.{accumulator_names, claim_names, names_of}
use Rattle.tables.specs.Plan.{PlanParts, AreDistinct, keeps_families, plan_names}
use Rattle.dtable.specs.PlanFile.{IsField, IsOutput, IsPlanDocument, IsTable}
use Rattle.dtable.specs.Scope.{data_names, output_names, seen_names, seen_of, taken_names}
use Rattle.dtable.proofs.ReadNames.{is_among-append, is_among_taken, output_names-seen}

or_left : (a b : Bool) → a ≡ true → (a || b) ≡ true
or_left a b e = rw e refl

or_right : (a b : Bool) → b ≡ true → (a || b) ≡ true
or_right true b e = refl
or_right false b e = e

or_swapped : (a b : Bool) → (a || b) ≡ (b || a)
or_swapped true true = refl
or_swapped true false = refl
or_swapped false true = refl
or_swapped false false = refl

-- a name of the list is among its names
among-itself : (names : List (List ℕ)) (k : ℕ) (d : List ℕ) → k < length names → is_among (get_or names k d) names ≡ true
among-itself [] k d within = absurd (omega arith)
among-itself (n ∷ names) zero d within = or_left (bytes_eq n n) (is_among n names) ((bytes_eq-Decides n n).1 refl)
among-itself (n ∷ names) (suc k) d within =
    or_right (bytes_eq n (get_or names k d)) (is_among (get_or names k d) names) (among-itself names k d (omega arith))

-- a name that is not among the names differs from each of them
new-differs : (names : List (List ℕ)) (name : List ℕ) → is_among name names ≡ false → (k : ℕ) (d : List ℕ) → k < length names → get_or names k d ≢ name
new-differs names name new k d within same =
    false≢true (sym new ∙ ap (λ n. is_among n names) (sym same) ∙ among-itself names k d within)

distinct-push : (names : List (List ℕ)) (name : List ℕ) → AreDistinct names → is_among name names ≡ false → AreDistinct (names ++ name ∷ [])
distinct-push names name distinct new = all_pairs_push (λ a b. a ≢ b) names name distinct (new-differs names name new)

-- distinct names in two lists are distinct in either order of the lists
distinct-swapped : (xs ys : List (List ℕ)) → AreDistinct (xs ++ ys) → AreDistinct (ys ++ xs)
distinct-swapped xs ys h i j d before within =
    let size = length-append ys xs in
    let whole = length-append xs ys in
    elim (cases_lt j (length ys)) [
      | inl low ↦
          let left : i < length ys = omega arith in
          let one = get_or_append_left ys xs d i left in
          let two = get_or_append_left ys xs d j low in
          let first = get_or-append_right xs ys (length xs) (length xs + i) d refl (omega arith) in
          let second = get_or-append_right xs ys (length xs) (length xs + j) d refl (omega arith) in
          let at_i : length xs + i - length xs ≡ i = omega arith in
          let at_j : length xs + j - length xs ≡ j = omega arith in
          let apart = h (length xs + i) (length xs + j) d (omega arith) (omega arith) in
          λ same. apart (first ∙ ap (λ n. get_or ys n d) at_i ∙ sym one ∙ same ∙ two ∙ ap (λ n. get_or ys n d) (sym at_j) ∙ sym second)
      | inr high ↦
          elim (cases_lt i (length ys)) [
            | inl left ↦
                let one = get_or_append_left ys xs d i left in
                let two = get_or-append_right ys xs (length ys) j d refl high in
                let first = get_or_append_left xs ys d (j - length ys) (omega arith) in
                let second = get_or-append_right xs ys (length xs) (length xs + i) d refl (omega arith) in
                let at_i : length xs + i - length xs ≡ i = omega arith in
                let apart = h (j - length ys) (length xs + i) d (omega arith) (omega arith) in
                λ same. apart (first ∙ sym two ∙ sym same ∙ one ∙ ap (λ n. get_or ys n d) (sym at_i) ∙ sym second)
            | inr right ↦
                let one = get_or-append_right ys xs (length ys) i d refl right in
                let two = get_or-append_right ys xs (length ys) j d refl high in
                let first = get_or_append_left xs ys d (i - length ys) (omega arith) in
                let second = get_or_append_left xs ys d (j - length ys) (omega arith) in
                let apart = h (i - length ys) (j - length ys) d (omega arith) (omega arith) in
                λ same. apart (first ∙ sym one ∙ same ∙ two ∙ sym second)
          ]
    ]

-- each of the names is in use
AreTaken : List (List ℕ) → List (List ℕ) → Type 0
AreTaken names taken = (name : List ℕ) → is_among name names ≡ true → is_among name taken ≡ true

not_taken : (names taken : List (List ℕ)) (name : List ℕ) → AreTaken names taken → is_among name taken ≡ false → is_among name names ≡ false
unfolding AreTaken
not_taken names taken name known new =
    elim (cases_Bool (is_among name names)) [
      | inl there ↦ absurd (false≢true (sym new ∙ known name there))
      | inr missing ↦ missing
    ]

taken-push : (names taken : List (List ℕ)) (other : List ℕ) → AreTaken names taken → AreTaken (names ++ other ∷ []) (taken ++ other ∷ [])
unfolding AreTaken
taken-push names taken other known name there =
    let split : (is_among name names || is_among name (other ∷ [])) ≡ true = sym (is_among-append name names (other ∷ [])) ∙ there in
    is_among-append name taken (other ∷ [])
    ∙ elim (cases_Bool (is_among name names)) [
      | inl old ↦ or_left (is_among name taken) (is_among name (other ∷ [])) (known name old)
      | inr new ↦ or_right (is_among name taken) (is_among name (other ∷ [])) (rw new at split)
    ]

-- new names are distinct, one after another, if the names before them are in use
distinct-following : {A : Type 0} (name_of : A → List ℕ) (R : List (List ℕ) → Data → A → Type 0) → ((taken : List (List ℕ)) (d : Data) (x : A) → R taken d x → is_among (name_of x) taken ≡ false)
    → (front taken : List (List ℕ)) (ds : Items) (xs : List A) → AreDistinct front → AreTaken front taken → EachAfter name_of R taken ds xs → AreDistinct (front ++ map name_of xs)
distinct-following name_of R fresh front taken no_items [] distinct known h = rw append-nil distinct
distinct-following name_of R fresh front taken no_items (x ∷ xs) distinct known h = absurd h
distinct-following name_of R fresh front taken (item e es) [] distinct known h = absurd h
distinct-following name_of R fresh front taken (item e es) (x ∷ xs) distinct known h =
    let more = distinct-push front (name_of x) distinct (not_taken front taken (name_of x) known (fresh taken e x h.0)) in
    rw append_assoc at (distinct-following name_of R fresh (front ++ name_of x ∷ []) (taken ++ name_of x ∷ []) es xs more (taken-push front taken (name_of x) known) h.1)

-- the names pass a test that computes
all_new : List (List ℕ) → Bool
all_new [] = true
all_new (n ∷ names) = not (is_among n names) && all_new names

differs-all : (name : List ℕ) (names : List (List ℕ)) → is_among name names ≡ false → All (λ n. name ≢ n) names
differs-all name names new k d within same = new-differs names name new k d within (sym same)

not_true : (b : Bool) → not b ≡ true → b ≡ false
not_true true e = cc
not_true false e = refl

distinct-tested : (names : List (List ℕ)) → all_new names ≡ true → AreDistinct names
unfolding all_new
distinct-tested [] test = λ i j d before within. absurd (omega (arith, within))
distinct-tested (n ∷ names) test =
    let parts = and_parts (not (is_among n names)) (all_new names) test in
    AllPairs-cons (λ a b. a ≢ b) n names (differs-all n names (not_true (is_among n names) parts.0)) (distinct-tested names parts.1)

-- names that pass a test that computes are in use
taken-tested : (names taken : List (List ℕ)) → list_all (λ n. is_among n taken) names ≡ true → AreTaken names taken
unfolding AreTaken
taken-tested [] taken test name there = cc
taken-tested (n ∷ names) taken test name there =
    let parts = and_parts (is_among n taken) (list_all (λ n. is_among n taken) names) test in
    elim (cases_Bool (bytes_eq n name)) [
      | inl same ↦ subst (λ m. is_among m taken ≡ true) ((bytes_eq-Decides n name).0 same) parts.0
      | inr other ↦ taken-tested names taken parts.1 name (rw other at there)
    ]

-- the names of every claim, and of a member's accumulators
own_first : Bool → List (List ℕ)
own_first families = data_names (accumulator_names families) ++ data_names (claim_names families)

own-distinct : (families : Bool) → AreDistinct (own_first families)
unfolding own_first all_new
own-distinct false = distinct-tested (own_first false) refl
own-distinct true = distinct-tested (own_first true) refl

-- the names of every claim and member are reserved
own-taken : (families : Bool) → AreTaken (own_first families) (names_taken families)
unfolding own_first reserved_names family_names
own-taken false = taken-tested (own_first false) reserved_names refl
own-taken true = taken-tested (own_first true) (family_names ++ reserved_names) refl

fresh-field : (taken : List (List ℕ)) (d : Data) (f : InputData) → IsField taken d f → is_among f.name taken ≡ false
fresh-field taken d f h = h.name.new

-- the names that tables may read from outside are distinct
fields-distinct : (families : Bool) (ds : Items) (fields : List InputData) → EachAfter (λ f. f.name) IsField (names_taken families) ds fields → AreDistinct (data_names (names_of families fields))
unfolding own_first
fields-distinct families ds fields h =
    let accumulators = data_names (accumulator_names families) in
    let claims = data_names (claim_names families) in
    let following = distinct-following (λ f. f.name) IsField fresh-field (own_first families) (names_taken families) ds fields (own-distinct families) (own-taken families) h in
    let swapped = distinct-swapped accumulators (claims ++ data_names fields) (subst AreDistinct (append_assoc accumulators claims (data_names fields)) following) in
    let named : data_names (names_of families fields) ≡ (claims ++ data_names fields) ++ accumulators =
    map-append (λ d. d.name) (claim_names families) (fields ++ accumulator_names families)
    ∙ ap (λ ns. claims ++ ns) (map-append (λ d. d.name) fields (accumulator_names families)) ∙ sym (append_assoc claims (data_names fields) accumulators) in
    subst AreDistinct (sym named) swapped

-- the names of the outputs of tables
outputs_of : List Table → List (List ℕ)
outputs_of tables = flat_map (λ t. output_names t.outputs) tables

outputs-seen : (tables : List Table) → seen_names (map seen_of tables) ≡ outputs_of tables
unfolding outputs_of
outputs-seen [] = refl
outputs-seen (t ∷ ts) = rw (output_names-seen t.hit t.outputs, outputs-seen ts) refl

outputs-more : (tables : List Table) (t : Table) → outputs_of (tables ++ t ∷ []) ≡ outputs_of tables ++ output_names t.outputs
unfolding outputs_of
outputs-more tables t =
    flat_map-append (λ t. output_names t.outputs) tables (t ∷ []) ∙ ap (λ ns. flat_map (λ t. output_names t.outputs) tables ++ ns) (append-nil (output_names t.outputs))

names-taken : (names : List InputData) (tables : List Table) → AreTaken (data_names names ++ outputs_of tables) (taken_names names (map seen_of tables))
unfolding AreTaken
names-taken names tables name there =
    let split = sym (is_among-append name (data_names names) (outputs_of tables)) ∙ there in
    let seen : (is_among name (data_names names) || is_among name (seen_names (map seen_of tables))) ≡ true =
    ap (λ ns. is_among name (data_names names) || is_among name ns) (outputs-seen tables) ∙ split in
    is_among_taken name names tables ∙ or_right (is_among name reserved_names) (is_among name (data_names names) || is_among name (seen_names (map seen_of tables))) seen

fresh-output : (t : Table) (taken : List (List ℕ)) (d : Data) (o : Output) → IsOutput t.hit taken d o → is_among o.name taken ≡ false
fresh-output t taken d o h = h.name.new

-- the names of the outputs are distinct from these and from each other
tables-distinct : (names : List InputData) (earlier : List Table) (ds : Items) (ts : List Table) → AreDistinct (data_names names ++ outputs_of earlier)
    → EachAfter seen_of (IsTable names) (map seen_of earlier) ds ts → AreDistinct (data_names names ++ outputs_of (earlier ++ ts))
tables-distinct names earlier no_items [] distinct h = rw append-nil distinct
tables-distinct names earlier no_items (t ∷ ts) distinct h = absurd h
tables-distinct names earlier (item d ds) [] distinct h = absurd h
tables-distinct names earlier (item d ds) (t ∷ ts) distinct h =
    let front = data_names names ++ outputs_of earlier in
    let columns = h.0.outputs in
    let more = distinct-following (λ o. o.name) (IsOutput t.hit) (fresh-output t) front (taken_names names (map seen_of earlier)) columns.entries t.outputs distinct (names-taken names earlier) columns.each in
    let here : front ++ output_names t.outputs ≡ data_names names ++ outputs_of (earlier ++ t ∷ []) =
    append_assoc (data_names names) (outputs_of earlier) (output_names t.outputs) ∙ ap (λ ns. data_names names ++ ns) (sym (outputs-more earlier t)) in
    let following = subst (λ ss. EachAfter seen_of (IsTable names) ss ds ts) (sym (map-append seen_of earlier (t ∷ []))) h.1 in
    subst (λ us. AreDistinct (data_names names ++ outputs_of us)) (append_assoc earlier (t ∷ []) ts)
    (tables-distinct names (earlier ++ t ∷ []) ds ts (subst AreDistinct here more) following)

pub distinct-document : (d : Data) (p : PlanParts) → IsPlanDocument d p → AreDistinct (plan_names p)
unfolding outputs_of
distinct-document d p h =
    let fields = fields-distinct (keeps_families p) h.names.entries h.names.fields h.names.spelled.each in
    let names : AreDistinct (data_names p.names) = subst (λ ns. AreDistinct (data_names ns)) (sym h.names.named) fields in
    tables-distinct p.names [] h.tables.entries p.tables (rw append-nil names) h.tables.spelled.each
