-- The values of names, and the arguments that give them.
use Rattle.std.proofs.Common.{◌≡◌, ◌≢◌, ℕ, zero, suc, ◌+◌, ◌<◌, Bool, true, false, cond, ◌==◌, List, [], ◌∷◌, ◌++◌, length, get_or, set, take, Option, Some, None, IsSome, refl, ap, sym, subst, ◌∙◌, arith, ⊎_elim, slice_get}
use Rattle.std.proofs.lemmas.Bool.{false≢true, cases_eq, cases_Bool}
use Rattle.std.proofs.lemmas.Bool.Decides.{Decides-eqb}
use Rattle.std.proofs.lemmas.List.{take-map, map_more}
use Rattle.std.proofs.lemmas.Option.{none-some, slice_get-map, slice_get-get_or}
use Rattle.std.specs.Borrow.{Bor}
use Rattle.std.specs.Option.{is_some, option_copied, option_map, option_and_then}
use Rattle.feel_tests.specs.declared.kind.Kind.{Kind}
use Rattle.feel_tests.specs.declared.value.Value.{Value}
use Rattle.feel_tests.specs.Value.{kind_of}
use Rattle.tables.specs.declared.inputs.Slot.{Slot}
use Rattle.tables.specs.declared.table.InputData.{InputData}
use Rattle.tables.specs.Inputs.{value_at, kind_at, empty_slots, fill_slot, Takes}
use Rattle.evaluation.specs.Arguments.{argument_texts, Assignment, IsSplit, NamesData, IsArgument, EachArgument, AreApart, Gives, assigned}

-- a reference that is found points to a value
pub some_value : (found : Option (Bor Value)) (given : Option Value) → is_some found ≡ true → option_copied found ≡ given → IsSome given
some_value None given some same = absurd (false≢true some)
some_value (Some reference) given some same = rw (sym same) refl

-- without a reference there is no value
pub no_value : (found : Option (Bor Value)) (given : Option Value) → is_some found ≡ false → option_copied found ≡ given → given ≡ None
no_value None given none same = sym same
no_value (Some reference) given none same = absurd (false≢true (sym none))

pub a_value : (found : Option (Bor Value)) (given : Option Value) → is_some found ≡ true → option_copied found ≡ given → (value : Value) × (given ≡ Some value)
a_value None given some same = absurd (false≢true some)
a_value (Some reference) given some same = (reference.now, sym same)

-- the input data with this name is at this index
pub names_data : (names : List InputData) (text name literal : List ℕ) (place : ℕ) (input : InputData) → IsSplit text name literal → slice_get names place ≡ Some input → input.name ≡ name
    → NamesData names text place input literal
names_data names text name literal place input split present same =
    let P : List ℕ → Type 0 = λ n. IsSplit text n literal in
    record { split = subst P (sym same) split; present = present }

-- the text of the argument at an index
pub argument_texts-at : (arguments : List (Bor (List ℕ))) (place : ℕ) (d : Bor (List ℕ)) → place < length arguments → slice_get (argument_texts arguments) place ≡ Some (get_or arguments place d).now
argument_texts-at arguments place d within =
    slice_get-map (λ (a : Bor (List ℕ)). a.now) arguments place ∙ ap (option_map (λ (a : Bor (List ℕ)). a.now)) (slice_get-get_or arguments place d within)

pub argument_texts-more : (arguments : List (Bor (List ℕ))) (place : ℕ) (d : Bor (List ℕ)) → place < length arguments
    → take (place + 1) (argument_texts arguments) ≡ take place (argument_texts arguments) ++ (get_or arguments place d).now ∷ []
argument_texts-more arguments place d within =
    let text : Bor (List ℕ) → List ℕ = λ a. a.now in
    take-map text (place + 1) arguments ∙ map_more text arguments place d within ∙ ap (λ front. front ++ (get_or arguments place d).now ∷ []) (sym (take-map text place arguments))

slice_get-set_same : {A : Type 0} (xs : List A) (i : ℕ) (x : A) → i < length xs → slice_get (set xs i x) i ≡ Some x
slice_get-set_same [] i x within = absurd (omega arith)
slice_get-set_same (y ∷ ys) zero x within = refl
slice_get-set_same (y ∷ ys) (suc i) x within = slice_get-set_same ys i x (omega arith)

slice_get-set_other : {A : Type 0} (xs : List A) (i j : ℕ) (x : A) → j ≢ i → slice_get (set xs i x) j ≡ slice_get xs j
slice_get-set_other [] i j x other = refl
slice_get-set_other (y ∷ ys) zero zero x other = absurd (other refl)
slice_get-set_other (y ∷ ys) zero (suc j) x other = refl
slice_get-set_other (y ∷ ys) (suc i) zero x other = refl
slice_get-set_other (y ∷ ys) (suc i) (suc j) x other = slice_get-set_other ys i j x (λ e. other (ap suc e))

EachArgument-push : (names : List InputData) (arguments : List (List ℕ)) (assignments : List Assignment) (text : List ℕ) (a : Assignment) → EachArgument names arguments assignments
    → IsArgument names text a → EachArgument names (arguments ++ text ∷ []) (assignments ++ a ∷ [])
EachArgument-push names [] [] text a each more = (more, tt)
EachArgument-push names [] (b ∷ bs) text a each more = absurd each
EachArgument-push names (t ∷ ts) [] text a each more = absurd each
EachArgument-push names (t ∷ ts) (b ∷ bs) text a each more = (each.0, EachArgument-push names ts bs text a each.1 more)

-- a choice with no value was made for its second part
second_part : (test : Bool) (value : Value) (rest : Option Value) → cond test (Some value) rest ≡ None → (test ≡ false) × (rest ≡ None)
second_part true value rest none = absurd (none-some value (sym none))
second_part false value rest none = (refl, none)

differs : (a b : ℕ) → a ≢ b → (a == b) ≡ false
differs a b other = ⊎_elim (λ same. absurd (other ((Decides-eqb a b).0 same))) (λ different. different) (cases_Bool (a == b))

-- an appended assignment counts if no earlier one assigns the index
assigned-push : (assignments : List Assignment) (a : Assignment) (place : ℕ) → assigned assignments place ≡ None → assigned (assignments ++ a ∷ []) place ≡ cond (a.place == place) (Some a.value) None
assigned-push [] a place none = refl
assigned-push (b ∷ bs) a place none =
    let parts = second_part (b.place == place) b.value (assigned bs place) none in
    ap (λ test. cond test (Some b.value) (assigned (bs ++ a ∷ []) place)) parts.0 ∙ assigned-push bs a place parts.1

-- at other indices the earlier assignments count
assigned-kept : (assignments : List Assignment) (a : Assignment) (place : ℕ) → a.place ≢ place → assigned (assignments ++ a ∷ []) place ≡ assigned assignments place
assigned-kept [] a place other = ap (λ test. cond test (Some a.value) None) (differs a.place place other)
assigned-kept (b ∷ bs) a place other = ap (λ rest. cond (b.place == place) (Some b.value) rest) (assigned-kept bs a place other)

AreApart-push : (assignments : List Assignment) (a : Assignment) → AreApart assignments → assigned assignments a.place ≡ None → AreApart (assignments ++ a ∷ [])
AreApart-push [] a apart fresh = (refl, tt)
AreApart-push (b ∷ bs) a apart fresh =
    let parts = second_part (b.place == a.place) b.value (assigned bs a.place) fresh in
    let other : a.place ≢ b.place = λ e. false≢true (sym parts.0 ∙ (Decides-eqb b.place a.place).1 (sym e)) in
    (assigned-kept bs a b.place other ∙ apart.0, AreApart-push bs a apart.1 parts.1)

-- the slot at an index has the kind of its name
kind_of_slot : (names : List InputData) (place : ℕ) → kind_at (empty_slots names) place ≡ option_map (λ (d : InputData). d.kind) (slice_get names place)
kind_of_slot [] place = refl
kind_of_slot (d ∷ ds) zero = refl
kind_of_slot (d ∷ ds) (suc place) = kind_of_slot ds place

-- an empty slot has no value
empty_slot : (names : List InputData) (place : ℕ) → value_at (empty_slots names) place ≡ None
empty_slot [] place = refl
empty_slot (d ∷ ds) zero = refl
empty_slot (d ∷ ds) (suc place) = empty_slot ds place

-- no arguments give no values
pub Gives-none : (names : List InputData) → Gives names [] (empty_slots names)
Gives-none names = record { assignments = []; each = tt; once = tt; kinds = kind_of_slot names; found = empty_slot names }

-- an index that takes values is within the slots
takes_within : (given : List Slot) (place : ℕ) (kind : Kind) → Takes given place kind → place < length given
takes_within [] place kind takes = absurd (none-some kind takes)
takes_within (s ∷ ss) zero kind takes = omega arith
takes_within (s ∷ ss) (suc place) kind takes = omega (arith, takes_within ss place kind takes)

-- the slot of an argument takes its value
pub argument_taken : (names : List InputData) (arguments : List (List ℕ)) (given : List Slot) (text : List ℕ) (a : Assignment) → Gives names arguments given → IsArgument names text a → Takes given a.place (kind_of a.value)
argument_taken names arguments given text a before argument =
    before.kinds a.place ∙ ap (option_map (λ (d : InputData). d.kind)) argument.named.present ∙ ap Some (sym argument.of_kind)

-- one more argument gives one more value
pub Gives-more : (names : List InputData) (arguments : List (List ℕ)) (given : List Slot) (text : List ℕ) (a : Assignment) → Gives names arguments given → IsArgument names text a
    → value_at given a.place ≡ None → Gives names (arguments ++ text ∷ []) (fill_slot given a.place a.value)
Gives-more names arguments given text a before argument fresh =
    let unassigned : assigned before.assignments a.place ≡ None = sym (before.found a.place) ∙ fresh in
    let taken : Takes given a.place (kind_of a.value) = argument_taken names arguments given text a before argument in
    let within : a.place < length given = takes_within given a.place _ taken in
    let slot : Slot = record { kind = kind_of a.value; value = Some a.value } in
    let here : slice_get (fill_slot given a.place a.value) a.place ≡ Some slot = slice_get-set_same given a.place slot within in
    record {
      assignments = before.assignments ++ a ∷ [];
      each = EachArgument-push names arguments before.assignments text a before.each argument;
      once = AreApart-push before.assignments a before.once unassigned;
      kinds = λ place. ⊎_elim
          (λ (same : a.place ≡ place). subst (λ p. kind_at (fill_slot given a.place a.value) p ≡ option_map (λ (d : InputData). d.kind) (slice_get names p)) same
          (ap (option_map (λ (s : Slot). s.kind)) here ∙ sym taken ∙ before.kinds a.place))
          (λ (other : a.place ≢ place). ap (option_map (λ (s : Slot). s.kind)) (slice_get-set_other given a.place place slot (λ e. other (sym e))) ∙ before.kinds place)
          (cases_eq a.place place);
      found = λ place. ⊎_elim
          (λ (same : a.place ≡ place). subst (λ p. value_at (fill_slot given a.place a.value) p ≡ assigned (before.assignments ++ a ∷ []) p) same
          (ap (option_and_then (λ (s : Slot). s.value)) here
          ∙ sym (assigned-push before.assignments a a.place unassigned ∙ ap (λ test. cond test (Some a.value) None) ((Decides-eqb a.place a.place).1 refl))))
          (λ (other : a.place ≢ place). ap (option_and_then (λ (s : Slot). s.value)) (slice_get-set_other given a.place place slot (λ e. other (sym e)))
          ∙ before.found place ∙ sym (assigned-kept before.assignments a place other))
          (cases_eq a.place place);
    }

-- the next argument gives one more value
pub Gives-next : (names : List InputData) (arguments : List (Bor (List ℕ))) (place : ℕ) (d : Bor (List ℕ)) (given : List Slot) (a : Assignment) → Gives names (take place (argument_texts arguments)) given
    → place < length arguments → IsArgument names (get_or arguments place d).now a → value_at given a.place ≡ None
    → Gives names (take (place + 1) (argument_texts arguments)) (fill_slot given a.place a.value)
Gives-next names arguments place d given a before within argument fresh =
    let P : List (List ℕ) → Type 0 = λ texts. Gives names texts (fill_slot given a.place a.value) in
    subst P (sym (argument_texts-more arguments place d within)) (Gives-more names _ given _ a before argument fresh)
