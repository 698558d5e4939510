-- The texts among the values of a list that is one longer.
use Rattle.std.proofs.Common.{◌≡◌, ℕ, ◌+◌, ◌<◌, List, [], ◌∷◌, ◌++◌, length, get_or, slice_get, take, append-nil, Option, Some, None, ap, sym, ◌∙◌}
use Rattle.std.specs.List.{filter_map, cons_option}
use Rattle.std.proofs.lemmas.List.{take_more}
use Rattle.std.proofs.lemmas.List.Elements.{filter_map-append}
use Rattle.std.proofs.lemmas.Option.{get_or_from_slice_get, slice_get_within}
use Rattle.feel_tests.specs.declared.value.Value.{Value}
use Rattle.settlement.specs.Roles.{text_of}

texts_more :
    (values : List Value) (i : ℕ) (d : Value) (o : Option (List ℕ)) → i < length values → text_of (get_or values i d) ≡ o
    → filter_map text_of (take (i + 1) values) ≡ filter_map text_of (take i values) ++ cons_option o []
texts_more values i d o below here =
    ap (filter_map text_of) (take_more values i d below) ∙ filter_map-append text_of (take i values) (get_or values i d ∷ [])
    ∙ ap (λ (found : Option (List ℕ)). filter_map text_of (take i values) ++ cons_option found []) here

pub text_more :
    (values : List Value) (i : ℕ) (d : Value) (bytes : List ℕ) → i < length values → text_of (get_or values i d) ≡ Some bytes
    → filter_map text_of (take (i + 1) values) ≡ filter_map text_of (take i values) ++ bytes ∷ []
text_more values i d bytes below here = texts_more values i d (Some bytes) below here

pub other_more :
    (values : List Value) (i : ℕ) (d : Value) → i < length values → text_of (get_or values i d) ≡ None
    → filter_map text_of (take (i + 1) values) ≡ filter_map text_of (take i values)
other_more values i d below here = texts_more values i d None below here ∙ append-nil (filter_map text_of (take i values))

found_more :
    (texts : List (List ℕ)) (n : ℕ) (bytes : List ℕ) → slice_get texts n ≡ Some bytes → take (n + 1) texts ≡ take n texts ++ bytes ∷ []
found_more texts n bytes found =
    take_more texts n [] (slice_get_within texts n bytes found)
    ∙ ap (λ (text : List ℕ). take n texts ++ text ∷ []) (get_or_from_slice_get texts n bytes [] found)

-- the first `n` texts are those among the values so far, and the next text is the next value
pub compared_more :
    (values : List Value) (texts : List (List ℕ)) (i n : ℕ) (d : Value) (bytes : List ℕ) → i < length values → text_of (get_or values i d) ≡ Some bytes
    → slice_get texts n ≡ Some bytes → take n texts ≡ filter_map text_of (take i values)
    → take (n + 1) texts ≡ filter_map text_of (take (i + 1) values)
compared_more values texts i n d bytes below here found before =
    found_more texts n bytes found ∙ ap (λ front. front ++ bytes ∷ []) before ∙ sym (text_more values i d bytes below here)
