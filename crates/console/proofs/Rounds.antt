-- The texts that are read in rounds, several side by side.
use Rattle.std.proofs.Common.{◌≡◌, ◌<◌, ◌≤◌, ◌+◌, ℕ, List, [], ◌∷◌, ◌++◌, Option, Result, Ok, IfOk, length, take, get_or, slice_index_or, Bor, refl, sym, ap, subst, ◌∙◌, arith}
use Rattle.std.specs.Global.{Vec}
use Rattle.std.proofs.lemmas.Grind.{elements}
use Rattle.std.proofs.lemmas.List.{get_or-map, length-map}
use Rattle.std.proofs.lemmas.List.Elements.{all_zip_more}
use Rattle.console.specs.Reading.{AreReadUpTo, IsReadUpTo, names_of, texts_in}

-- the results that are left of a round: those that are texts are read from the texts of the names from a place on
pub record AreResultsFrom {E : Type 0} (limit : ℕ) (whole : List ℕ → Option (List ℕ)) (names : List (Bor (List ℕ))) (place : ℕ) (results : List (Result (Vec ℕ) E)) : Type 0 where
  pub inside : place + length results ≤ length names
  pub each : (k : ℕ) (d : Result (Vec ℕ) E) (e : Bor (List ℕ)) → k < length results
      → IfOk (slice_index_or results k d) (λ text. IsReadUpTo limit (whole (slice_index_or names (place + k) e).now) text.items)

-- an element of a list that has one at an index
element_within : {X : Type 0} (xs : List X) (k : ℕ) → k < length xs → X
element_within [] k within = absurd (omega (arith, within))
element_within (x ∷ xs) k within = x

-- the results of a round, whose sources are the texts of the names from a place on
pub results_read : {E X : Type 0} (limit : ℕ) (whole : List ℕ → Option (List ℕ)) (names : List (Bor (List ℕ))) (place : ℕ) (remaining : X → Option (List ℕ)) (sources : List X) (results : List (Result (Vec ℕ) E))
    → place + length sources ≤ length names → length results ≡ length sources
    → ((k : ℕ) (d : X) (e : Bor (List ℕ)) → k < length sources → remaining (slice_index_or sources k d) ≡ whole (slice_index_or names (place + k) e).now)
    → ((k : ℕ) (d : Result (Vec ℕ) E) (e : X) → k < length sources → IfOk (slice_index_or results k d) (λ text. IsReadUpTo limit (remaining (slice_index_or sources k e)) text.items))
    → AreResultsFrom limit whole names place results
results_read limit whole names place remaining sources results inside as_many opened read = record {
  inside = omega (arith, inside, as_many);
  each = λ k d e k-in.
      let within : k < length sources = omega (arith, k-in, as_many) in
      let x = element_within sources k within in
      subst (λ known. IfOk (slice_index_or results k d) (λ text. IsReadUpTo limit known text.items)) (opened k x e within) (read k d x within);
}

-- an element after the first one
get_or_tail : {X : Type 0} (first : X) (rest : List X) (k : ℕ) (d : X) → slice_index_or (first ∷ rest) (k + 1) d ≡ slice_index_or rest k d
get_or_tail first rest k d = grind (arith, elements)

-- the results after the first one
pub results_after : {E : Type 0} (limit : ℕ) (whole : List ℕ → Option (List ℕ)) (names : List (Bor (List ℕ))) (place : ℕ) (first : Result (Vec ℕ) E) (rest : List (Result (Vec ℕ) E))
    → AreResultsFrom limit whole names place (first ∷ rest) → AreResultsFrom limit whole names (place + 1) rest
results_after limit whole names place first rest results =
    let inside = results.inside in
    record {
      inside = omega (arith, inside);
      each = λ k d e k-in.
          let next : slice_index_or (first ∷ rest) (k + 1) d ≡ slice_index_or rest k d = get_or_tail first rest k d in
          let at : place + (k + 1) ≡ place + 1 + k = omega arith in
          let read : IfOk (slice_index_or (first ∷ rest) (k + 1) d) (λ text. IsReadUpTo limit (whole (slice_index_or names (place + (k + 1)) e).now) text.items) = results.each (k + 1) d e (omega (arith, k-in)) in
          rw (← next, ← at) read;
    }

-- one more text is read
read_more : (limit : ℕ) (whole : List ℕ → Option (List ℕ)) (names : List (Bor (List ℕ))) (place : ℕ) (d : Bor (List ℕ)) (texts : List (List ℕ)) (bytes : List ℕ) → place < length names
    → AreReadUpTo limit whole (take place (names_of names)) texts → IsReadUpTo limit (whole (get_or names place d).now) bytes
    → AreReadUpTo limit whole (take (place + 1) (names_of names)) (texts ++ bytes ∷ [])
read_more limit whole names place d texts bytes within were read =
    let size = length-map names (λ name. name.now) in
    all_zip_more (λ name text. IsReadUpTo limit (whole name) text) (names_of names) texts place (get_or names place d).now bytes (omega (arith, size, within))
    (sym (get_or-map (λ name. name.now) names place d (get_or names place d).now within)) were read

-- the bytes of the texts, with one more text
items_more : (before : List (Vec ℕ)) (text : Vec ℕ) → texts_in (before ++ text ∷ []) ≡ texts_in before ++ text.items ∷ []
items_more [] text = refl
items_more (first ∷ before) text = ap (λ more. first.items ∷ more) (items_more before text)

-- the first result that is left is a text, and is appended to the texts
pub text_pushed : {E : Type 0} (limit : ℕ) (whole : List ℕ → Option (List ℕ)) (names : List (Bor (List ℕ))) (place : ℕ) (before after : List (Vec ℕ)) (text : Vec ℕ) (rest : List (Result (Vec ℕ) E))
    → AreResultsFrom limit whole names place (Ok text ∷ rest) → AreReadUpTo limit whole (take place (names_of names)) (texts_in before) → after ≡ before ++ text ∷ []
    → AreReadUpTo limit whole (take (place + 1) (names_of names)) (texts_in after)
text_pushed limit whole names place before after text rest results were pushed =
    let inside = results.inside in
    let within : place < length names = omega (arith, inside) in
    let d = element_within names place within in
    let at : place + 0 ≡ place = omega arith in
    let read : IsReadUpTo limit (whole (get_or names (place + 0) d).now) text.items = results.each 0 (Ok text) d (omega arith) in
    subst (AreReadUpTo limit whole (take (place + 1) (names_of names))) (sym (ap texts_in pushed ∙ items_more before text))
    (read_more limit whole names place d (texts_in before) text.items within were (subst (λ here. IsReadUpTo limit (whole (get_or names here d).now) text.items) at read))
