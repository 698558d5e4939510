-- The words of an option that can be given several times, read one after the other.
use Rattle.std.proofs.Common.{◌≡◌, ◌<◌, ◌+◌, ℕ, zero, suc, List, [], ◌∷◌, ◌++◌, length, get_or, take, Contains, arith, subst, sym}
use Rattle.std.specs.Borrow.{Bor}
use Rattle.std.specs.List.{AllZip}
use Rattle.tables.specs.Plan.{PlanParts}
use Rattle.evaluation.specs.Arguments.{argument_texts, equals_sign}
use Rattle.evaluation.proofs.Givens.{argument_texts-at}
use Rattle.plan_commands.specs.declared.compare_words.WordFault.{WordFault}
use Rattle.plan_commands.specs.declared.compare_words.WordFault.TheVariants as word
use Rattle.plan_commands.specs.Comparing.{HasNoEquals, IsNarrowingStop, IsRefusedWord}

-- the words before an index have the values, and so has the word at the index
one_more : {X : Type 0} (R : List ℕ → X → Type 0) (words : List (Bor (List ℕ))) (i : ℕ) (d : Bor (List ℕ)) (xs : List X) (x : X) → i < length words
    → AllZip R (argument_texts (take i words)) xs → R (get_or words i d).now x → AllZip R (argument_texts (take (i + 1) words)) (xs ++ x ∷ [])
one_more R [] i d xs x below all own = absurd (omega (arith, below))
one_more R (v ∷ vs) zero d [] x below all own = (own, tt)
one_more R (v ∷ vs) zero d (y ∷ ys) x below all own = absurd all
one_more R (v ∷ vs) (suc i) d [] x below all own = absurd all
one_more R (v ∷ vs) (suc i) d (y ∷ ys) x below all own =
    let next : suc i + 1 ≡ suc (i + 1) = omega arith in
    subst (λ n. AllZip R (argument_texts (take n (v ∷ vs))) (y ∷ (ys ++ x ∷ []))) (sym next) (all.0, one_more R vs i d ys x (omega (arith, below)) all.1 own)

pub word_more : {X : Type 0} (R : List ℕ → X → Type 0) (words : List (Bor (List ℕ))) (i : ℕ) (d : Bor (List ℕ)) (xs ys : List X) (x : X) → i < length words
    → AllZip R (argument_texts (take i words)) xs → R (get_or words i d).now x → ys ≡ xs ++ x ∷ [] → AllZip R (argument_texts (take (i + 1) words)) ys
word_more R words i d xs ys x below all own is = subst (AllZip R (argument_texts (take (i + 1) words))) (sym is) (one_more R words i d xs x below all own)

-- a word without `=` stops the reading of `--as`
pub no_equals : (words : List (Bor (List ℕ))) (i : ℕ) (d : Bor (List ℕ)) → i < length words → ¬ Contains (get_or words i d).now equals_sign → HasNoEquals (argument_texts words) i
no_equals words i d below none = record { word = (get_or words i d).now; at = argument_texts-at words i d below; without = none }

-- a word that is refused, or a lack of memory, stops the reading of `--where`
pub narrowing_stops : (old new : PlanParts) (words : List (Bor (List ℕ))) (i : ℕ) (d : Bor (List ℕ)) (fault : WordFault) → i < length words
    → IsRefusedWord old new i (get_or words i d).now fault → IsNarrowingStop old new (argument_texts words) fault
narrowing_stops old new words i d fault below refused = record { index = i; text = (get_or words i d).now; at = argument_texts-at words i d below; refused = refused }

pub memory_stops : (old new : PlanParts) (words : List (Bor (List ℕ))) (i : ℕ) (fault : WordFault) → i < length words → fault ≡ word.OutOfMemory
    → IsNarrowingStop old new (argument_texts words) fault
memory_stops old new [] i fault below is = absurd (omega (arith, below))
memory_stops old new (v ∷ vs) i fault below is =
    subst (IsNarrowingStop old new (argument_texts (v ∷ vs))) (sym is) (narrowing_stops old new (v ∷ vs) i v word.OutOfMemory below tt)
