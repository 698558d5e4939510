-- Facts that are listed one after another.
use Rattle.std.proofs.Common.{◌≡◌, ℕ, zero, suc, ◌+◌, ◌<◌, List, [], ◌∷◌, ◌++◌, drop, length, get_or, slice_get, Some, None, Result, Ok, Err, refl, sym, ap, subst, ◌∙◌, arith, append_assoc, append-nil}
use Rattle.std.specs.Prelude.{codes}
use Rattle.std.proofs.lemmas.Option.{none-some, same_Some}
use Rattle.faults.specs.declared.fault.Fault.{Fault}
use Rattle.tables.specs.declared.environment.Answer.{Answer}
use Rattle.tables.specs.declared.inputs.Slot.{Slot}
use Rattle.tables.specs.declared.table.Output.{Output}
use Rattle.tables.specs.declared.table.Table.{Table}
use Rattle.tables.specs.Environment.{and_then, answers_of, table_value}
use Rattle.tables.specs.HitPolicy.{TableValue}
use Rattle.evaluation.specs.ValueText.{answer_text}
use Rattle.explanation.specs.Facts.{FactParts, fact}
use Rattle.explanation.specs.Tables.{answer_facts, ok_part, table_facts, tables_facts, unless_fault}

drop_after : {A : Type 0} (xs : List A) (n : ℕ) (x : A) → n < length xs → x ≡ get_or xs n x → drop n xs ≡ x ∷ drop (suc n) xs
drop_after [] n x below is = absurd (omega (arith, below))
drop_after (y ∷ xs) zero x below is = ap (λ z. z ∷ xs) (sym is)
drop_after (y ∷ xs) (suc n) x below is = drop_after xs n x (omega (arith, below)) is

pub drop_next : {A : Type 0} (xs : List A) (n : ℕ) (x : A) → n < length xs → x ≡ get_or xs n x → drop n xs ≡ x ∷ drop (n + 1) xs
drop_next xs n x below is = let more : suc n ≡ n + 1 = omega arith in drop_after xs n x below is ∙ ap (λ m. x ∷ drop m xs) more

drop_at : {A : Type 0} (xs : List A) (n : ℕ) (x : A) → slice_get xs n ≡ Some x → drop n xs ≡ x ∷ drop (suc n) xs
drop_at [] n x there = absurd (none-some x there)
drop_at (y ∷ xs) zero x there = ap (λ z. z ∷ xs) (same_Some y x there)
drop_at (y ∷ xs) (suc n) x there = drop_at xs n x there

pub drop_there : {A : Type 0} (xs : List A) (n : ℕ) (x : A) → slice_get xs n ≡ Some x → drop n xs ≡ x ∷ drop (n + 1) xs
drop_there xs n x there = let more : suc n ≡ n + 1 = omega arith in drop_at xs n x there ∙ ap (λ m. x ∷ drop m xs) more

pub drop_past : {A : Type 0} (xs : List A) (n : ℕ) → slice_get xs n ≡ None → drop n xs ≡ []
drop_past [] zero none = refl
drop_past [] (suc n) none = refl
drop_past (y ∷ xs) zero none = absurd (none-some y (sym none))
drop_past (y ∷ xs) (suc n) none = drop_past xs n none

ok_of : {X E : Type 0} (r : Result X E) (x : X) → Some x ≡ ok_part r → r ≡ Ok x
ok_of (Ok y) x e = ap Ok (sym (same_Some x y e))
ok_of (Err f) x e = absurd (none-some x (sym e))

none_after : (r : TableValue) (next : List Answer → List FactParts) → None ≡ ok_part r → unless_fault r next ≡ []
none_after (Ok y) next e = absurd (none-some y e)
none_after (Err f) next e = refl

fault_after : {X : Type 0} (r : TableValue) (next : List Answer → Result X Fault) → None ≡ ok_part r → None ≡ ok_part (and_then r next)
fault_after (Ok y) next e = absurd (none-some y e)
fault_after (Err f) next e = refl

module _ (given : List Slot) (tables : List Table) (start : List FactParts) where
  -- the facts so far and those of the tables that are left, from the answers so far
  pub record IsBetween (facts : List FactParts) (answers : List (List Answer)) (rest : List Table) : Type 0 where
    pub listed : facts ++ tables_facts given answers rest ≡ start ++ tables_facts given [] tables
    pub valued : answers_of given answers rest ≡ answers_of given [] tables

  pub between_first : IsBetween start [] tables
  between_first = record { listed = refl; valued = refl }

  module _ (facts : List FactParts) (answers : List (List Answer)) (t : Table) (rest : List Table) (is : IsBetween facts answers (t ∷ rest)) where
    abbrev after : List Answer → List FactParts
    after next = tables_facts given (answers ++ next ∷ []) rest

    pub between_more : (next : List Answer) → Some next ≡ ok_part (table_value given answers t)
        → IsBetween (facts ++ table_facts given answers t) (answers ++ next ∷ []) rest
    between_more next value =
        let ok : table_value given answers t ≡ Ok next = ok_of (table_value given answers t) next value in
        record {
          listed =
              append_assoc facts (table_facts given answers t) (after next)
              ∙ ap (λ (r : TableValue). facts ++ (table_facts given answers t ++ unless_fault r after)) (sym ok)
              ∙ is.listed;
          valued = ap (λ (r : TableValue). and_then r (λ more. answers_of given (answers ++ more ∷ []) rest)) (sym ok) ∙ is.valued;
        }

    pub between_fault : None ≡ ok_part (table_value given answers t) → facts ++ table_facts given answers t ≡ start ++ tables_facts given [] tables
    between_fault none =
        ap (λ xs. facts ++ xs) (sym (append-nil (table_facts given answers t)) ∙ ap (λ xs. table_facts given answers t ++ xs) (sym (none_after (table_value given answers t) after none)))
        ∙ is.listed

    pub between_none : None ≡ ok_part (table_value given answers t) → None ≡ ok_part (answers_of given [] tables)
    between_none none =
        fault_after (table_value given answers t) (λ more. answers_of given (answers ++ more ∷ []) rest) none ∙ ap ok_part is.valued

  pub between_last : (facts : List FactParts) (answers : List (List Answer)) → IsBetween facts answers []
      → (facts ≡ start ++ tables_facts given [] tables) × (Some answers ≡ ok_part (answers_of given [] tables))
  between_last facts answers is = (sym (append-nil facts) ∙ is.listed, ap ok_part is.valued)

  pub between_next : (facts : List FactParts) (answers : List (List Answer)) (n : ℕ) (t : Table) → IsBetween facts answers (drop n tables) → n < length tables → t ≡ get_or tables n t
      → (next : List Answer) → Some next ≡ ok_part (table_value given answers t) → (more : List FactParts) → more ≡ facts ++ table_facts given answers t
      → (all : List (List Answer)) → all ≡ answers ++ next ∷ [] → IsBetween more all (drop (n + 1) tables)
  between_next facts answers n t is below there next value more added all pushed =
      let here : IsBetween facts answers (t ∷ drop (n + 1) tables) = subst (IsBetween facts answers) (drop_next tables n t below there) is in
      subst (λ xs. IsBetween xs all (drop (n + 1) tables)) (sym added)
      (subst (λ xs. IsBetween (facts ++ table_facts given answers t) xs (drop (n + 1) tables)) (sym pushed) (between_more facts answers t (drop (n + 1) tables) here next value))

-- the answers of a table, output by output
module _ (step : List ℕ) (start : List FactParts) (outputs : List Output) (answers : List Answer) where
  abbrev pub AreListed : List FactParts → ℕ → Type 0
  AreListed facts place = facts ++ answer_facts step (drop place outputs) (drop place answers) ≡ start ++ answer_facts step outputs answers

  pub listed_more : (facts : List FactParts) (place : ℕ) (output : Output) (answer : Answer) → AreListed facts place → place < length outputs → output ≡ get_or outputs place output
      → slice_get answers place ≡ Some answer → AreListed (facts ++ fact step (codes "answers " ++ output.name) (answer_text answer) ∷ []) (place + 1)
  listed_more facts place output answer is below there found =
      let front = fact step (codes "answers " ++ output.name) (answer_text answer) in
      append_assoc facts (front ∷ []) (answer_facts step (drop (place + 1) outputs) (drop (place + 1) answers))
      ∙ ap (λ os. facts ++ answer_facts step os (answer ∷ drop (place + 1) answers)) (sym (drop_next outputs place output below there))
      ∙ ap (λ xs. facts ++ answer_facts step (drop place outputs) xs) (sym (drop_there answers place answer found))
      ∙ is

  no_answers : (os : List Output) → answer_facts step os [] ≡ []
  no_answers [] = refl
  no_answers (o ∷ os) = refl

  no_outputs : (xs : List Answer) → answer_facts step [] xs ≡ []
  no_outputs [] = refl
  no_outputs (x ∷ xs) = refl

  pub listed_short : (facts : List FactParts) (place : ℕ) → AreListed facts place → slice_get answers place ≡ None → facts ≡ start ++ answer_facts step outputs answers
  listed_short facts place is none =
      sym (append-nil facts) ∙ ap (λ xs. facts ++ xs) (sym (no_answers (drop place outputs)) ∙ ap (answer_facts step (drop place outputs)) (sym (drop_past answers place none))) ∙ is

  drop_all : {A : Type 0} (xs : List A) (n : ℕ) → length xs ≡ n → drop n xs ≡ []
  drop_all [] zero e = refl
  drop_all [] (suc n) e = refl
  drop_all (x ∷ xs) zero e = absurd (omega (arith, e))
  drop_all (x ∷ xs) (suc n) e = drop_all xs n (omega (arith, e))

  pub listed_all : (facts : List FactParts) (place : ℕ) → AreListed facts place → length outputs ≡ place → facts ≡ start ++ answer_facts step outputs answers
  listed_all facts place is end =
      sym (append-nil facts) ∙ ap (λ xs. facts ++ xs) (sym (no_outputs (drop place answers)) ∙ ap (λ os. answer_facts step os (drop place answers)) (sym (drop_all outputs place end))) ∙ is
