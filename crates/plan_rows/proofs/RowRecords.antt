-- The record of a row, from its parts.
use Rattle.std.proofs.Common.{◌≡◌, ◌≢◌, ◌<◌, ◌+◌, inl, inr, ℕ, zero, suc, List, [], ◌∷◌, ◌++◌, length, take, map, replicate, get_or, Bor, Option, Some, None, Ok, Err, Result, refl, sym, ap, ap₂, subst, ◌∙◌, append_assoc, arith}
use Rattle.std.specs.List.{AllZip}
use Rattle.std.proofs.lemmas.List.{map_more}
use Rattle.std.specs.Option.{option_map, option_map_or}
use Rattle.csv.specs.Records.{field_at}
use Rattle.faults.specs.declared.fault.Fault.{Fault}
use Rattle.evaluation.proofs.Answered.{AreAnswered-from_env}
use Rattle.intake_csv.proofs.Lists.{AllZip-grow, field_at-get_or}
use Rattle.intake_csv.specs.Records.{Fields}
use Rattle.tables.specs.declared.environment.Answer.{Answer}
use Rattle.tables.specs.declared.inputs.Slot.{Slot}
use Rattle.tables.specs.declared.output_place.OutputPlace.{OutputPlace}
use Rattle.tables.specs.declared.table.Table.{Table}
use Rattle.tables.specs.Environment.{Environment, answer_of, answers_of, env}
use Rattle.tables.specs.Plan.{IsPlan, PlanParts}
use Rattle.plan_rows.specs.declared.columns.Column.{Column}
use Rattle.plan_rows.specs.Columns.{GivesRead}
use Rattle.plan_rows.specs.Expected.{plain_answer}
use Rattle.plan_rows.specs.Given.{AreReadBefore, GivesRow, IsUnreadAt}
use Rattle.plan_rows.specs.Placed.{ArePlaces, IsPlaceOf, placed_text}
use Rattle.plan_rows.specs.ValuedRows.{IsFieldsEnd, IsRowEnd, IsValued, RowEnd, end_fields, faulty_end, fitted, output_names, output_text, valued_end, value_fault, width_fault}
use Rattle.plan_rows.proofs.Givens.{row_is_ready}

-- one more field
pub fitted_more : (fields : Fields) (count : ℕ) → fitted (count + 1) fields ≡ fitted count fields ++ get_or fields count [] ∷ []
fitted_more [] zero = refl
fitted_more [] (suc count) = let after : suc count + 1 ≡ suc (count + 1) = omega arith in rw after (ap (λ fs. [] ∷ fs) (fitted_more [] count))
fitted_more (f ∷ fs) zero = refl
fitted_more (f ∷ fs) (suc count) = let after : suc count + 1 ≡ suc (count + 1) = omega arith in rw after (ap (λ gs. f ∷ gs) (fitted_more fs count))

-- one more field is appended
pub fitted_pushed : (start before after fields : Fields) (count : ℕ) (field : List ℕ) → field ≡ get_or fields count [] → before ≡ start ++ fitted count fields → after ≡ before ++ field ∷ []
    → after ≡ start ++ fitted (count + 1) fields
fitted_pushed start before after fields count field is first then =
    let last = ap (λ f. fitted count fields ++ f ∷ []) is ∙ sym (fitted_more fields count) in
    then ∙ ap (λ fs. fs ++ field ∷ []) first ∙ append_assoc start (fitted count fields) (field ∷ []) ∙ ap (λ fs. start ++ fs) last

-- the field at a place
pub field_there : (fields : Fields) (place : ℕ) (found : Option (Bor (List ℕ))) (field : Bor (List ℕ)) → option_map (λ (s : Bor (List ℕ)). s.now) found ≡ field_at fields place → found ≡ Some field
    → field.now ≡ get_or fields place []
field_there fields place found field value is = sym (field_at-get_or fields place field.now (sym value ∙ ap (option_map (λ (s : Bor (List ℕ)). s.now)) is)).1

beyond : (fields : Fields) (place : ℕ) → field_at fields place ≡ None → [] ≡ get_or fields place []
unfolding field_at
beyond [] place none = refl
beyond (f ∷ fs) zero none = absurd (cc none)
beyond (f ∷ fs) (suc place) none = beyond fs place none

-- no field at a place
pub no_field : (fields : Fields) (place : ℕ) (found : Option (Bor (List ℕ))) → option_map (λ (s : Bor (List ℕ)). s.now) found ≡ field_at fields place → found ≡ None → [] ≡ get_or fields place []
no_field fields place found value is = beyond fields place (sym value ∙ ap (option_map (λ (s : Bor (List ℕ)). s.now)) is)

-- the place of one more output
pub places_more : (tables : List Table) (names : List (Bor (List ℕ))) (index : ℕ) (d : Bor (List ℕ)) (before after : List (Option OutputPlace)) (place : Option OutputPlace) → index < length names
    → after ≡ before ++ place ∷ [] → AllZip (IsPlaceOf tables) (map (λ n. n.now) (take index names)) before → IsPlaceOf tables (get_or names index d).now place
    → AllZip (IsPlaceOf tables) (map (λ n. n.now) (take (index + 1) names)) after
places_more tables names index d before after place within pushed so_far next =
    rw (map_more (λ (n : Bor (List ℕ)). n.now) names index d within, pushed) (AllZip-grow (IsPlaceOf tables) _ before _ place so_far next)

-- the answers at the places of names are those of the names
placed_texts : (tables : List Table) (answers : List (List Answer)) (names : List (List ℕ)) (places : List (Option OutputPlace)) → AllZip (IsPlaceOf tables) names places
    → map (placed_text answers) places ≡ map (λ name. option_map_or plain_answer (answer_of tables answers name) []) names
placed_texts tables answers [] [] each = refl
placed_texts tables answers [] (p ∷ ps) each = absurd each
placed_texts tables answers (n ∷ ns) [] each = absurd each
placed_texts tables answers (n ∷ ns) (p ∷ ps) each =
    ap₂ (λ (text : List ℕ) texts. text ∷ texts) (ap (λ a. option_map_or plain_answer a []) (sym (each.0 answers))) (placed_texts tables answers ns ps each.1)

-- an empty text for each place is one for each name
empty_texts : (tables : List Table) (names : List (List ℕ)) (places : List (Option OutputPlace)) → AllZip (IsPlaceOf tables) names places
    → replicate {A = List ℕ} (length places) [] ≡ map (λ (n : List ℕ). []) names
empty_texts tables [] [] each = refl
empty_texts tables [] (p ∷ ps) each = absurd each
empty_texts tables (n ∷ ns) [] each = absurd each
empty_texts tables (n ∷ ns) (p ∷ ps) each = ap (λ texts. [] ∷ texts) (empty_texts tables ns ps each.1)

-- what follows the fields of a row is appended in two pieces
pieces : (before middle after outputs : Fields) (fault : List ℕ) → middle ≡ before ++ outputs → after ≡ middle ++ fault ∷ [] → after ≡ before ++ (outputs ++ fault ∷ [])
pieces before middle after outputs fault first then = then ∙ ap (λ fields. fields ++ fault ∷ []) first ∙ append_assoc before outputs (fault ∷ [])

module _ (tables : List Table) (places : List (Option OutputPlace)) (placed : ArePlaces tables places) (before middle after : Fields) where
  -- a row without a value
  pub faulty_pushed : (fault : List ℕ) → middle ≡ before ++ replicate (length places) [] → after ≡ middle ++ fault ∷ [] → after ≡ before ++ end_fields (faulty_end tables fault)
  faulty_pushed fault first then = pieces before middle after (map (λ (n : List ℕ). []) (output_names tables)) fault (first ∙ ap (λ texts. before ++ texts) (empty_texts tables (output_names tables) places placed)) then

  -- a row with a value
  pub valued_pushed : (values : Environment) → values.tables ≡ tables → middle ≡ before ++ map (placed_text values.answers) places → after ≡ middle ++ [] ∷ []
      → after ≡ before ++ end_fields (valued_end tables (Ok values))
  valued_pushed values same first then =
      let named = placed_texts tables values.answers (output_names tables) places placed in
      let over : map (placed_text values.answers) places ≡ map (output_text (Ok values)) (output_names tables) =
      subst (λ (ts : List Table). map (placed_text values.answers) places ≡ map (λ name. option_map_or plain_answer (answer_of ts values.answers name) []) (output_names tables)) (sym same) named in
      pieces before middle after (map (output_text (Ok values)) (output_names tables)) [] (first ∙ ap (λ texts. before ++ texts) over) then

-- an environment of a plan is over the plan's tables
pub env_tables : (plan : PlanParts) (given : List Slot) (values : Environment) → env plan given ≡ Ok values → values.tables ≡ plan.tables
env_tables plan given values is = by (answers_of given [] plan.tables) refl is where
  by : (answers : Result (List (List Answer)) Fault) → answers_of given [] plan.tables ≡ answers → env plan given ≡ Ok values → values.tables ≡ plan.tables
  by (Ok answers) found made = cc
  by (Err fault) found made = cc

-- what follows the fields of a row, and the fields with it
abbrev pub Ends : (RowEnd → Type 0) → Fields → Fields → Type 0
Ends IsEnd before after = (row_end : RowEnd) × IsEnd row_end × (after ≡ before ++ end_fields row_end)

module _ (plan : PlanParts) (columns : List Column) (fields before after : Fields) where
  -- a row of another length
  pub ends_misfit : length fields ≢ length columns → after ≡ before ++ end_fields (faulty_end plan.tables width_fault) → Ends (IsRowEnd plan columns fields) before after
  ends_misfit other is = (faulty_end plan.tables width_fault, inl (other, refl), is)

  -- a row with as many fields as the header
  pub ends_fields : length fields ≡ length columns → Ends (IsFieldsEnd plan columns fields) before after → Ends (IsRowEnd plan columns fields) before after
  ends_fields width ends = (ends.0, inr (width, ends.1), ends.2)

  -- a row with a field that denotes no value
  pub ends_unread : (place : ℕ) → IsUnreadAt plan.names columns fields place → AreReadBefore plan.names columns fields place
      → after ≡ before ++ end_fields (faulty_end plan.tables (value_fault place)) → Ends (IsFieldsEnd plan columns fields) before after
  ends_unread place unread first is = (faulty_end plan.tables (value_fault place), inl (place, record { unread = unread; first = first }, refl), is)

  -- a row that gives all values
  pub ends_valued : (given : List Slot) → IsPlan plan → GivesRead plan columns → GivesRow plan.names columns fields given
      → after ≡ before ++ end_fields (valued_end plan.tables (env plan given)) → Ends (IsFieldsEnd plan columns fields) before after
  ends_valued given sound needed gives is = (
    valued_end plan.tables (env plan given),
    inr (record {
      given = given;
      gives = record { gives = gives; ready = row_is_ready plan columns fields given needed gives };
      answered = λ values made. AreAnswered-from_env plan given values sound made;
      end_is = refl;
    }),
    is,
  )

  -- the whole record
  pub row_written : (start : Fields) → start ≡ [] → before ≡ start ++ fitted (length columns) fields → Ends (IsRowEnd plan columns fields) before after
      → IsValued plan columns fields after
  row_written start none front ends =
      record { row_end = ends.0; is_end = ends.1; record_is = ends.2 ∙ ap (λ fs. fs ++ end_fields ends.0) (front ∙ ap (λ fs. fs ++ fitted (length columns) fields) none) }
