-- The places of the outputs among the answers, found once for all rows.
use Rattle.std.specs.Prelude.{◌≡◌, ℕ, List, [], Option}
use Rattle.std.specs.List.{AllZip}
use Rattle.std.specs.Option.{option_and_then, option_map_or}
use Rattle.tables.specs.declared.environment.Answer.{Answer}
use Rattle.tables.specs.declared.output_place.OutputPlace.{OutputPlace}
use Rattle.tables.specs.declared.table.Table.{Table}
use Rattle.tables.specs.Environment.{answer_at, answer_of}
use Rattle.plan_rows.specs.Expected.{plain_answer}
use Rattle.plan_rows.specs.ValuedRows.{output_names}

-- the answer at the place is that of the output with this name
abbrev pub IsPlaceOf : List Table → List ℕ → Option OutputPlace → Type 0
IsPlaceOf tables name place = (answers : List (List Answer)) → answer_of tables answers name ≡ option_and_then (answer_at answers) place

-- these are the places of the outputs, in the order of the plan
abbrev pub ArePlaces : List Table → List (Option OutputPlace) → Type 0
ArePlaces tables places = AllZip (IsPlaceOf tables) (output_names tables) places

-- the text of the answer at a place; empty if there is none
abbrev pub placed_text : List (List Answer) → Option OutputPlace → List ℕ
placed_text answers place = option_map_or plain_answer (option_and_then (answer_at answers) place) []
