-- The text of a reason in reports and messages, such as `outside:2:1`, `norule:3` or `term:4`.
use Rattle.std.specs.Prelude.{ℕ, ◌++◌, List, codes, decimal, Option, Some, None}
use Rattle.std.specs.Option.{option_map_or}
use Rattle.faults.specs.Role.{number_of}
use Rattle.faults.specs.declared.reason.Reason.{Reason}
use Rattle.faults.specs.declared.reason.Reason.TheVariants.{Outside, NoRule, Clash, Range, Term}

-- a word, a colon and a number
abbrev pub numbered : List ℕ → ℕ → List ℕ
numbered word number = word ++ (codes ":" ++ decimal number)

-- the word for the kind of the reason
abbrev pub word_of : Reason → List ℕ
word_of (Outside table column) = codes "outside"
word_of (NoRule table) = codes "norule"
word_of (Clash table) = codes "clash"
word_of (Range table) = codes "range"
word_of (Term role) = codes "term"

-- the number of the table or of the role
abbrev pub place_of : Reason → ℕ
place_of (Outside table column) = table
place_of (NoRule table) = table
place_of (Clash table) = table
place_of (Range table) = table
place_of (Term role) = number_of role

-- the number of the column, if the reason is in a column
abbrev pub column_of : Reason → Option ℕ
column_of (Outside table column) = Some column
column_of _ = None

-- the word and the number of the table or of the role, then the number of the column, if any
abbrev pub reason_text : Reason → List ℕ
reason_text reason =
    let placed = numbered (word_of reason) (place_of reason) in
    option_map_or (numbered placed) (column_of reason) placed
