-- Where a record is refused, as an explanation says it: the column and the field in it, or the numbers of fields.
use Rattle.std.specs.Prelude.{ℕ, ◌+◌, ◌-◌, ◌/◌, ◌%◌, ◌||◌, Bool, true, false, cond, nat_lt, chars, codes, decimal, encode_utf8_all, flat_map, get_or, length, take, List, [], ◌∷◌}
use Rattle.std.specs.Int.{is_in_range}
use Rattle.std.specs.Str.Lossy.{utf8_lossy}
use Rattle.faults.specs.declared.file_fault.RowCause.{RowCause}
use Rattle.faults.specs.declared.file_fault.RowCause.TheVariants.{FieldCount, Utf8, TooLong}
use Rattle.faults.specs.declared.file_fault.RowFault.{RowFault}
use Rattle.intake_csv.specs.Records.{Fields, records_of}
use Rattle.explanation.specs.Facts.{FactParts, fact}

-- the record of a file's text with this number; the header has the number 0
abbrev pub record_at : List ℕ → ℕ → Fields
record_at text number = get_or (records_of text) number []

-- the field of a record in this column, from 1
abbrev pub field_in : Fields → ℕ → List ℕ
field_in fields column = get_or fields (column - 1) []

-- the greatest number of characters that are shown of a text that is too long
abbrev pub shown_characters : ℕ
shown_characters = 64

-- the greatest number of bytes that are shown of a field that is not UTF-8
abbrev pub shown_bytes : ℕ
shown_bytes = 256

-- the first characters of a text, at most this number
abbrev pub first_characters : ℕ → List ℕ → List ℕ
first_characters most text = encode_utf8_all (take most (chars (utf8_lossy text)))

-- printable ASCII other than `\`
abbrev pub is_plain : ℕ → Bool
is_plain byte = is_in_range 0x20 0x5B byte || is_in_range 0x5D 0x7E byte

-- the hexadecimal digit of a number below 16
abbrev pub hex_digit : ℕ → ℕ
hex_digit number = cond (nat_lt number 10) (48 + number) (55 + number)

-- a byte as printable ASCII: a byte that is not plain is `\x` and two hexadecimal digits
abbrev pub escape_of : ℕ → List ℕ
escape_of byte = cond (is_plain byte) (byte ∷ []) (92 ∷ 120 ∷ hex_digit (byte / 16) ∷ hex_digit (byte % 16) ∷ [])

-- the length of a field
abbrev pub length_fact : List ℕ → FactParts
length_fact field = fact (codes "this record") (codes "length of the field in bytes") (decimal (length field))

-- a field with this fault: its text, or its length and its first characters or bytes
abbrev pub field_facts : RowCause → List ℕ → List FactParts
field_facts Utf8 field = length_fact field ∷ fact (codes "this record") (codes "first bytes of the field") (flat_map escape_of (take shown_bytes field)) ∷ []
field_facts TooLong field = length_fact field ∷ fact (codes "this record") (codes "first characters of the field") (first_characters shown_characters field) ∷ []
field_facts _ field = fact (codes "this record") (codes "text of the field") field ∷ []

-- the column of a fault, with its name, and the field in it
abbrev pub column_facts : Fields → Fields → RowFault → List FactParts
column_facts header fields fault =
    fact (codes "this record") (codes "refused in column") (decimal fault.column)
    ∷ fact (codes "this record") (codes "name of the column") (field_in header fault.column)
    ∷ field_facts fault.cause (field_in fields fault.column)

-- the numbers of fields of a record and of the header
abbrev pub count_facts : Fields → Fields → List FactParts
count_facts header fields =
    fact (codes "this record") (codes "number of fields") (decimal (length fields))
    ∷ fact (codes "this record") (codes "number of fields in the header") (decimal (length header))
    ∷ []

-- the cause is the number of fields, which is in no column
abbrev pub is_field_count : RowCause → Bool
is_field_count FieldCount = true
is_field_count _ = false

-- where a record with this header is refused
abbrev pub refusal_facts : Fields → Fields → RowFault → List FactParts
refusal_facts header fields fault = cond (is_field_count fault.cause) (count_facts header fields) (column_facts header fields fault)
