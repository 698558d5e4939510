-- The limits of a plan.
use Rattle.std.specs.Prelude.{ℕ}

-- the greatest length of a plan's text, in bytes
abbrev pub plan_limit_bytes : ℕ
plan_limit_bytes = 1048576

-- the greatest number of fields in a plan
abbrev pub fields_limit : ℕ
fields_limit = 32

-- the greatest number of tables in a plan
abbrev pub tables_limit : ℕ
tables_limit = 32

-- the greatest number of inputs in a table
abbrev pub inputs_limit : ℕ
inputs_limit = 16

-- the greatest number of outputs in a table
abbrev pub outputs_limit : ℕ
outputs_limit = 16

-- the greatest number of rules in a table
abbrev pub rules_limit : ℕ
rules_limit = 256

-- the greatest number of values in a priority list
abbrev pub priority_limit : ℕ
priority_limit = 64

-- the greatest length of a name, in bytes
abbrev pub name_limit_bytes : ℕ
name_limit_bytes = 64
