-- The result of reading a record's columns, with one more column.
use Rattle.std.proofs.Common.{◌≡◌, ◌<◌, ◌≤◌, ◌+◌, inl, inr, List, [], ◌∷◌, ◌++◌, Option, Some, None, sym, arith}
use Rattle.std.specs.List.{All}
use Rattle.std.proofs.lemmas.List.Elements.{All-push, All-weaker}
use Rattle.std.proofs.lemmas.List.Quantifiers.{Any-push}
use Rattle.feel_tests.specs.declared.value.Value.{Value}
use Rattle.intake_csv.specs.Records.{Fields}
use Rattle.intake_csv.specs.Rows.{HoldsUnder, IsFaultyUnder, IsFaultlessUnder, IsFirstFault}
use Rattle.intake_csv.specs.Record.{IsLeftmost, SoFar}
use Rattle.intake_csv.specs.declared.column.Column.{Column}
use Rattle.faults.specs.declared.file_fault.RowFault.{RowFault}
use Rattle.intake_csv.proofs.Lists.{AllZip-grow, any-more}

module _ (fields : Fields) where
  -- the fault is that of a column
  abbrev pub IsOf : RowFault → Column → Type 0
  IsOf fault c = (c.place + 1 ≡ fault.column) × IsFaultyUnder fields fault.cause c

  -- the column has no fault if it is to the left of the fault
  abbrev pub IsLeftFaultless : RowFault → Column → Type 0
  IsLeftFaultless fault c = c.place + 1 < fault.column → IsFaultlessUnder fields c

  -- the case that one more column has a value
  pub read-value : (front : List Column) (c : Column) (values : List Value) (value : Value) (first : Option RowFault) → SoFar fields front values first
      → HoldsUnder fields c value → IsFaultlessUnder fields c → SoFar fields (front ++ c ∷ []) (values ++ value ∷ []) first
  read-value front c values value None h holds none =
      (AllZip-grow (HoldsUnder fields) front values c value h.0 holds, All-push (IsFaultlessUnder fields) front c h.1 none)
  read-value front c values value (Some fault) h holds none = record {
    faulty = any-more (IsOf fault) front c h.faulty;
    first = All-push (IsLeftFaultless fault) front c h.first (λ left. none);
  }

  -- the case that one more column has the only fault so far
  first-fault : (front : List Column) (c : Column) (fault : RowFault) → All (IsLeftFaultless fault) front → fault.column ≡ c.place + 1
      → IsFaultyUnder fields fault.cause c → IsFirstFault fields (front ++ c ∷ []) fault
  first-fault front c fault left column faulty = record {
    faulty = Any-push (IsOf fault) front c (sym column, faulty);
    first = All-push (IsLeftFaultless fault) front c left (λ before. absurd (omega (arith, before, column)));
  }

  -- an earlier fault further to the left stays the first
  fault-stays : (front : List Column) (c : Column) (first fault : RowFault) → IsFirstFault fields front first → fault.column ≡ c.place + 1
      → first.column ≤ fault.column → IsFirstFault fields (front ++ c ∷ []) first
  fault-stays front c first fault h column le = record {
    faulty = any-more (IsOf first) front c h.faulty;
    first = All-push (IsLeftFaultless first) front c h.first (λ before. absurd (omega (arith, before, column, le)));
  }

  -- the case that one more column has a fault
  pub read-fault : (front : List Column) (c : Column) (values : List Value) (first : Option RowFault) (fault least : RowFault) → SoFar fields front values first
      → fault.column ≡ c.place + 1 → IsFaultyUnder fields fault.cause c → IsLeftmost first fault least → IsFirstFault fields (front ++ c ∷ []) least
  read-fault front c values None fault least h column faulty (inl kept) = absurd (cc kept.0)
  read-fault front c values None fault least h column faulty (inr (same, none)) =
      rw same (first-fault front c fault (All-weaker (IsFaultlessUnder fields) (IsLeftFaultless fault) (λ x faultless before. faultless) front h.1) column faulty)
  read-fault front c values (Some first) fault least h column faulty (inl kept) =
      let same : first ≡ least = cc kept.0 in
      rw (← same) (fault-stays front c first fault h column (rw (← same) at kept.1))
  read-fault front c values (Some first) fault least h column faulty (inr (same, before)) =
      rw same (first-fault front c fault (All-weaker (IsLeftFaultless first) (IsLeftFaultless fault) (λ x faultless left. faultless (omega (arith, left, before))) front h.first) column faulty)
