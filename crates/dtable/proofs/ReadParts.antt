-- The parts of a plan's document: each entry denotes at most one element, and some denote none.
use Rattle.std.proofs.Common.{◌≡◌, ℕ, ◌<◌, ◌≤◌, pos, Bool, true, false, if◌then◌else◌, List, [], length, map, codes, Option, Some, None, Result, Ok, Err, refl, sym, ap, subst, ◌∙◌, arith}
use Rattle.std.specs.Str.{bytes_eq}
use Rattle.std.proofs.lemmas.Bool.{false≢true}
use Rattle.std.proofs.lemmas.Option.{same_Some}
use Rattle.toml.specs.Data.{Data, Items, integer, string, get, as_str}
use Rattle.feel_tests.specs.declared.kind.Kind.{Kind}
use Rattle.feel_tests.specs.declared.kind.Kind.TheVariants as kinds
use Rattle.feel_tests.specs.declared.cell.Cell.{Cell}
use Rattle.feel_tests.specs.declared.value.Value.{Value}
use Rattle.feel_tests.specs.Cell.{SpellsCell, SpellsValue, SpellsOneCell, SpellsOneValue}
use Rattle.tables.specs.declared.hit.Hit.{Hit}
use Rattle.tables.specs.declared.hit.Hit.TheVariants as hits
use Rattle.tables.specs.declared.table.InputData.{InputData}
use Rattle.tables.specs.declared.table.Input.{Input}
use Rattle.tables.specs.declared.table.Origin.{Origin}
use Rattle.tables.specs.declared.table.Output.{Output}
use Rattle.tables.specs.declared.table.Table.{Table}
use Rattle.dtable.specs.Document.{string_at, Optionally}
use Rattle.dtable.specs.NameForm.{has_name_form, is_among, names_taken}
use Rattle.tables.specs.Limits.{name_limit_bytes}
use Rattle.tables.specs.Names.{names_of}
use Rattle.faults.specs.declared.plan_fault.PlanFault.{PlanFault}
use Rattle.tables.specs.Plan.{PlanParts, has_families, is_ranked, read_kind_of}
use Rattle.dtable.specs.Reading.{Reads}
use Rattle.dtable.specs.PlanFile.{IsEntry, is_listed, kind_word, hit_word, IsNamed, IsNewlyNamed, IsOfKind, IsLiteral, IsCellOf, IsCell, IsField, AreFields, IsInput, IsPriority, ArePriorities, IsOutput, IsHit, AreInputs, AreOutputs, IsTable, AreTables, AreNames, AreTablesOf, IsPlanDocument, IsVersionOf}
use Rattle.dtable.specs.Scope.{SeenOutput, seen_of, seen_output, origin_of, kind_at, taken_names}
use Rattle.dtable.proofs.Entries.{Optionally-same, Each-same, EachAfter-same, EachAfter-seen}

-- a word denotes at most one kind, and at most one hit policy
kind_of_word : List ℕ → Kind
kind_of_word word = if bytes_eq word (codes "number") then kinds.Number else if bytes_eq word (codes "text") then kinds.Text else if bytes_eq word (codes "flag") then kinds.Flag else kinds.Day

kind_of_word-word : (k : Kind) → kind_of_word (kind_word k) ≡ k
unfolding kind_of_word
kind_of_word-word kinds.Number = refl
kind_of_word-word kinds.Text = refl
kind_of_word-word kinds.Flag = refl
kind_of_word-word kinds.Day = refl

pub kind_word-same : (k l : Kind) → kind_word k ≡ kind_word l → k ≡ l
kind_word-same k l e = sym (kind_of_word-word k) ∙ ap kind_of_word e ∙ kind_of_word-word l

hit_of_word : List ℕ → Hit
hit_of_word word =
    if bytes_eq word (codes "U") then hits.U else if bytes_eq word (codes "A") then hits.A else if bytes_eq word (codes "P") then hits.P
    else if bytes_eq word (codes "F") then hits.F else if bytes_eq word (codes "O") then hits.O else if bytes_eq word (codes "R") then hits.R
    else if bytes_eq word (codes "C") then hits.C else if bytes_eq word (codes "C+") then hits.Sum else if bytes_eq word (codes "C<") then hits.Min
    else if bytes_eq word (codes "C>") then hits.Max else hits.Count

hit_of_word-word : (h : Hit) → hit_of_word (hit_word h) ≡ h
unfolding hit_of_word
hit_of_word-word hits.U = refl
hit_of_word-word hits.A = refl
hit_of_word-word hits.P = refl
hit_of_word-word hits.F = refl
hit_of_word-word hits.O = refl
hit_of_word-word hits.R = refl
hit_of_word-word hits.C = refl
hit_of_word-word hits.Sum = refl
hit_of_word-word hits.Min = refl
hit_of_word-word hits.Max = refl
hit_of_word-word hits.Count = refl

pub hit_word-same : (g h : Hit) → hit_word g ≡ hit_word h → g ≡ h
hit_word-same g h e = sym (hit_of_word-word g) ∙ ap hit_of_word e ∙ hit_of_word-word h

same_string : (a b : List ℕ) (d : Data) → d ≡ string a → d ≡ string b → a ≡ b
same_string a b d h k = cc

pub IsHit-same : (o : Option Data) (g h : Hit) → IsHit o g → IsHit o h → g ≡ h
IsHit-same None g h a b = a ∙ sym b
IsHit-same (Some d) g h a b = hit_word-same g h (same_string (hit_word g) (hit_word h) d a b)

-- an entry has at most one name and at most one kind
pub IsNamed-same : (entry : Data) (a b : List ℕ) → IsNamed entry a → IsNamed entry b → a ≡ b
IsNamed-same entry a b h k = same_Some a b (sym h.written ∙ k.written)

pub IsOfKind-same : (entry : Data) (k l : Kind) → IsOfKind entry k → IsOfKind entry l → k ≡ l
IsOfKind-same entry k l a b = kind_word-same k l (same_Some (kind_word k) (kind_word l) (sym a ∙ b))

-- a text that has not the form or the length of a name
pub IsNamed-formless : (entry : Data) (text : List ℕ) → string_at (codes "name") entry ≡ Some text → has_name_form text ≡ false → (name : List ℕ) → ¬ IsNamed entry name
IsNamed-formless entry text read formless name h =
    let same : name ≡ text = same_Some name text (sym h.written ∙ read) in
    false≢true (sym formless ∙ subst (λ n. has_name_form n ≡ true) same h.form)

pub IsNamed-long : (entry : Data) (text : List ℕ) → string_at (codes "name") entry ≡ Some text → name_limit_bytes < length text → (name : List ℕ) → ¬ IsNamed entry name
IsNamed-long entry text read long name h =
    let same : name ≡ text = same_Some name text (sym h.written ∙ read) in
    let short : length text ≤ name_limit_bytes = subst (λ n. length n ≤ name_limit_bytes) same h.short in
    omega (arith, short, long)

-- a name in use is not new
pub IsNewlyNamed-taken : (taken : List (List ℕ)) (entry : Data) (name : List ℕ) → IsNamed entry name → is_among name taken ≡ true → (other : List ℕ) → ¬ IsNewlyNamed taken entry other
IsNewlyNamed-taken taken entry name named among other h =
    let same : other ≡ name = IsNamed-same entry other name h.named named in
    false≢true (sym (rw same at h.new) ∙ among)

-- an entry denotes at most one field
pub IsField-name : (taken : List (List ℕ)) (d : Data) (f g : InputData) → IsField taken d f → IsField taken d g → f.name ≡ g.name
IsField-name taken d f g h k = IsNamed-same d f.name g.name h.name.named k.name.named

pub IsField-same : (taken : List (List ℕ)) (d : Data) (f g : InputData) → IsField taken d f → IsField taken d g → f ≡ g
IsField-same taken d f g h k =
    let made : List ℕ → Kind → InputData = λ n j. record { name = n; kind = j } in
    ap (λ n. made n f.kind) (IsField-name taken d f g h k) ∙ ap (made g.name) (IsOfKind-same d f.kind g.kind h.kind k.kind)

pub AreFields-same : (families : Bool) (ds : Items) (fs gs : List InputData) → AreFields families ds fs → AreFields families ds gs → fs ≡ gs
AreFields-same families ds fs gs h k = EachAfter-same (λ f. f.name) IsField IsField-same (names_taken families) ds fs gs h.each k.each

pub AreNames-same : (families : Bool) (document : Data) (ms ns : List InputData) → AreNames families document ms → AreNames families document ns → ms ≡ ns
AreNames-same families document ms ns h k =
    let entries : k.entries ≡ h.entries = same_Some k.entries h.entries (sym k.written ∙ h.written) in
    h.named ∙ ap (names_of families) (AreFields-same families h.entries h.fields k.fields h.spelled (rw entries at k.spelled)) ∙ sym k.named

-- a document has at most one version, and at most one list of names for it
pub version-same : (d : Data) (v w : ℕ) → IsVersionOf d v → IsVersionOf d w → v ≡ w
version-same d v w h k =
    let same : integer (pos v) ≡ integer (pos w) = same_Some (integer (pos v)) (integer (pos w)) (sym h.written ∙ k.written) in
    cc

pub names-same : (d : Data) (version : ℕ) (names : List InputData) → IsVersionOf d version → AreNames (has_families version) d names → (p : PlanParts) → IsPlanDocument d p → p.names ≡ names
names-same d version names written known p h =
    let versions : p.version ≡ version = version-same d p.version version h.version written in
    AreNames-same (has_families version) d p.names names (subst (λ v. AreNames (has_families v) d p.names) versions h.names) known

-- literals and cells, if a text denotes at most one
module _ (once : SpellsOneValue) where
  pub IsLiteral-same : (kind : Kind) (d : Data) (a b : Value) → IsLiteral kind d a → IsLiteral kind d b → a ≡ b
  IsLiteral-same kind d a b h k =
      let same : k.text ≡ h.text = same_string k.text h.text d k.written h.written in
      once kind h.text a b h.spelled (rw same at k.spelled)

  pub IsPriority-same : (kind : Kind) (front : List Value) (d : Data) (a b : Value) → IsPriority kind front d a → IsPriority kind front d b → a ≡ b
  IsPriority-same kind front d a b h k = IsLiteral-same kind d a b h.literal k.literal

  pub ArePriorities-same : (kind : Kind) (d : Data) (vs ws : List Value) → ArePriorities kind d vs → ArePriorities kind d ws → vs ≡ ws
  ArePriorities-same kind d vs ws h k =
      let entries : k.entries ≡ h.entries = same_Some k.entries h.entries (sym k.written ∙ h.written) in
      let other = rw entries at k.spelled in
      EachAfter-same (λ v. v) (IsPriority kind) (IsPriority-same kind) [] h.entries vs ws h.spelled.each other.each

  -- an entry denotes at most one output
  pub IsOutput-same : (hit : Hit) (taken : List (List ℕ)) (d : Data) (o p : Output) → IsOutput hit taken d o → IsOutput hit taken d p → o ≡ p
  IsOutput-same hit taken d o p h k =
      let names : o.name ≡ p.name = IsNamed-same d o.name p.name h.name.named k.name.named in
      let kinds : o.kind ≡ p.kind = IsOfKind-same d o.kind p.kind h.kind k.kind in
      let lists : o.priority ≡ p.priority = Optionally-same (ArePriorities p.kind) (ArePriorities-same p.kind) (get (codes "priority") d) o.priority p.priority (rw kinds at h.priority) k.priority in
      let defaults : o.fallback ≡ p.fallback = Optionally-same (IsLiteral (read_kind_of hit p.kind)) (IsLiteral-same (read_kind_of hit p.kind)) (get (codes "default") d) o.fallback p.fallback (rw kinds at h.fallback) k.fallback in
      let made : List ℕ → Kind → Option (List Value) → Option Value → Output = λ n j l f. record { name = n; kind = j; priority = l; fallback = f } in
      ap (λ n. made n o.kind o.priority o.fallback) names ∙ ap (λ j. made p.name j o.priority o.fallback) kinds
      ∙ ap (λ l. made p.name p.kind l o.fallback) lists ∙ ap (made p.name p.kind p.priority) defaults

  pub AreOutputs-same : (hit : Hit) (taken : List (List ℕ)) (d : Data) (os ps : List Output) → AreOutputs hit taken d os → AreOutputs hit taken d ps → os ≡ ps
  AreOutputs-same hit taken d os ps h k =
      let entries : k.entries ≡ h.entries = same_Some k.entries h.entries (sym k.written ∙ h.written) in
      EachAfter-same (λ o. o.name) (IsOutput hit) (IsOutput-same hit) taken h.entries os ps h.each (rw entries at k.each)

  -- the tables that an entry may denote look the same to later tables
  pub IsTable-seen : (names : List InputData) (earlier : List (List SeenOutput)) (d : Data) (t u : Table) → IsTable names earlier d t → IsTable names earlier d u → seen_of t ≡ seen_of u
  IsTable-seen names earlier d t u h k =
      let same_hits : t.hit ≡ u.hit = IsHit-same (get (codes "hit") d) t.hit u.hit h.hit k.hit in
      let outputs : t.outputs ≡ u.outputs = AreOutputs-same u.hit (taken_names names earlier) d t.outputs u.outputs (rw same_hits at h.outputs) k.outputs in
      ap (λ g. map (seen_output g) t.outputs) same_hits ∙ ap (map (seen_output u.hit)) outputs

  pub AreTables-seen : (names : List InputData) (ds : Items) (ts us : List Table) → AreTables names ds ts → AreTables names ds us → map seen_of ts ≡ map seen_of us
  AreTables-seen names ds ts us h k = EachAfter-seen seen_of (IsTable names) (IsTable-seen names) [] ds ts us h.each k.each

  pub AreTablesOf-seen : (names : List InputData) (document : Data) (ts us : List Table) → AreTablesOf names document ts → AreTablesOf names document us → map seen_of ts ≡ map seen_of us
  AreTablesOf-seen names document ts us h k =
      let entries : k.entries ≡ h.entries = same_Some k.entries h.entries (sym k.written ∙ h.written) in
      AreTables-seen names h.entries ts us h.spelled (rw entries at k.spelled)

module _ (once : SpellsOneCell) where
  pub IsCellOf-same : (kind : Kind) (d : Data) (a b : Cell) → IsCellOf kind d a → IsCellOf kind d b → a ≡ b
  IsCellOf-same kind d a b h k =
      let same : k.text ≡ h.text = same_string k.text h.text d k.written h.written in
      once kind h.text a b h.spelled (rw same at k.spelled)

  pub IsCell-same : (names : List InputData) (earlier : List (List SeenOutput)) (origin : Origin) (d : Data) (a b : Cell) → IsCell names earlier origin d a → IsCell names earlier origin d b → a ≡ b
  IsCell-same names earlier origin d a b h k =
      let same : k.kind ≡ h.kind = same_Some k.kind h.kind (sym k.known ∙ h.known) in
      IsCellOf-same h.kind d a b h.spelled (rw same at k.spelled)

  -- an entry denotes at most one input
  pub IsInput-same : (names : List InputData) (earlier : List (List SeenOutput)) (d : Data) (i j : Input) → IsInput names earlier d i → IsInput names earlier d j → i ≡ j
  IsInput-same names earlier d i j h k =
      let same_names : i.name ≡ j.name = IsNamed-same d i.name j.name h.name k.name in
      let origins : i.origin ≡ j.origin = same_Some i.origin j.origin (sym h.known ∙ ap (origin_of names earlier) same_names ∙ k.known) in
      let cells : i.values ≡ j.values = Optionally-same (IsCell names earlier j.origin) (IsCell-same names earlier j.origin) (get (codes "values") d) i.values j.values (rw origins at h.values) k.values in
      let made : List ℕ → Origin → Option Cell → Input = λ n o v. record { name = n; origin = o; values = v } in
      ap (λ n. made n i.origin i.values) same_names ∙ ap (λ o. made j.name o i.values) origins ∙ ap (made j.name j.origin) cells

  pub AreInputs-same : (names : List InputData) (earlier : List (List SeenOutput)) (d : Data) (is js : List Input) → AreInputs names earlier d is → AreInputs names earlier d js → is ≡ js
  AreInputs-same names earlier d is js h k =
      let entries : k.entries ≡ h.entries = same_Some k.entries h.entries (sym k.written ∙ h.written) in
      Each-same (IsInput names earlier) (IsInput-same names earlier) h.entries is js h.each (rw entries at k.each)

-- a result for one property, turned into a result for another
pub Reads-as : {A : Type 0} (P Q : A → Type 0) (r : Result A PlanFault) → ((x : A) → P x → Q x) → ((x : A) → Q x → P x) → Reads P r → Reads Q r
Reads-as P Q (Ok x) to from h = to x h
Reads-as P Q (Err fault) to from h = λ memory x q. h memory x (from x q)

-- a string that does not denote a literal
pub IsLiteral-refused : (kind : Kind) (d : Data) (text : List ℕ) → as_str d ≡ Some text → ((v : Value) → ¬ SpellsValue kind text v) → (v : Value) → ¬ IsLiteral kind d v
IsLiteral-refused kind d text read none v h =
    let same : h.text ≡ text = same_Some h.text text (sym (ap as_str h.written) ∙ read) in
    none v (rw same at h.spelled)

-- a string that does not denote a cell
pub IsCellOf-refused : (kind : Kind) (d : Data) (text : List ℕ) → as_str d ≡ Some text → ((cell : Cell) → ¬ SpellsCell kind text cell) → (cell : Cell) → ¬ IsCellOf kind d cell
IsCellOf-refused kind d text read none cell h =
    let same : h.text ≡ text = same_Some h.text text (sym (ap as_str h.written) ∙ read) in
    none cell (rw same at h.spelled)

-- a cell of the kind of its origin
pub IsCell-made : (names : List InputData) (earlier : List (List SeenOutput)) (origin : Origin) (kind : Kind) → kind_at names earlier origin ≡ Some kind → (d : Data) (cell : Cell) → IsCellOf kind d cell → IsCell names earlier origin d cell
IsCell-made names earlier origin kind known d cell h = record { kind = kind; known = known; spelled = h }

pub IsCell-kind : (names : List InputData) (earlier : List (List SeenOutput)) (origin : Origin) (kind : Kind) → kind_at names earlier origin ≡ Some kind → (d : Data) (cell : Cell) → IsCell names earlier origin d cell → IsCellOf kind d cell
IsCell-kind names earlier origin kind known d cell h =
    let same : h.kind ≡ kind = same_Some h.kind kind (sym h.known ∙ known) in
    rw same at h.spelled

-- an entry whose name is unknown, or whose allowed values are not a cell
pub IsInput-unknown : (names : List InputData) (earlier : List (List SeenOutput)) (d : Data) (name : List ℕ) → IsNamed d name → origin_of names earlier name ≡ None → (i : Input) → ¬ IsInput names earlier d i
IsInput-unknown names earlier d name named unknown i h =
    let same : i.name ≡ name = IsNamed-same d i.name name h.name named in
    let known = rw same at h.known in
    let clash : None ≡ Some i.origin = sym unknown ∙ known in
    cc

pub IsInput-no_values : (names : List InputData) (earlier : List (List SeenOutput)) (d : Data) (name : List ℕ) (origin : Origin) → IsNamed d name → origin_of names earlier name ≡ Some origin
    → ((v : Option Cell) → ¬ Optionally (IsCell names earlier origin) (get (codes "values") d) v) → (i : Input) → ¬ IsInput names earlier d i
IsInput-no_values names earlier d name origin named known none i h =
    let same : i.name ≡ name = IsNamed-same d i.name name h.name named in
    let origins : i.origin ≡ origin = same_Some i.origin origin (sym (rw same at h.known) ∙ known) in
    none i.values (rw origins at h.values)

-- an entry whose priority list or default is wrong
pub IsOutput-no_priority : (hit : Hit) (taken : List (List ℕ)) (d : Data) (kind : Kind) → IsOfKind d kind → ((l : Option (List Value)) → ¬ Optionally (ArePriorities kind) (get (codes "priority") d) l) → (o : Output) → ¬ IsOutput hit taken d o
IsOutput-no_priority hit taken d kind known none o h =
    let same : o.kind ≡ kind = IsOfKind-same d o.kind kind h.kind known in
    none o.priority (rw same at h.priority)

pub IsOutput-no_fallback : (hit : Hit) (taken : List (List ℕ)) (d : Data) (kind : Kind) → IsOfKind d kind → ((f : Option Value) → ¬ Optionally (IsLiteral (read_kind_of hit kind)) (get (codes "default") d) f) → (o : Output) → ¬ IsOutput hit taken d o
IsOutput-no_fallback hit taken d kind known none o h =
    let same : o.kind ≡ kind = IsOfKind-same d o.kind kind h.kind known in
    none o.fallback (rw same at h.fallback)

-- a value that is in the list already, or is missing from the priority list
pub IsPriority-listed : SpellsOneValue → (kind : Kind) (front : List Value) (d : Data) (v : Value) → IsLiteral kind d v → is_listed front v ≡ true → (w : Value) → ¬ IsPriority kind front d w
IsPriority-listed once kind front d v literal listed w h =
    let same : w ≡ v = IsLiteral-same once kind d w v h.literal literal in
    false≢true (sym (rw same at h.new) ∙ listed)

pub IsEntry-unlisted : SpellsOneValue → (o : Output) (d : Data) (v : Value) → IsLiteral o.kind d v → is_ranked o.priority v ≡ false → (w : Value) → ¬ IsEntry o d w
IsEntry-unlisted once o d v literal unlisted w h =
    let same : w ≡ v = IsLiteral-same once o.kind d w v h.literal literal in
    let listed : is_ranked o.priority v ≡ true = rw same at h.listed in
    false≢true (sym unlisted ∙ listed)
