-- The compiled names that tables read, name by name, and the input class, digit by digit.
use Rattle.std.proofs.Common.{◌≡◌, ℕ, zero, suc, ◌+◌, ◌*◌, ◌<◌, ◌≤◌, ◌++◌, Bool, true, false, cond, List, [], ◌∷◌, length, get_or, take, filter, fold, map, Option, Some, refl, ap, sym, ◌∙◌, subst, arith}
use Rattle.std.specs.List.{range_with_len, zip, AllZip}
use Rattle.std.specs.Option.{IfSome}
use Rattle.std.proofs.lemmas.List.{append-nil, get_or_default, length-map, map-append, take_all, take_more}
use Rattle.std.proofs.lemmas.List.Elements.{filter-append}
use Rattle.std.proofs.lemmas.Option.{IfSome_then}
use Rattle.tables.specs.declared.inputs.Slot.{Slot}
use Rattle.tables.specs.Environment.{env}
use Rattle.tables.specs.Inputs.{value_at}
use Rattle.tables.specs.Plan.{PlanParts, IsPlan}
use Rattle.tables.proofs.NeededNames.{within_names}
use Rattle.regions.specs.declared.region.Region.TheVariants.{Other}
use Rattle.cutplan.specs.declared.input_class.CompiledName.{CompiledName}
use Rattle.cutplan.specs.Matching.{has_at, OthersRise}
use Rattle.regions.specs.Values.{is_value}
use Rattle.cutplan.specs.InputClasses.{AreCompiledNames, IsKeptName, IsPlaceIn, IsInputClass, LiesIn, ReadsItsNames, ClassesAnswerAlike, name_kind, name_literals, name_regions, names_read, number_of, with_place}
use Rattle.cutplan.proofs.Alike.{Among}
use Rattle.cutplan.proofs.ColumnWise.{among_contained}
use Rattle.cutplan.proofs.Compiling.{all_long, one_more}
use Rattle.cutplan.proofs.Steps.{range_more}
use Rattle.cutplan.proofs.TextSearch.{others_of}

-- the filtered numbers of a range, extended by one number
filter_more : (q : ℕ → Bool) (n : ℕ) → filter q (range_with_len 0 (n + 1)) ≡ filter q (range_with_len 0 n) ++ cond (q n) (n ∷ []) []
filter_more q n =
    let next : n + 1 ≡ suc n = omega arith in
    let zero_more : 0 + n ≡ n = omega arith in
    ap (λ k. filter q (range_with_len 0 k)) next ∙ ap (filter q) (range_more 0 n) ∙ ap (λ k. filter q (range_with_len 0 n ++ k ∷ [])) zero_more
    ∙ filter-append q (range_with_len 0 n) (n ∷ [])

pub one_kept : (q : ℕ → Bool) (n : ℕ) (ns new : List ℕ) → ns ≡ filter q (range_with_len 0 n) → q n ≡ true → new ≡ ns ++ n ∷ [] → new ≡ filter q (range_with_len 0 (n + 1))
one_kept q n ns new are kept pushed =
    pushed ∙ ap (λ xs. xs ++ n ∷ []) are ∙ sym (filter_more q n ∙ ap (λ b. filter q (range_with_len 0 n) ++ cond b (n ∷ []) []) kept)

pub none_kept : (q : ℕ → Bool) (n : ℕ) (ns : List ℕ) → ns ≡ filter q (range_with_len 0 n) → q n ≡ false → ns ≡ filter q (range_with_len 0 (n + 1))
none_kept q n ns are left =
    are ∙ sym (filter_more q n ∙ ap (λ b. filter q (range_with_len 0 n) ++ cond b (n ∷ []) []) left ∙ append-nil (filter q (range_with_len 0 n)))

-- an element of one list has a related element at the same index of the other list
record Partner {X Y : Type 0} (R : X → Y → Type 0) (xs : List X) (i : ℕ) (y : Y) : Type 0 where
  one : X
  at : (d : X) → get_or xs i d ≡ one
  so : R one y

partner_at : {X Y : Type 0} (R : X → Y → Type 0) (xs : List X) (ys : List Y) (i : ℕ) (y : Y) → AllZip R xs ys → i < length ys → y ≡ get_or ys i y → Partner R xs i y
partner_at R [] [] i y all below is = absurd (omega (arith, below))
partner_at R [] (w ∷ ws) i y all below is = absurd all
partner_at R (z ∷ zs) [] i y all below is = absurd all
partner_at R (z ∷ zs) (w ∷ ws) zero y all below is = record { one = z; at = λ d. refl; so = subst (R z) (sym is) all.0 }
partner_at R (z ∷ zs) (w ∷ ws) (suc i) y all below is =
    let more = partner_at R zs ws i y all.1 (omega (arith, below)) is in
    record { one = more.one; at = more.at; so = more.so }

-- the compiled names, extended by one name
pub one_name : (p : PlanParts) (places : List ℕ) (kept new : List CompiledName) (i : ℕ) (name : CompiledName) → i < length places → AllZip (IsKeptName p) (take i places) kept → IsKeptName p (get_or places i 0) name
    → new ≡ kept ++ name ∷ [] → AllZip (IsKeptName p) (take (i + 1) places) new
one_name p places kept new i name below all here pushed =
    let place = get_or places i 0 in
    one_more (IsKeptName p) places kept new i place name below (get_or_default places i 0 place below) all here pushed

-- the texts that a region of other texts of a name excludes are increasing
pub name_others : (p : PlanParts) (place : ℕ) (name : CompiledName) → IsKeptName p place name → OthersRise name.partition.regions.items
name_others p place name is names has =
    let there = subst (λ rs. Among (Other names) rs) is.partition.regions (among_contained name.partition.regions.items (Other names) has) in
    others_of (name_kind p place) (name_literals p.tables place) names there

pub names_others : (p : PlanParts) (kept : List CompiledName) (i : ℕ) (name : CompiledName) → AreCompiledNames p kept → i < length kept → name ≡ get_or kept i name → OthersRise name.partition.regions.items
names_others p kept i name all below is =
    let partner = partner_at (IsKeptName p) (names_read p) kept i name all below is in
    name_others p partner.one name partner.so

-- the mixed-radix number, extended by one digit
zip_more : (counts places : List ℕ) (count place : ℕ) → length counts ≡ length places → fold with_place 0 (zip (counts ++ count ∷ []) (places ++ place ∷ [])) ≡ with_place (fold with_place 0 (zip counts places)) (count, place)
zip_more counts places count place long = from counts places 0 long where
  from : (counts places : List ℕ) (a : ℕ) → length counts ≡ length places → fold with_place a (zip (counts ++ count ∷ []) (places ++ place ∷ [])) ≡ with_place (fold with_place a (zip counts places)) (count, place)
  from [] [] a long = refl
  from [] (p ∷ ps) a long = absurd (omega (arith, long))
  from (c ∷ cs) [] a long = absurd (omega (arith, long))
  from (c ∷ cs) (p ∷ ps) a long = from cs ps (with_place a (c, p)) (omega (arith, long))

-- the number of regions of each of these names
abbrev counts_of : PlanParts → List ℕ → List ℕ
counts_of p names = map (λ place. length (name_regions p place)) names

-- the number of the input class, computed for the first names
pub record IsInputClassOf (p : PlanParts) (given : List Slot) (i input_class : ℕ) : Type 0 where
  pub places : List ℕ
  pub lie : AllZip (LiesIn p given) (take i (names_read p)) places
  pub number : number_of (counts_of p (take i (names_read p))) places ≡ input_class

pub no_names : (p : PlanParts) (given : List Slot) → IsInputClassOf p given 0 0
no_names p given = record { places = []; lie = tt; number = refl }

lies_in : (p : PlanParts) (given : List Slot) (n : ℕ) (name : CompiledName) (place : ℕ) → IsKeptName p n name → IsPlaceIn name given place → LiesIn p given n place
lies_in p given n name place is at = record {
  value = at.value;
  is = subst (λ k. value_at given k ≡ Some at.value) is.at at.is;
  of_kind = subst (λ kind. is_value kind at.value ≡ true) is.partition.kind at.lies.of_kind;
  inside = subst (λ rs. has_at rs place at.value ≡ true) is.partition.regions at.lies.inside;
}

-- the number, extended by one name
pub more_names : (p : PlanParts) (given : List Slot) (kept : List CompiledName) (i input_class place next : ℕ) (name : CompiledName) → AreCompiledNames p kept → i < length kept → name ≡ get_or kept i name
    → IsInputClassOf p given i input_class → IsPlaceIn name given place → next ≡ with_place input_class (length name.partition.regions.items, place) → IsInputClassOf p given (i + 1) next
more_names p given kept i input_class place next name all below is so_far at stepped =
    let names = names_read p in
    let partner = partner_at (IsKeptName p) names kept i name all below is in
    let n = partner.one in
    let within : i < length names = subst (λ l. i < l) (sym (all_long (IsKeptName p) names kept all)) below in
    let places = so_far.places in
    let lie = one_more (LiesIn p given) names places (places ++ place ∷ []) i n place within (sym (partner.at n)) so_far.lie (lies_in p given n name place partner.so at) refl in
    let front : take (i + 1) names ≡ take i names ++ n ∷ [] = take_more names i n within ∙ ap (λ x. take i names ++ x ∷ []) (partner.at n) in
    let counts = counts_of p (take i names) in
    let long : length counts ≡ length places = length-map (take i names) (λ place. length (name_regions p place)) ∙ all_long (LiesIn p given) (take i names) places so_far.lie in
    let count : length name.partition.regions.items ≡ length (name_regions p n) = ap length partner.so.partition.regions in
    let split : counts_of p (take (i + 1) names) ≡ counts ++ length (name_regions p n) ∷ [] = ap (counts_of p) front ∙ map-append (λ place. length (name_regions p place)) (take i names) (n ∷ []) in
    record {
      places = places ++ place ∷ [];
      lie = lie;
      number = ap (λ cs. number_of cs (places ++ place ∷ [])) split ∙ zip_more counts places (length (name_regions p n)) place long
          ∙ ap (λ number. number * length (name_regions p n) + place) so_far.number ∙ ap (λ c. input_class * c + place) (sym count) ∙ sym stepped;
    }

-- the number for all names
pub all_names : (p : PlanParts) (given : List Slot) (kept : List CompiledName) (i input_class : ℕ) → AreCompiledNames p kept → length kept ≤ i → IsInputClassOf p given i input_class → IsInputClass p given input_class
all_names p given kept i input_class all last so_far =
    let names = names_read p in
    let long = all_long (IsKeptName p) names kept all in
    let whole : take i names ≡ names = take_all i names (omega (arith, long, last)) in
    record {
      places = so_far.places;
      lie = subst (λ ns. AllZip (LiesIn p given) ns so_far.places) whole so_far.lie;
      number = ap (λ ns. number_of (counts_of p ns) so_far.places) (sym whole) ∙ so_far.number;
    }

-- the tables of a plan read only names that exist
pub reads_its_names : (p : PlanParts) → IsPlan p → ReadsItsNames p
reads_its_names p plan place needed = within_names p place plan needed

-- all inputs in the class of the given inputs have the same value
pub alike_in : (p q : PlanParts) (given : List Slot) (input_class : Option ℕ) → ClassesAnswerAlike → p ≡ q → ReadsItsNames p → IfSome input_class (IsInputClass p given) → IfSome input_class (λ z. (other : List Slot) → IsInputClass q other z → env q other ≡ env q given)
alike_in p q given input_class law same within found =
    subst (λ r. IfSome input_class (λ z. (other : List Slot) → IsInputClass r other z → env r other ≡ env r given)) same
    (IfSome_then input_class found (λ z here other there. law p other given z within there here))
