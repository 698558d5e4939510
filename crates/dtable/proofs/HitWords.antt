-- A hit policy is looked up by its word in a list of all hit policies.
use Rattle.std.proofs.Common.{◌≡◌, ◌≢◌, ℕ, ◌<◌, ◌≤◌, false, List, [], ◌∷◌, get_or, refl, sym, ◌∙◌, arith}
use Rattle.std.specs.Str.{bytes_eq}
use Rattle.std.proofs.lemmas.Bool.{false≢true}
use Rattle.std.proofs.lemmas.Slice.Eq.{bytes_eq-Decides}
use Rattle.tables.specs.declared.hit.Hit.{Hit}
use Rattle.tables.specs.declared.hit.Hit.TheVariants as hits
use Rattle.dtable.specs.PlanFile.{hit_word}
use Rattle.tables.proofs.Searches.{FailsBefore}

abbrev pub all_hits : List Hit
all_hits = hits.U ∷ hits.A ∷ hits.P ∷ hits.F ∷ hits.O ∷ hits.R ∷ hits.C ∷ hits.Sum ∷ hits.Min ∷ hits.Max ∷ hits.Count ∷ []

abbrev place_of : Hit → ℕ
place_of hits.U = 0
place_of hits.A = 1
place_of hits.P = 2
place_of hits.F = 3
place_of hits.O = 4
place_of hits.R = 5
place_of hits.C = 6
place_of hits.Sum = 7
place_of hits.Min = 8
place_of hits.Max = 9
place_of hits.Count = 10

listed : (h : Hit) → (place_of h < 11) × (get_or all_hits (place_of h) h ≡ h)
listed hits.U = (omega arith, refl)
listed hits.A = (omega arith, refl)
listed hits.P = (omega arith, refl)
listed hits.F = (omega arith, refl)
listed hits.O = (omega arith, refl)
listed hits.R = (omega arith, refl)
listed hits.C = (omega arith, refl)
listed hits.Sum = (omega arith, refl)
listed hits.Min = (omega arith, refl)
listed hits.Max = (omega arith, refl)
listed hits.Count = (omega arith, refl)

-- a text that is the word of none of the list is the word of no hit policy
pub unnamed : (word : List ℕ) (i : ℕ) → 11 ≤ i → FailsBefore (λ h. bytes_eq (hit_word h) word) all_hits i → (h : Hit) → word ≢ hit_word h
unnamed word i past before h same =
    let below : place_of h < 11 = (listed h).0 in
    let fails : bytes_eq (hit_word (get_or all_hits (place_of h) h)) word ≡ false = before (place_of h) h (omega (arith, below, past)) in
    let other : bytes_eq (hit_word h) word ≡ false = rw (listed h).1 at fails in
    false≢true (sym other ∙ (bytes_eq-Decides (hit_word h) word).1 (sym same))
