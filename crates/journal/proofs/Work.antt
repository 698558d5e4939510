-- Taken claims stay taken when other claims are taken.
use Rattle.std.proofs.Common.{◌≡◌, ℕ, zero, suc, List, [], ◌∷◌, Some, None, Option, option_map, refl, ap, ◌∙◌}
use Rattle.std.specs.Option.{IfNone, IfSome}
use Rattle.std.proofs.lemmas.Option.{none-some}
use Rattle.journal.specs.Places.{InWork, Phase, Place, Ready, phase_at}
use Rattle.journal.specs.Calls.{IsInWork, IsPicked, with_phase}
use Rattle.journal.specs.declared.ready_claim.ReadyClaim.{ReadyClaim}

phase-same : (places : List Place) (k : ℕ) (old phase : Phase) → phase_at places k ≡ Some old → phase_at (with_phase places k phase) k ≡ Some phase
phase-same [] k old phase there = absurd (none-some old there)
phase-same (p ∷ ps) zero old phase there = refl
phase-same (p ∷ ps) (suc k) old phase there = phase-same ps k old phase there

pub work-stays : (places : List Place) (j k : ℕ) → IsInWork places k → IsInWork (with_phase places j InWork) k
work-stays [] j k work = work
work-stays (p ∷ ps) zero zero work = refl
work-stays (p ∷ ps) zero (suc k) work = work
work-stays (p ∷ ps) (suc j) zero work = work
work-stays (p ∷ ps) (suc j) (suc k) work = work-stays ps j k work

pub taken-work : (old new : List Place) (r : Option ReadyClaim) → IfSome r (IsPicked old) → IfSome r (λ picked. new ≡ with_phase old picked.position InWork)
    → IfSome r (λ picked. IsInWork new picked.position)
taken-work old new None picked taken = tt
taken-work old new (Some picked) is taken = ap (λ xs. phase_at xs picked.position) taken ∙ phase-same old picked.position (Ready picked.claim) InWork
    (ap (option_map (λ (p : Place). p.phase)) is.there ∙ ap Some is.ready)

pub others-work : (old new : List Place) (r : Option ReadyClaim) → IfSome r (λ picked. new ≡ with_phase old picked.position InWork) → IfNone r (new ≡ old)
    → (k : ℕ) → IsInWork old k → IsInWork new k
others-work old new None taken same k work = ap (λ xs. phase_at xs k) same ∙ work
others-work old new (Some picked) taken same k work = ap (λ xs. phase_at xs k) taken ∙ work-stays old picked.position k work
