-- Of what a new timing states for reads of some sectors: nothing.
use Rattle.std.proofs.Common.{◌≡◌, ℕ, zero, suc, List, [], ◌∷◌, Option, Some, None, slice_get}
use Rattle.onfi_timing.specs.declared.spans.Spans.{Spans}
use Rattle.onfi_timing.specs.Sectors.{IsAlike, AreAlike}

abbrev pub AllNone : List (Option Spans) → Type 0
AllNone [] = Unit {0}
AllNone (None ∷ more) = AllNone more
AllNone (Some s ∷ more) = ⊥

pub none_alike : (page : Spans) (sectors : List (Option Spans)) → AllNone sectors → (i : ℕ) (spans : Spans) → slice_get sectors i ≡ Some (Some spans) → IsAlike page spans
none_alike page [] h i spans e = absurd cc
none_alike page (None ∷ more) h zero spans e = absurd cc
none_alike page (None ∷ more) h (suc i) spans e = none_alike page more h i spans e
none_alike page (Some s ∷ more) h i spans e = absurd h

abbrev pub nones : List (Option Spans)
nones = None ∷ None ∷ None ∷ None ∷ None ∷ None ∷ None ∷ []

pub new_alike : (page : Spans) → AreAlike page nones
new_alike page = none_alike page nones tt
