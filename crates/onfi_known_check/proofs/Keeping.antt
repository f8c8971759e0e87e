-- What is remembered of nodes, as it is read.
use Rattle.std.proofs.Common.{◌≡◌, ℕ, ◌+◌, ◌<◌, List, [], ◌∷◌, ◌++◌, length, map, get_or, take, Some, sym, ap, ◌∙◌}
use Rattle.std.specs.Prelude.{slice_get}
use Rattle.std.specs.Option.{option_map}
use Rattle.std.proofs.lemmas.List.{map-append, take_more}
use Rattle.std.proofs.lemmas.Option.{get_or_from_slice_get}
use Rattle.onfi_problem.specs.declared.lun_state.LunState.{LunState}
use Rattle.onfi_problem.specs.declared.lun_state.LunState.TheVariants.{Free}
use Rattle.onfi_demand.specs.Left.{left_on}
use Rattle.onfi_demand.specs.Work.{left_of}
use Rattle.onfi_demand.specs.declared.left.LunLeft.{LunLeft as KeptLeft}
use Rattle.onfi_demand.proofs.Leading.{some_state}

-- one LUN more
pub left_more : (luns : List LunState) (i : ℕ) (left : KeptLeft) (before now : List KeptLeft) → i < length luns → option_map left_on (slice_get luns i) ≡ Some (left_of left) → map left_of before ≡ map left_on (take i luns) → now ≡ before ++ left ∷ [] → map left_of now ≡ map left_on (take (i + 1) luns)
left_more luns i left before now h l b n =
    let x = some_state (slice_get luns i) (left_of left) l in
    let g = get_or_from_slice_get luns i x.0 (Free 0) x.1 in
    let more = ap (map left_on) (take_more luns i (Free 0) h) ∙ map-append left_on (take i luns) (get_or luns i (Free 0) ∷ []) in
    let one : map left_on (get_or luns i (Free 0) ∷ []) ≡ left_of left ∷ [] = ap (λ z. z ∷ []) (ap left_on g ∙ x.2) in
    ap (map left_of) n ∙ (map-append left_of before (left ∷ []) ∙ (ap (λ z. z ++ left_of left ∷ []) b ∙ sym (more ∙ ap (λ z. map left_on (take i luns) ++ z) one)))
