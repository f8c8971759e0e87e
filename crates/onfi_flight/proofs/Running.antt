-- The group of a LUN that runs is there.
use Rattle.std.proofs.Common.{◌≡◌, ◌≢◌, ℕ, ◌<◌, ◌≤◌, false, List, [], length, map, get_or, Some, sym, ap, ◌∙◌, arith}
use Rattle.std.specs.Prelude.{◌==◌, slice_get, slice_index_or}
use Rattle.std.proofs.lemmas.Bool.Decides.{nat_tests}
use Rattle.onfi_request.specs.declared.want.Want.{Want}
use Rattle.onfi_problem.specs.declared.lun_state.LunState.TheVariants.{Running}
use Rattle.onfi_problem.specs.declared.moves.Lun.{Lun}
use Rattle.onfi_problem.specs.Position.{state_of}
use Rattle.onfi_problem.specs.Problem.{Problem, IsProblem}
use Rattle.onfi_problem.proofs.Lists.{map_get}
use Rattle.onfi_problem.proofs.Places.{get_within}
use Rattle.onfi_flight.proofs.Lists.{index_get}

some_there : (p : Problem) (groups : List (List Want)) (luns : List Lun) (i : ℕ) (x : Lun) → IsProblem p → map (state_of groups) luns ≡ p.luns → slice_get luns i ≡ Some x → x.next ≢ 0
    → 1 ≤ length (slice_index_or groups x.place [])
some_there p groups luns i x problem are there some =
    let is : slice_get p.luns i ≡ Some (state_of groups x) = ap (λ xs. slice_get xs i) (sym are) ∙ map_get (state_of groups) luns i x there in
    let no : (x.next == 0) ≡ false = grind (arith, nat_tests) in
    let runs : slice_get p.luns i ≡ Some (Running (slice_index_or groups x.place []) x.next x.time) = rw no at is in
    (problem.running i _ _ _ runs).group.some

pub runs_some : (p : Problem) (groups : List (List Want)) (luns : List Lun) (i : ℕ) (d : Lun) → IsProblem p → map (state_of groups) luns ≡ p.luns → i < length luns → (get_or luns i d).next ≢ 0
    → 1 ≤ length (slice_index_or groups (get_or luns i d).place [])
runs_some p groups luns i d problem are low =
    let (x, there) = get_within luns i low in
    let e = index_get luns i x d there in
    rw e (some_there p groups luns i x problem are there)
