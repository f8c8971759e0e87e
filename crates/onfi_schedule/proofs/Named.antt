-- A LUN that runs a group names one that is there.
use Rattle.std.proofs.Common.{◌≡◌, ℕ, suc, ◌≤◌, List, [], ◌∷◌, length, Some, slice_index_or, ap, arith}
use Rattle.std.specs.Prelude.{slice_get}
use Rattle.std.specs.List.{AllByRecursion as All}
use Rattle.std.proofs.lemmas.Bool.Decides.{nat_tests}
use Rattle.onfi_request.specs.declared.want.Want.{Want}
use Rattle.onfi_problem.specs.declared.lun_state.LunState.{LunState}
use Rattle.onfi_problem.specs.declared.lun_state.LunState.TheVariants.{Running}
use Rattle.onfi_problem.specs.declared.moves.Lun.{Lun}
use Rattle.onfi_problem.specs.Problem.{Problem, IsProblem}
use Rattle.onfi_problem.specs.Position.{state_of}
use Rattle.onfi_problem.proofs.After.{in_table}
use Rattle.onfi_schedule.specs.Conditions.{Names, states_of}

state_running : (table : List (List Want)) (lun : Lun) → 1 ≤ lun.next → state_of table lun ≡ Running (slice_index_or table lun.place []) lun.next lun.time
state_running table lun h = grind (arith, nat_tests)

named_by : (table : List (List Want)) (luns : List Lun) → ((i : ℕ) (g : List Want) (n r : ℕ) → slice_get (states_of table luns) i ≡ Some (Running g n r) → 1 ≤ length g) → All (Names table) luns
named_by table [] h = tt
named_by table (lun ∷ luns) h = (
  λ k. in_table table lun.place (h 0 _ _ _ (ap (λ (s : LunState). Some s) (state_running table lun k))),
  named_by table luns (λ i. h (suc i)),
)

pub all_named : (p : Problem) (table : List (List Want)) (luns : List Lun) → IsProblem p → states_of table luns ≡ p.luns → All (Names table) luns
all_named p table luns ip e = named_by table luns (λ i g n r at. (ip.running i g n r (rw (← e) at)).group.some)
