-- What a step of a position names.
use Rattle.std.proofs.Common.{◌≡◌, ℕ, ◌<◌, ◌∙◌, length, get_or, sym, subst, arith, List}
use Rattle.std.specs.List.{AllByRecursion as All}
use Rattle.onfi_problem.specs.Moves.{AreMoves, earliest}
use Rattle.onfi_problem.specs.declared.moves.Move.{Move as KeptMove}
use Rattle.onfi_problem.specs.Position.{Position, lun_named, move_of, moved, moves_of}
use Rattle.onfi_problem.specs.Starts.{IsNamed}
use Rattle.onfi_problem.proofs.Kept.{lun_there, placed_luns}
use Rattle.onfi_problem.proofs.Lists.{all_at}
use Rattle.onfi_planner.proofs.Choosing.{item_move}
use Rattle.onfi_known_plan.specs.Steps.{IsStep}

-- its LUN is there
pub step_there : (x : Position) (m : KeptMove) (lun : ℕ) → IsStep x m → lun ≡ lun_named m → lun < length x.problem.luns
step_there x m lun s e = subst (λ z. z < length x.problem.luns) (s.named.lun ∙ sym e) (lun_there x.problem _ s.move)

-- each listed move is a step
pub step_at : (x : Position) (items listed : List KeptMove) (i : ℕ) (d : KeptMove) → listed ≡ items → AreMoves x.problem (moves_of x.groups items) → All (IsNamed x.groups) items → i < length listed → IsStep x (get_or listed i d)
step_at x items listed i d e are named h =
    let are' = subst (λ z. AreMoves x.problem (moves_of x.groups z)) (sym e) are in
    let named' = subst (All (IsNamed x.groups)) (sym e) named in
    record { move = item_move x.problem x.groups listed i d h are'; named = all_at (IsNamed x.groups) listed i d h named' }

-- .. also after the step
pub there_behind : (x : Position) (m : KeptMove) (lun : ℕ) → IsStep x m → lun ≡ lun_named m → lun < length (moved x m).problem.luns
there_behind x m lun s e =
    let a = step_there x m lun s e in
    let b = placed_luns x.problem (move_of x.groups m) (earliest x.problem (move_of x.groups m)) s.move in
    omega arith
