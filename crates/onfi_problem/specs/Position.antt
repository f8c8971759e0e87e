-- A problem as it is kept: beside what is left stand all wants that it began with, and the groups that its moves name.
use Rattle.std.specs.Prelude.{ℕ, ◌==◌, if◌then◌else◌, Bool, List, [], ◌∷◌, map, slice_set, slice_index_or}
use Rattle.onfi_request.specs.declared.want.Want.{Want}
use Rattle.onfi_problem.specs.declared.lun_state.LunState.{LunState}
use Rattle.onfi_problem.specs.declared.lun_state.LunState.TheVariants.{Free, Running}
use Rattle.onfi_problem.specs.declared.moves.Lun.{Lun}
use Rattle.onfi_problem.specs.declared.moves.Move.{Move as KeptMove}
use Rattle.onfi_problem.specs.declared.moves.Move.TheVariants.{Next as KeptNext, Start as KeptStart}
use Rattle.onfi_problem.specs.declared.moves.Undo.{Undo}
use Rattle.onfi_problem.specs.Problem.{Problem}
use Rattle.onfi_problem.specs.Moves.{Move, Next, Start, after}

-- what is left, all wants that it began with, and its groups
pub record Position : Type 0 where
  pub problem : Problem
  pub all : List Want
  pub groups : List (List Want)

-- the LUN that a kept move is of
abbrev pub lun_named : KeptMove → ℕ
lun_named (KeptNext lun) = lun
lun_named (KeptStart lun place) = lun

-- the move that is meant by a kept one: its group stands at that place among the groups
abbrev pub move_of : List (List Want) → KeptMove → Move
move_of groups (KeptNext lun) = Next lun
move_of groups (KeptStart lun place) = Start (slice_index_or groups place [])

abbrev pub moves_of : List (List Want) → List KeptMove → List Move
moves_of groups moves = map (move_of groups) moves

-- the position once a move was made
abbrev pub moved : Position → KeptMove → Position
moved x m = record { problem = after x.problem (move_of x.groups m); all = x.all; groups = x.groups }

-- the wants that are marked as waiting
abbrev pub waiting_of : List Bool → List Want → List Want
waiting_of marks [] = []
waiting_of [] (w ∷ wants) = []
waiting_of (mark ∷ marks) (w ∷ wants) = if mark then w ∷ waiting_of marks wants else waiting_of marks wants

-- what a kept LUN does: with phase 0 next it is free
abbrev pub state_of : List (List Want) → Lun → LunState
state_of groups lun = if lun.next == 0 then Free lun.time else Running (slice_index_or groups lun.place []) lun.next lun.time

-- the position before the move that left this undo
abbrev pub restored : Position → Undo → Position
restored x undo = record {
  problem = record { timing = x.problem.timing; rules = x.problem.rules; bus_free = undo.bus_free; luns = slice_set x.problem.luns undo.lun (state_of x.groups undo.state); wants = waiting_of undo.waiting x.all };
  all = x.all;
  groups = x.groups;
}
