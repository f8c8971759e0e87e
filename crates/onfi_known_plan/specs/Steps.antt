-- Moves of a position, as a search names them.
use Rattle.onfi_problem.specs.declared.moves.Move.{Move as KeptMove}
use Rattle.onfi_problem.specs.Moves.{IsMove}
use Rattle.onfi_problem.specs.Position.{Position, move_of}
use Rattle.onfi_problem.specs.Starts.{IsNamed}

-- it is a move of the position, and names its LUN
pub record IsStep (x : Position) (m : KeptMove) : Type 0 where
  pub move : IsMove x.problem (move_of x.groups m)
  pub named : IsNamed x.groups m
