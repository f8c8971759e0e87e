-- Which groups of the table may be started as things stand.
use Rattle.std.specs.Prelude.{◌≡◌, ℕ, ◌<◌, ◌==◌, if◌then◌else◌, Bool, false, List, [], ◌∷◌, map, slice_range}
use Rattle.std.specs.List.{filter, list_all}
use Rattle.onfi_request.specs.declared.want.Want.{Want}
use Rattle.onfi_group.specs.Group.{on_block}
use Rattle.onfi_problem.specs.declared.moves.Move.{Move as KeptMove}
use Rattle.onfi_problem.specs.Moves.{Move, Start, move_lun}
use Rattle.onfi_problem.specs.Position.{move_of, lun_named}

-- whether it is m that waits first on m's block
abbrev pub waits_first : List Want → Want → Bool
waits_first [] m = false
waits_first (w ∷ wants) m = if on_block m w then w.id == m.id else waits_first wants m

-- whether each member waits first on its block
abbrev pub can_start : List Want → List Want → Bool
can_start wants group = list_all (waits_first wants) group

-- the groups among those from one place to another that may be started, as moves
abbrev pub starts : List Want → List (List Want) → ℕ → ℕ → List Move
starts wants groups from to = map (λ g. Start g) (filter (can_start wants) (slice_range groups from to))

-- a kept move names the LUN of the move that it means
pub record IsNamed (groups : List (List Want)) (m : KeptMove) : Type 0 where
  pub lun : move_lun (move_of groups m) ≡ lun_named m
  pub few : lun_named m < 8
