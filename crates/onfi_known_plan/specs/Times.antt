-- From when on the LUNs of a problem may go on.
use Rattle.std.specs.Prelude.{◌≡◌, ℕ, ◌<◌, List, length, slice_index}
use Rattle.onfi_problem.specs.Problem.{Problem}
use Rattle.onfi_problem.specs.Moves.{may_go}

-- for each LUN from when on it may go on
abbrev pub AreTimes : Problem → List ℕ → Type 0
AreTimes p times = (lun : ℕ) → lun < length p.luns → slice_index times lun ≡ may_go p lun
