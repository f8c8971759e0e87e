-- The words in which a problem is tested and its times are summed up.
use Rattle.std.specs.Prelude.{ℕ, ◌+◌, List, [], ◌∷◌}
use Rattle.onfi_group.specs.declared.rules.Rules.{Rules}
use Rattle.onfi_problem.specs.declared.lun_state.LunState.{LunState}
use Rattle.onfi_problem.specs.declared.lun_state.LunState.TheVariants.{Free, Running}
use Rattle.onfi_problem.specs.Problem.{IsRunning}

-- a LUN is free, or runs a group of its own
abbrev pub IsLun : Rules → ℕ → LunState → Type 0
IsLun rules at (Free since) = Unit {0}
IsLun rules at (Running group next ready) = IsRunning rules at group next

-- each from that number on
abbrev pub AreLuns : Rules → ℕ → List LunState → Type 0
AreLuns rules at [] = Unit {0}
AreLuns rules at (x ∷ luns) = IsLun rules at x × AreLuns rules (at + 1) luns

-- from when on a LUN may go on
abbrev pub time_of : LunState → ℕ
time_of (Free since) = since
time_of (Running group next ready) = ready
