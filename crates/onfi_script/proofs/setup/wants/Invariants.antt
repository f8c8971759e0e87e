use Rattle.std.proofs.Common.{◌≡◌, ◌++◌, length, drop}
use Rattle.onfi_script.specs.Setup.{wants_from}
use Rattle.onfi_script.proofs.setup.wants.Given as goal

-- the wants so far and those of the rows that are left are all
abbrev pub invariant-loop-row : goal.invariant-loop-row
invariant-loop-row l = wants_from l.plane_bits 0 l.rows ≡ l.wants.items ++ wants_from l.plane_bits (length l.wants.items) (drop l.row-index l.rows)
