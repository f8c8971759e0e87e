use Rattle.std.proofs.Common.{◌≡◌, map, take}
use Rattle.onfi_problem.specs.Position.{state_of}
use Rattle.onfi_bound.specs.Parts.{chain_of}
use Rattle.onfi_bound.proofs.left.list_chains.Given as goal

abbrev pub invariant-loop-lun : goal.invariant-loop-lun
invariant-loop-lun l = l.chains.items ≡ map (chain_of l.timing) (map (state_of l.groups) (take l.lun-index l.luns))
