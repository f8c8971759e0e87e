use Rattle.std.proofs.Common.{◌≡◌, map, take}
use Rattle.onfi_script.specs.Setup.{asked}
use Rattle.onfi_script.proofs.sectors.ask_sectors.Given as goal

abbrev pub invariant-loop-want : goal.invariant-loop-want
invariant-loop-want l = l.asked.items ≡ map (asked l.rows) (take l.want-index l.wants)
