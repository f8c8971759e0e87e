use Rattle.std.proofs.Common.{take}
use Rattle.onfi_timing.specs.declared.timing.Timing.{Timing}
use Rattle.onfi_steady.specs.Waiting.{Books, channel}
use Rattle.onfi_steady.specs.Kept.{IsKeptBy}
use Rattle.onfi_steady.specs.LunBooks.{states_in}
use Rattle.onfi_steady.specs.Selecting.{AreLuns}
use Rattle.onfi_steady.proofs.first.kept_from.Given as goal

abbrev pub invariant-loop-at : goal.invariant-loop-at
invariant-loop-at l = (timing : Timing) (books : Books) → AreLuns timing books l.luns → IsKeptBy (channel timing l.from (states_in l.luns) books) (take l.at (states_in l.luns)) l.first
