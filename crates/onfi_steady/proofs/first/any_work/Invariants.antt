use Rattle.std.proofs.Common.{◌≡◌, drop}
use Rattle.onfi_timing.specs.declared.timing.Timing.{Timing}
use Rattle.onfi_steady.specs.Waiting.{Books, channel}
use Rattle.onfi_steady.specs.Next.{any_work, have_work}
use Rattle.onfi_steady.specs.LunBooks.{states_in}
use Rattle.onfi_steady.specs.Selecting.{AreLuns}
use Rattle.onfi_steady.proofs.first.any_work.Given as goal

abbrev pub invariant-loop-at : goal.invariant-loop-at
invariant-loop-at l = (timing : Timing) (books : Books) → AreLuns timing books l.luns → l.array ≡ timing.program.array →
    have_work books (channel timing l.from (states_in l.luns) books) l.at (drop l.at (states_in l.luns)) ≡ any_work books (channel timing l.from (states_in l.luns) books)
