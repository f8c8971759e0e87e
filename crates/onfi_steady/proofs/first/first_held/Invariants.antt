use Rattle.onfi_timing.specs.declared.timing.Timing.{Timing}
use Rattle.onfi_steady.specs.Waiting.{Books}
use Rattle.onfi_steady.specs.Kept.{NoneBelow}
use Rattle.onfi_steady.specs.LunBooks.{states_in}
use Rattle.onfi_steady.specs.Selecting.{AreLuns}
use Rattle.onfi_steady.proofs.first.first_held.Given as goal

abbrev pub invariant-loop-at : goal.invariant-loop-at
invariant-loop-at l = (timing : Timing) (books : Books) → AreLuns timing books l.luns → NoneBelow books (states_in l.luns) l.at
