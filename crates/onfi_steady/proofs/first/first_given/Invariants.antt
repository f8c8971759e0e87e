use Rattle.std.proofs.Common.{◌≡◌, ◌≤◌, length}
use Rattle.std.specs.Prelude.{IfSome}
use Rattle.std.specs.List.{AllByRecursion as Each}
use Rattle.onfi_timing.specs.declared.timing.Timing.{Timing}
use Rattle.onfi_steady.specs.Waiting.{Books, channel}
use Rattle.onfi_steady.specs.Next.{any_work}
use Rattle.onfi_steady.specs.Kept.{IsKeptFrom}
use Rattle.onfi_steady.specs.LunBooks.{states_in}
use Rattle.onfi_steady.specs.Selecting.{AreLuns, IsChoice, IsFirstChoice}
use Rattle.onfi_steady.proofs.first.first_given.Given as goal

abbrev pub invariant-loop-at : goal.invariant-loop-at
invariant-loop-at l = record {
  first : (timing : Timing) (books : Books) → AreLuns timing books l.luns → Each (λ w. w.want.plane ≤ 3) books.waiting → l.newest ≡ books.newest →
      IsKeptFrom (channel timing l.from (states_in l.luns) books) l.kept → l.work ≡ any_work books (channel timing l.from (states_in l.luns) books) →
      IsFirstChoice books (channel timing l.from (states_in l.luns) books) l.luns l.at l.first;
  within : l.at ≤ length l.luns;
  there : IfSome l.first (IsChoice l.luns);
}
