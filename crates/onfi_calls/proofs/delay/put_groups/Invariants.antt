use Rattle.std.proofs.Common.{◌≡◌, ◌++◌, List, length, map, take}
use Rattle.onfi_request.specs.declared.want.Want.{Want}
use Rattle.onfi_calls.specs.declared.schedule.PlainGroup.{PlainGroup}
use Rattle.onfi_calls.specs.Delay.{later_said}
use Rattle.onfi_calls.specs.PlainSchedule.{filled, no_group}
use Rattle.onfi_calls.proofs.delay.put_groups.Given as goal

abbrev pub invariant-loop-at : goal.invariant-loop-at
invariant-loop-at l = (wants : List Want) (front : List PlainGroup) → length front ≡ l.from → l.initial.all ≡ filled 8 no_group front
    → l.all ≡ filled 8 no_group (front ++ map (later_said l.by wants) (take l.at l.said))
