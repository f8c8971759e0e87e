use Rattle.std.proofs.Common.{take}
use Rattle.std.specs.List.{AllByRecursion as Each}
use Rattle.onfi_request.specs.Range.{Fits}
use Rattle.onfi_channel_tests.proofs.batch.all_fit.Given as goal

abbrev pub invariant-loop-item : goal.invariant-loop-item
invariant-loop-item l = Each (λ x. Fits l.geometry x.request) (take l.item-index l.items)
