use Rattle.std.proofs.Common.{◌≢◌, take}
use Rattle.std.specs.List.{AllByRecursion as All}
use Rattle.onfi_known_check.proofs.standing.goes_round.Given as goal

abbrev pub invariant-loop-y : goal.invariant-loop-y
invariant-loop-y l = record {
  unasked : All (λ g. g.lun ≢ l.own) (take l.y-index l.given);
  stays : All (λ g. g.own ≢ l.lun) (take l.y-index l.given);
}
