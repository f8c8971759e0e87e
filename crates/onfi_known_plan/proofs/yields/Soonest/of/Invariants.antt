use Rattle.std.proofs.Common.{◌≡◌, ◌<◌, ◌^◌, length, get_or, Some, None}
use Rattle.onfi_known_plan.proofs.yields.Soonest.of.Given as goal

abbrev pub invariant-loop-lun : goal.invariant-loop-lun
invariant-loop-lun l = record {
  there : l.soonest.lun < length l.problem.problem.luns;
  end : l.soonest.end < 2 ^ 62 → get_or l.ends l.soonest.lun None ≡ Some l.soonest.end;
}
