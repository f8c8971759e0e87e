use Rattle.std.proofs.Common.{◌≡◌, ◌+◌, ◌^◌, ◌<◌, map, drop}
use Rattle.std.specs.Prelude.{IfSome}
use Rattle.onfi_timing.specs.Kinds.{spans_of}
use Rattle.onfi_bound.specs.Bounds.{earlier, least}
use Rattle.onfi_demand.proofs.lead.first_command.Given as goal

abbrev pub invariant-loop-want : goal.invariant-loop-want
invariant-loop-want l = record {
  value : earlier l.first (least (map (λ w. (spans_of l.timing w.kind).cmd + (spans_of l.timing w.kind).array) (drop l.want-index l.wants))) ≡ least (map (λ w. (spans_of l.timing w.kind).cmd + (spans_of l.timing w.kind).array) l.wants);
  short : IfSome l.first (λ rest. rest < 2 ^ 51);
}
