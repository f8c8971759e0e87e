use Rattle.std.proofs.Common.{◌≡◌, ◌+◌, ◌^◌, ◌<◌, map, drop}
use Rattle.std.specs.Prelude.{IfSome}
use Rattle.onfi_timing.specs.Kinds.{spans_of}
use Rattle.onfi_bound.specs.Bounds.{earlier, on_lun, least}
use Rattle.onfi_bound.proofs.posts.first_command.Given as goal

abbrev pub invariant-loop-want : goal.invariant-loop-want
invariant-loop-want l = record {
  value : earlier l.first (least (map (λ w. (spans_of l.timing w.kind).cmd + (spans_of l.timing w.kind).array) (on_lun l.lun (drop l.want-index l.wants)))) ≡ least (map (λ w. (spans_of l.timing w.kind).cmd + (spans_of l.timing w.kind).array) (on_lun l.lun l.wants));
  short : IfSome l.first (λ rest. rest < 2 ^ 51);
}
