use Rattle.std.proofs.Common.{◌+◌, ◌*◌, ◌^◌, ◌≤◌, drop}
use Rattle.onfi_demand.specs.Look.{Sees}
use Rattle.onfi_demand.specs.Window.{wants_left}
use Rattle.onfi_demand.specs.declared.look.Seen.{Seen}
use Rattle.onfi_demand.proofs.look.Look.see_wants.Given as goal

abbrev pub invariant-loop-want : goal.invariant-loop-want
invariant-loop-want l = record {
  small : l.seen.length ≤ 2 ^ 54 + l.want-index * 2 ^ 51;
  sees : (behind : Seen) → Sees l.self l.seen (wants_left l.timing l.from (drop l.want-index l.wants)) behind → Sees l.self l.fn.seen (wants_left l.timing l.from l.wants) behind;
}
