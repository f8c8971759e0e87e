use Rattle.std.proofs.Common.{◌≡◌, ◌*◌, ◌-◌, ◌^◌, ◌≤◌}
use Rattle.onfi_demand.specs.Remaining.{lengths_of}
use Rattle.onfi_demand.specs.Look.{nothing_seen, Sees}
use Rattle.onfi_demand.specs.Window.{chain_from, group_left}
use Rattle.onfi_demand.specs.declared.look.Seen.{Seen}
use Rattle.onfi_demand.proofs.look.Look.see_group.Given as goal

abbrev pub invariant-loop-phase : goal.invariant-loop-phase
invariant-loop-phase l = record {
  left : l.left ≡ chain_from (lengths_of l.lengths) l.lengths.members l.phase;
  less : l.left ≤ l.chain;
  from : l.from ≤ l.phase * 2 ^ 51;
  small : l.seen.length ≤ l.phase * 2 ^ 50;
  sees : (behind : Seen) → Sees l.self l.seen (group_left (lengths_of l.lengths) l.lengths.members l.rest (2 * l.lengths.members - l.phase) l.phase l.from) behind → Sees l.self nothing_seen (group_left (lengths_of l.lengths) l.lengths.members l.rest (2 * l.lengths.members - l.fn.next) l.fn.next 0) behind;
}
