use Rattle.std.proofs.Common.{◌≡◌, drop}
use Rattle.std.specs.List.{filter}
use Rattle.onfi_group.specs.Group.{on_block}
use Rattle.onfi_flight.proofs.startable.is_first.Given as goal

abbrev pub invariant-loop-want : goal.invariant-loop-want
invariant-loop-want l = filter (on_block l.member) (drop l.want-index l.wants) ≡ filter (on_block l.member) l.wants
