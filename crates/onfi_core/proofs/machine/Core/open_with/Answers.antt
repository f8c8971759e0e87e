use Rattle.std.proofs.Common.{arith}
use Rattle.onfi_core.specs.Steps.{IsPromised}
use Rattle.onfi_core.proofs.Cores.{channels_opened}
use Rattle.onfi_core.proofs.machine.Core.open_with.Goals as goal

pub invariant_of-result : goal.invariant_of-result
invariant_of-result g c = channels_opened g.C.Chip.state (IsPromised g.P.Planner.exact g.P.Planner.certifies) c.args.setup c.args.chips.items c.in-Ok.channels.items c.in-Ok.ensures (omega (arith, c.if-len-from.false, c.len.ensures, c.from.ensures, c.args.chips.ok.0))
