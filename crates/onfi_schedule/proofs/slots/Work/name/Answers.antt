use Rattle.std.proofs.Common.{sym, arith}
use Rattle.onfi_schedule.specs.Names.{names_of}
use Rattle.onfi_schedule.proofs.Naming.{read_past, names_are}
use Rattle.onfi_schedule.proofs.slots.Work.name.Goals as goal

pub returns-in-None : goal.returns-in-None
returns-in-None c =
    let next = c.args.self.now.next in
    let lun = c.args.self.now.lun in
    let members = c.args.members.now in
    sym (read_past (names_of next lun members) c.args.number _ (omega (arith, names_are next lun members, c.in-None.ensures.lookup, c.saturating_sub-place.ensures)))
