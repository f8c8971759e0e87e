use Rattle.std.proofs.Common.{refl, subst}
use Rattle.onfi_chip.specs.Chip.Lun.{Idle}
use Rattle.onfi_lun.specs.Phases.{IsMade}
use Rattle.onfi_lun.proofs.Phases.{command_made}
use Rattle.onfi_lun.proofs.commanding.Lun+Idle.command.Goals as goal

pub returns-in-Ok-clause-commanded : goal.returns-in-Ok-clause-commanded
returns-in-Ok-clause-commanded g c =
    let made = subst (λ n. IsMade c.args.closer n 1 c.in-Ok.ready c.make_commanded.result) c.number.ensures c.make_commanded.ensures in
    command_made c.args.closer c.args.target.now (g.C.Chip.state c.args.chip.now) (g.C.Chip.state c.give.new.chip) c.args.request.now c.args.now c.args.self.number 1 c.in-Ok.ready Idle c.make_commanded.result c.requires.device c.in-Ok.ensures.done c.requires.lun c.requires.idle refl c.in-Ok.ensures.ready made

pub returns-in-Ok-clause-made : goal.returns-in-Ok-clause-made
returns-in-Ok-clause-made g c =
    subst (λ t. IsMade c.args.closer c.args.self.number 1 t c.make_commanded.result) c.in-Ok.ensures.ready
    (subst (λ n. IsMade c.args.closer n 1 c.in-Ok.ready c.make_commanded.result) c.number.ensures c.make_commanded.ensures)
