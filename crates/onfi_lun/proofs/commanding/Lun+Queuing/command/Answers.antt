use Rattle.std.proofs.Common.{◌+◌, ap, subst, ◌∙◌}
use Rattle.onfi_timing.specs.Kinds.{spans_of}
use Rattle.onfi_chip.specs.Hold.{hold}
use Rattle.onfi_chip.specs.Chip.Lun.{Commanding}
use Rattle.onfi_lun.specs.Phases.{IsMade}
use Rattle.onfi_lun.specs.declared.states.Queuing.{Queuing}
use Rattle.onfi_lun.proofs.Phases.{command_made}
use Rattle.onfi_lun.proofs.commanding.Lun+Queuing.command.Goals as goal

pub returns-in-Ok-clause-commanded : goal.returns-in-Ok-clause-commanded
returns-in-Ok-clause-commanded g c =
    let q = c.requires.queuing.1 in
    let made = subst (λ n. IsMade c.args.closer n (c.state.result.now.commands + 1) c.in-Ok.ready c.make_commanded.result) c.number.ensures c.make_commanded.ensures in
    command_made c.args.closer c.args.target.now (g.C.Chip.state c.args.chip.now) (g.C.Chip.state c.give.new.chip) c.args.request.now c.args.now c.args.self.number (c.state.result.now.commands + 1) c.in-Ok.ready (Commanding c.requires.queuing.0 c.args.self.state.ready) c.make_commanded.result c.requires.device c.in-Ok.ensures.done c.requires.lun q.there
    (ap (λ (s : Queuing). s.commands + 1) c.state.ensures ∙ ap (λ n. n + 1) q.count) c.in-Ok.ensures.ready made

pub returns-in-Ok-clause-made : goal.returns-in-Ok-clause-made
returns-in-Ok-clause-made g c =
    subst (λ n. IsMade c.args.closer c.args.self.number n (c.args.now + hold c.args.closer (spans_of c.args.target.now.timing c.args.request.now.kind)) c.make_commanded.result) (ap (λ (s : Queuing). s.commands + 1) c.state.ensures)
    (subst (λ t. IsMade c.args.closer c.args.self.number (c.state.result.now.commands + 1) t c.make_commanded.result) c.in-Ok.ensures.ready
    (subst (λ n. IsMade c.args.closer n (c.state.result.now.commands + 1) c.in-Ok.ready c.make_commanded.result) c.number.ensures c.make_commanded.ensures))
