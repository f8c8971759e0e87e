use Rattle.std.proofs.Common.{sym, ap, subst}
use Rattle.onfi_request.specs.declared.request.Request.{Request}
use Rattle.onfi_chip.specs.Calls.{HasDone, IsNextCommand, command_of}
use Rattle.onfi_record.proofs.Coming.{lost_goes, recorded_by, recorded_command}
use Rattle.onfi_record.proofs.recorder.RecorderChip.command.Goals as goal

pub invariant_of-self : goal.invariant_of-self
invariant_of-self g c =
    recorded_by c.self.inside.log (g.C.Chip.state c.self.inside.chip) (g.C.Chip.state c.command.new.self) c.self.invariant (lost_goes c.in_err-command.field-0.0 _ _ c.in_err-command.ensures.err)

pub invariant_of-self-2 : goal.invariant_of-self-2
invariant_of-self-2 g c =
    let is = ap (λ v. g.C.Chip.state v.1) c.self.view_is in
    let next = subst (λ chip. (r : Request) × IsNextCommand chip c.args.now c.args.row c.args.opener c.args.bytes.now r) (sym is) c.requires in
    recorded_command c.self.inside.log c.command-2.new.self (g.C.Chip.state c.self.inside.chip) (g.C.Chip.state c.command.new.self) c.args.now c.args.row c.args.opener c.args.closer
    c.args.bytes.now c.command-2.ensures.same c.self.invariant next c.in_ok-command.ensures.ok c.command-2.ensures.more

pub returns-clause-ok : goal.returns-clause-ok
returns-clause-ok g c =
    let is = ap (λ v. g.C.Chip.state v.1) c.self.view_is in
    subst (λ chip. (r : Request) → IsNextCommand chip c.args.now c.args.row c.args.opener c.args.bytes.now r → HasDone (command_of c.args.closer chip r c.args.now) (g.C.Chip.state c.command.new.self))
    is c.in_ok-command.ensures.ok
