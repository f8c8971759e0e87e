use Rattle.std.proofs.Common.{◌≡◌, ◌≤◌, List, length, rules, sym, ap, subst, arith}
use Rattle.std.proofs.lemmas.List.{length-take}
use Rattle.onfi_audit.specs.Audit.{resuming}
use Rattle.onfi_audit.specs.declared.stage.LunStage.{LunStage}
use Rattle.onfi_calls.specs.Audit.{IsAuditSaid}
use Rattle.onfi_calls.specs.Problem.{luns_of}
use Rattle.onfi_calls.proofs.Audits.{stages_front}
use Rattle.onfi_calls.proofs.audit.audit_of.Goals as goal

pub returns-clause-said : goal.returns-clause-said
returns-clause-said c =
    let s = c.args.said.now in
    let channel = s.channel in
    let all : length s.stage ≡ 8 = search rules in
    let few = c.in-Ok.ensures.said.few in
    let taken = length-take channel.lun_count channel.lun in
    let low : length (luns_of channel) ≤ length s.stage = omega (arith, all, few, taken) in
    subst (IsAuditSaid s) (sym c.resume.ensures) (record {
      said = c.in-Ok.ensures.said;
      timing = c.in-Ok.ensures.timing;
      rules = c.rules.ensures;
      is = ap (λ (xs : List LunStage). resuming c.in-Ok.timing c.rules.result channel.bus_free xs s.accepted)
          (stages_front channel.rules.plane_bits (luns_of channel) s.stage c.stages_of-stages.result low c.stages_of-stages.ensures);
    })
