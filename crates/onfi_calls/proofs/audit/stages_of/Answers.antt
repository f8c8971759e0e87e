use Rattle.std.proofs.Common.{◌≡◌, length, ap, rules, ◌∙◌, arith}
use Rattle.std.proofs.lemmas.List.{take_all}
use Rattle.onfi_audit.specs.declared.stage.LunStage.TheVariants.{Free}
use Rattle.onfi_calls.specs.Audit.{stages_of}
use Rattle.onfi_calls.specs.PlainSchedule.{filled}
use Rattle.onfi_calls.proofs.Audits.{stages_more}
use Rattle.onfi_calls.proofs.audit.stages_of.Goals as goal

pub loop-at-preserved : goal.loop-at-preserved
loop-at-preserved c =
    let low = c.loop-at-test.true in
    let few = c.requires.few in
    let all : length c.args.said.now ≡ 8 = search rules in
    stages_more c.args.plane_bits c.args.luns.now c.args.said.now c.loop-at.at _ _ c.stage_of.result c.loop-at.stages low (omega (arith, low, few, all)) few all c.stage_of.ensures c.loop-at.invariant

pub returns : goal.returns
returns c = c.loop-at.invariant ∙ ap (λ ls. filled 8 (Free 0) (stages_of c.args.plane_bits ls c.args.said.now)) (take_all c.loop-at.at c.args.luns.now c.loop-at-test.false)
