use Rattle.std.proofs.Common.{◌+◌, ◌*◌, [], Some, None, refl, sym, ap, ◌∙◌}
use Rattle.onfi_timing.specs.declared.spans.Spans.{Spans}
use Rattle.onfi_problem.specs.Left.{commands_left, waits_left}
use Rattle.onfi_demand.specs.Remaining.{with_posts}
use Rattle.onfi_demand.proofs.Leading.{idle_time, rest_time}
use Rattle.onfi_demand.proofs.left.LunWork.lead_time.Goals as goal

pub returns-in-Some : goal.returns-in-Some
returns-in-Some c = λ p lun e w t l. idle_time p lun e c.args.left c.saturating_sub-in-Some.result c.args.timing.now c.args.self.now (Some c.in-Some.rest) c.deref.result.now w c.in-Idle.is t l c.deref.ensures.0 (sym c.in-Some.is ∙ c.first_command.ensures.value) c.saturating_sub-in-Some.ensures

pub returns-in-None : goal.returns-in-None
returns-in-None c = λ p lun e w t l. idle_time p lun e c.args.left 0 c.args.timing.now c.args.self.now None c.deref.result.now w c.in-Idle.is t l c.deref.ensures.0 (sym c.in-None.is ∙ c.first_command.ensures.value) refl

pub returns-in-Rest : goal.returns-in-Rest
returns-in-Rest c = λ p lun e w t l. rest_time p lun e c.args.left c.saturating_sub.result c.rest_to_post-rest.result c.in-Rest.members c.in-Rest.next c.in-Rest.operation c.in-Rest.sectors c.args.timing.now c.args.self.now w c.in-Rest.is t l (c.rest_to_post-rest.ensures.value ∙ ap (λ (z : Spans). commands_left c.in-Rest.members c.in-Rest.next * z.cmd + waits_left (with_posts z []) c.in-Rest.members c.in-Rest.next) c.operation_spans.ensures) c.saturating_sub.ensures
