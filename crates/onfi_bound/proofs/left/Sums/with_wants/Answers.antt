use Rattle.std.proofs.Common.{◌+◌, if◌then◌else◌, true, ap, ◌∙◌, arith}
use Rattle.onfi_timing.specs.Kinds.{operation_of}
use Rattle.onfi_problem.specs.Left.{want_command, want_post}
use Rattle.onfi_bound.specs.Bounds.{same_operation}
use Rattle.onfi_bound.specs.Parts.{has_operation}
use Rattle.onfi_bound.proofs.Steps.{summed, tested_too}
use Rattle.onfi_bound.proofs.left.Sums.with_wants.Goals as goal

pub loop-want-preserved : goal.loop-want-preserved
loop-want-preserved c =
    let at = c.loop-want.invariant in
    let more = c.with_want-sums.ensures in
    let commands = more.commands ∙ ap (λ s. c.loop-want.sums.commands + s.cmd) c.spans.ensures in
    let posts = more.posts ∙ ap (λ s. c.loop-want.sums.posts + s.post) c.spans.ensures in
    record {
      commands = summed (want_command c.args.timing.now) c.args.wants.now c.loop-want.want-index _ c.args.self.commands _ _ c.loop-want-test.true at.commands commands;
      posts = summed (want_post c.args.timing.now) c.args.wants.now c.loop-want.want-index _ c.args.self.posts _ _ c.loop-want-test.true at.posts posts;
      operations = λ operation. tested_too _ (λ w. same_operation operation (operation_of w.kind)) c.args.wants.now c.loop-want.want-index _ _ _ c.loop-want-test.true (at.operations operation) (more.operations operation ∙ ap (λ z. if has_operation c.loop-want.sums.operations operation then true else same_operation operation z) c.operation.ensures);
      commands_short = omega arith;
      posts_short = omega arith;
    }
