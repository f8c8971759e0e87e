use Rattle.std.proofs.Common.{[], ◌≡◌, ◌∙◌, slice_index_or, ap, arith}
use Rattle.onfi_group.specs.Group.{group_operation}
use Rattle.onfi_bound.specs.Commands.{commands_of}
use Rattle.onfi_bound.proofs.Counting.{start_counts, some_there, one_left}
use Rattle.onfi_bound.proofs.commands.Commands.after_start.Goals as goal

pub less_one-requires : goal.less_one-requires
less_one-requires c =
    let x = c.args.problem.now in
    let g = slice_index_or x.groups c.args.place [] in
    let own : c.operation.result ≡ group_operation g = c.operation.ensures ∙ ap group_operation c.group.ensures in
    let some = some_there c.operation.result (group_operation g) _ (commands_of x.problem c.operation.result) own (start_counts x.problem g c.operation.result c.in_limits.ensures.limits.problem c.requires.step) in
    let same = c.requires.counts c.operation.result in
    omega arith

pub returns : goal.returns
returns c = λ operation.
    let x = c.args.problem.now in
    let g = slice_index_or x.groups c.args.place [] in
    let own : c.operation.result ≡ group_operation g = c.operation.ensures ∙ ap group_operation c.group.ensures in
    one_left operation c.operation.result (group_operation g) _ _ _ _ own (c.less_one.ensures operation) (c.requires.counts operation) (start_counts x.problem g operation c.in_limits.ensures.limits.problem c.requires.step)
