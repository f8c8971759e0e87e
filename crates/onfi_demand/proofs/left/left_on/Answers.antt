use Rattle.onfi_demand.proofs.Working.{place_there, state_at, shape_of}
use Rattle.onfi_demand.proofs.left.left_on.Goals as goal

pub left_of-requires : goal.left_of-requires
left_of-requires c = record { place = place_there c.args.problem.now.problem c.args.problem.now.groups c.groups.result.now c.luns.result.now c.args.lun c.in_limits.ensures.limits c.luns.ensures.states c.groups.ensures.value c.requires }

pub returns-clause-left : goal.returns-clause-left
returns-clause-left c = state_at c.args.problem.now.problem c.args.problem.now.groups c.groups.result.now c.luns.result.now c.args.lun c.left_of.result c.luns.ensures.states c.requires c.groups.ensures.value c.left_of.ensures.left

pub returns-clause-shape : goal.returns-clause-shape
returns-clause-shape c = shape_of c.args.problem.now.problem c.args.lun c.left_of.result c.in_limits.ensures.limits c.left_of.ensures.padded (state_at c.args.problem.now.problem c.args.problem.now.groups c.groups.result.now c.luns.result.now c.args.lun c.left_of.result c.luns.ensures.states c.requires c.groups.ensures.value c.left_of.ensures.left)
