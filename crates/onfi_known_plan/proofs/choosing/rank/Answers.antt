use Rattle.onfi_known_plan.proofs.Steps.{step_there}
use Rattle.onfi_known_plan.proofs.choosing.rank.Goals as goal

pub work_left-requires : goal.work_left-requires
work_left-requires c = step_there c.args.problem.now c.args.m c.lun-lun.result c.requires c.lun-lun.ensures

pub work_left-requires-in-FewestWants : goal.work_left-requires-in-FewestWants
work_left-requires-in-FewestWants c = step_there c.args.problem.now c.args.m c.lun-lun.result c.requires c.lun-lun.ensures

pub is_post-requires : goal.is_post-requires
is_post-requires c = step_there c.args.problem.now c.args.m c.lun-lun.result c.requires c.lun-lun.ensures

pub is_post-requires-in-Posts : goal.is_post-requires-in-Posts
is_post-requires-in-Posts c = step_there c.args.problem.now c.args.m c.lun-lun.result c.requires c.lun-lun.ensures

pub turn_of-requires-clause-lun : goal.turn_of-requires-clause-lun
turn_of-requires-clause-lun c = step_there c.args.problem.now c.args.m c.lun-lun.result c.requires c.lun-lun.ensures
