use Rattle.onfi_calls.specs.Stand.{is_no_problem}
use Rattle.onfi_calls.proofs.Stands.{begun, none_stands, stands}
use Rattle.onfi_calls.proofs.stand.read_stand.Goals as goal

pub returns-in-Ok-clause-said : goal.returns-in-Ok-clause-said
returns-in-Ok-clause-said c =
    stands c.in-Ok.problem c.args.schedule.now c.with_schedule.result c.in-Ok.ensures.said c.in-Ok.ensures.lengths c.with_schedule.ensures.same c.with_schedule.ensures.good

pub returns-in-Ok-clause-begun : goal.returns-in-Ok-clause-begun
returns-in-Ok-clause-begun c = begun c.in-Ok.problem c.with_schedule.result c.in-Ok.ensures.begun c.with_schedule.ensures.same

pub returns-in-Ok-clause-none : goal.returns-in-Ok-clause-none
returns-in-Ok-clause-none c =
    none_stands c.in-Ok.problem c.args.schedule.now c.with_schedule.result c.in-Ok.ensures.said c.in-Ok.ensures.lengths c.with_schedule.ensures.bad

pub returns-in-Err-clause-none : goal.returns-in-Err-clause-none
returns-in-Err-clause-none c = is_no_problem c.in-Err.ensures.refused
