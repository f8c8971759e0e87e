use Rattle.onfi_schedule.proofs.Named.{all_named}
use Rattle.onfi_schedule.proofs.finding.luns_and_groups.Goals as goal

pub returns-clause-named : goal.returns-clause-named
returns-clause-named c =
    let table = c.groups.ensures.value in
    all_named c.args.problem.now.problem c.groups.result.now c.luns.result.now c.requires (rw table c.luns.ensures.states)
