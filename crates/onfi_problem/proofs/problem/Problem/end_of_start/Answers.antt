use Rattle.std.proofs.Common.{[], slice_index_or, arith}
use Rattle.onfi_problem.specs.declared.moves.Lun.{Lun}
use Rattle.onfi_problem.specs.Moves.{Start}
use Rattle.onfi_problem.proofs.After.{read_group, in_table}
use Rattle.onfi_problem.proofs.PhaseEnds.{ends_small, start_ends}
use Rattle.onfi_problem.proofs.problem.Problem.end_of_start.Goals as goal

pub returns-clause-value : goal.returns-clause-value
returns-clause-value c =
    let x = c.args.self.now in
    let blank : Lun = record { next = 0; place = 0; time = 0 } in
    let here = in_table x.groups c.args.place c.requires.step.2.group.some in
    let same = read_group x.groups c.args.place c.index-groups-place.result here (rw c.groups.ensures.value at c.index-groups-place.is) in
    let ends = start_ends x.problem x.groups c.luns.result.now c.luns.ensures.states (slice_index_or x.groups c.args.place []) c.args.lun blank c.index-groups-place.result c.requires.step c.requires.lun same in
    rw (c.phase_length.ensures.length, c.members.ensures.value, c.timing.ensures, c.max-start.ensures, c.bus_free.ensures.value) ends

pub returns-clause-small : goal.returns-clause-small
returns-clause-small c = rw (returns-clause-value c) (ends_small c.args.self.now.problem (Start (slice_index_or c.args.self.now.groups c.args.place [])) c.bus_free.ensures.limits c.requires.step)

pub overflow_add-result : goal.overflow_add-result
overflow_add-result c = let small = returns-clause-small c in omega arith
