use Rattle.std.proofs.Common.{arith}
use Rattle.onfi_problem.specs.declared.moves.Lun.{Lun}
use Rattle.onfi_problem.specs.Moves.{Next}
use Rattle.onfi_problem.proofs.After.{read_group}
use Rattle.onfi_problem.proofs.PhaseEnds.{ends_small, next_place, next_ends}
use Rattle.onfi_problem.proofs.problem.Problem.end_of_next.Goals as goal

pub bounds-groups-state : goal.bounds-groups-state
bounds-groups-state c =
    let x = c.args.self.now in
    let blank : Lun = record { next = 0; place = 0; time = 0 } in
    rw c.groups.ensures.value (next_place x.problem x.groups c.luns.result.now c.luns.ensures.states c.args.lun blank c.bus_free.ensures.limits c.requires)

pub returns-clause-value : goal.returns-clause-value
returns-clause-value c =
    let x = c.args.self.now in
    let blank : Lun = record { next = 0; place = 0; time = 0 } in
    let here = next_place x.problem x.groups c.luns.result.now c.luns.ensures.states c.args.lun blank c.bus_free.ensures.limits c.requires in
    let same = read_group x.groups _ c.index-groups-state.result here (rw c.groups.ensures.value at c.index-groups-state.is) in
    let ends = next_ends x.problem x.groups c.luns.result.now c.luns.ensures.states c.args.lun blank c.index-groups-state.result c.requires same in
    rw (c.phase_length.ensures.length, c.members.ensures.value, c.timing.ensures, c.max-start.ensures, c.bus_free.ensures.value) ends

pub returns-clause-small : goal.returns-clause-small
returns-clause-small c = rw (returns-clause-value c) (ends_small c.args.self.now.problem (Next c.args.lun) c.bus_free.ensures.limits c.requires)

pub overflow_add-result : goal.overflow_add-result
overflow_add-result c = let small = returns-clause-small c in omega arith
