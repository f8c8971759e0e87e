use Rattle.std.proofs.Common.{◌∙◌, sym, arith}
use Rattle.onfi_problem.specs.declared.moves.Lun.{Lun}
use Rattle.onfi_problem.proofs.After.{read_group}
use Rattle.onfi_problem.proofs.PhaseEnds.{next_place}
use Rattle.onfi_bound.specs.Commands.{commands_of}
use Rattle.onfi_bound.proofs.Counting.{next_command, next_post, some_there, one_left}
use Rattle.onfi_bound.proofs.commands.Commands.after_next.Goals as goal

pub bounds-groups-state : goal.bounds-groups-state
bounds-groups-state c =
    let x = c.args.problem.now in
    let blank : Lun = record { next = 0; place = 0; time = 0 } in
    rw c.groups.ensures.value (next_place x.problem x.groups c.luns.result.now c.luns.ensures.states c.args.lun blank c.in_limits.ensures.limits c.requires.step)

pub less_one-requires : goal.less_one-requires
less_one-requires c =
    let x = c.args.problem.now in
    let blank : Lun = record { next = 0; place = 0; time = 0 } in
    let lim = c.in_limits.ensures.limits in
    let here = next_place x.problem x.groups c.luns.result.now c.luns.ensures.states c.args.lun blank lim c.requires.step in
    let group = c.index-groups-state.result in
    let same = read_group x.groups _ group here (rw c.groups.ensures.value at c.index-groups-state.is) in
    let one = next_command x.problem x.groups c.luns.result.now c.luns.ensures.states c.args.lun blank group lim c.requires.step same (omega arith) c.operation.result in
    let some = some_there c.operation.result _ _ (commands_of x.problem c.operation.result) c.operation.ensures one in
    let counts = c.requires.counts c.operation.result in
    omega arith

pub returns-then-state-len : goal.returns-then-state-len
returns-then-state-len c = λ operation.
    let x = c.args.problem.now in
    let blank : Lun = record { next = 0; place = 0; time = 0 } in
    let lim = c.in_limits.ensures.limits in
    let here = next_place x.problem x.groups c.luns.result.now c.luns.ensures.states c.args.lun blank lim c.requires.step in
    let group = c.index-groups-state.result in
    let same = read_group x.groups _ group here (rw c.groups.ensures.value at c.index-groups-state.is) in
    one_left operation c.operation.result _ _ _ _ _ c.operation.ensures (c.less_one.ensures operation) (c.requires.counts operation) (next_command x.problem x.groups c.luns.result.now c.luns.ensures.states c.args.lun blank group lim c.requires.step same (omega arith) operation)

pub returns-else-state-len : goal.returns-else-state-len
returns-else-state-len c = λ operation.
    let x = c.args.problem.now in
    let blank : Lun = record { next = 0; place = 0; time = 0 } in
    let lim = c.in_limits.ensures.limits in
    let here = next_place x.problem x.groups c.luns.result.now c.luns.ensures.states c.args.lun blank lim c.requires.step in
    let group = c.index-groups-state.result in
    let same = read_group x.groups _ group here (rw c.groups.ensures.value at c.index-groups-state.is) in
    c.requires.counts operation ∙ sym (next_post x.problem x.groups c.luns.result.now c.luns.ensures.states c.args.lun blank group lim c.requires.step same (omega arith) operation)
