use Rattle.std.proofs.Common.{refl}
use Rattle.onfi_problem.specs.declared.moves.Lun.{Lun}
use Rattle.onfi_problem.proofs.PhaseEnds.{goes_from, goes_small}
use Rattle.onfi_problem.proofs.problem.Problem.may_go.Goals as goal

pub returns-clause-value : goal.returns-clause-value
returns-clause-value c =
    let x = c.args.self.now in
    let blank : Lun = record { next = 0; place = 0; time = 0 } in
    let from = goes_from x.problem x.groups c.luns.result.now c.luns.ensures.states c.args.lun blank c.requires in
    rw (c.max.ensures, c.bus_free.ensures.value, from) refl

pub returns-clause-small : goal.returns-clause-small
returns-clause-small c = rw (returns-clause-value c) (goes_small c.args.self.now.problem c.args.self.now.groups c.luns.result.now c.luns.ensures.states c.args.lun c.bus_free.ensures.limits c.requires)
