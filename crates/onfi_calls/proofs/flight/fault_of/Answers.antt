use Rattle.std.proofs.Common.{List, ℕ, subst}
use Rattle.onfi_timing.specs.declared.timing.Timing.{Timing}
use Rattle.onfi_group.specs.declared.rules.Rules.{Rules}
use Rattle.onfi_problem.specs.declared.lun_state.LunState.{LunState}
use Rattle.onfi_problem.specs.Faults.{TellsFault}
use Rattle.onfi_problem.specs.Kept.{problem_of}
use Rattle.onfi_calls.proofs.flight.fault_of.Goals as goal

pub returns : goal.returns
returns c =
    let now = c.args.flight.now.now in
    let wants = c.args.wants.now in
    let told = c.find_fault.result in
    subst (λ (t : Timing). TellsFault (problem_of t now.rules now.bus_free now.luns wants) told) c.timing.ensures
    (subst (λ (r : Rules). TellsFault (problem_of c.timing.result r now.bus_free now.luns wants) told) c.rules.ensures
    (subst (λ (n : ℕ). TellsFault (problem_of c.timing.result c.rules.result n now.luns wants) told) c.bus_free.ensures
    (subst (λ (xs : List LunState). TellsFault (problem_of c.timing.result c.rules.result c.bus_free.result xs wants) told) c.luns.ensures.value c.find_fault.ensures)))
