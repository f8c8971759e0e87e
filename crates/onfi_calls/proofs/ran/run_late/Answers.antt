use Rattle.std.proofs.Common.{◌≡◌, Some, inr, refl, rules, subst}
use Rattle.onfi_problem.specs.Faults.{TellsFault}
use Rattle.onfi_problem.specs.Kept.{problem_of}
use Rattle.onfi_flight.specs.Flight.{Flight, after_late}
use Rattle.onfi_calls.proofs.Standing.{only_late_behind}
use Rattle.onfi_calls.proofs.ran.run_late.Goals as goal

pub returns-in-Some-clause-late : goal.returns-in-Some-clause-late
returns-in-Some-clause-late c = λ limits has.
    let old = c.args.flight.now in
    let due = c.args.due.now in
    let new = c.run_late.new.self in
    let behind : new ≡ after_late old due c.args.started = search rules in
    let tells = subst (λ ws. TellsFault (problem_of new.now.timing new.now.rules new.now.bus_free new.now.luns ws) (Some c.in-Some.field-0)) c.wants.ensures.value c.in-Some.ensures in
    (refl, inr (only_late_behind old due c.args.started c.in-Some.field-0 limits has c.requires.due (subst (λ (f : Flight). TellsFault f.now (Some c.in-Some.field-0)) behind tells)))
