use Rattle.std.proofs.Common.{false, refl, rules, sym, ◌∙◌, subst}
use Rattle.onfi_problem.specs.Kept.{problem_of}
use Rattle.onfi_problem.specs.Left.{InLimits}
use Rattle.onfi_problem.specs.Problem.{Problem}
use Rattle.onfi_calls.specs.Flights.{is_bad, is_no_problem}
use Rattle.onfi_calls.specs.Refused.{IsBadProblem}
use Rattle.onfi_calls.specs.Problem.{AreRules, IsSaid, IsTiming}
use Rattle.onfi_calls.proofs.Standing.{fault_told}
use Rattle.onfi_calls.proofs.Stated.{said_lengths}
use Rattle.onfi_calls.proofs.flight.fill.Goals as goal

pub returns-in-Some-clause-none : goal.returns-in-Some-clause-none
returns-in-Some-clause-none c =
    let measured = c.requires.measured in
    let channel = c.args.channel.now in
    let wants = c.args.wants.now in
    let f = c.set_luns.new.flight in
    let e = c.set_luns.ensures in
    let p : Problem = problem_of f.now.timing f.now.rules f.now.bus_free f.now.luns c.as_slice.result.now in
    let said : IsSaid channel wants p = record {
      timing = subst (IsTiming channel) (sym e.timing) measured.spans;
      rules = subst (AreRules channel.rules) (sym e.rules) c.requires.rules;
      bus_free = e.bus_free ∙ c.requires.bus_free;
      states = e.luns;
      requests = c.as_slice.ensures.value ∙ c.few_wants_of-wants.ensures;
    } in
    let has = said_lengths channel wants p said measured.lengths in
    let told = subst (IsBadProblem false p) (sym c.of_problem.ensures) (fault_told p c.in-Some.fault has c.in-Some.ensures) in
    is_no_problem measured.said (p, said, subst (λ b. IsBadProblem b p c.of_problem.result) (sym measured.lengths) told)

pub returns-then-is_bad_schedule-clause-none : goal.returns-then-is_bad_schedule-clause-none
returns-then-is_bad_schedule-clause-none c =
    let measured = c.requires.measured in
    let channel = c.args.channel.now in
    let f = c.set_luns.new.flight in
    let e = c.set_luns.ensures in
    let p : Problem = problem_of f.now.timing f.now.rules f.now.bus_free f.now.luns c.as_slice.result.now in
    let said : IsSaid channel c.args.wants.now p = record {
      timing = subst (IsTiming channel) (sym e.timing) measured.spans;
      rules = subst (AreRules channel.rules) (sym e.rules) c.requires.rules;
      bus_free = e.bus_free ∙ c.requires.bus_free;
      states = e.luns;
      requests = c.as_slice.ensures.value ∙ c.few_wants_of-wants.ensures;
    } in
    let limits : InLimits p = search rules in
    is_bad p said measured.lengths limits (sym c.is_bad_schedule.ensures ∙ c.if-is_bad_schedule.true) refl
