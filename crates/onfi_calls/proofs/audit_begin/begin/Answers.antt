use Rattle.std.proofs.Common.{[], false, length, take, refl, sym, subst}
use Rattle.onfi_problem.specs.Kept.{problem_of}
use Rattle.onfi_problem.specs.Problem.{Problem}
use Rattle.onfi_calls.specs.AuditBegun.{gives_audit, refuses_audit}
use Rattle.onfi_calls.specs.Flights.{is_no_problem}
use Rattle.onfi_calls.specs.Problem.{luns_of}
use Rattle.onfi_calls.specs.Refused.{IsBadProblem}
use Rattle.onfi_calls.proofs.AuditBegins.{begun_says, said_here}
use Rattle.onfi_calls.proofs.Standing.{fault_told}
use Rattle.onfi_calls.proofs.Stated.{said_lengths}
use Rattle.onfi_calls.proofs.audit_begin.begin.Goals as goal

pub returns-in-Some : goal.returns-in-Some
returns-in-Some c =
    let measured = c.requires in
    let channel = c.args.channel.now in
    let whole = c.few_states_of-states.result in
    let p : Problem = problem_of c.args.timing.now c.rules-rules.result channel.bus_free (take (length (luns_of channel)) whole) [] in
    let said = said_here channel c.args.timing.now c.rules-rules.result whole measured c.rules-rules.ensures c.few_states_of-states.ensures in
    let has = said_lengths channel [] p said measured.lengths in
    let told = subst (IsBadProblem false p) (sym c.of_problem.ensures) (fault_told p c.in-Some.fault has c.in-Some.ensures) in
    refuses_audit c.of_problem.result (is_no_problem measured.said (p, said, subst (λ b. IsBadProblem b p c.of_problem.result) (sym measured.lengths) told)) refl c.number.ensures

pub returns : goal.returns
returns c =
    let measured = c.requires in
    let channel = c.args.channel.now in
    let whole = c.few_states_of-states.result in
    let p : Problem = problem_of c.args.timing.now c.rules-rules.result channel.bus_free (take (length (luns_of channel)) whole) [] in
    let said = said_here channel c.args.timing.now c.rules-rules.result whole measured c.rules-rules.ensures c.few_states_of-states.ensures in
    gives_audit p said c.in-None.ensures.0 c.in-None.ensures.1 (begun_says channel p measured.said said) refl
