use Rattle.std.proofs.Common.{[], false, length, take, subst, sym}
use Rattle.std.proofs.lemmas.Result.{IfErr-weaker, IfOk-weaker}
use Rattle.onfi_problem.specs.Kept.{problem_of}
use Rattle.onfi_problem.specs.Problem.{Problem}
use Rattle.onfi_calls.specs.AuditBegun.{no_schedule}
use Rattle.onfi_calls.specs.Dispatching.{IsBegun, IsBegunOf, IsNoDevice, IsUnbegun, is_no_channel, is_no_device}
use Rattle.onfi_calls.specs.Flights.{is_no_problem}
use Rattle.onfi_calls.specs.Problem.{luns_of}
use Rattle.onfi_calls.specs.Refused.{IsBadProblem}
use Rattle.onfi_calls.proofs.AuditBegins.{said_here}
use Rattle.onfi_calls.proofs.Dispatched.{left_of}
use Rattle.onfi_calls.proofs.Standing.{fault_told}
use Rattle.onfi_calls.proofs.Stated.{said_lengths}
use Rattle.onfi_calls.proofs.dispatcher.begin.Goals as goal

pub returns-in-Err-clause-none : goal.returns-in-Err-clause-none
returns-in-Err-clause-none c = is_no_channel (c.in-Err.ensures.none no_schedule)

pub returns-in-Some-clause-none : goal.returns-in-Some-clause-none
returns-in-Some-clause-none c =
    let channel = c.args.channel.now in
    let luns = luns_of channel in
    let measured = c.in-Ok.ensures.measured in
    let whole = c.few_states_of-states.result in
    let p : Problem = problem_of c.in-Ok.timing c.rules-rules.result channel.bus_free (take (length luns) whole) [] in
    let said = said_here channel c.in-Ok.timing c.rules-rules.result whole measured c.rules-rules.ensures c.few_states_of-states.ensures in
    let has = said_lengths channel [] p said measured.lengths in
    let told = subst (IsBadProblem false p) (sym c.of_problem.ensures) (fault_told p c.in-Some.fault has c.in-Some.ensures) in
    is_no_channel (is_no_problem measured.said (p, said, subst (λ b. IsBadProblem b p c.of_problem.result) (sym measured.lengths) told))

pub keep-requires-clause-left : goal.keep-requires-clause-left
keep-requires-clause-left c =
    let p : Problem = problem_of c.in-Ok.timing c.rules-rules.result c.args.channel.now.bus_free (take (length (luns_of c.args.channel.now)) c.few_states_of-states.result) [] in
    left_of p c.in-None.ensures.0.problem

pub returns-clause-begun : goal.returns-clause-begun
returns-clause-begun c =
    let channel = c.args.channel.now in
    let luns = luns_of channel in
    let whole = c.few_states_of-states.result in
    let p : Problem = problem_of c.in-Ok.timing c.rules-rules.result channel.bus_free (take (length luns) whole) [] in
    let said = said_here channel c.in-Ok.timing c.rules-rules.result whole c.in-Ok.ensures.measured c.rules-rules.ensures c.few_states_of-states.ensures in
    IfOk-weaker c.keep.result (IsBegunOf p channel c.args.geometry.now) (IsBegun channel c.args.geometry.now)
    (λ d of. record { problem = p; said = said; limits = c.in-None.ensures.0; measured = c.in-None.ensures.1; of = of }) c.keep.ensures.begun

pub returns-clause-none : goal.returns-clause-none
returns-clause-none c =
    let channel = c.args.channel.now in
    let luns = luns_of channel in
    let whole = c.few_states_of-states.result in
    let p : Problem = problem_of c.in-Ok.timing c.rules-rules.result channel.bus_free (take (length luns) whole) [] in
    let said = said_here channel c.in-Ok.timing c.rules-rules.result whole c.in-Ok.ensures.measured c.rules-rules.ensures c.few_states_of-states.ensures in
    IfErr-weaker c.keep.result (IsNoDevice channel c.args.geometry.now) (IsUnbegun channel c.args.geometry.now)
    (λ status none. is_no_device p said c.in-None.ensures.0 c.in-None.ensures.1 none) c.keep.ensures.none
