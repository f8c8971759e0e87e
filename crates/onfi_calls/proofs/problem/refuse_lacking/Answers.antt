use Rattle.std.proofs.Common.{true, length, refl, sym, subst, take, ◌∙◌}
use Rattle.onfi_problem.specs.Kept.{problem_of}
use Rattle.onfi_problem.specs.Problem.{Problem}
use Rattle.onfi_calls.specs.Refused.{IsBadProblem}
use Rattle.onfi_calls.specs.Problem.{IsSaid, luns_of}
use Rattle.onfi_calls.proofs.FewStates.{states_said}
use Rattle.onfi_calls.proofs.Standing.{too_many}
use Rattle.onfi_calls.proofs.Stated.{lacking_told}
use Rattle.onfi_calls.proofs.problem.refuse_lacking.Goals as goal

pub returns-then-are_many : goal.returns-then-are_many
returns-then-are_many c =
    too_many c.args.channel.now c.args.wants.now c.args.timing.now c.requires.timing c.requires.said.plane_bits (c.are_many.ensures.0 c.if-are_many.true)

pub returns : goal.returns
returns c =
    let channel = c.args.channel.now in
    let wants = c.args.wants.now in
    let bits = channel.rules.plane_bits in
    let luns = luns_of channel in
    let whole = c.few_states_of-states.result in
    let p : Problem = problem_of c.args.timing.now c.rules-rules.result channel.bus_free (take (length luns) whole) c.as_slice.result.now in
    let said : IsSaid channel wants p = record {
      timing = c.requires.timing;
      rules = c.rules-rules.ensures;
      bus_free = refl;
      states = states_said bits luns whole c.few_states_of-states.ensures;
      requests = c.as_slice.ensures.value ∙ c.few_wants_of-wants.ensures;
    } in
    let told = subst (IsBadProblem true p) (sym c.of_lacking.ensures) (lacking_told p c.find_fault.result c.find_fault.ensures) in
    (p, said, subst (λ b. IsBadProblem b p c.of_lacking.result) (sym c.requires.lacking) told)
