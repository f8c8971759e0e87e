use Rattle.std.proofs.Common.{◌≡◌, ◌⊎◌, rules, inl, inr, false, sym, subst, ◌∙◌}
use Rattle.std.proofs.lemmas.Result.{IfErr-weaker}
use Rattle.onfi_problem.specs.Kept.{problem_of}
use Rattle.onfi_problem.specs.Problem.{Problem}
use Rattle.onfi_calls.specs.declared.status.Status.TheVariants.{Memory}
use Rattle.onfi_calls.specs.Problem.{IsSaid}
use Rattle.onfi_calls.specs.Refused.{IsBadProblem, IsBadSaid}
use Rattle.onfi_calls.proofs.Stated.{said_lengths}
use Rattle.onfi_calls.proofs.problem.open_said.Goals as goal

pub returns-clause-bad : goal.returns-clause-bad
returns-clause-bad c =
    let measured = c.requires in
    let channel = c.args.channel.now in
    let wants = c.args.wants.now in
    let p : Problem = problem_of c.args.timing.now c.rules.result channel.bus_free c.as_slice.result.now c.as_slice-2.result.now in
    let said : IsSaid channel wants p = record {
      timing = measured.spans;
      rules = c.rules.ensures;
      bus_free = search rules;
      states = c.as_slice.ensures.value ∙ c.in-Ok.ensures;
      requests = c.as_slice-2.ensures.value ∙ c.in-Ok-wants_of.ensures;
    } in
    let has = said_lengths channel wants p said measured.lengths in
    IfErr-weaker c.open.result (λ status. (status ≡ Memory) ⊎ IsBadProblem false p status) (IsBadSaid channel wants)
    (λ status bad. elim bad [
      | inl memory ↦ inl memory
      | inr fault ↦ inr (p, said, subst (λ b. IsBadProblem b p status) (sym measured.lengths) fault)
    ]) (c.open.ensures.bad has)
