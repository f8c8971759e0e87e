-- What a log has left that begins with a channel as a caller says it.
use Rattle.std.proofs.Common.{◌≡◌, ℕ, zero, suc, ◌≤◌, List, [], ◌∷◌, length, map, take, inl, inr, refl, sym, ap, ◌∙◌, arith}
use Rattle.std.specs.Prelude.{◌==◌, replicate}
use Rattle.std.proofs.lemmas.Bool.{cases_Bool}
use Rattle.std.proofs.lemmas.List.{length-take}
use Rattle.onfi_audit.specs.Audit.{opening}
use Rattle.onfi_audit.specs.Audit.{stage_of as stage_of_state}
use Rattle.onfi_group.specs.declared.rules.Rules.{Rules}
use Rattle.onfi_problem.specs.declared.lun_state.LunState.{LunState}
use Rattle.onfi_problem.specs.declared.lun_state.LunState.TheVariants.{Free}
use Rattle.onfi_problem.specs.Kept.{problem_of}
use Rattle.onfi_problem.specs.Problem.{Problem}
use Rattle.onfi_timing.specs.declared.timing.Timing.{Timing}
use Rattle.onfi_calls.specs.declared.channel.PlainChannel.{PlainChannel}
use Rattle.onfi_calls.specs.declared.channel.PlainLun.{PlainLun}
use Rattle.onfi_calls.specs.AuditBegun.{begun}
use Rattle.onfi_calls.specs.Audit.{IsAuditSaid, no_stage, stage_of, stages_of}
use Rattle.onfi_calls.specs.Refused.{AreSaid, IsMeasured}
use Rattle.onfi_calls.specs.Problem.{AreRules, IsSaid, luns_of, state_of, states_of}
use Rattle.onfi_calls.specs.PlainSchedule.{filled}
use Rattle.onfi_calls.proofs.FewStates.{states_said}
use Rattle.onfi_calls.proofs.Audits.{same_parts}

same_stage : (bits : ℕ) (lun : PlainLun) → stage_of_state (state_of bits lun) ≡ stage_of bits lun no_stage
same_stage bits lun = elim (cases_Bool (lun.members == 0)) [ inl free ↦ rw free refl | inr runs ↦ rw runs refl ]

same_stages : (bits n : ℕ) (luns : List PlainLun) → length luns ≤ n → stages_of bits luns (replicate n no_stage) ≡ map stage_of_state (states_of bits luns)
same_stages bits n [] few = refl
same_stages bits zero (lun ∷ luns) few = absurd (omega (arith, few))
same_stages bits (suc n) (lun ∷ luns) few =
    ap (λ x. x ∷ stages_of bits luns (replicate n no_stage)) (sym (same_stage bits lun))
    ∙ ap (λ xs. stage_of_state (state_of bits lun) ∷ xs) (same_stages bits n luns (omega (arith, few)))

pub begun_says : (channel : PlainChannel) (p : Problem) → AreSaid channel [] → IsSaid channel [] p → IsAuditSaid (begun channel) (opening p)
begun_says channel p said is =
    let bits = channel.rules.plane_bits in
    let few : length (luns_of channel) ≤ 8 = (let taken = length-take channel.lun_count channel.lun in let count = said.few in omega (arith, taken, count)) in
    let stages = same_stages bits 8 (luns_of channel) few ∙ ap (map stage_of_state) (sym is.states) in
    record {
      said = said;
      timing = is.timing;
      rules = is.rules;
      is = same_parts p.timing p.rules p.bus_free channel.bus_free 0 (map stage_of_state p.luns) (stages_of bits (luns_of channel) (replicate 8 no_stage)) [] is.bus_free stages refl;
    }

-- what is given of a channel of which nothing waits
pub said_here : (channel : PlainChannel) (timing : Timing) (rules : Rules) (whole : List LunState) → IsMeasured channel [] timing → AreRules channel.rules rules
    → whole ≡ filled 8 (Free 0) (states_of channel.rules.plane_bits (luns_of channel)) → IsSaid channel [] (problem_of timing rules channel.bus_free (take (length (luns_of channel)) whole) [])
said_here channel timing rules whole measured are states = record {
  timing = measured.spans;
  rules = are;
  bus_free = refl;
  states = states_said channel.rules.plane_bits (luns_of channel) whole states;
  requests = refl;
}
