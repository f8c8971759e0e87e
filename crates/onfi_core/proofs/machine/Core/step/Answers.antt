use Rattle.std.proofs.Common.{◌≡◌, ◌<◌, length, Some, refl, ◌∙◌, subst, arith}
use Rattle.std.specs.Prelude.{slice_get, slice_set}
use Rattle.std.proofs.lemmas.Option.{slice_get_read}
use Rattle.onfi_core.specs.Core.{CoreStep}
use Rattle.onfi_core.specs.Queues.{CoreView, states_in}
use Rattle.onfi_core.specs.Steps.{IsPromised}
use Rattle.onfi_core.proofs.Cores.{channel_steps, channels_kept, last_at, reached_behind, setup_at}
use Rattle.onfi_core.proofs.machine.Core.step.Goals as goal

pub invariant_of-self : goal.invariant_of-self
invariant_of-self g c =
    let st = g.C.Chip.state in
    let such = IsPromised g.P.Planner.exact g.P.Planner.certifies in
    let s = c.self.inside.setup in
    let views = c.self.inside.channels.items in
    let v = c.index_mut-channel.result.now in
    let within : c.from-at.result < length views = omega (arith, c.if-at-len.false, c.len.ensures, c.self.inside.channels.ok.0) in
    let there : slice_get views c.from-at.result ≡ Some v = slice_get_read views (length views) c.from-at.result v refl within c.index_mut-channel.ensures.value in
    channels_kept st such s views c.from-at.result v c.step-outcome.new.self c.self.invariant there c.step-outcome.ensures.setup
    (reached_behind st such s views c.from-at.result v c.step-outcome.new.self c.args.event c.step-outcome.result c.self.invariant there c.step-outcome.ensures.step (λ _ _. c.step-outcome.ensures.promised (last_at st such s views c.from-at.result v c.self.invariant there)))

pub returns-clause-step : goal.returns-clause-step
returns-clause-step g c =
    let st = g.C.Chip.state in
    let such = IsPromised g.P.Planner.exact g.P.Planner.certifies in
    let s = c.self.inside.setup in
    let views = c.self.inside.channels.items in
    let v = c.index_mut-channel.result.now in
    let within : c.from-at.result < length views = omega (arith, c.if-at-len.false, c.len.ensures, c.self.inside.channels.ok.0) in
    let there : slice_get views c.from-at.result ≡ Some v = slice_get_read views (length views) c.from-at.result v refl within c.index_mut-channel.ensures.value in
    let step = channel_steps st such s views c.args.event c.step-outcome.result c.from-at.result v c.step-outcome.new.self (c.from-at.ensures ∙ c.channel.ensures) there (setup_at st such s views c.from-at.result v c.self.invariant there) c.step-outcome.ensures.step (λ _ _. c.step-outcome.ensures.promised (last_at st such s views c.from-at.result v c.self.invariant there)) in
    let P : CoreView g.row.C.Denot → Type 0 = λ x. CoreStep such x.0 (states_in st x) c.args.event c.step-outcome.result (states_in st (s, slice_set views c.from-at.result c.step-outcome.new.self)) in
    subst P c.self.view_is step
