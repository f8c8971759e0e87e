use Rattle.std.proofs.Common.{◌≡◌, ◌<◌, length, Some, refl, sym, subst, arith}
use Rattle.std.specs.Prelude.{None, MatchOption, slice_get}
use Rattle.std.proofs.lemmas.Option.{slice_get_read}
use Rattle.onfi_problem.proofs.Lists.{map_get}
use Rattle.onfi_core.specs.Queues.{CoreView, state_in, states_in}
use Rattle.onfi_core.specs.State.{ChannelState}
use Rattle.onfi_core.specs.Steps.{IsPlainPlan}
use Rattle.onfi_core.specs.View.{plainly_with}
use Rattle.onfi_core.proofs.Cores.{last_at}
use Rattle.onfi_core.proofs.Promised.{shown_plainly}
use Rattle.onfi_core.proofs.machine.Core+C.last.Goals as goal

pub returns-clause-last : goal.returns-clause-last
returns-clause-last g c it there =
    let st = g.C.Chip.state in
    let s = c.self.inside.setup in
    let views = c.self.inside.channels.items in
    let v = c.index.result.now in
    let known = subst (λ (x : CoreView g.row.C.Denot). c.args.channel < x.0.channels) (sym c.self.view_is) c.requires in
    let within : c.from.result < length views = omega (arith, known, c.from.ensures, c.self.invariant.count) in
    let here : slice_get views c.from.result ≡ Some v = slice_get_read views (length views) c.from.result v refl within c.index.ensures in
    let inside : slice_get (states_in st (s, views)) c.args.channel ≡ Some it = subst (λ (x : CoreView g.row.C.Denot). slice_get (states_in st x) c.args.channel ≡ Some it) (sym c.self.view_is) there in
    let mapped : slice_get (states_in st (s, views)) c.from.result ≡ Some (state_in st v) = map_get (state_in st) views c.from.result v here in
    let at = c.from.ensures in
    let mapped' : slice_get (states_in st (s, views)) c.args.channel ≡ Some (state_in st v) = rw at at mapped in
    let same : state_in st v ≡ it = cc in
    let shown = shown_plainly c.last.result (λ r. plainly_with r.0.now.problem r.1.now) v.0.half.last c.last.ensures.last c.last.ensures.none (last_at st IsPlainPlan s views c.from.result v c.self.invariant here) in
    subst (λ (x : ChannelState). MatchOption c.last.result (x.half.last ≡ None) (λ r. x.half.last ≡ Some (plainly_with r.0.now.problem r.1.now))) same shown
