use Rattle.std.proofs.Common.{◌≡◌, ◌<◌, length, Some, refl, sym, subst, arith}
use Rattle.std.specs.Prelude.{slice_get, slice_set}
use Rattle.std.proofs.lemmas.Option.{slice_get_read}
use Rattle.onfi_core.specs.Core.{Did}
use Rattle.onfi_core.specs.Core.Doing.{SetsBatch}
use Rattle.onfi_core.specs.Queues.{CoreView, state_in, states_in}
use Rattle.onfi_core.specs.Reaching.{Reaches}
use Rattle.onfi_core.specs.Steps.{IsPromised}
use Rattle.onfi_core.proofs.Cores.{batch_set, channels_kept, reached_at}
use Rattle.onfi_core.proofs.Reaching.{batch_reached}
use Rattle.onfi_core.proofs.machine.Core.set_batch.Goals as goal

pub invariant_of-self : goal.invariant_of-self
invariant_of-self g c =
    let st = g.C.Chip.state in
    let such = IsPromised g.P.Planner.exact g.P.Planner.certifies in
    let s = c.self.inside.setup in
    let views = c.self.inside.channels.items in
    let v = c.index_mut-channel.result.now in
    let known = subst (λ (x : CoreView g.row.C.Denot). c.args.channel < x.0.channels) (sym c.self.view_is) c.requires.there in
    let within : c.from.result < length views = omega (arith, known, c.from.ensures, c.self.invariant.count) in
    let there : slice_get views c.from.result ≡ Some v = slice_get_read views (length views) c.from.result v refl within c.index_mut-channel.ensures.value in
    let reached = subst (Reaches such s) (sym c.set_batch.ensures.set) ((batch_reached such s (state_in st v) c.args.batch c.requires.some c.requires.few).1 (reached_at st such s views c.from.result v c.self.invariant there)) in
    channels_kept st such s views c.from.result v c.set_batch.new.self c.self.invariant there c.set_batch.ensures.setup reached

pub returns-clause-set : goal.returns-clause-set
returns-clause-set g c =
    let st = g.C.Chip.state in
    let such = IsPromised g.P.Planner.exact g.P.Planner.certifies in
    let s = c.self.inside.setup in
    let views = c.self.inside.channels.items in
    let v = c.index_mut-channel.result.now in
    let known = subst (λ (x : CoreView g.row.C.Denot). c.args.channel < x.0.channels) (sym c.self.view_is) c.requires.there in
    let within : c.from.result < length views = omega (arith, known, c.from.ensures, c.self.invariant.count) in
    let there : slice_get views c.from.result ≡ Some v = slice_get_read views (length views) c.from.result v refl within c.index_mut-channel.ensures.value in
    let there' : slice_get views c.args.channel ≡ Some v = subst (λ i. slice_get views i ≡ Some v) c.from.ensures there in
    let set = batch_set st such s views c.args.channel c.args.batch v c.set_batch.new.self c.requires.some c.requires.few there' c.set_batch.ensures.set in
    let P : CoreView g.row.C.Denot → Type 0 = λ x. Did such x.0 (states_in st x) (SetsBatch c.args.channel c.args.batch) (states_in st (s, slice_set views c.from.result c.set_batch.new.self)) in
    let e = c.from.ensures in
    subst P c.self.view_is (rw e set)
