use Rattle.std.proofs.Common.{◌≡◌, subst, arith}
use Rattle.onfi_core.specs.Unanswered.{unanswered_senders}
use Rattle.onfi_core.specs.View.{HalfView}
use Rattle.onfi_core.proofs.Nearest.{in_accepted, one_more, no_more}
use Rattle.onfi_core.proofs.Window.{places_fit}
use Rattle.onfi_core.proofs.half.Half.unanswered.Goals as goal

pub overflow_add-from : goal.overflow_add-from
overflow_add-from c =
    let i = c.self.invariant in
    let low = in_accepted _ _ _ i.slots_are c.in-Some.place c.in-Some.ensures.1 in
    omega (arith, places_fit _ i.numbered, low)

pub loop-place-smaller : goal.loop-place-smaller
loop-place-smaller c =
    let i = c.self.invariant in
    let low = in_accepted _ _ _ i.slots_are c.in-Some.place c.in-Some.ensures.1 in
    let from = c.in-Some.ensures.0 in
    omega (arith, low, from)

pub loop-place-preserved : goal.loop-place-preserved
loop-place-preserved c =
    let i = c.self.invariant in
    let e = c.item_of-item.ensures in
    let low = in_accepted _ _ _ i.slots_are c.in-Some.place c.in-Some.ensures.1 in
    let next = one_more c.self.inside.history.accepted c.self.inside.history.posted c.self.inside.slots i.slots_are c.loop-place.from c.in-Some.place e.0 e.1 c.item_of-item.result.now c.loop-place.senders.items _
    c.in-Some.ensures e.2 e.3 e.4 c.loop-place.invariant.so_far in
    record { within = omega (arith, low); so_far = rw c.in_ok-push.ensures.items next }

pub returns : goal.returns
returns c =
    let i = c.self.invariant in
    let all = no_more c.self.inside.history.accepted c.self.inside.history.posted c.self.inside.slots i.slots_are c.loop-place.from c.loop-place.senders.items _ c.loop-place.invariant.within c.in_default.ensures c.loop-place.invariant.so_far in
    subst (λ (x : HalfView). c.loop-place.senders.items ≡ unanswered_senders x.state) c.self.view_is all
