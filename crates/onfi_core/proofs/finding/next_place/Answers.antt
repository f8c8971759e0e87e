use Rattle.std.proofs.Common.{◌≡◌, ◌<◌, Some, None, sym, ap, ◌∙◌, arith}
use Rattle.std.specs.Option.{option_copied}
use Rattle.slab.specs.Slab.{get}
use Rattle.onfi_core.proofs.Nearest.{nearest_none, nearest_some, slot_here}
use Rattle.onfi_core.proofs.finding.next_place.Goals.{in-Some, in_default}
use Rattle.onfi_core.proofs.finding.next_place.Goals as goal

pub loop-key-preserved : goal.loop-key-preserved
loop-key-preserved c = elim c.match-get.branch [
  | in-Some w ↦ (
      let at : get c.args.slots.now c.loop-key.key ≡ Some w.in-Some.slot.now = sym c.get.ensures ∙ ap option_copied w.in-Some.is in
      let within : c.loop-key.key < c.args.slots.now.capacity = omega (arith, c.loop-key-test.true, c.capacity-key-end.ensures.value) in
      nearest_some c.args.slots.now c.loop-key.key c.args.from c.loop-key.least c.match-get.least w.in-Some.slot.now c.loop-key.invariant at (slot_here c.args.slots.now c.loop-key.key w.in-Some.slot.now within at) (w.least-is ∙ w.choose_nearer-least.ensures))
  | in_default w ↦ (
      let at : get c.args.slots.now c.loop-key.key ≡ None = sym c.get.ensures ∙ ap option_copied w.in_default.is in
      let r = nearest_none c.args.slots.now c.loop-key.key c.args.from c.loop-key.least c.loop-key.invariant at in
      let e = w.least-is in
      rw e r)
]
