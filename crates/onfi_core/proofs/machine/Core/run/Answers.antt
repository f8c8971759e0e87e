use Rattle.std.proofs.Common.{◌∙◌, subst, arith}
use Rattle.std.specs.Vec.Iter.{into_iter_items}
use Rattle.onfi_core.specs.Core.{CoreStep}
use Rattle.onfi_core.specs.Queues.{states_in}
use Rattle.onfi_core.specs.Steps.{IsPromised}
use Rattle.onfi_core.proofs.Cores.{halfway_more}
use Rattle.onfi_core.proofs.machine.Core.run.Goals as goal

pub loop-event-preserved : goal.loop-event-preserved
loop-event-preserved g c =
    let inv = c.loop-event.invariant in
    let st = g.C.Chip.state in
    let such = IsPromised g.P.Planner.exact g.P.Planner.certifies in
    let step = subst (λ s. CoreStep such s (states_in st c.loop-event.self) c.in-Some.event c.step.result (states_in st c.step.new.self)) inv.setup c.step.ensures.step in
    let more = halfway_more such c.args.self.now.0 (states_in st c.args.self.now) c.args.events.items (into_iter_items c.loop-event.left) (into_iter_items c.next.new.self) c.loop-event.outcomes.items (states_in st c.loop-event.self) (states_in st c.step.new.self) c.in-Some.event c.step.result inv.halfway c.in-Some.ensures.items step in
    let push = c.push_reserved.ensures.items in
    record {
      setup = c.step.ensures.setup ∙ inv.setup;
      halfway = rw push more;
      room = omega (arith, inv.room, c.in-Some.ensures.len, c.push_reserved.ensures.len, c.push_reserved.ensures.capacity, c.push_reserved.new.self.ok.0, c.loop-event.outcomes.ok.0);
    }
