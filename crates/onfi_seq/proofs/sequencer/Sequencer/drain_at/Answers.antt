use Rattle.std.proofs.Common.{ap, sym, ◌∙◌, arith}
use Rattle.onfi_chip.proofs.SimCalls.{if_err, if_ok}
use Rattle.onfi_core.specs.Steps.{IsPromised}
use Rattle.onfi_seq.specs.Sequencer.{Seen, seen_in}
use Rattle.onfi_seq.proofs.Draining.{all_grown_all, draining_first, draining_taken, draining_turned, drains_behind, drains_here, drains_refused, right_marked, same_marked}
use Rattle.onfi_seq.proofs.Same.{same_channel_all}
use Rattle.onfi_seq.proofs.sequencer.Sequencer.drain_at.Goals as goal

pub loop-alloc-init : goal.loop-alloc-init
loop-alloc-init g c = record {
  few = omega arith;
  right = c.look.ensures;
  so_far = draining_first (IsPromised g.P.Planner.exact g.P.Planner.certifies) c.args.now (seen_in g.C.Chip.state c.args.self.now) c.args.inboxes.now;
}

pub returns-then-is_err-clause-drains : goal.returns-then-is_err-clause-drains
returns-then-is_err-clause-drains g c =
    let st = g.C.Chip.state in
    let l = c.loop-alloc in
    let new = seen_in st c.note_refused_memory.new.self in
    let refused = if_err c.take_in_all.result (sym c.is_err.ensures.value ∙ c.if-is_err.true) c.take_in_all.ensures.refused in
    drains_refused (IsPromised g.P.Planner.exact g.P.Planner.certifies) c.args.now (seen_in st c.args.self.now) c.args.inboxes.now l.made (seen_in st l.self) l.inboxes l.invariant.so_far
    c.args.hosts.now c.args.turns new c.take_in_all.new.inboxes l.invariant.few refused c.note_refused_memory.ensures

pub returns-then-is_err-clause-inboxes : goal.returns-then-is_err-clause-inboxes
returns-then-is_err-clause-inboxes g c = all_grown_all c.args.inboxes.now c.loop-alloc.inboxes c.take_in_all.new.inboxes c.loop-alloc.invariant.so_far.grown c.take_in_all.ensures.grown

pub returns-then-is_err-clause-right : goal.returns-then-is_err-clause-right
returns-then-is_err-clause-right g c =
    let st = g.C.Chip.state in
    right_marked (IsPromised g.P.Planner.exact g.P.Planner.certifies) (seen_in st c.loop-alloc.self) (seen_in st c.note_refused_memory.new.self) c.note_refused_memory.ensures c.loop-alloc.invariant.right

pub returns-then-is_err-clause-same : goal.returns-then-is_err-clause-same
returns-then-is_err-clause-same g c =
    let st = g.C.Chip.state in
    let new = seen_in st c.note_refused_memory.new.self in
    same_channel_all (seen_in st c.args.self.now) (seen_in st c.loop-alloc.self) new c.loop-alloc.invariant.so_far.same (same_marked (seen_in st c.loop-alloc.self) new c.note_refused_memory.ensures)

pub returns-in-Some-clause-drains : goal.returns-in-Some-clause-drains
returns-in-Some-clause-drains g c =
    let st = g.C.Chip.state in
    let l = c.loop-alloc in
    let q = seen_in st c.args.self.now in
    let here = seen_in st l.self in
    let none = if_ok c.take_in_all.result (sym c.is_err.ensures.value ∙ c.if-is_err.false) c.take_in_all.ensures.taken in
    let taken = draining_taken (IsPromised g.P.Planner.exact g.P.Planner.certifies) c.args.now q c.args.inboxes.now l.made here l.inboxes l.invariant.so_far c.take_in_all.new.inboxes c.take_in_all.ensures.grown none in
    drains_here (IsPromised g.P.Planner.exact g.P.Planner.certifies) c.args.now q c.args.inboxes.now l.made here c.take_in_all.new.inboxes taken c.args.hosts.now c.args.turns c.in-Some.end l.invariant.few c.in-Some.ensures.some

pub returns-in-Some-clause-inboxes : goal.returns-in-Some-clause-inboxes
returns-in-Some-clause-inboxes g c = all_grown_all c.args.inboxes.now c.loop-alloc.inboxes c.take_in_all.new.inboxes c.loop-alloc.invariant.so_far.grown c.take_in_all.ensures.grown

pub returns-in-Some-clause-same : goal.returns-in-Some-clause-same
returns-in-Some-clause-same g c = c.loop-alloc.invariant.so_far.same

pub returns-in-Some-end_after_turn-clause-drains : goal.returns-in-Some-end_after_turn-clause-drains
returns-in-Some-end_after_turn-clause-drains g c =
    let st = g.C.Chip.state in
    let l = c.loop-alloc in
    let q = seen_in st c.args.self.now in
    let here = seen_in st l.self in
    let none = if_ok c.take_in_all.result (sym c.is_err.ensures.value ∙ c.if-is_err.false) c.take_in_all.ensures.taken in
    let taken = draining_taken (IsPromised g.P.Planner.exact g.P.Planner.certifies) c.args.now q c.args.inboxes.now l.made here l.inboxes l.invariant.so_far c.take_in_all.new.inboxes c.take_in_all.ensures.grown none in
    drains_behind (IsPromised g.P.Planner.exact g.P.Planner.certifies) c.args.now q c.args.inboxes.now l.made here c.take_in_all.new.inboxes taken c.args.hosts.now c.args.turns
    c.turn_at-turn.result (seen_in st c.turn_at-turn.new.self) c.in-Some-end_after_turn.end c.in_default.ensures.none c.turn_at-turn.ensures.turned c.turn_at-turn.ensures.planned c.in-Some-end_after_turn.ensures.some

pub returns-in-Some-end_after_turn-clause-inboxes : goal.returns-in-Some-end_after_turn-clause-inboxes
returns-in-Some-end_after_turn-clause-inboxes g c =
    all_grown_all c.args.inboxes.now c.loop-alloc.inboxes c.take_in_all.new.inboxes c.loop-alloc.invariant.so_far.grown c.take_in_all.ensures.grown

pub returns-in-Some-end_after_turn-clause-same : goal.returns-in-Some-end_after_turn-clause-same
returns-in-Some-end_after_turn-clause-same g c =
    let st = g.C.Chip.state in
    same_channel_all (seen_in st c.args.self.now) (seen_in st c.loop-alloc.self) (seen_in st c.turn_at-turn.new.self) c.loop-alloc.invariant.so_far.same c.turn_at-turn.ensures.same

pub returns-then-is_err-clause-short : goal.returns-then-is_err-clause-short
returns-then-is_err-clause-short g c short = ap (λ (x : Seen). x.0.short) c.note_refused_memory.ensures

pub returns-in-Some-clause-short : goal.returns-in-Some-clause-short
returns-in-Some-clause-short g c = c.loop-alloc.invariant.so_far.short

pub returns-in-Some-end_after_turn-clause-short : goal.returns-in-Some-end_after_turn-clause-short
returns-in-Some-end_after_turn-clause-short g c short = c.turn_at-turn.ensures.short (c.loop-alloc.invariant.so_far.short short)

pub loop-alloc-preserved : goal.loop-alloc-preserved
loop-alloc-preserved g c =
    let st = g.C.Chip.state in
    let l = c.loop-alloc in
    let q = seen_in st c.args.self.now in
    let here = seen_in st l.self in
    let none = if_ok c.take_in_all.result (sym c.is_err.ensures.value ∙ c.if-is_err.false) c.take_in_all.ensures.taken in
    let taken = draining_taken (IsPromised g.P.Planner.exact g.P.Planner.certifies) c.args.now q c.args.inboxes.now l.made here l.inboxes l.invariant.so_far c.take_in_all.new.inboxes c.take_in_all.ensures.grown none in
    record {
      few = omega (arith, c.in_default.ensures.none);
      right = c.turn_at-turn.ensures.right;
      so_far = draining_turned (IsPromised g.P.Planner.exact g.P.Planner.certifies) c.args.now q c.args.inboxes.now l.made here c.take_in_all.new.inboxes taken
          c.turn_at-turn.result (seen_in st c.turn_at-turn.new.self) c.turn_at-turn.ensures.turned c.turn_at-turn.ensures.planned c.turn_at-turn.ensures.same c.turn_at-turn.ensures.short c.in_default-end_after_turn.ensures.none;
    }
