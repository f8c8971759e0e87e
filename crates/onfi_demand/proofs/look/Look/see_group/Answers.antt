use Rattle.std.proofs.Common.{◌≡◌, ◌+◌, ◌*◌, ◌-◌, ◌<◌, subst, arith}
use Rattle.onfi_timing.specs.Phases.{phase_length, wait_before}
use Rattle.onfi_demand.specs.Remaining.{lengths_of}
use Rattle.onfi_demand.specs.Look.{Sees}
use Rattle.onfi_demand.specs.Window.{group_left}
use Rattle.onfi_demand.proofs.Between.{chain_step}
use Rattle.onfi_demand.proofs.Posts.{kept_size}
use Rattle.onfi_demand.proofs.Seeing.{group_more, sees_none}
use Rattle.onfi_demand.proofs.look.Look.see_group.Goals as goal

pub overflow_sub-left : goal.overflow_sub-left
overflow_sub-left c =
    let step = chain_step (lengths_of c.args.lengths.now) c.args.lengths.now.members c.loop-phase.phase (kept_size c.args.lengths.now) (omega arith) in
    let l = c.loop-phase.invariant.left in
    let long = c.phase_length-length.ensures.length in
    omega arith

pub overflow_sub-left-in-loop-phase : goal.overflow_sub-left-in-loop-phase
overflow_sub-left-in-loop-phase c =
    let step = chain_step (lengths_of c.args.lengths.now) c.args.lengths.now.members c.loop-phase.phase (kept_size c.args.lengths.now) (omega arith) in
    let l = c.loop-phase.invariant.left in
    let long = c.phase_length-length.ensures.length in
    let wait = c.wait_before.ensures.wait in
    omega arith

pub loop-phase-preserved : goal.loop-phase-preserved
loop-phase-preserved c =
    let look = c.args.self.now in
    let k = c.args.lengths.now.members in
    let spans = lengths_of c.args.lengths.now in
    let size = kept_size c.args.lengths.now in
    let n = c.loop-phase.phase in
    let h : n < 2 * k = omega arith in
    let step = chain_step spans k n size h in
    let l = c.loop-phase.invariant.left in
    let less = c.loop-phase.invariant.less in
    let from = c.loop-phase.invariant.from in
    let small = c.loop-phase.invariant.small in
    let long = c.phase_length-length.ensures.length in
    let short = c.phase_length-length.ensures.short in
    let wait = c.wait_before.ensures.wait in
    let wait_short = c.wait_before.ensures.short in
    let seen = c.see-seen.ensures.small in
    let next : c.loop-phase.from + (c.phase_length-length.result + c.wait_before.result) ≡ c.loop-phase.from + phase_length spans k n + wait_before spans k (n + 1) = omega arith in
    record {
      left = omega arith;
      less = omega arith;
      from = omega arith;
      small = omega arith;
      sees = λ b s. c.loop-phase.invariant.sees b (group_more look spans k c.args.rest n c.loop-phase.from c.phase_length-length.result c.loop-phase.left c.loop-phase.seen c.see-seen.result b size h l long c.see-seen.ensures.sees (subst (λ z. Sees look c.see-seen.result (group_left spans k c.args.rest (2 * k - (n + 1)) (n + 1) z) b) next s));
    }

pub returns-clause-sees : goal.returns-clause-sees
returns-clause-sees c =
    let look = c.args.self.now in
    let none : 0 ≡ 2 * c.args.lengths.now.members - c.loop-phase.phase = omega arith in
    c.loop-phase.invariant.sees c.loop-phase.seen (subst (λ z. Sees look c.loop-phase.seen (group_left (lengths_of c.args.lengths.now) c.args.lengths.now.members c.args.rest z c.loop-phase.phase c.loop-phase.from) c.loop-phase.seen) none (sees_none look c.loop-phase.seen))
