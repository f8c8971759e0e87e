use Rattle.std.proofs.Common.{◌≡◌, ℕ, ◌+◌, sym, subst, arith}
use Rattle.onfi_core.specs.Reaching.{Reaches}
use Rattle.onfi_core.specs.Steps.{IsPromised}
use Rattle.onfi_seq.specs.declared.offer.Offer.{Offer}
use Rattle.onfi_seq.specs.Sequencer.{Seen, channel_of, seen_in}
use Rattle.onfi_seq.specs.Turned.{NothingPosts, Posts}
use Rattle.onfi_seq.proofs.Keeping.{seen_outside}
use Rattle.onfi_seq.proofs.Turning.{Offering, offered_all, offering_full, offering_nothing}
use Rattle.onfi_seq.proofs.sequencer.Sequencer.post_one.Goals as goal
use Rattle.onfi_seq.proofs.sequencer.Sequencer.post_one.Goals.{in-Full, in-Nothing}

pub returns-in-Posted : goal.returns-in-Posted
returns-in-Posted g c =
    let i = c.loop-host.invariant in
    let lower = subst (λ (q : Seen). NothingPosts q c.loop-host.host) (sym i.same) i.lower in
    subst (λ (q : Seen). Posts q (seen_in g.C.Chip.state c.post_to.new.self)) i.same (c.in-Posted.ensures lower)

pub loop-host-preserved : goal.loop-host-preserved
loop-host-preserved g c =
    let old = seen_in g.C.Chip.state c.args.self.now in
    let mid = seen_in g.C.Chip.state c.loop-host.self in
    let new = seen_in g.C.Chip.state c.post_to.new.self in
    elim c.match-post_to.branch [
      | in-Full w ↦ subst (λ (o : Offer). Offering old new (c.loop-host.host + 1) o) (sym w.held-is) (offering_full old mid new c.loop-host.host c.loop-host.held c.loop-host.invariant w.in-Full.ensures)
      | in-Nothing w ↦ subst (λ (o : Offer). Offering old new (c.loop-host.host + 1) o) (sym w.held-is) (offering_nothing old mid new c.loop-host.host c.loop-host.held c.loop-host.invariant w.in-Nothing.ensures)
    ]

pub returns : goal.returns
returns g c =
    let state = g.C.Chip.state in
    let old = seen_in state c.args.self.now in
    let new = seen_in state c.loop-host.self in
    let all : c.loop-host.host ≡ 4 = omega (arith, c.loop-host-test.false, c.loop-host.auto.host-end) in
    let hosts = seen_outside state (λ (q : Seen). q.0.setup.hosts ≡ 4) _ _ c.self.view_is c.self.invariant.hosts in
    let reached = seen_outside state (λ (q : Seen). Reaches (IsPromised g.P.Planner.exact g.P.Planner.certifies) q.0.setup (channel_of q)) _ _ c.self.view_is c.half-half.ensures.reached in
    offered_all (IsPromised g.P.Planner.exact g.P.Planner.certifies) old new c.loop-host.held hosts reached (subst (λ (n : ℕ). Offering old new n c.loop-host.held) all c.loop-host.invariant)
