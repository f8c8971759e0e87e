use Rattle.std.proofs.Common.{sym, subst}
use Rattle.onfi_core.specs.Steps.{IsPromised}
use Rattle.onfi_seq.specs.declared.drained.DrainedAt.{DrainedAt}
use Rattle.onfi_seq.specs.Drained.{Drains, DrainsBy}
use Rattle.onfi_seq.specs.NoClock.{TurnedAtOnce, greatest}
use Rattle.onfi_seq.specs.Sequencer.{seen_in}
use Rattle.onfi_seq.proofs.AtOnce.{drained_at_once, ends_now}
use Rattle.onfi_seq.proofs.sequencer.Sequencer.drain.Goals as goal

pub end_of-requires : goal.end_of-requires
end_of-requires g c =
    let st = g.C.Chip.state in
    ends_now (IsPromised g.P.Planner.exact g.P.Planner.certifies) (seen_in st c.args.self.now) c.args.hosts.now c.args.inboxes.now c.args.turns c.drain_at-end.result (seen_in st c.drain_at-end.new.self) c.drain_at-end.new.inboxes c.drain_at-end.ensures.drains

pub returns-clause-drains : goal.returns-clause-drains
returns-clause-drains g c =
    let st = g.C.Chip.state in
    let old = seen_in st c.args.self.now in
    let new = seen_in st c.drain_at-end.new.self in
    subst (λ (e : DrainedAt). Drains (IsPromised g.P.Planner.exact g.P.Planner.certifies) greatest old c.args.hosts.now c.args.inboxes.now c.args.turns e new c.drain_at-end.new.inboxes) (sym c.end_of.ensures) c.drain_at-end.ensures.drains

pub returns-clause-no_time : goal.returns-clause-no_time
returns-clause-no_time g c =
    let st = g.C.Chip.state in
    let old = seen_in st c.args.self.now in
    let new = seen_in st c.drain_at-end.new.self in
    let at_once = drained_at_once (IsPromised g.P.Planner.exact g.P.Planner.certifies) old c.args.hosts.now c.args.inboxes.now c.args.turns c.drain_at-end.result new c.drain_at-end.new.inboxes c.drain_at-end.ensures.drains in
    subst (λ (e : DrainedAt). DrainsBy (IsPromised g.P.Planner.exact g.P.Planner.certifies) TurnedAtOnce old c.args.hosts.now c.args.inboxes.now c.args.turns e new c.drain_at-end.new.inboxes) (sym c.end_of.ensures) at_once
