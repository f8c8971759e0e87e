use Rattle.std.proofs.Common.{◌≡◌, ap, rules}
use Rattle.onfi_core.specs.declared.event.Event.TheVariants as event
use Rattle.onfi_core.specs.declared.outcome.Outcome.TheVariants as outcome
use Rattle.onfi_core.specs.Steps.{Step}
use Rattle.onfi_seq.specs.Sequencer.{Seen, channel_of}
use Rattle.onfi_seq.specs.Driver.{DriverView}
use Rattle.onfi_seq.proofs.Keeping.{kept_planning, seen_outside}
use Rattle.onfi_seq.proofs.Turning.{planned_seen}
use Rattle.onfi_seq.proofs.sequencer.Sequencer.plan_once.Goals as goal

pub invariant_of-self-in-Err-Stopped : goal.invariant_of-self-in-Err-Stopped
invariant_of-self-in-Err-Stopped g c =
    let f = c.self.inside in
    let d = c.plan.new.self in
    kept_planning f.driver.0.setup d.0.setup f.driver.0.half d.0.half f.intake f.posters f.refused f.short f.accepted_by (ap (λ (v : DriverView _). v.0.setup) c.plan.ensures.same) c.plan.ensures.accepted c.plan.ensures.posted c.self.invariant

pub returns-in-Ok-clause-some : goal.returns-in-Ok-clause-some
returns-in-Ok-clause-some g c =
    let f = c.self.inside in
    let state = g.C.Chip.state in
    let d = c.plan.new.self in
    let new : Seen = (record { setup = d.0.setup; half = d.0.half; intake = f.intake; posters = f.posters; refused = f.refused; short = f.short }, state d.1) in (
      c.in-Ok.field-0,
      record {
        may = record { before = c.requires.before; again = search rules };
        step = λ channel. seen_outside state (λ (q : Seen). Step q.0.setup (channel_of q) (event.Plan channel) (outcome.Planned c.in-Ok.field-0) (channel_of new)) _ _ c.self.view_is (c.in-Ok.ensures.step channel);
        after = seen_outside state (λ (q : Seen). new ≡ (record q.0 { half = new.0.half; refused = q.0.refused; short = q.0.short }, q.1)) _ _ c.self.view_is (planned_seen state f.intake f.posters f.refused f.short f.driver d c.plan.ensures.same);
      },
    )

pub returns-in-Err-Stopped-clause-some : goal.returns-in-Err-Stopped-clause-some
returns-in-Err-Stopped-clause-some g c =
    let f = c.self.inside in
    let state = g.C.Chip.state in
    let d = c.plan.new.self in
    let new : Seen = (record { setup = d.0.setup; half = d.0.half; intake = f.intake; posters = f.posters; refused = f.refused; short = f.short }, state d.1) in
    let e = rw c.in-Err-Stopped.field-0-is at c.in-Err-Stopped.ensures in
    record {
      may = record { before = c.requires.before; again = search rules };
      step = λ channel. seen_outside state (λ (q : Seen). Step q.0.setup (channel_of q) (event.Plan channel) (outcome.Stopped c.in-Err-Stopped.cause) (channel_of new)) _ _ c.self.view_is (e.step channel);
      after = seen_outside state (λ (q : Seen). new ≡ (record q.0 { half = new.0.half; refused = q.0.refused; short = q.0.short }, q.1)) _ _ c.self.view_is (planned_seen state f.intake f.posters f.refused f.short f.driver d c.plan.ensures.same);
    }
