use Rattle.std.proofs.Common.{sym, subst}
use Rattle.onfi_core.specs.Queues.{state_in}
use Rattle.onfi_core.specs.Steps.{IsPromised, Step}
use Rattle.onfi_core.specs.declared.event.Event.{Event}
use Rattle.onfi_core.specs.declared.event.Event.TheVariants as event
use Rattle.onfi_core.proofs.Promised.{other_last}
use Rattle.onfi_core.proofs.channel.Channel.step.Goals as goal

pub returns-in-Plan-clause-step : goal.returns-in-Plan-clause-step
returns-in-Plan-clause-step g c =
    let P : Event → Type 0 = λ e. Step c.args.self.now.0.setup (state_in g.C.Chip.state c.args.self.now) e c.plan.result (state_in g.C.Chip.state c.plan.new.self) in
    subst P (sym c.in-Plan.is) (c.plan.ensures.step c.in-Plan.channel)

pub returns-in-Submit-clause-promised : goal.returns-in-Submit-clause-promised
returns-in-Submit-clause-promised g c = other_last (IsPromised g.P.Planner.exact g.P.Planner.certifies) c.args.self.now.0.setup (state_in g.C.Chip.state c.args.self.now) (event.Submit c.in-Submit.host c.in-Submit.channel c.in-Submit.request) c.submit.result (state_in g.C.Chip.state c.submit.new.self) tt (c.submit.ensures.step c.in-Submit.channel)

pub returns-in-Accept-clause-promised : goal.returns-in-Accept-clause-promised
returns-in-Accept-clause-promised g c = other_last (IsPromised g.P.Planner.exact g.P.Planner.certifies) c.args.self.now.0.setup (state_in g.C.Chip.state c.args.self.now) (event.Accept c.in-Accept.channel) c.accept.result (state_in g.C.Chip.state c.accept.new.self) tt (c.accept.ensures.step c.in-Accept.channel)

pub returns-in-Bus-clause-promised : goal.returns-in-Bus-clause-promised
returns-in-Bus-clause-promised g c = other_last (IsPromised g.P.Planner.exact g.P.Planner.certifies) c.args.self.now.0.setup (state_in g.C.Chip.state c.args.self.now) (event.Bus c.in-Bus.channel) c.bus.result (state_in g.C.Chip.state c.bus.new.self) tt (c.bus.ensures.step c.in-Bus.channel)

pub returns-in-Wait-clause-promised : goal.returns-in-Wait-clause-promised
returns-in-Wait-clause-promised g c = other_last (IsPromised g.P.Planner.exact g.P.Planner.certifies) c.args.self.now.0.setup (state_in g.C.Chip.state c.args.self.now) (event.Wait c.in-Wait.channel c.in-Wait.moment) c.wait.result (state_in g.C.Chip.state c.wait.new.self) tt (c.wait.ensures.step c.in-Wait.channel)

pub returns-in-Ready-clause-promised : goal.returns-in-Ready-clause-promised
returns-in-Ready-clause-promised g c = other_last (IsPromised g.P.Planner.exact g.P.Planner.certifies) c.args.self.now.0.setup (state_in g.C.Chip.state c.args.self.now) (event.Ready c.in-Ready.channel c.in-Ready.lun) c.ready.result (state_in g.C.Chip.state c.ready.new.self) tt (c.ready.ensures.step c.in-Ready.channel)

pub returns-in-Post-clause-promised : goal.returns-in-Post-clause-promised
returns-in-Post-clause-promised g c = other_last (IsPromised g.P.Planner.exact g.P.Planner.certifies) c.args.self.now.0.setup (state_in g.C.Chip.state c.args.self.now) (event.Post c.in-Post.channel c.in-Post.host) c.post.result (state_in g.C.Chip.state c.post.new.self) tt (c.post.ensures.step c.in-Post.channel)

pub returns-in-Collect-clause-promised : goal.returns-in-Collect-clause-promised
returns-in-Collect-clause-promised g c = other_last (IsPromised g.P.Planner.exact g.P.Planner.certifies) c.args.self.now.0.setup (state_in g.C.Chip.state c.args.self.now) (event.Collect c.in-Collect.channel c.in-Collect.host) c.collect.result (state_in g.C.Chip.state c.collect.new.self) tt (c.collect.ensures.step c.in-Collect.channel)
