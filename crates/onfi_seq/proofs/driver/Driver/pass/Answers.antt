use Rattle.std.proofs.Common.{◌<◌, ◌^◌, ap, ◌∙◌, arith}
use Rattle.onfi_seq.specs.Driver.{DriverView, channel_in}
use Rattle.onfi_seq.proofs.Passing.{in_time_all, passes_asked, passes_waited}
use Rattle.onfi_seq.proofs.driver.Driver.pass.Goals as goal

pub returns-then-bus_free-now-clause-passed : goal.returns-then-bus_free-now-clause-passed
returns-then-bus_free-now-clause-passed g c =
    let e = c.wait.ensures in
    let old = channel_in g.C.Chip.state c.args.self.now in
    let mid = channel_in g.C.Chip.state c.wait.new.self in
    let known : c.args.now < 2 ^ 62 = omega (arith, c.if-now-ge-END.false) in
    let free = c.bus_free.ensures ∙ ap (λ (d : DriverView _). d.0.half.now.bus_free) c.self.view_is in
    passes_waited c.args.now c.args.self.now.0.setup old mid known e.waited (omega (arith, free, c.if-bus_free-now.true)) e.kept

pub returns-clause-passed : goal.returns-clause-passed
returns-clause-passed g c =
    let e = c.wait.ensures in
    let a = c.ask_all.ensures in
    let old = channel_in g.C.Chip.state c.args.self.now in
    let mid = channel_in g.C.Chip.state c.wait.new.self in
    let new = channel_in g.C.Chip.state c.ask_all.new.self in
    let known : c.args.now < 2 ^ 62 = omega (arith, c.if-now-ge-END.false) in
    let free = c.bus_free.ensures ∙ ap (λ (d : DriverView _). d.0.half.now.bus_free) c.self.view_is in
    passes_asked c.args.now c.args.self.now.0.setup c.wait.new.self.0.setup old mid new known e.waited
    (omega (arith, free, c.if-bus_free-now.false)) e.setup a.asked e.kept a.kept

pub returns-clause-kept : goal.returns-clause-kept
returns-clause-kept g c =
    let old = channel_in g.C.Chip.state c.args.self.now in
    let mid = channel_in g.C.Chip.state c.wait.new.self in
    let new = channel_in g.C.Chip.state c.ask_all.new.self in
    in_time_all old mid new c.wait.ensures.kept c.ask_all.ensures.kept

pub returns-clause-found : goal.returns-clause-found
returns-clause-found g c none = c.ask_all.ensures.found none ∙ c.wait.ensures.luns

pub returns-clause-phases : goal.returns-clause-phases
returns-clause-phases g c over = c.wait.ensures.phases (c.ask_all.ensures.phases over)
