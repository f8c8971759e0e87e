use Rattle.std.proofs.Common.{◌≡◌, ◌≤◌, ◌∙◌, Bool, length, map, sym, ap, subst, arith}
use Rattle.std.specs.Prelude.{IsTrue}
use Rattle.std.specs.List.{AllByRecursion as Each}
use Rattle.std.proofs.lemmas.List.{length-map, length_push}
use Rattle.std.proofs.lemmas.Result.{IfOk-weaker}
use Rattle.onfi_run.specs.ByHost.{host_numbers}
use Rattle.onfi_run.specs.Ending.{IsOverAt}
use Rattle.onfi_run.specs.Finishing.{IsGathered, report_with}
use Rattle.onfi_run.specs.Keys.{ports_of}
use Rattle.onfi_run.specs.Pace.{IsLaneWithin}
use Rattle.onfi_run.specs.Report.{ReportView}
use Rattle.onfi_run.specs.declared.lane.Lane.{Lane}
use Rattle.onfi_run.proofs.ByHost.{each_longer}
use Rattle.onfi_run.proofs.Collecting.{gathered_more, gathered_none, or_first, or_second}
use Rattle.onfi_run.proofs.Limits.{each_shorter}
use Rattle.onfi_run.proofs.Resting.{each_of_none, each_weaker}
use Rattle.onfi_run.proofs.Links.{linked_less, ports_there}
use Rattle.onfi_run.proofs.finishing.+gather.Goals as goal

pub returns-in_default-clause-gathered : goal.returns-in_default-clause-gathered
returns-in_default-clause-gathered g t c =
    let lanes = c.args.lanes.items in
    let none : length lanes ≡ 0 = omega (arith, (rw c.in_default.is at c.pop.ensures.cases).0, c.args.lanes.ok) in
    let all = gathered_none (λ l. g.C.Channel.queues l.channel) c.args.now lanes c.args.stations c.args.short_of_memory none c.requires in
    subst (IsGathered c.args.now (ports_of c.args.stations) (length lanes)) (sym c.new.ensures) all

pub returns-in_default-clause-short : goal.returns-in_default-clause-short
returns-in_default-clause-short g t c short = ap (λ (r : ReportView). r.short_of_memory) c.new.ensures ∙ short

pub returns-in_default-clause-refused : goal.returns-in_default-clause-refused
returns-in_default-clause-refused g t c =
    let lanes = c.args.lanes.items in
    let none : length lanes ≡ 0 = omega (arith, (rw c.in_default.is at c.pop.ensures.cases).0, c.args.lanes.ok) in
    each_of_none _ lanes none

pub take_ports-stations-requires : goal.take_ports-stations-requires
take_ports-stations-requires g t c =
    let lanes = c.args.lanes.items in
    let qs = map (λ l. g.C.Channel.queues l.channel) lanes in
    let count = ap length c.in-Some.ensures.items ∙ length_push c.pop.new.self.items c.in-Some.lane in
    let some : 1 ≤ length qs = omega (arith, count, length-map lanes (λ l. g.C.Channel.queues l.channel)) in
    ports_there c.args.stations qs host_numbers some c.requires

pub close_channel-finished-requires : goal.close_channel-finished-requires
close_channel-finished-requires g t c =
    let r = c.take_ports-stations in
    let four : length (ports_of r.result.0) ≡ 4 = omega (arith, length-map r.result.0 (λ s. s.ports.items)) in
    (linked_less (λ l. g.C.Channel.queues l.channel) c.args.lanes.items c.pop.new.self.items c.in-Some.lane c.args.stations r.result.0 r.result.1
    c.in-Some.ensures.items r.ensures four (omega arith) c.requires).1

pub gather-requires : goal.gather-requires
gather-requires g t c κs within =
    let r = c.take_ports-stations in
    let four : length (ports_of r.result.0) ≡ 4 = omega (arith, length-map r.result.0 (λ s. s.ports.items)) in
    let count = ap length c.in-Some.ensures.items ∙ length_push c.pop.new.self.items c.in-Some.lane in
    let linked = linked_less (λ l. g.C.Channel.queues l.channel) c.args.lanes.items c.pop.new.self.items c.in-Some.lane c.args.stations r.result.0 r.result.1
    c.in-Some.ensures.items r.ensures four (omega arith) c.requires in
    (omega (arith, c.decreases, count), (within.0, (within.1, linked.0)))

pub returns-clause-gathered : goal.returns-clause-gathered
returns-clause-gathered g t c =
    let ports = ports_of c.args.stations in
    let left = c.pop.new.self.items in
    let r = c.take_ports-stations in
    let finished = c.close_channel-finished in
    let report = c.in_ok-report.report in
    let more = report_with report finished.result in
    let count = ap length c.in-Some.ensures.items ∙ length_push left c.in-Some.lane in
    let told = finished.ensures in
    let all = gathered_more c.args.now ports (ports_of r.result.0) r.result.1 (length left) report finished.result r.ensures c.in_ok-report.ensures.gathered told.finished told.got in
    IfOk-weaker c.with_channel.result (λ m. m ≡ more) (λ m. IsGathered c.args.now ports (length c.args.lanes.items) m)
    (λ m is. subst (IsGathered c.args.now ports (length c.args.lanes.items)) (sym is) (subst (λ n. IsGathered c.args.now ports n more) (sym count) all)) c.with_channel.ensures

pub returns-clause-short : goal.returns-clause-short
returns-clause-short g t c =
    let report = c.in_ok-report.report in
    let finished = c.close_channel-finished.result in
    IfOk-weaker c.with_channel.result (λ m. m ≡ report_with report finished) _
    (λ m is short. ap (λ (r : ReportView). r.short_of_memory) is ∙ or_first report.short_of_memory finished.short_of_memory (c.in_ok-report.ensures.short short)) c.with_channel.ensures

pub returns-clause-refused : goal.returns-clause-refused
returns-clause-refused g t c =
    let report = c.in_ok-report.report in
    let finished = c.close_channel-finished in
    let left = c.pop.new.self.items in
    let lane = c.in-Some.lane in
    let short : Lane g.row.C.Denot → Bool = λ l. g.C.Channel.short l.channel in
    let first = λ (l : Lane g.row.C.Denot) (told : IsTrue (short l) → IsTrue report.short_of_memory) (was : IsTrue (short l)). or_first report.short_of_memory finished.result.short_of_memory (told was) in
    let last = λ (was : IsTrue (short lane)). or_second report.short_of_memory finished.result.short_of_memory (finished.ensures.short (or_second c.args.short_of_memory (short lane) was)) in
    let more = report_with report finished.result in
    let all = each_longer (λ l. IsTrue (short l) → IsTrue more.short_of_memory) left lane (each_weaker (λ l. IsTrue (short l) → IsTrue report.short_of_memory) (λ l. IsTrue (short l) → IsTrue more.short_of_memory) first left c.in_ok-report.ensures.refused) last in
    let lanes = subst (Each (λ l. IsTrue (short l) → IsTrue more.short_of_memory)) (sym c.in-Some.ensures.items) all in
    IfOk-weaker c.with_channel.result (λ m. m ≡ more) (λ m. Each (λ l. IsTrue (short l) → IsTrue m.short_of_memory) c.args.lanes.items)
    (λ m is. subst (λ (r : ReportView). Each (λ l. IsTrue (short l) → IsTrue r.short_of_memory) c.args.lanes.items) (sym is) lanes) c.with_channel.ensures

pub returns-in_default-clause-over : goal.returns-in_default-clause-over
returns-in_default-clause-over g t c limit all = subst (λ (r : ReportView). Each (IsOverAt limit) r.ends) (sym c.new.ensures) tt

pub returns-clause-over : goal.returns-clause-over
returns-clause-over g t c =
    let report = c.in_ok-report.report in
    let finished = c.close_channel-finished in
    let left = c.pop.new.self.items in
    let lane = c.in-Some.lane in
    let queues = g.C.Channel.queues in
    IfOk-weaker c.with_channel.result (λ m. m ≡ report_with report finished.result) _
    (λ m is limit all.
    let both = each_shorter (IsLaneWithin queues limit) left lane (subst (Each (IsLaneWithin queues limit)) c.in-Some.ensures.items all) in
    let before = c.in_ok-report.ensures.over limit both.0 in
    let last = subst (λ n. IsOverAt n finished.result.end) both.1.0 (finished.ensures.over both.1.1) in
    subst (λ (r : ReportView). Each (IsOverAt limit) r.ends) (sym is) (each_longer (IsOverAt limit) report.ends finished.result.end before last))
    c.with_channel.ensures
