use Rattle.std.proofs.Common.{length, ◌∙◌, map, sym, ap, subst}
use Rattle.std.specs.Prelude.{IfOk}
use Rattle.std.specs.List.{AllByRecursion as Each}
use Rattle.std.proofs.lemmas.List.{length-map}
use Rattle.std.proofs.lemmas.Result.{IfOk-weaker}
use Rattle.onfi_run.specs.declared.lane.Lane.{Lane}
use Rattle.onfi_run.specs.Ending.{IsOverAt}
use Rattle.onfi_run.specs.Finishing.{IsGathered}
use Rattle.onfi_run.specs.Keys.{ports_of}
use Rattle.onfi_run.specs.Report.{ReportView}
use Rattle.onfi_run.specs.Told.{Tells, TellsClock}
use Rattle.onfi_run.proofs.Reporting.{clock_told}
use Rattle.onfi_run.proofs.running.report_of.Goals as goal

pub returns-then-not-clocked-clause-tells : goal.returns-then-not-clocked-clause-tells
returns-then-not-clocked-clause-tells g c =
    let now = c.args.settled.now in
    let ports = ports_of c.args.settled.stations in
    let bus = λ (l : Lane g.row.C.Denot). l.pace.bus in
    let buses = map bus c.args.settled.lanes.items in
    subst (λ b. IfOk c.finish_all.result (λ r. Tells b now ports buses r)) (sym c.if-not-clocked.true)
    (IfOk-weaker c.finish_all.result _ (IsGathered now ports (length buses))
    (λ r all. subst (λ n. IsGathered now ports n r) (sym (length-map c.args.settled.lanes.items bus)) all) c.finish_all.ensures.gathered)

pub returns-clause-tells : goal.returns-clause-tells
returns-clause-tells g c =
    let now = c.args.settled.now in
    let lanes = c.args.settled.lanes.items in
    let ports = ports_of c.args.settled.stations in
    let bus = λ (l : Lane g.row.C.Denot). l.pace.bus in
    let buses = map bus lanes in
    subst (λ b. IfOk c.with_clock.result (λ r. Tells b now ports buses r)) (sym c.if-not-clocked.false)
    (IfOk-weaker c.with_clock.result _ (TellsClock now ports buses)
    (clock_told now ports buses c.in_ok-buses.buses.items (length lanes) c.in_ok-report.report (sym (length-map lanes bus)) c.in_ok-report.ensures.gathered
    (c.in_ok-buses.ensures ∙ ap (map bus) c.as_slice.ensures.value))
    c.with_clock.ensures.clock)

pub returns-clause-over : goal.returns-clause-over
returns-clause-over g c =
    IfOk-weaker c.with_clock.result _ _
    (λ r told limit all. subst (λ (x : ReportView). Each (IsOverAt limit) x.ends) (sym told.1) (c.in_ok-report.ensures.over limit all))
    c.with_clock.ensures.clock
