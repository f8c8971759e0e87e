use Rattle.std.proofs.Common.{◌∙◌, map, subst}
use Rattle.std.proofs.lemmas.List.{length-map}
use Rattle.std.proofs.lemmas.Result.{IfOk-weaker}
use Rattle.onfi_run.specs.Ending.{nodes_by}
use Rattle.onfi_run.specs.Keys.{port_key, ports_of}
use Rattle.onfi_run.specs.Opening.{AreBehind, AreOpenedOn, lane_queues}
use Rattle.onfi_run.specs.Told.{IsReportOf}
use Rattle.onfi_run.proofs.ByHost.{same_by_key}
use Rattle.onfi_run.proofs.Limits.{IfOk-both, all_open_within, all_within}
use Rattle.onfi_run.proofs.Reporting.{report_settled, same_length}
use Rattle.onfi_run.proofs.running.run.Goals as goal

pub report_of-requires : goal.report_of-requires
report_of-requires g c =
    let stage = c.in_ok-stage.stage in
    let settled = c.in_ok-settled in
    let same = same_by_key port_key (λ k. k.0) (ports_of stage.stations) (ports_of settled.settled.stations) settled.ensures.stations in
    rw settled.ensures.lanes (same ∙ c.in_ok-stage.ensures.linked)

pub returns-clause-tells : goal.returns-clause-tells
returns-clause-tells g c =
    let prepared = c.args.prepared.now in
    let opened = c.in_ok-stage in
    let settled = c.in_ok-settled in
    let there = subst (λ l. AreOpenedOn l prepared.device.chips c.args.way c.args.gates.items opened.stage.lanes.items) c.as_slice-rows.ensures.value opened.ensures.opened in
    let behind : AreBehind prepared.rows.items prepared.device.chips c.args.way c.args.gates.items settled.settled.lanes.items = (opened.stage.lanes.items, there, settled.ensures.lanes) in
    IfOk-weaker c.report_of.result _ _ (λ r tells. (settled.settled, behind, settled.ensures.no_clock, tells)) c.report_of.ensures.tells

pub returns-clause-report : goal.returns-clause-report
returns-clause-report g c =
    let stage = c.in_ok-stage in
    let settled = c.in_ok-settled in
    let lanes = settled.settled.lanes.items in
    let buses = map (λ l. l.pace.bus) lanes in
    let count = length-map lanes (λ l. l.pace.bus) ∙ same_length lane_queues lane_queues lanes stage.stage.lanes.items settled.ensures.lanes ∙ stage.ensures.count in
    let opened = all_open_within c.as_slice-rows.result.now c.args.prepared.now.device.chips c.args.way c.args.gates.items stage.stage.lanes.items stage.ensures.opened in
    let within = all_within c.as_slice-rows.result.now c.args.prepared.now.device.chips c.args.way c.args.gates.items stage.stage.lanes.items lanes stage.ensures.opened
    settled.ensures.lanes (settled.ensures.over opened) in
    IfOk-weaker c.report_of.result _ (IsReportOf c.args.clocked (nodes_by c.args.way.choice c.args.way.limit) c.args.prepared.now.rows.items)
    (λ r told. subst (λ l. IsReportOf c.args.clocked (nodes_by c.args.way.choice c.args.way.limit) l r) c.as_slice-rows.ensures.value
    (report_settled c.args.clocked (nodes_by c.args.way.choice c.args.way.limit) settled.settled.now c.as_slice-rows.result.now stage.stage.stations settled.settled.stations buses r stage.ensures.new settled.ensures.stations count
    (told.1 (nodes_by c.args.way.choice c.args.way.limit) within) told.0))
    (IfOk-both c.report_of.result _ _ c.report_of.ensures.tells c.report_of.ensures.over)
