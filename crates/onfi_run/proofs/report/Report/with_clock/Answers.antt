use Rattle.std.proofs.Common.{◌≡◌, ap, refl, subst, Some}
use Rattle.onfi_timing.specs.declared.operation.Operation.TheVariants.{Read, Program, Erase}
use Rattle.onfi_run.specs.declared.clock_report.ClockReport.{ClockReport}
use Rattle.onfi_run.specs.Latency.{IsLatencyOf, latencies}
use Rattle.onfi_run.specs.Report.{ReportView}
use Rattle.onfi_run.proofs.report.Report.with_clock.Goals as goal

pub returns : goal.returns
returns c =
    let reads = c.in_ok-latency_of in
    let programs = c.in_ok-latency_of-2 in
    let erases = c.in_ok-latency_of-3 in
    let clock : ClockReport = record { buses = c.args.buses; reads = reads.field-0; programs = programs.field-0; erases = erases.field-0 } in
    let got : c.self.inside.got ≡ c.args.self.got = ap (λ (r : ReportView). r.got) c.self.view_is in
    record {
      clock = (
        clock,
        ap (λ (r : ReportView). let v : ReportView = record r { clock = Some clock } in v) c.self.view_is,
        record {
          buses = c.requires.buses;
          reads = subst (λ g. IsLatencyOf (latencies Read g) reads.field-0) got reads.ensures;
          programs = subst (λ g. IsLatencyOf (latencies Program g) programs.field-0) got programs.ensures;
          erases = subst (λ g. IsLatencyOf (latencies Erase g) erases.field-0) got erases.ensures;
        },
        refl,
      );
    }
