-- What a report says of the rows that were run.
use Rattle.std.specs.Prelude.{◌≡◌, ℕ, Bool, true, false, List, [], ◌∷◌, length, map, IfSome, Option, Some}
use Rattle.std.specs.Option.{is_some}
use Rattle.std.specs.List.{AllByRecursion as Each}
use Rattle.onfi_timing.specs.declared.operation.Operation.TheVariants.{Read, Program, Erase}
use Rattle.onfi_script.specs.declared.row.Row.{Row}
use Rattle.onfi_run.specs.Answers.{IsSuited, IsComplete}
use Rattle.onfi_run.specs.Arriving.{Expected, expected_of}
use Rattle.onfi_run.specs.declared.bus_use.BusUse.{BusUse}
use Rattle.onfi_run.specs.declared.clock_report.ClockReport.{ClockReport}
use Rattle.onfi_run.specs.declared.port.Port.{Port}
use Rattle.onfi_run.specs.Ending.{IsOverAt}
use Rattle.onfi_run.specs.Finishing.{IsGathered}
use Rattle.onfi_run.specs.Latency.{IsLatencyOf, latencies}
use Rattle.onfi_run.specs.Report.{GotView, ReportView, places, status_of}
use Rattle.onfi_run.specs.Setup.{channels_in}

-- the operations of which something is kept, by channel
abbrev pub places_by_channel : GotView → List (List Expected)
places_by_channel got = map places got

-- what a clock says of a run: of each channel how busy its bus was, and how long operations of each kind took
pub record IsClockOf (report : ReportView) (clock : ClockReport) : Type 0 where
  pub buses : length clock.buses.items ≡ length report.ends
  pub reads : IsLatencyOf (latencies Read report.got) clock.reads
  pub programs : IsLatencyOf (latencies Program report.got) clock.programs
  pub erases : IsLatencyOf (latencies Erase report.got) clock.erases

-- the report of channels and hosts that stood still at that moment: what was gathered of them then, and what their clock showed
pub record TellsClock (now : ℕ) (ports : List (List Port)) (buses : List BusUse) (report : ReportView) : Type 0 where
  pub plain : ReportView
  pub gathered : IsGathered now ports (length buses) plain
  pub clock : ClockReport
  pub with_it : report ≡ record plain { clock = Some clock }
  pub tells : IsClockOf plain clock
  pub buses_are : clock.buses.items ≡ buses

-- .. with a clock; else what was gathered alone
abbrev pub Tells : Bool → ℕ → List (List Port) → List BusUse → ReportView → Type 0
Tells true now ports buses report = TellsClock now ports buses report
Tells false now ports buses report = IsGathered now ports (length buses) report

-- Of each of four hosts there is, by channel, a place for each of its operations there, in the order of their rows, with its kind and when it arrives, and in it nothing or an answer that suits that operation, collected no sooner than the operation was submitted. Where the status is 0 each place has its answer. A channel is over where a planning opened as many nodes as it may, and none is where nothing is planned. Moments are given where the run has a clock.
pub record IsReportOf (clocked : Bool) (nodes : Option ℕ) (rows : List Row) (report : ReportView) : Type 0 where
  pub places_are : map places_by_channel report.got ≡ map (expected_of rows (channels_in rows)) (0 ∷ 1 ∷ 2 ∷ 3 ∷ [])
  pub ends_are : length report.ends ≡ channels_in rows
  pub suited : Each (Each (Each IsSuited)) report.got
  pub over_at : Each (IsOverAt nodes) report.ends
  pub clock_is : is_some report.clock ≡ clocked
  pub clock_tells : IfSome report.clock (IsClockOf report)
  pub complete : status_of report.short_of_memory report.ends ≡ 0 → Each (Each IsComplete) report.got
