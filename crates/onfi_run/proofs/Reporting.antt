-- From what came of all channels to what a report says of its rows.
use Rattle.std.proofs.Common.{◌≡◌, ℕ, Bool, true, false, List, length, map, sym, ap, ◌∙◌, subst, Some, refl}
use Rattle.std.specs.Prelude.{IfSome, Option}
use Rattle.std.specs.List.{AllByRecursion as Each}
use Rattle.std.specs.Option.{is_some}
use Rattle.std.proofs.lemmas.List.{length-map}
use Rattle.onfi_script.specs.declared.row.Row.{Row}
use Rattle.onfi_run.specs.declared.bus_use.BusUse.{BusUse}
use Rattle.onfi_run.specs.declared.clock_report.ClockReport.{ClockReport}
use Rattle.onfi_run.specs.declared.port.Port.{Port}
use Rattle.onfi_run.specs.declared.station.Station.{Station}
use Rattle.onfi_run.specs.Ending.{IsOverAt}
use Rattle.onfi_run.specs.Finishing.{IsGathered}
use Rattle.onfi_run.specs.Keys.{HaveSamePorts, port_key, ports_of}
use Rattle.onfi_run.specs.Opening.{AreNew}
use Rattle.onfi_run.specs.Report.{ReportView}
use Rattle.onfi_run.specs.Setup.{channels_in}
use Rattle.onfi_run.specs.Told.{IsClockOf, IsReportOf, Tells, TellsClock}
use Rattle.onfi_run.proofs.ByHost.{same_by_key}
use Rattle.onfi_run.proofs.Collecting.{status_done}

pub same_length : {A B K : Type 0} (f : A → K) (h : B → K) (xs : List A) (ys : List B) → map f xs ≡ map h ys → length xs ≡ length ys
same_length f h xs ys e = sym (length-map xs f) ∙ ap length e ∙ length-map ys h

report_told : (now : ℕ) (nodes : Option ℕ) (rows : List Row) (before behind : List Station) (channels : ℕ) (r : ReportView) → AreNew rows (channels_in rows) before
    → HaveSamePorts before behind → channels ≡ channels_in rows
    → Each (IsOverAt nodes) r.ends → IsGathered now (ports_of behind) channels r → IsReportOf false nodes rows r
report_told now nodes rows before behind channels r new same count over all = record {
  places_are = all.places ∙ same_by_key port_key (λ k. k.1) (ports_of before) (ports_of behind) same ∙ new.places;
  ends_are = all.count ∙ count;
  suited = all.suited;
  over_at = over;
  clock_is = ap is_some all.no_clock;
  clock_tells = subst (λ clock. IfSome clock (IsClockOf r)) (sym all.no_clock) tt;
  complete = λ fine. all.complete (status_done r fine);
}

-- .. with what a clock showed
report_clocked : (nodes : Option ℕ) (rows : List Row) (r more : ReportView) (clock : ClockReport) → IsReportOf false nodes rows r → more ≡ record r { clock = Some clock } → IsClockOf r clock → IsReportOf true nodes rows more
report_clocked nodes rows r more clock told is tells =
    subst (IsReportOf true nodes rows) (sym is) (record {
      places_are = told.places_are;
      ends_are = told.ends_are;
      suited = told.suited;
      over_at = told.over_at;
      clock_is = refl;
      clock_tells = record { buses = tells.buses; reads = tells.reads; programs = tells.programs; erases = tells.erases };
      complete = told.complete;
    })

-- what came of hosts that opened so
pub report_settled : (clocked : Bool) (nodes : Option ℕ) (now : ℕ) (rows : List Row) (before behind : List Station) (buses : List BusUse) (r : ReportView)
    → AreNew rows (channels_in rows) before → HaveSamePorts before behind → length buses ≡ channels_in rows
    → Each (IsOverAt nodes) r.ends → Tells clocked now (ports_of behind) buses r → IsReportOf clocked nodes rows r
report_settled false nodes now rows before behind buses r new same count over all = report_told now nodes rows before behind (length buses) r new same count over all
report_settled true nodes now rows before behind buses r new same count over tells =
    let plain = subst (λ (x : ReportView). Each (IsOverAt nodes) x.ends) tells.with_it over in
    report_clocked nodes rows tells.plain r tells.clock (report_told now nodes rows before behind (length buses) tells.plain new same count plain tells.gathered) tells.with_it tells.tells

-- what was gathered, with a clock that gives these buses
pub clock_told : (now : ℕ) (ports : List (List Port)) (buses told : List BusUse) (channels : ℕ) (r : ReportView) → channels ≡ length buses → IsGathered now ports channels r
    → told ≡ buses → (more : ReportView)
    → (clock : ClockReport) × (more ≡ record r { clock = Some clock }) × IsClockOf r clock × (clock.buses.items ≡ told) → TellsClock now ports buses more
clock_told now ports buses told channels r count gathered same more (clock, with_it, tells, are) = record {
  plain = r;
  gathered = subst (λ n. IsGathered now ports n r) count gathered;
  clock = clock;
  with_it = with_it;
  tells = tells;
  buses_are = are ∙ same;
}
