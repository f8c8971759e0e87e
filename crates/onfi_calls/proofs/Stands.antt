-- A problem with a schedule that is said of it.
use Rattle.std.proofs.Common.{◌≡◌, List, true, false, sym, ap, ◌∙◌, subst}
use Rattle.std.specs.Prelude.{IfOk, IfErr, Result, Ok, Err}
use Rattle.onfi_problem.specs.Position.{Position}
use Rattle.onfi_calls.specs.declared.channel.PlainChannel.{PlainChannel}
use Rattle.onfi_calls.specs.declared.channel.PlainWant.{PlainWant}
use Rattle.onfi_calls.specs.declared.schedule.PlainSchedule.{PlainSchedule}
use Rattle.onfi_calls.specs.declared.stand.Stand.{Stand}
use Rattle.onfi_calls.specs.declared.status.Status.{Status}
use Rattle.onfi_calls.specs.declared.status.Status.TheVariants.{BadSchedule}
use Rattle.onfi_calls.specs.Problem.{IsSaid, have_lacking}
use Rattle.onfi_calls.specs.Stand.{IsNoSchedule, IsScheduleSaid, is_bad}
use Rattle.onfi_calls.specs.ReadSchedule.{is_bad_schedule, schedule_of}

pub stands : {channel : PlainChannel} {wants : List PlainWant} (x : Position) (schedule : PlainSchedule) (told : Result Stand Status)
    → IsSaid channel wants x.problem → have_lacking channel wants ≡ false → IfOk told (λ t. t.problem ≡ x)
    → IfOk told (λ t. (is_bad_schedule schedule ≡ false) × (t.schedule ≡ schedule_of x.problem.wants schedule))
    → IfOk told (λ t. IsScheduleSaid channel wants schedule t.problem.problem t.schedule)
stands {channel = channel} {wants = wants} x schedule (Ok t) said lengths same good = record {
  problem = subst (λ (y : Position). IsSaid channel wants y.problem) (sym same) said;
  lengths = lengths;
  good = good.0;
  is = good.1 ∙ ap (λ (y : Position). schedule_of y.problem.wants schedule) (sym same);
}
stands x schedule (Err status) said lengths same good = tt

pub begun : (x : Position) (told : Result Stand Status) → x.all ≡ x.problem.wants → IfOk told (λ t. t.problem ≡ x) → IfOk told (λ t. t.problem.all ≡ t.problem.problem.wants)
begun x (Ok t) all same = subst (λ (y : Position). y.all ≡ y.problem.wants) (sym same) all
begun x (Err status) all same = tt

pub none_stands : {channel : PlainChannel} {wants : List PlainWant} (x : Position) (schedule : PlainSchedule) (told : Result Stand Status)
    → IsSaid channel wants x.problem → have_lacking channel wants ≡ false → IfErr told (λ status. (is_bad_schedule schedule ≡ true) × (status ≡ BadSchedule))
    → IfErr told (IsNoSchedule channel wants schedule)
none_stands x schedule (Ok t) said lengths bad = tt
none_stands x schedule (Err status) said lengths bad = is_bad x.problem said lengths bad.0 bad.1
