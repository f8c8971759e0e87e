use Rattle.std.proofs.Common.{refl, ◌∙◌, ap}
use Rattle.std.proofs.lemmas.Option.{slice_get_read}
use Rattle.std.specs.Prelude.{max}
use Rattle.onfi_schedule.specs.Schedule.{Placed}
use Rattle.onfi_flight.specs.Times.{lag, latest_start}
use Rattle.onfi_flight.proofs.Lags.{lag_more, latest_more}
use Rattle.onfi_flight.proofs.lag.with_groups.Goals as goal

pub loop-placed-preserved : goal.loop-placed-preserved
loop-placed-preserved c =
    let there = slice_get_read c.args.groups.now _ c.loop-placed.placed-index c.placed-item.result refl c.loop-placed-test.true c.placed-item.is in
    let e = c.with_starts-all.ensures in
    let i = c.loop-placed.invariant in
    let is = c.as_slice.ensures.value ∙ c.starts.ensures in
    record {
      by = lag_more (λ (g : Placed). g.starts) c.args.moment c.args.groups.now c.loop-placed.placed-index c.placed-item.result c.loop-placed.all.by c.with_starts-all.result.by _ there i.by (e.by ∙ ap (λ ts. max c.loop-placed.all.by (lag c.args.moment ts)) is);
      latest = latest_more (λ (g : Placed). g.starts) c.args.groups.now c.loop-placed.placed-index c.placed-item.result c.loop-placed.all.latest c.with_starts-all.result.latest _ there i.latest (e.latest ∙ ap (λ ts. max c.loop-placed.all.latest (latest_start ts)) is);
    }
