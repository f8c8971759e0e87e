use Rattle.std.proofs.Common.{refl, ◌∙◌, ap}
use Rattle.std.proofs.lemmas.Option.{slice_get_read}
use Rattle.std.specs.Prelude.{max}
use Rattle.onfi_flight.specs.Times.{lag, latest_start}
use Rattle.onfi_flight.proofs.Lags.{lag_more, latest_more}
use Rattle.onfi_flight.proofs.lag.of_rest.Goals as goal

pub loop-starts-preserved : goal.loop-starts-preserved
loop-starts-preserved c =
    let there = slice_get_read c.args.rest.now _ c.loop-starts.starts-index c.starts-item.result refl c.loop-starts-test.true c.starts-item.is in
    let e = c.with_starts-all.ensures in
    let i = c.loop-starts.invariant in
    let is = c.as_slice.ensures.value in
    record {
      by = lag_more (λ starts. starts) c.args.moment c.args.rest.now c.loop-starts.starts-index c.starts-item.result c.loop-starts.all.by c.with_starts-all.result.by _ there i.by (e.by ∙ ap (λ ts. max c.loop-starts.all.by (lag c.args.moment ts)) is);
      latest = latest_more (λ starts. starts) c.args.rest.now c.loop-starts.starts-index c.starts-item.result c.loop-starts.all.latest c.with_starts-all.result.latest _ there i.latest (e.latest ∙ ap (λ ts. max c.loop-starts.all.latest (latest_start ts)) is);
    }
