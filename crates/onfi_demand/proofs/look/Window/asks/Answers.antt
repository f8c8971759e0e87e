use Rattle.std.proofs.Common.{◌≡◌, ◌+◌, ◌-◌, ◌^◌, ◌<◌, refl, arith}
use Rattle.onfi_demand.specs.Window.{window}
use Rattle.onfi_demand.proofs.Seeing.{window_kept}
use Rattle.onfi_demand.proofs.look.Window.asks.Goals as goal

pub returns-clause-some : goal.returns-clause-some
returns-clause-some c =
    let p = c.args.problem.now.problem in
    let w = c.args.self in
    let sight = c.of-sight.ensures.sight in
    let whole = sight.whole in
    let a = c.saturating_sub.ensures in
    let needed = c.saturating_sub-needed.ensures in
    let b = c.saturating_sub-2.ensures in
    let after = c.saturating_sub-time.ensures in
    let fits = c.ranges.e.fits in
    let time : c.saturating_sub-time.result ≡ c.args.e - (window p w.start w.tail + w.tail) = omega arith in
    let few : c.saturating_sub-time.result < 2 ^ 64 = omega arith in (
      record { some = omega arith; reaches = omega arith },
      window_kept p c.args.e c.saturating_sub-time.result w c.of-sight.result c.times-luns.result _ c.in_limits.ensures.limits.problem sight time few refl refl c.times-luns.ensures,
    )
