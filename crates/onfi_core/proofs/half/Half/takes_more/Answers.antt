use Rattle.std.proofs.Common.{length, ap, ◌∙◌, arith}
use Rattle.std.specs.Prelude.{nat_lt}
use Rattle.onfi_flight.specs.Flight.{Flight}
use Rattle.onfi_core.specs.View.{HalfView}
use Rattle.onfi_core.proofs.Next.{new_takes}
use Rattle.onfi_core.proofs.half.Half.takes_more.Goals as goal

pub returns : goal.returns
returns c =
    let v = c.args.self.now in
    let is = c.self.view_is in
    let wants = ap length c.wants.ensures.value ∙ ap (λ (f : Flight). length f.now.wants) c.flight.ensures ∙ ap (λ (x : HalfView). length x.state.now.wants) is in
    let batch = c.from.ensures ∙ ap (λ (x : HalfView). x.state.batch) is in
    let low = c.if-wants-from.false in
    ap (nat_lt c.self.inside.planned) c.self.invariant.count ∙ ap (λ (x : HalfView). nat_lt x.state.planned (length x.state.accepted)) is
    ∙ new_takes v.setup v.state (omega (arith, wants, batch, low))
