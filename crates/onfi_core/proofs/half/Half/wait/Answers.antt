use Rattle.std.proofs.Common.{◌≡◌, None, refl, subst, sym}
use Rattle.onfi_core.specs.Steps.{outdated_by}
use Rattle.onfi_core.specs.View.{HalfView}
use Rattle.onfi_core.proofs.Passing.{fields_waited}
use Rattle.onfi_core.proofs.Refused.{waits}
use Rattle.onfi_core.proofs.half.Half.wait.Goals as goal

pub invariant_of-self : goal.invariant_of-self
invariant_of-self c =
    let outdated = subst (λ (v : HalfView). c.outdated_by-outdated.result ≡ outdated_by v.state.books v.state.outdated v.state.now.bus_free c.args.moment) (sym c.self.view_is) c.outdated_by-outdated.ensures in
    fields_waited _ _ _ _ _ _ _ _ c.args.moment _ _ c.self.invariant (c.in-Ok.ensures.in_time.0 refl) c.in-Ok.ensures.waited.1 outdated

pub returns-in-Ok-clause-waited : goal.returns-in-Ok-clause-waited
returns-in-Ok-clause-waited c =
    let outdated = subst (λ (v : HalfView). c.outdated_by-outdated.result ≡ outdated_by v.state.books v.state.outdated v.state.now.bus_free c.args.moment) (sym c.self.view_is) c.outdated_by-outdated.ensures in
    let going : c.self.inside.stopped ≡ None = cc in
    waits _ _ c.args.moment c.in-Ok.bus_free c.wait.new.self c.outdated_by-outdated.result c.self.view_is going (c.in-Ok.ensures.in_time.0 refl) c.in-Ok.ensures.waited outdated
