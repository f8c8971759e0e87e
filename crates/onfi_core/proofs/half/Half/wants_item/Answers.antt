use Rattle.std.proofs.Common.{ap, ◌∙◌, length}
use Rattle.onfi_core.specs.View.{HalfView}
use Rattle.onfi_core.proofs.Counting.{wants_more}
use Rattle.onfi_core.proofs.half.Half.wants_item.Goals as goal

pub returns : goal.returns
returns c =
    let v = c.args.self.now in
    let is = c.self.view_is in
    wants_more v.setup v.state c.self.inside.accepted c.self.inside.planned c.from.result (c.self.invariant.count ∙ ap (λ (x : HalfView). length x.state.accepted) is)
    (ap (λ (x : HalfView). x.state.planned) is) (c.from.ensures ∙ ap (λ (x : HalfView). x.state.batch) is)
