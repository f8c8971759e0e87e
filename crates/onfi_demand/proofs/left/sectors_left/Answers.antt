use Rattle.std.proofs.Common.{◌≡◌, ◌+◌, ◌-◌, length, get_or, ap, ◌∙◌, arith}
use Rattle.onfi_timing.specs.Kinds.{sectors_of}
use Rattle.onfi_group.proofs.PhaseLengths.{no_want}
use Rattle.onfi_demand.proofs.Posts.{sectors_are}
use Rattle.onfi_demand.proofs.left.sectors_left.Goals as goal

pub returns-clause-left : goal.returns-clause-left
returns-clause-left c =
    let g = c.args.members.now in
    let over : c.saturating_sub-over.result ≡ c.args.next - length g = c.saturating_sub-over.ensures in
    let within = c.loop-at.invariant.within in
    sectors_are g c.args.next c.loop-at.sectors c.requires c.loop-at.invariant.long (λ i h. c.loop-at.invariant.left i (omega arith) ∙ ap (λ o. sectors_of (get_or g (i + o) no_want).kind) over) (λ i h. c.loop-at.invariant.rest i (omega arith))
