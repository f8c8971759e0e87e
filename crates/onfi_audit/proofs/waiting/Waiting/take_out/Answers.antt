use Rattle.std.proofs.Common.{◌≡◌, ◌+◌, ◌<◌, length, drop, sym, ap, ◌∙◌, subst, arith}
use Rattle.std.specs.Prelude.{remove}
use Rattle.std.proofs.lemmas.List.{length-drop}
use Rattle.onfi_group.specs.Words.{Pairs}
use Rattle.onfi_audit.proofs.Leaving.{moved_is, pairs_removed}
use Rattle.onfi_audit.proofs.waiting.Waiting.take_out.Goals as goal

pub invariant_of-self : goal.invariant_of-self
invariant_of-self c =
    let xs = c.self.inside.all.items in
    let gone = c.self.inside.gone in
    let low : gone + c.args.at < length xs = omega (arith, length-drop gone xs, ap length c.self.view_is, c.requires) in
    let left : drop (gone + 1) c.copy_within.new.self.items ≡ remove (drop gone xs) c.args.at = ap (drop (gone + 1)) c.copy_within.ensures.items ∙ moved_is xs gone c.args.at low in (
      omega (arith, c.copy_within.ensures.len),
      subst (Pairs (λ a b. a.id < b.id)) (sym left) (pairs_removed (λ a b. a.id < b.id) (drop gone xs) c.args.at c.self.invariant.1),
    )

pub returns : goal.returns
returns c =
    let xs = c.self.inside.all.items in
    let gone = c.self.inside.gone in
    let low : gone + c.args.at < length xs = omega (arith, length-drop gone xs, ap length c.self.view_is, c.requires) in
    ap (drop (gone + 1)) c.copy_within.ensures.items ∙ moved_is xs gone c.args.at low ∙ ap (λ ws. remove ws c.args.at) c.self.view_is
