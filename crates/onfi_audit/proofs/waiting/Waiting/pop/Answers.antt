use Rattle.std.proofs.Common.{◌≡◌, ◌-◌, ◌≤◌, length, take, drop, sym, ap, ◌∙◌, subst, arith}
use Rattle.onfi_audit.proofs.Leaving.{left, less, popped}
use Rattle.onfi_audit.proofs.waiting.Waiting.pop.Goals as goal

-- the list is one shorter
module _ (c : goal.After-truncate) where
  some : 1 ≤ length (drop c.self.inside.gone c.self.inside.all.items)
  some = subst (λ ws. 1 ≤ length ws) (sym c.self.view_is) c.requires

  shorter : c.truncate.new.self.items ≡ take (length c.self.inside.all.items - 1) c.self.inside.all.items
  shorter =
      let count : c.len-last.result - 1 ≡ length c.self.inside.all.items - 1 = omega (arith, c.len-last.ensures) in
      c.truncate.ensures.items ∙ ap (λ n. take n c.self.inside.all.items) count

pub invariant_of-self : goal.invariant_of-self
invariant_of-self c = popped c.self.inside.all.items c.truncate.new.self.items c.self.inside.gone (some c) c.self.invariant.1 (shorter c)

pub returns-clause-left : goal.returns-clause-left
returns-clause-left c = λ before want e.
    left c.self.inside.all.items c.truncate.new.self.items c.self.inside.gone (some c) c.self.invariant.1 (shorter c) before want (c.self.view_is ∙ e)

pub returns-clause-less : goal.returns-clause-less
returns-clause-less c = λ before want e.
    less c.self.inside.all.items c.truncate.new.self.items c.self.inside.gone (some c) c.self.invariant.1 (shorter c) before want (c.self.view_is ∙ e)
