use Rattle.std.proofs.Common.{◌≡◌, None, sym, subst}
use Rattle.onfi_core.specs.View.{HalfView, IsOldestAt, IsOldest, IsLent}
use Rattle.onfi_core.proofs.Lending.{settled_is, oldest_is, reply_at, fields_lent}
use Rattle.onfi_core.proofs.half.Half.held.Goals as goal

pub invariant_of-self : goal.invariant_of-self
invariant_of-self c =
    let i = c.self.invariant in
    let none : c.self.inside.history.lent ≡ None = subst (λ (v : HalfView). v.lent ≡ None) (sym c.self.view_is) c.requires.settled in
    let s = settled_is _ _ _ _ i.lending none in
    let i' = rw s at i in
    let o : IsOldestAt c.args.host c.self.inside.held.items c.in_ok-at.at = subst (λ xs. IsOldestAt c.args.host xs c.in_ok-at.at) c.as_slice.ensures.value c.in_ok-at.ensures in
    let r = reply_at _ _ _ _ o c.remove-reply.ensures.value in
    let e = c.with_lent-self-inside.ensures in
    fields_lent _ _ _ _ _ _ _ _ _ _ c.args.host c.in_ok-at.at c.remove-reply.result _ _ _ i' o r c.remove-reply.ensures.by_index.2 c.remove-reply.ensures.capacity e.0 e.1 e.2 e.3

pub returns-clause-oldest : goal.returns-clause-oldest
returns-clause-oldest c =
    let i = c.self.invariant in
    let none : c.self.inside.history.lent ≡ None = subst (λ (v : HalfView). v.lent ≡ None) (sym c.self.view_is) c.requires.settled in
    let s = settled_is _ _ _ _ i.lending none in
    let l : IsLent c.self.inside.history.held c.self.inside.held.items None c.self.inside.history.lent = subst (λ a. IsLent c.self.inside.history.held c.self.inside.held.items a c.self.inside.history.lent) s i.lending in
    let o : IsOldestAt c.args.host c.self.inside.held.items c.in_ok-at.at = subst (λ xs. IsOldestAt c.args.host xs c.in_ok-at.at) c.as_slice.ensures.value c.in_ok-at.ensures in
    let r = reply_at _ _ _ _ o c.remove-reply.ensures.value in
    subst (λ (v : HalfView). IsOldest c.args.host v.state.held c.remove-reply.result) c.self.view_is (oldest_is c.args.host c.in_ok-at.at c.self.inside.history.held c.self.inside.held.items c.remove-reply.result o l.1 r)
