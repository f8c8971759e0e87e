use Rattle.std.proofs.Common.{◌+◌, sym, subst}
use Rattle.onfi_problem.proofs.Perm.{All-append}
use Rattle.onfi_bound.specs.Loads.{IsLoadBefore, AreLoadsBefore}
use Rattle.onfi_bound.proofs.Loading.{all_before_next}
use Rattle.onfi_bound.proofs.loads.add_want.Goals as goal

pub returns : goal.returns
returns c =
    let x = c.args.problem.now in
    let (added, is, more) = c.loop-at.invariant in
    subst (λ loads. AreLoadsBefore x (c.args.number + 1) loads) (sym is) (All-append (IsLoadBefore x (c.args.number + 1)) c.args.of.now.items added (all_before_next x c.args.number c.args.of.now.items c.requires.loads) more)
