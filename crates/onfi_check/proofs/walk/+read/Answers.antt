use Rattle.std.proofs.Common.{◌∷◌, List, get_or, ◌^◌, refl, sym, ◌∙◌, subst, arith}
use Rattle.std.proofs.lemmas.Result.{err_from_is_err_and}
use Rattle.std.specs.List.{AllByRecursion as All}
use Rattle.onfi_problem.specs.declared.moves.Move.TheVariants.{Next}
use Rattle.onfi_problem.specs.Moves.{IsMove, AreMoves, after}
use Rattle.onfi_problem.specs.Position.{Position, move_of, moves_of}
use Rattle.onfi_problem.specs.Starts.{IsNamed}
use Rattle.onfi_cert.specs.declared.token.Token.{Token}
use Rattle.onfi_cert.specs.declared.token.Token.TheVariants.{Branch}
use Rattle.onfi_bound.specs.Commands.{AreNodeBounds}
use Rattle.onfi_check.specs.Reading.{Begins, BeginsEach, ReadsChild, RefusesChild}
use Rattle.onfi_check.specs.Ends.{IsAsked}
use Rattle.onfi_check.proofs.LastEnds.{move_at}
use Rattle.onfi_check.proofs.Walking.{lun_there, on_ok, yield_taken, yield_refused, child_taken, child_refused, none_left, begun, one_more_child, refused_child, all_children, closing_taken, closing_refused, branch_width, branch_taken, branch_refused}
use Rattle.onfi_check.specs.Faults.{IsBranch}
use Rattle.onfi_check.proofs.Placing.{err_behind, err_yield, few_on, fits_behind, here, leaf_closes, ok_more, read_more, read_none, read_one}
use Rattle.onfi_check.proofs.walk.+read.Goals as goal
use Rattle.onfi_bound.proofs.Steps.{all_at}

pub read_below-returns-in_err-read_tree-clause-err : goal.read_below-returns-in_err-read_tree-clause-err
read_below-returns-in_err-read_tree-clause-err g t c =
    let p = err_from_is_err_and c.from_residual.result c.from_residual.ensures.1 in
    rw p.1 (subst (λ (z : Position). (rest : List Token) → Begins z.problem c.args.node.e (c.args.token ∷ g.S.TokenSource.left c.args.tokens.now.source) rest → ⊥) c.advance-undo.ensures.moved c.in_err-read_tree.ensures.err)

pub read_below-read_tree-requires : goal.read_below-read_tree-requires
read_below-read_tree-requires g t c κs within =
    let bounds = subst (λ (z : Position). AreNodeBounds z.problem c.after-bounds.result) (sym c.advance-undo.ensures.moved) c.after-bounds.ensures in
    (omega (arith, c.decreases), (within, (bounds, (c.requires.few, c.requires.next))))

pub read_child-returns-in_default-clause-err : goal.read_child-returns-in_default-clause-err
read_child-returns-in_default-clause-err g t c = none_left c.args.problem.now.problem c.args.node.e (moves_of c.args.problem.now.groups c.args.moves.now) (move_of c.args.problem.now.groups c.args.m) c.args.standing.now (g.S.TokenSource.left c.args.tokens.now.source) c.in_default.ensures.end.0

pub read_child-take_yield-requires-clause-own : goal.read_child-take_yield-requires-clause-own
read_child-take_yield-requires-clause-own g t c =
    let there = lun_there c.args.problem.now.problem (move_of c.args.problem.now.groups c.args.m) c.requires.step in
    let named = c.requires.named.lun in
    let own = c.lun.ensures in
    omega arith

pub read_child-returns-in-Yield-clause-ok : goal.read_child-returns-in-Yield-clause-ok
read_child-returns-in-Yield-clause-ok g t c =
    yield_taken c.args.problem.now.problem c.args.node.e (moves_of c.args.problem.now.groups c.args.moves.now) (move_of c.args.problem.now.groups c.args.m) c.args.standing.now c.take_yield.new.standing (g.S.TokenSource.left c.args.tokens.now.source) (g.S.TokenSource.left c.take.new.self.source) c.lun.result c.in-Yield.lun c.get.result c.in-Some.token c.take_yield.result
    c.in-Yield.is c.get.ensures.value (c.lun.ensures ∙ sym c.requires.named.lun) c.in-Some.ensures.token c.take_yield.ensures.ok c.take_yield.ensures.awaited c.take_yield.ensures.leaving

pub read_child-returns-in-Yield-clause-err : goal.read_child-returns-in-Yield-clause-err
read_child-returns-in-Yield-clause-err g t c =
    yield_refused c.args.problem.now.problem c.args.node.e (moves_of c.args.problem.now.groups c.args.moves.now) (move_of c.args.problem.now.groups c.args.m) c.args.standing.now (g.S.TokenSource.left c.args.tokens.now.source) (g.S.TokenSource.left c.take.new.self.source) c.lun.result c.in-Yield.lun c.get.result c.in-Some.token c.take_yield.result
    c.in-Yield.is c.get.ensures.value (c.lun.ensures ∙ sym c.requires.named.lun) c.in-Some.ensures.token c.take_yield.ensures.err

pub read_child-returns-in-Yield-clause-read : goal.read_child-returns-in-Yield-clause-read
read_child-returns-in-Yield-clause-read g t c =
    on_ok c.take_yield.result (read_one c.args.tokens.now.place c.take.new.self.place (g.S.TokenSource.left c.args.tokens.now.source) (g.S.TokenSource.left c.take.new.self.source) c.in-Some.token c.in-Some.ensures.token c.in-Some.ensures.next)

pub read_child-returns-in-Yield-clause-kind : goal.read_child-returns-in-Yield-clause-kind
read_child-returns-in-Yield-clause-kind g t c =
    err_yield c.take_yield.result c.args.standing.now c.lun.result c.get.result c.args.tokens.now.place c.in-Some.place c.in-Yield.lun c.in-Some.token (g.S.TokenSource.left c.args.tokens.now.source) (g.S.TokenSource.left c.take.new.self.source) (g.S.TokenSource.left c.take.new.self.source)
    c.in-Some.ensures.token c.in-Some.ensures.place c.in-Yield.is c.take_yield.ensures.kind

pub read_child-returns-in_default-token-clause-read : goal.read_child-returns-in_default-token-clause-read
read_child-returns-in_default-token-clause-read g t c =
    ok_more c.read_below.result c.args.tokens.now.place c.take.new.self.place c.read_below.new.tokens.place _ (g.S.TokenSource.left c.take.new.self.source) _ (read_one c.args.tokens.now.place c.take.new.self.place _ _ c.in-Some.token c.in-Some.ensures.token c.in-Some.ensures.next) c.read_below.ensures.read

pub read_child-returns-in_default-token-clause-ok : goal.read_child-returns-in_default-token-clause-ok
read_child-returns-in_default-token-clause-ok g t c = child_taken c.args.problem.now.problem c.args.node.e _ _ c.args.standing.now _ _ _ c.in-Some.token c.read_below.result c.in-Some.ensures.token c.read_below.ensures.ok

pub read_child-returns-in_default-token-clause-err : goal.read_child-returns-in_default-token-clause-err
read_child-returns-in_default-token-clause-err g t c = child_refused c.args.problem.now.problem c.args.node.e _ _ c.args.standing.now _ _ c.in-Some.token c.read_below.result c.in-Some.ensures.token c.in_default-token.not-Yield c.read_below.ensures.err

pub read_child-returns-in-Bus-clause-read : goal.read_child-returns-in-Bus-clause-read
read_child-returns-in-Bus-clause-read g t c = on_ok c.read_leaf.result (read_one c.args.tokens.now.place c.take.new.self.place _ _ c.in-Some.token c.in-Some.ensures.token c.in-Some.ensures.next)

pub read_child-returns-in-Bus-clause-ok : goal.read_child-returns-in-Bus-clause-ok
read_child-returns-in-Bus-clause-ok g t c =
    let p = c.args.problem.now.problem in
    let m = move_of c.args.problem.now.groups c.args.m in
    let left = g.S.TokenSource.left c.take.new.self.source in
    child_taken p c.args.node.e _ m c.args.standing.now _ left left c.in-Some.token c.read_leaf.result c.in-Some.ensures.token (closing_taken (after p m) c.args.node.e c.in-Some.token left c.read_leaf.result c.read_leaf.ensures.ok)

pub read_child-returns-in-Bus-clause-err : goal.read_child-returns-in-Bus-clause-err
read_child-returns-in-Bus-clause-err g t c =
    let p = c.args.problem.now.problem in
    let m = move_of c.args.problem.now.groups c.args.m in
    let left = g.S.TokenSource.left c.take.new.self.source in
    let closes = leaf_closes c.in-Some.token c.in-Bus.is in
    child_refused p c.args.node.e _ m c.args.standing.now _ left c.in-Some.token c.read_leaf.result c.in-Some.ensures.token closes.0 (closing_refused (after p m) c.args.node.e c.in-Some.token left c.read_leaf.result closes.1 c.read_leaf.ensures.err)

pub read_children-loop-m-init : goal.read_children-loop-m-init
read_children-loop-m-init g t c =
    let x = c.args.problem.now in
    let items = c.as_slice-listed.result.now in
    record {
      problem = refl;
      fewer = omega arith;
      read = read_none c.args.tokens.now.place (g.S.TokenSource.left c.args.tokens.now.source);
      behind = refl;
      asked = tt;
      same = λ rest. begun x c.args.node.e items (g.S.TokenSource.left c.args.tokens.now.source) rest (subst (All (IsNamed x.groups)) (sym c.as_slice-listed.ensures.value) c.requires.named);
    }

pub read_children-read_child-requires : goal.read_children-read_child-requires
read_children-read_child-requires g t c κs within =
    let x = c.args.problem.now in
    let items = c.as_slice-listed.result.now in
    let i = c.loop-m.m-index in
    let named = subst (All (IsNamed x.groups)) (sym c.as_slice-listed.ensures.value) c.requires.named in
    let are = subst (λ z. AreMoves x.problem (moves_of x.groups z)) (sym c.as_slice-listed.ensures.value) c.requires.moves in
    let same = sym c.loop-m.invariant.problem in
    let fewer = c.loop-m.invariant.fewer in (
      omega (arith, c.decreases),
      (
        within,
        (
          subst (λ (z : Position). AreNodeBounds z.problem c.args.node.bounds) same c.requires.bounds,
          (
            subst (λ (z : Position). IsMove z.problem (move_of z.groups (get_or items i (Next 0)))) same (move_at x.problem x.groups items i (Next 0) c.loop-m-test.true are.moves_only),
            (
              subst (λ (z : Position). IsNamed z.groups (get_or items i (Next 0))) same (all_at (IsNamed x.groups) items i (Next 0) c.loop-m-test.true named),
              (
                subst (λ (z : Position). All (IsMove z.problem) (moves_of z.groups items)) same are.moves_only,
                (
                  subst (λ (z : Position). All (IsNamed z.groups) items) same named,
                  (
                    subst (λ (z : Position). IsAsked z.problem (moves_of z.groups items) c.loop-m.standing.asked) same c.loop-m.invariant.asked,
                    few_on c.args.tokens.now.place c.loop-m.tokens.place (2 ^ 64) (g.S.TokenSource.left c.args.tokens.now.source) (g.S.TokenSource.left c.loop-m.tokens.source) c.loop-m.invariant.read c.requires.few,
                  ),
                ),
              ),
            ),
          ),
        ),
      ),
    )

pub read_children-returns-in_err-read_child-clause-err : goal.read_children-returns-in_err-read_child-clause-err
read_children-returns-in_err-read_child-clause-err g t c =
    let x = c.args.problem.now in
    let items = c.as_slice-listed.result.now in
    let i = c.loop-m.m-index in
    let tokens = g.S.TokenSource.left c.loop-m.tokens.source in
    let begun = g.S.TokenSource.left c.args.tokens.now.source in
    let p = err_from_is_err_and c.from_residual.result c.from_residual.ensures.1 in
    let refuses = subst (λ (z : Position). RefusesChild z.problem c.args.node.e (moves_of z.groups items) (move_of z.groups (get_or items i (Next 0))) c.loop-m.standing tokens) c.loop-m.invariant.problem c.in_err-read_child.ensures.err in
    rw p.1 (λ rest b. refused_child x c.args.node.e items i (Next 0) c.loop-m.standing tokens begun rest c.loop-m-test.true refuses (c.loop-m.invariant.same rest) (subst (λ z. BeginsEach x.problem c.args.node.e (moves_of x.groups z) begun rest) (sym c.as_slice-listed.ensures.value) b))

pub read_children-returns-in_err-read_child-clause-kind : goal.read_children-returns-in_err-read_child-clause-kind
read_children-returns-in_err-read_child-clause-kind g t c =
    let p = err_from_is_err_and c.from_residual.result c.from_residual.ensures.1 in
    rw (p.1, p.2) (fits_behind c.args.tokens.now.place c.loop-m.tokens.place (g.S.TokenSource.left c.args.tokens.now.source) (g.S.TokenSource.left c.loop-m.tokens.source) (g.S.TokenSource.left c.read_child.new.tokens.source) _ c.loop-m.invariant.read c.in_err-read_child.ensures.kind)

pub read_children-loop-m-preserved : goal.read_children-loop-m-preserved
read_children-loop-m-preserved g t c =
    let x = c.args.problem.now in
    let items = c.as_slice-listed.result.now in
    let i = c.loop-m.m-index in
    let tokens = g.S.TokenSource.left c.loop-m.tokens.source in
    let left = g.S.TokenSource.left c.read_child.new.tokens.source in
    let begun = g.S.TokenSource.left c.args.tokens.now.source in
    let reads = subst (λ (z : Position). ReadsChild z.problem c.args.node.e (moves_of z.groups items) (move_of z.groups (get_or items i (Next 0))) c.loop-m.standing c.read_child.new.standing tokens left) c.loop-m.invariant.problem c.in_ok-read_child.ensures.ok in
    let less = c.in_ok-read_child.ensures.fewer in
    let fewer = c.loop-m.invariant.fewer in
    record {
      problem = c.in_ok-read_child.ensures.problem ∙ c.loop-m.invariant.problem;
      fewer = omega arith;
      read = read_more c.args.tokens.now.place c.loop-m.tokens.place c.read_child.new.tokens.place begun tokens left c.loop-m.invariant.read c.in_ok-read_child.ensures.read;
      behind = c.read_child.ensures.behind ∙ c.loop-m.invariant.behind;
      asked = subst (λ (z : Position). IsAsked z.problem (moves_of z.groups items) c.read_child.new.standing.asked) c.loop-m.invariant.problem c.read_child.ensures.asked;
      same = λ rest. one_more_child x c.args.node.e items i (Next 0) c.loop-m.standing c.read_child.new.standing tokens left begun rest c.loop-m-test.true reads (c.loop-m.invariant.same rest);
    }

pub read_children-returns-clause-ok : goal.read_children-returns-clause-ok
read_children-returns-clause-ok g t c =
    let x = c.args.problem.now in
    let items = c.as_slice-listed.result.now in
    let left = g.S.TokenSource.left c.loop-m.tokens.source in
    let begun = g.S.TokenSource.left c.args.tokens.now.source in
    subst (λ z. BeginsEach x.problem c.args.node.e (moves_of x.groups z) begun left) c.as_slice-listed.ensures.value (all_children x c.args.node.e items c.loop-m.m-index c.loop-m.standing.awaited c.loop-m.standing.leaving left begun c.loop-m-test.false (c.loop-m.invariant.same left))

pub read_children-returns-clause-read : goal.read_children-returns-clause-read
read_children-returns-clause-read g t c = c.loop-m.invariant.read

pub read_tree-returns-in-Branch-clause-ok : goal.read_tree-returns-in-Branch-clause-ok
read_tree-returns-in-Branch-clause-ok g t c = rw c.in-Branch.is c.read_branch.ensures.ok

pub read_tree-returns-in-Branch-clause-err : goal.read_tree-returns-in-Branch-clause-err
read_tree-returns-in-Branch-clause-err g t c = rw c.in-Branch.is c.read_branch.ensures.err

pub read_tree-returns-in-Branch-clause-kind : goal.read_tree-returns-in-Branch-clause-kind
read_tree-returns-in-Branch-clause-kind g t c = rw c.in-Branch.is c.read_branch.ensures.kind

pub read_tree-returns-in_default-clause-ok : goal.read_tree-returns-in_default-clause-ok
read_tree-returns-in_default-clause-ok g t c = closing_taken c.args.problem.now.problem c.args.node.e c.args.token _ c.read_closing.result c.read_closing.ensures.ok

pub read_tree-returns-in_default-clause-err : goal.read_tree-returns-in_default-clause-err
read_tree-returns-in_default-clause-err g t c = closing_refused c.args.problem.now.problem c.args.node.e c.args.token _ c.read_closing.result c.in_default.not-Branch c.read_closing.ensures.err

pub read_branch-returns-then-len-get-clause-err : goal.read_branch-returns-then-len-get-clause-err
read_branch-returns-then-len-get-clause-err g t c = λ rest b.
    let x = c.args.problem.now in
    let left = g.S.TokenSource.left c.args.tokens.now.source in
    let wide = branch_width x c.args.node.e c.args.width c.get.result c.list_steps.new.moves (Branch c.args.width) left rest c.list_steps.ensures.moves refl c.get.ensures.value b in
    let long = c.len.ensures.value in
    omega (arith, c.if-len-get.true)

pub read_branch-returns-clause-ok : goal.read_branch-returns-clause-ok
read_branch-returns-clause-ok g t c =
    let x = c.args.problem.now in
    let left = g.S.TokenSource.left c.args.tokens.now.source in
    let next = g.S.TokenSource.left c.read_children.new.tokens.source in
    let long = c.len.ensures.value in
    branch_taken x c.args.node.e c.args.width c.get.result c.list_steps.new.moves (Branch c.args.width) left next c.read_children.result c.list_steps.ensures.moves refl c.get.ensures.value c.get.ensures.low (omega (arith, c.if-len-get.false)) c.read_children.ensures.ok

pub read_branch-returns-clause-err : goal.read_branch-returns-clause-err
read_branch-returns-clause-err g t c =
    let x = c.args.problem.now in
    let left = g.S.TokenSource.left c.args.tokens.now.source in
    branch_refused x c.args.node.e c.args.width c.list_steps.new.moves (Branch c.args.width) left c.read_children.result c.list_steps.ensures.moves refl c.read_children.ensures.err

pub read_branch-returns-then-len-get-clause-kind : goal.read_branch-returns-then-len-get-clause-kind
read_branch-returns-then-len-get-clause-kind g t c = here c.args.place (Branch c.args.width) (g.S.TokenSource.left c.args.tokens.now.source) IsBranch (c.args.width, refl)

pub read_branch-returns-clause-kind : goal.read_branch-returns-clause-kind
read_branch-returns-clause-kind g t c =
    let left = g.S.TokenSource.left c.args.tokens.now.source in
    err_behind c.read_children.result c.args.place c.args.tokens.now.place (Branch c.args.width ∷ left) left (g.S.TokenSource.left c.read_children.new.tokens.source) (read_one c.args.place c.args.tokens.now.place (Branch c.args.width ∷ left) left (Branch c.args.width) refl c.requires.next) c.read_children.ensures.kind
