use Rattle.std.proofs.Common.{◌≡◌, ◌<◌, [], ◌∷◌, length, get_or, ◌^◌, inl, inr, refl, sym, ap, ◌∙◌, subst, arith}
use Rattle.std.specs.List.{AllByRecursion as All}
use Rattle.onfi_problem.specs.declared.moves.Move.TheVariants.{Next}
use Rattle.onfi_problem.specs.Moves.{IsMove, AreMoves}
use Rattle.onfi_problem.specs.Position.{Position, move_of, moves_of}
use Rattle.onfi_problem.specs.Starts.{IsNamed}
use Rattle.onfi_check.specs.Ends.{AreLastEnds}
use Rattle.onfi_check.proofs.LastEnds.{move_at}
use Rattle.onfi_demand.specs.Asked.{GoesOn}
use Rattle.onfi_known_check.specs.Proves.{Proves, Children, Remembers, Grows, IsAgain, closed, none}
use Rattle.onfi_known_check.proofs.Refusing.{again_refuses, child_at, children_refuse, closing_refuses, err_of, err_so, many_refuse, name_of_tokens, of_so, times_refuse, tree_child, width_refuses, yield_child}
use Rattle.onfi_group.specs.Words.{Pairs}
use Rattle.std.proofs.lemmas.Result.{err_from_is_err_and, IfOk-weaker, on_ok_weaker}
use Rattle.onfi_known_check.specs.Faults.{FaultFits, IsBranch, IsToYield, OfTokens}
use Rattle.onfi_known_check.specs.declared.token.Token.TheVariants.{Branch}
use Rattle.std.specs.Prelude.{IfErr, ◌⊎◌}
use Rattle.onfi_known_check.proofs.Placing.{err_branch, err_each, err_here, err_name, err_yield, few_on, fits_behind, here, read_end, read_more, read_none, read_one}
use Rattle.onfi_known_check.specs.Refused.{RefusesChild, RefusesChildren}
use Rattle.onfi_check.proofs.OneList.{map_length}
use Rattle.onfi_known_check.proofs.Walking.{on_ok, fewer_left, again_proves, yield_grows, below_grows, raised_by, step_is, children_more, branch_proves}
use Rattle.onfi_known_check.proofs.walk.+read.Goals as goal
use Rattle.onfi_bound.proofs.Steps.{all_at}

pub read_below-returns-clause-ok : goal.read_below-returns-clause-ok
read_below-returns-clause-ok g t c =
    let x = c.args.problem.now in
    let m = move_of x.groups c.args.m in
    let d = c.in_ok-demand.demand in
    let step = c.step_after-step.result in
    let behind = c.in_ok-demand.ensures.problem ∙ c.advance-undo.ensures.moved in
    let own = c.lun.ensures ∙ sym c.requires.named.lun in
    let is = step_is x.problem m step c.lun.result c.earliest-start.result c.step_after-step.ensures.lun own c.step_after-step.ensures.start c.earliest-start.ensures
    (c.step_after-step.ensures.end ∙ ap (λ (z : Position). z.problem.bus_free) behind) (subst (λ (z : Position). GoesOn z.problem c.lun.result step.go) behind c.step_after-step.ensures.go) in (
      d,
      subst (λ (z : Position). Proves c.args.e z.all z.problem c.args.known.now.items (c.args.token ∷ g.S.TokenSource.left c.args.tokens.now.source) d c.read_tree.new.known.items (g.S.TokenSource.left c.read_tree.new.tokens.source)) c.advance-undo.ensures.moved c.in_ok-demand.ensures.ok,
      raised_by x.problem m d step c.lun_count-count.result c.args.standing.now.asked c.raise.new.asked is c.lun_count-count.ensures.value c.raise.ensures,
    )

pub read_branch-returns-clause-ok : goal.read_branch-returns-clause-ok
read_branch-returns-clause-ok g t c =
    let x = c.args.problem.now in
    let s = c.in_ok-standing.standing in
    let items = c.list_steps.new.moves in
    let left = g.S.TokenSource.left c.read_children.new.tokens.source in
    let long = c.len.ensures.value in
    let wide = c.get.ensures.value in
    let some = c.get.ensures.low in
    IfOk-weaker c.remember.result _ _
    (λ d r. branch_proves c.args.e x items c.args.width s c.in-Some.times c.args.known.now.items c.read_children.new.known.items c.remember.new.known.items (g.S.TokenSource.left c.args.tokens.now.source) left d c.list_steps.ensures.moves (omega (arith, c.if-len-get.false)) (omega arith) c.in_ok-standing.ensures.ok c.in-Some.ensures.value c.in-Some.ensures.fits
    (subst (λ (z : Position). Remembers z.all z.problem c.in-Some.times c.read_children.new.known.items c.remember.new.known.items d) c.in_ok-standing.ensures.problem r)) c.remember.ensures.ok

pub read_child-returns-in-Yield-clause-ok : goal.read_child-returns-in-Yield-clause-ok
read_child-returns-in-Yield-clause-ok g t c =
    let x = c.args.problem.now in
    on_ok_weaker c.take_yield.result (yield_grows c.args.e x.all x.problem (moves_of x.groups c.args.moves.now) (move_of x.groups c.args.m) c.args.standing.now c.take_yield.new.standing c.args.known.now.items c.args.ends.now c.lun.result c.in-Yield.lun c.get.result c.in-Some.token (g.S.TokenSource.left c.args.tokens.now.source) (g.S.TokenSource.left c.take.new.self.source) c.in-Yield.is c.get.ensures.value c.get.ensures.below (c.lun.ensures ∙ sym c.requires.named.lun) c.in-Some.ensures.token c.requires.ends c.take_yield.ensures.asked) c.take_yield.ensures.ok

pub read_child-returns-in_default-token : goal.read_child-returns-in_default-token
read_child-returns-in_default-token g t c =
    let x = c.args.problem.now in
    let tokens = g.S.TokenSource.left c.args.tokens.now.source in
    let left = g.S.TokenSource.left c.take.new.self.source in
    let next = g.S.TokenSource.left c.read_below.new.tokens.source in
    let same = ap (λ z. length z.items) c.read_below.ensures.given in
    record {
      problem = c.read_below.ensures.problem;
      fewer = fewer_left tokens left next c.in-Some.token c.read_below.result c.in-Some.ensures.token c.read_below.ensures.fewer;
      read = read_more c.args.tokens.now.place c.take.new.self.place c.read_below.new.tokens.place tokens left next (read_one c.args.tokens.now.place c.take.new.self.place tokens left c.in-Some.token c.in-Some.ensures.token c.in-Some.ensures.next) c.read_below.ensures.read;
      behind = c.read_below.ensures.behind ∙ c.in-Some.ensures.behind;
      kind = err_here c.read_below.result c.args.tokens.now.place c.in-Some.place c.in-Some.token tokens left next c.in-Some.ensures.token c.in-Some.ensures.place c.read_below.ensures.kind;
      few = c.read_below.ensures.few;
      more = on_ok c.read_below.result (omega arith);
      err = err_so c.read_below.result _ _ (tree_child c.args.e x.all x.problem (moves_of x.groups c.args.moves.now) (move_of x.groups c.args.m) c.args.standing.now.given.items c.args.known.now.items tokens left c.in-Some.token c.in-Some.ensures.token c.in_default-token.not-Yield) c.read_below.ensures.err;
      ok = on_ok_weaker c.read_below.result (below_grows c.args.e x.all x.problem (moves_of x.groups c.args.moves.now) (move_of x.groups c.args.m) c.args.standing.now c.read_below.new.standing c.args.known.now.items c.read_below.new.known.items c.in-Some.token tokens left next c.in-Some.ensures.token c.read_below.ensures.given) c.read_below.ensures.ok;
    }

pub read_children-loop-m-init : goal.read_children-loop-m-init
read_children-loop-m-init g t c =
    let x = c.args.problem.now in
    let all = moves_of x.groups c.as_slice-listed.result.now in
    let tokens = g.S.TokenSource.left c.args.tokens.now.source in
    let known = c.args.known.now.items in
    let asked = c.new-standing.result.asked in
    let empty = ap length c.new-standing.ensures.given in
    record {
      problem = refl;
      fewer = omega arith;
      read = read_none c.args.tokens.now.place tokens;
      behind = refl;
      few = λ h. h;
      room = omega arith;
      children = subst (λ z. Children c.args.e x.all x.problem all [] known tokens asked z known tokens) (sym c.new-standing.ensures.given) (none x.problem all known tokens asked c.new-standing.ensures.asked);
    }

pub read_children-read_child-requires : goal.read_children-read_child-requires
read_children-read_child-requires g t c κs within =
    let x = c.args.problem.now in
    let items = c.as_slice-listed.result.now in
    let i = c.loop-m.m-index in
    let named = subst (All (IsNamed x.groups)) (sym c.as_slice-listed.ensures.value) c.requires.named in
    let are = subst (λ z. AreMoves x.problem (moves_of x.groups z)) (sym c.as_slice-listed.ensures.value) c.requires.moves in
    let same = sym c.loop-m.invariant.problem in
    let fewer = c.loop-m.invariant.fewer in
    let room = c.loop-m.invariant.room in
    let few = c.as_slice-listed.ensures.few in (
      omega (arith, c.decreases),
      (
        within,
        (
          subst (λ (z : Position). Pairs (λ a b. a.id < b.id) z.all) same c.requires.rising,
          (
            subst (λ (z : Position). IsMove z.problem (move_of z.groups (get_or items i (Next 0)))) same (move_at x.problem x.groups items i (Next 0) c.loop-m-test.true are.moves_only),
            (
              subst (λ (z : Position). IsNamed z.groups (get_or items i (Next 0))) same (all_at (IsNamed x.groups) items i (Next 0) c.loop-m-test.true named),
              (
                subst (λ (z : Position). All (IsMove z.problem) (moves_of z.groups items)) same are.moves_only,
                (
                  subst (λ (z : Position). AreLastEnds z.problem (moves_of z.groups items) c.last_ends-ends.result) same c.last_ends-ends.ensures.ends,
                  (
                    omega arith,
                    few_on c.args.tokens.now.place c.loop-m.tokens.place (2 ^ 64) (g.S.TokenSource.left c.args.tokens.now.source) (g.S.TokenSource.left c.loop-m.tokens.source) c.loop-m.invariant.read c.requires.places,
                  ),
                ),
              ),
            ),
          ),
        ),
      ),
    )

pub read_children-loop-m-preserved : goal.read_children-loop-m-preserved
read_children-loop-m-preserved g t c =
    let x = c.args.problem.now in
    let items = c.as_slice-listed.result.now in
    let i = c.loop-m.m-index in
    let tokens = g.S.TokenSource.left c.loop-m.tokens.source in
    let left = g.S.TokenSource.left c.read_child.new.tokens.source in
    let begun = g.S.TokenSource.left c.args.tokens.now.source in
    let grows = subst (λ (z : Position). Grows c.args.e z.all z.problem (moves_of z.groups items) (move_of z.groups (get_or items i (Next 0))) c.loop-m.standing c.loop-m.known.items tokens c.read_child.new.standing c.read_child.new.known.items left) c.loop-m.invariant.problem c.in_ok-read_child.ensures.ok in
    let less = c.in_ok-read_child.ensures.fewer in
    let more = c.in_ok-read_child.ensures.more in
    let fewer = c.loop-m.invariant.fewer in
    let room = c.loop-m.invariant.room in
    record {
      problem = c.in_ok-read_child.ensures.problem ∙ c.loop-m.invariant.problem;
      fewer = omega arith;
      read = read_more c.args.tokens.now.place c.loop-m.tokens.place c.read_child.new.tokens.place begun tokens left c.loop-m.invariant.read c.read_child.ensures.read;
      behind = c.in_ok-read_child.ensures.behind ∙ c.loop-m.invariant.behind;
      few = λ h. c.in_ok-read_child.ensures.few (c.loop-m.invariant.few h);
      room = omega arith;
      children = children_more c.args.e x items i (Next 0) c.loop-m.standing c.read_child.new.standing c.args.known.now.items c.loop-m.known.items c.read_child.new.known.items begun tokens left c.loop-m-test.true grows c.loop-m.invariant.children;
    }

pub read_tree-returns-in-Again-clause-ok : goal.read_tree-returns-in-Again-clause-ok
read_tree-returns-in-Again-clause-ok g t c =
    let x = c.args.problem.now in
    let left = g.S.TokenSource.left c.args.tokens.now.source in
    let e : c.deref.result.now ≡ c.args.known.now.items = cc in
    IfOk-weaker c.read_again.result _ _ (λ d h. again_proves c.args.e x.all x.problem c.args.known.now.items c.in-Again.number c.args.token left d c.in-Again.is (subst (λ z. IsAgain x.all x.problem z c.in-Again.number d) e h)) c.read_again.ensures.ok

pub read_tree-returns-in_default : goal.read_tree-returns-in_default
read_tree-returns-in_default g t c =
    let x = c.args.problem.now in
    let left = g.S.TokenSource.left c.args.tokens.now.source in
    record {
      problem = on_ok c.read_closing.result refl;
      fewer = on_ok c.read_closing.result (omega arith);
      read = read_none c.args.tokens.now.place left;
      kind = err_each c.read_closing.result c.args.place c.args.token left left c.read_closing.ensures.kind;
      behind = refl;
      ok = IfOk-weaker c.read_closing.result _ _ (λ d h. closed x.problem c.args.known.now.items c.args.token d left h.0 h.1) c.read_closing.ensures.ok;
      few = on_ok c.read_closing.result (λ h. h);
      err = err_of c.read_closing.result _ _ _ (closing_refuses c.args.e x.all x.problem c.args.known.now.items c.args.token left c.in_default.not-Branch c.in_default.not-Again) (λ k. k [] []) (λ k. k [] []) c.read_closing.ensures.err c.read_closing.ensures.kind;
    }

pub read_tree-returns-in-Again-clause-err : goal.read_tree-returns-in-Again-clause-err
read_tree-returns-in-Again-clause-err g t c =
    let x = c.args.problem.now in
    let left = g.S.TokenSource.left c.args.tokens.now.source in
    let limits = c.in_limits.ensures.limits in
    let e : c.deref.result.now ≡ c.args.known.now.items = cc in
    err_of c.read_again.result _ _ _ (λ none. again_refuses c.args.e x.all x.problem c.args.known.now.items c.args.token c.in-Again.number left (record { problem = limits.problem; small = limits.small }) c.in-Again.is (λ d h. none d (subst (λ z. IsAgain x.all x.problem z c.in-Again.number d) (sym e) h))) (name_of_tokens c.args.place _ (inl refl)) (name_of_tokens c.args.place _ (inr refl)) c.read_again.ensures.err c.read_again.ensures.kind

pub read_branch-returns-then-len-get-clause-err : goal.read_branch-returns-then-len-get-clause-err
read_branch-returns-then-len-get-clause-err g t c =
    let x = c.args.problem.now in
    let items = c.list_steps.new.moves in
    let long = map_length x items in
    let a = c.len.ensures.value in
    let b = c.get.ensures.value in
    width_refuses c.args.e x.all x.problem (moves_of x.groups items) c.args.known.now.items c.args.width (g.S.TokenSource.left c.args.tokens.now.source) c.list_steps.ensures.moves (λ q. omega (arith, c.if-len-get.true))

pub read_branch-returns-in_err-standing-clause-err : goal.read_branch-returns-in_err-standing-clause-err
read_branch-returns-in_err-standing-clause-err g t c =
    let x = c.args.problem.now in
    let items = c.list_steps.new.moves in
    let p = err_from_is_err_and c.from_residual.result c.from_residual.ensures.1 in
    rw (p.1, p.2) (of_so _ _ _ (children_refuse c.args.e x.all x.problem (moves_of x.groups items) c.args.known.now.items c.args.width (g.S.TokenSource.left c.args.tokens.now.source) c.list_steps.ensures.moves) c.in_err-standing.ensures.err)

pub read_branch-returns-in_default-clause-err : goal.read_branch-returns-in_default-clause-err
read_branch-returns-in_default-clause-err g t c =
    let x = c.args.problem.now in
    let items = c.list_steps.new.moves in
    let s = c.in_ok-standing.standing in
    let limits = c.in_limits.ensures.limits in
    times_refuse c.args.e x.all x.problem (moves_of x.groups items) c.args.known.now.items c.read_children.new.known.items c.args.width (g.S.TokenSource.left c.args.tokens.now.source) (g.S.TokenSource.left c.read_children.new.tokens.source) s.asked s.given.items (record { problem = limits.problem; small = limits.small }) c.list_steps.ensures.moves c.in_ok-standing.ensures.ok c.in_default.ensures.none

pub read_branch-returns-clause-err : goal.read_branch-returns-clause-err
read_branch-returns-clause-err g t c =
    let x = c.args.problem.now in
    let items = c.list_steps.new.moves in
    let s = c.in_ok-standing.standing in
    let limits = c.in_limits.ensures.limits in
    err_so c.remember.result _ _ (many_refuse c.args.e x.all x.problem (moves_of x.groups items) c.args.known.now.items c.read_children.new.known.items c.args.width (g.S.TokenSource.left c.args.tokens.now.source) (g.S.TokenSource.left c.read_children.new.tokens.source) s.asked s.given.items (record { problem = limits.problem; small = limits.small }) c.list_steps.ensures.moves c.in_ok-standing.ensures.ok) c.remember.ensures.err

pub read_child-returns-in-Yield-clause-err : goal.read_child-returns-in-Yield-clause-err
read_child-returns-in-Yield-clause-err g t c =
    let x = c.args.problem.now in
    err_of c.take_yield.result _ _ _ (λ none. yield_child c.args.e x.all x.problem (moves_of x.groups c.args.moves.now) (move_of x.groups c.args.m) c.args.standing.now.given.items c.args.known.now.items (g.S.TokenSource.left c.args.tokens.now.source) (g.S.TokenSource.left c.take.new.self.source) c.in-Some.token c.in-Yield.lun c.in-Some.ensures.token c.in-Yield.is (λ y q may. none (moves_of x.groups c.args.moves.now) (move_of x.groups c.args.m) y c.requires.moves c.requires.ends (c.requires.named.lun ∙ sym c.lun.ensures) (q ∙ sym c.get.ensures.value) may)) (λ k. k) (λ k. k) c.take_yield.ensures.err c.take_yield.ensures.kind

pub read_children-returns-in_err-read_child-clause-err : goal.read_children-returns-in_err-read_child-clause-err
read_children-returns-in_err-read_child-clause-err g t c =
    let x = c.args.problem.now in
    let items = c.as_slice-listed.result.now in
    let i = c.loop-m.m-index in
    let limits = c.in_limits.ensures.limits in
    let tokens = g.S.TokenSource.left c.loop-m.tokens.source in
    let begun = g.S.TokenSource.left c.args.tokens.now.source in
    let are = subst (λ z. AreMoves x.problem (moves_of x.groups z)) (sym c.as_slice-listed.ensures.value) c.requires.moves in
    let p = err_from_is_err_and c.from_residual.result c.from_residual.ensures.1 in
    let none = subst (λ (z : Position). OfTokens c.in_err-read_child.field-0.0 (RefusesChild c.args.e z.all z.problem (moves_of z.groups items) (move_of z.groups (get_or items i (Next 0))) c.loop-m.standing.given.items c.loop-m.known.items tokens)) c.loop-m.invariant.problem c.in_err-read_child.ensures.err in
    rw (p.1, p.2) (subst (λ z. OfTokens c.in_err-read_child.field-0.0 (RefusesChildren c.args.e x.all x.problem (moves_of x.groups z) c.args.known.now.items begun)) c.as_slice-listed.ensures.value (of_so _ _ _ (child_at c.args.e x items i (Next 0) c.args.known.now.items c.loop-m.known.items begun tokens c.loop-m.standing.asked c.loop-m.standing.given.items c.loop-m-test.true (record { problem = limits.problem; small = limits.small }) are c.loop-m.invariant.children) none))

pub read_tree-returns-in-Again-clause-kind : goal.read_tree-returns-in-Again-clause-kind
read_tree-returns-in-Again-clause-kind g t c =
    let left = g.S.TokenSource.left c.args.tokens.now.source in
    subst (λ z. IfErr c.read_again.result (FaultFits c.args.place (z ∷ left) left)) (sym c.in-Again.is) (err_name c.read_again.result c.args.place c.in-Again.number left left c.read_again.ensures.kind)

pub read_branch-returns-then-len-get-clause-kind : goal.read_branch-returns-then-len-get-clause-kind
read_branch-returns-then-len-get-clause-kind g t c = here c.args.place (Branch c.args.width) (g.S.TokenSource.left c.args.tokens.now.source) IsBranch (c.args.width, refl)

pub read_branch-returns-in_err-standing-clause-kind : goal.read_branch-returns-in_err-standing-clause-kind
read_branch-returns-in_err-standing-clause-kind g t c =
    let left = g.S.TokenSource.left c.args.tokens.now.source in
    let p = err_from_is_err_and c.from_residual.result c.from_residual.ensures.1 in
    rw (p.1, p.2) (fits_behind c.args.place c.args.tokens.now.place (Branch c.args.width ∷ left) left (g.S.TokenSource.left c.read_children.new.tokens.source) _ (read_one c.args.place c.args.tokens.now.place (Branch c.args.width ∷ left) left (Branch c.args.width) refl c.requires.next) c.in_err-standing.ensures.kind)

pub read_branch-returns-in_default-clause-kind : goal.read_branch-returns-in_default-clause-kind
read_branch-returns-in_default-clause-kind g t c = here c.args.place (Branch c.args.width) (g.S.TokenSource.left c.args.tokens.now.source) (λ token. IsToYield token ⊎ IsBranch token) (inr (c.args.width, refl))

pub read_branch-returns-clause-kind : goal.read_branch-returns-clause-kind
read_branch-returns-clause-kind g t c = err_branch c.remember.result c.args.place c.args.width (g.S.TokenSource.left c.args.tokens.now.source) (g.S.TokenSource.left c.read_children.new.tokens.source) c.remember.ensures.kind

pub read_child-returns-in_default-clause-read : goal.read_child-returns-in_default-clause-read
read_child-returns-in_default-clause-read g t c = read_end c.args.tokens.now.place c.take.new.self.place (g.S.TokenSource.left c.args.tokens.now.source) (g.S.TokenSource.left c.take.new.self.source) c.in_default.ensures.last c.in_default.ensures.end.0 c.in_default.ensures.end.1

pub read_child-returns-in-Yield-clause-read : goal.read_child-returns-in-Yield-clause-read
read_child-returns-in-Yield-clause-read g t c = read_one c.args.tokens.now.place c.take.new.self.place (g.S.TokenSource.left c.args.tokens.now.source) (g.S.TokenSource.left c.take.new.self.source) c.in-Some.token c.in-Some.ensures.token c.in-Some.ensures.next

pub read_child-returns-in-Yield-clause-kind : goal.read_child-returns-in-Yield-clause-kind
read_child-returns-in-Yield-clause-kind g t c =
    err_yield c.take_yield.result c.args.standing.now.given.items c.lun.result c.get.result c.args.tokens.now.place c.in-Some.place c.in-Yield.lun c.in-Some.token (g.S.TokenSource.left c.args.tokens.now.source) (g.S.TokenSource.left c.take.new.self.source) (g.S.TokenSource.left c.take.new.self.source)
    c.in-Some.ensures.token c.in-Some.ensures.place c.in-Yield.is c.take_yield.ensures.kind

pub read_children-returns-in_err-read_child-clause-read : goal.read_children-returns-in_err-read_child-clause-read
read_children-returns-in_err-read_child-clause-read g t c = read_more c.args.tokens.now.place c.loop-m.tokens.place c.read_child.new.tokens.place (g.S.TokenSource.left c.args.tokens.now.source) (g.S.TokenSource.left c.loop-m.tokens.source) (g.S.TokenSource.left c.read_child.new.tokens.source) c.loop-m.invariant.read c.read_child.ensures.read

pub read_children-returns-in_err-read_child-clause-kind : goal.read_children-returns-in_err-read_child-clause-kind
read_children-returns-in_err-read_child-clause-kind g t c =
    let p = err_from_is_err_and c.from_residual.result c.from_residual.ensures.1 in
    rw (p.1, p.2) (fits_behind c.args.tokens.now.place c.loop-m.tokens.place (g.S.TokenSource.left c.args.tokens.now.source) (g.S.TokenSource.left c.loop-m.tokens.source) (g.S.TokenSource.left c.read_child.new.tokens.source) _ c.loop-m.invariant.read c.in_err-read_child.ensures.kind)

pub read_children-returns-clause-read : goal.read_children-returns-clause-read
read_children-returns-clause-read g t c = c.loop-m.invariant.read
