use Rattle.std.proofs.Common.{◌≡◌, ◌<◌, ◌+◌, ℕ, true, false, [], ◌∷◌, ◌++◌, length, get_or, take, refl, sym, ap, ◌∙◌, subst, arith}
use Rattle.std.specs.Prelude.{IfNone, IfSome, max, slice_index, slice_index_or}
use Rattle.std.proofs.lemmas.Bool.{eqb-true, false≢true}
use Rattle.std.proofs.lemmas.List.{take_all}
use Rattle.std.proofs.lemmas.Result.{IfOk-weaker}
use Rattle.onfi_group.specs.Words.{Has}
use Rattle.onfi_problem.specs.Moves.{AreMoves, after}
use Rattle.onfi_problem.specs.declared.moves.Move.TheVariants.{Next}
use Rattle.onfi_problem.specs.Position.{Position, move_of, moves_of}
use Rattle.onfi_bound.proofs.BusWork.{work_after}
use Rattle.onfi_check.specs.Ends.{IsLastEnd}
use Rattle.onfi_check.proofs.OneList.{map_length}
use Rattle.onfi_demand.specs.Asked.{GoesOn}
use Rattle.onfi_known_check.specs.Proves.{Remembers}
use Rattle.onfi_known_check.proofs.Walking.{moves_more, raised_by, step_is}
use Rattle.onfi_check.specs.Nodes.{IsOpen}
use Rattle.onfi_planner.specs.Planning.{work}
use Rattle.onfi_known_plan.specs.Steps.{IsStep}
use Rattle.onfi_known_plan.specs.Walks.{Halfway, IsAt, IsClosing, IsShown, IsSoonest, wait_for}
use Rattle.onfi_known_plan.proofs.Steps.{step_at, there_behind}
use Rattle.onfi_planner.proofs.Halfway.{new_move, some_items}
use Rattle.onfi_known_plan.proofs.Between.{at_counted, at_moved, at_start, still_at, with_child, with_yield}
use Rattle.onfi_known_plan.proofs.Node.{closed_shown, counted_shown, cut_shown, done_shown, full_shown, node_shown, step_visited}
use Rattle.onfi_known_plan.proofs.search.+search.Goals as goal

pub search-returns-then-notes-clause-shown : goal.search-returns-then-notes-clause-shown
search-returns-then-notes-clause-shown t c = full_shown c.args.problem.now c.args.best.now c.args.notes.now _ c.give_up.result c.requires.tree.limits (omega (arith, c.if-notes.true, c.requires.within)) refl refl refl refl refl c.give_up.ensures.demand c.give_up.ensures.improved

pub search-search_open-requires : goal.search-search_open-requires
search-search_open-requires t c =
    let x = c.args.problem.now in
    let at = at_counted x c.args.loads.now c.args.best.now c.args.notes.now _ c.requires (omega (arith, c.if-notes.false, c.requires.within)) refl refl refl refl refl in
    (omega (arith, c.decreases), (at.1, (omega arith, (at.0, subst (λ o. IfNone o (IsOpen c.args.best.now.finish x.problem)) c.in_default.is c.in_ok-found.ensures.open))))

pub search-returns-in-Some-clause-shown : goal.search-returns-in-Some-clause-shown
search-returns-in-Some-clause-shown t c =
    let x = c.args.problem.now in
    let notes = c.args.notes.now in
    let closes = subst (λ o. IfSome o (IsClosing c.args.best.now.finish x notes.records.nodes.items)) c.in-Some.is c.in_ok-found.ensures.closing in
    let at = at_counted x c.args.loads.now c.args.best.now notes (record { cert = notes.cert; opened = notes.opened + 1; limit = notes.limit; cut = notes.cut; records = notes.records; phases = notes.phases }) c.requires (omega (arith, c.if-notes.false, c.requires.within)) refl refl refl refl refl in
    closed_shown x c.args.best.now notes _ c.in-Some.closing closes (omega (arith, c.requires.within, c.if-notes.false)) refl refl refl c.write.ensures.finish c.in_ok-write.ensures.tokens at.0 refl

pub search-returns-clause-shown : goal.search-returns-clause-shown
search-returns-clause-shown t c = IfOk-weaker c.search_open.result _ _ (λ shown s. counted_shown c.args.problem.now c.args.best.now c.search_open.new.best c.args.notes.now c.search_open.new.notes _ shown s) c.search_open.ensures.shown

pub search_child-returns-then-is_awaited-clause-more : goal.search_child-returns-then-is_awaited-clause-more
search_child-returns-then-is_awaited-clause-more t c = λ moves firsts first before new h.
    let x = c.args.problem.now in
    let m = move_of x.groups c.args.step in
    let named = c.requires.step.named in
    let small = c.requires.at.tree.limits.small.few_luns in
    with_yield x moves firsts c.args.soonest.now first c.args.best.now before c.args.notes.now c.args.standing.now h m c.lun-own.result _ c.mark.new.self (c.lun-own.ensures ∙ sym named.lun) (omega (arith, c.lun-own.ensures, named.few)) (omega (arith, c.requires.soonest, small)) (c.if-is_awaited.ensures refl)
    refl refl refl c.write.ensures.finish (subst (λ token. c.args.best.now.finish ≡ c.args.notes.now.cert.finish → c.write.new.self.tokens.items ≡ c.args.notes.now.cert.tokens.items ++ token ∷ []) c.token.ensures c.in_ok-write.ensures.tokens) c.mark.ensures.asked c.mark.ensures.improved c.mark.ensures.here c.mark.ensures.others refl

pub search_child-returns-then-branch-clause-more : goal.search_child-returns-then-branch-clause-more
search_child-returns-then-branch-clause-more t c = λ moves firsts first before new h.
    with_child c.args.problem.now moves firsts c.args.soonest.now first c.args.best.now before c.args.notes.now c.args.standing.now h c.args.step c.visit.new.best c.visit.new.notes _ _ c.requires.at.tree.limits.problem c.requires.step.move new c.in_ok-visit.ensures.visited refl (λ q. refl) (λ q. absurd (false≢true (sym q ∙ c.if-branch.true)))

pub search_child-returns-else-branch-clause-more : goal.search_child-returns-else-branch-clause-more
search_child-returns-else-branch-clause-more t c = λ moves firsts first before new h.
    with_child c.args.problem.now moves firsts c.args.soonest.now first c.args.best.now before c.args.notes.now c.args.standing.now h c.args.step c.visit.new.best c.visit.new.notes _ _ c.requires.at.tree.limits.problem c.requires.step.move new c.in_ok-visit.ensures.visited refl (λ q. absurd (false≢true (sym c.if-branch.false ∙ q))) (λ q. refl)

pub search_open-loop-step-init : goal.search_open-loop-step-init
search_open-loop-step-init t c =
    let x = c.args.problem.now in
    let items = c.as_slice-listed.result.now in
    let soonest = c.of-soonest.result in
    let there = c.of-soonest.ensures.there in
    let small = c.requires.at.tree.limits.small.few_luns in
    let is : IsSoonest x.problem (moves_of x.groups items) soonest = λ early. subst (IsLastEnd x.problem (moves_of x.groups items) soonest.lun) (c.of-soonest.ensures.end early) (c.last_ends-ends.ensures.ends soonest.lun (omega (arith, there, small))) in
    record {
      problem = refl;
      half = at_start x (moves_of x.groups items) soonest c.args.best.now c.args.notes.now _ c.new-standing.result c.of.result c.requires.is_open is c.requires.at.finish c.requires.counted c.requires.at.within refl refl refl c.write.ensures.finish c.in_ok-write.ensures.tokens (c.of.ensures ∙ sym (map_length x items)) c.new-standing.ensures.asked c.new-standing.ensures.yielded c.new-standing.ensures.improved c.requires.uncut refl;
    }

pub search_open-search_child-requires : goal.search_open-search_child-requires
search_open-search_child-requires t c =
    let x = c.args.problem.now in
    let items = c.as_slice-listed.result.now in
    let i = c.loop-step.step-index in
    let e = sym c.loop-step.invariant.problem in
    let half = c.loop-step.invariant.half in
    let step = step_at x c.list_steps.new.moves items i (Next 0) c.as_slice-listed.ensures.value c.list_steps.ensures.moves c.list_steps.ensures.named c.loop-step-test.true in
    let w : work c.loop-step.problem.problem ≡ work x.problem = ap (λ (z : Position). work z.problem) c.loop-step.invariant.problem in (
      omega (arith, c.decreases, w),
      (
        subst (λ (z : Position). IsAt z c.args.loads.now c.loop-step.best c.loop-step.notes) e (still_at x _ _ c.of-soonest.result c.args.best.now c.loop-step.best c.args.notes.now c.loop-step.notes c.loop-step.standing c.args.loads.now c.requires.at half),
        (subst (λ (z : Position). IsStep z (get_or items i (Next 0))) e step, subst (λ (z : Position). c.of-soonest.result.lun < length z.problem.luns) e c.of-soonest.ensures.there),
      ),
    )

pub search_open-loop-step-preserved : goal.search_open-loop-step-preserved
search_open-loop-step-preserved t c =
    let x = c.args.problem.now in
    let items = c.as_slice-listed.result.now in
    let i = c.loop-step.step-index in
    let s = get_or items i (Next 0) in
    let moves = moves_of x.groups items in
    let firsts = moves_of x.groups (take i items) in
    let e = c.loop-step.invariant.problem in
    let are = subst (λ z. AreMoves x.problem (moves_of x.groups z)) (sym c.as_slice-listed.ensures.value) c.list_steps.ensures.moves in
    let new = subst (λ (z : Position). Has firsts (move_of z.groups s) → ⊥) (sym e) (new_move x items i (Next 0) are c.loop-step-test.true) in
    let half = subst (λ (z : Position). Halfway z moves firsts c.of-soonest.result c.args.best.now c.loop-step.best c.args.notes.now c.loop-step.notes c.loop-step.standing) (sym e) c.loop-step.invariant.half in
    let more = subst (λ (z : Position). Halfway z moves (firsts ++ move_of z.groups s ∷ []) c.of-soonest.result c.args.best.now c.search_child.new.best c.args.notes.now c.search_child.new.notes c.search_child.new.standing) e (c.in_ok-search_child.ensures.more moves firsts c.args.best.now c.args.notes.now new half) in
    record {
      problem = c.in_ok-search_child.ensures.problem ∙ e;
      half = subst (λ ms. Halfway x moves ms c.of-soonest.result c.args.best.now c.search_child.new.best c.args.notes.now c.search_child.new.notes c.search_child.new.standing) (sym (moves_more x items i (Next 0) c.loop-step-test.true)) more;
    }

pub search_open-returns-clause-shown : goal.search_open-returns-clause-shown
search_open-returns-clause-shown t c =
    let x = c.args.problem.now in
    let items = c.as_slice-listed.result.now in
    let moves = moves_of x.groups items in
    let e = c.loop-step.invariant.problem in
    let are = subst (λ z. AreMoves x.problem (moves_of x.groups z)) (sym c.as_slice-listed.ensures.value) c.list_steps.ensures.moves in
    let long = map_length x items in
    let same = ap length c.as_slice-listed.ensures.value in
    let some = some_items c.list_steps.new.moves c.if-is_empty.ensures in
    let half = subst (λ ms. Halfway x moves (moves_of x.groups ms) c.of-soonest.result c.args.best.now c.loop-step.best c.args.notes.now c.loop-step.notes c.loop-step.standing) (take_all c.loop-step.step-index items c.loop-step-test.false) c.loop-step.invariant.half in
    let raised = subst (λ (z : Position). (lun : ℕ) → lun < 8 → slice_index_or c.loop-step.standing.yielded lun false ≡ true → wait_for z.problem c.of-soonest.result c.loop-step.standing.asked < 18446744073709551616 → slice_index c.raise.new.asked lun ≡ max (wait_for z.problem c.of-soonest.result c.loop-step.standing.asked) (slice_index c.loop-step.standing.asked lun)) e c.raise.ensures.raised in
    let kept = subst (λ (z : Position). Remembers z.all z.problem c.raise.new.asked c.loop-step.notes.records.nodes.items c.keep.new.self.nodes.items (record { bus = 0; luns = c.raise.new.asked })) e c.in_ok-keep.ensures in
    node_shown x moves c.of-soonest.result c.args.best.now c.loop-step.best c.args.notes.now c.loop-step.notes _ c.loop-step.standing c.raise.new.asked c.requires.at.tree.limits are (omega arith) (omega (arith, c.list_steps.ensures.few)) half c.raise.ensures.kept raised c.raise.ensures.small kept refl refl refl c.if-notes.false refl

pub search_open-returns-then-notes-clause-shown : goal.search_open-returns-then-notes-clause-shown
search_open-returns-then-notes-clause-shown t c =
    let x = c.args.problem.now in
    let items = c.as_slice-listed.result.now in
    let moves = moves_of x.groups items in
    let half = subst (λ ms. Halfway x moves (moves_of x.groups ms) c.of-soonest.result c.args.best.now c.loop-step.best c.args.notes.now c.loop-step.notes c.loop-step.standing) (take_all c.loop-step.step-index items c.loop-step-test.false) c.loop-step.invariant.half in
    cut_shown x moves c.of-soonest.result c.args.best.now c.loop-step.best c.args.notes.now c.loop-step.notes c.loop-step.standing c.give_up.result c.requires.at.tree.limits half c.if-notes.true c.give_up.ensures.demand c.give_up.ensures.improved

pub search_open-returns-then-is_empty-clause-shown : goal.search_open-returns-then-is_empty-clause-shown
search_open-returns-then-is_empty-clause-shown t c = done_shown c.args.problem.now c.list_steps.new.moves c.args.best.now _ c.args.notes.now c.of_bus-demand.result c.requires.at.tree.limits c.list_steps.ensures.moves (eqb-true _ _ (sym c.if-is_empty.ensures)) c.bus_free-bus_free.ensures.value c.clear.ensures.items c.requires.is_open c.requires.at.finish c.requires.counted c.requires.at.within c.requires.uncut c.of_bus-demand.ensures

pub visit-search-requires : goal.visit-search-requires
visit-search-requires t c =
    let x = c.args.problem.now in
    let m = move_of x.groups c.args.step in
    let less = work_after x.problem m c.requires.at.tree.limits.problem c.requires.step.move in
    let w : work c.advance-undo.new.self.problem ≡ work (after x.problem m) = ap (λ (z : Position). work z.problem) c.advance-undo.ensures.moved in
    (omega (arith, c.decreases, w, less), subst (λ (z : Position). IsAt z c.args.loads.now c.args.best.now c.args.notes.now) (sym c.advance-undo.ensures.moved) (at_moved x c.args.step c.args.loads.now c.args.best.now c.args.notes.now c.requires.step c.requires.at))

pub visit-step_after-behind-requires : goal.visit-step_after-behind-requires
visit-step_after-behind-requires t c = subst (λ (z : Position). c.lun.result < length z.problem.luns) (sym (c.in_ok-shown.ensures.problem ∙ c.advance-undo.ensures.moved)) (there_behind c.args.problem.now c.args.step c.lun.result c.requires.step c.lun.ensures)

pub visit-returns-clause-visited : goal.visit-returns-clause-visited
visit-returns-clause-visited t c =
    let x = c.args.problem.now in
    let m = move_of x.groups c.args.step in
    let shown = c.in_ok-shown.shown in
    let step = c.step_after-behind.result in
    let behind = c.in_ok-shown.ensures.problem ∙ c.advance-undo.ensures.moved in
    let own = c.lun.ensures ∙ sym c.requires.step.named.lun in
    let is = step_is x.problem m step c.lun.result c.earliest-start.result c.step_after-behind.ensures.lun own c.step_after-behind.ensures.start c.earliest-start.ensures
    (c.step_after-behind.ensures.end ∙ ap (λ (z : Position). z.problem.bus_free) behind) (subst (λ (z : Position). GoesOn z.problem c.lun.result step.go) behind c.step_after-behind.ensures.go) in
    let raises = raised_by x.problem m shown.demand step c.lun_count-count.result c.args.asked.now c.raise.new.asked is c.lun_count-count.ensures.value c.raise.ensures in
    let s = subst (λ (z : Position). IsShown z c.args.best.now c.search.new.best c.args.notes.now.opened c.args.notes.now c.search.new.notes shown) c.advance-undo.ensures.moved c.in_ok-shown.ensures.shown in
    step_visited x c.args.step c.earliest-start.result c.args.best.now c.search.new.best c.add.new.best c.args.notes.now c.search.new.notes shown c.args.asked.now c.raise.new.asked c.requires.step.move c.earliest-start.ensures s raises c.add.ensures.finish c.in_ok-add.ensures.steps c.in_ok-add.ensures.kept
