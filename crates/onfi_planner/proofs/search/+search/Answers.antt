use Rattle.std.proofs.Common.{◌≡◌, true, length, get_or, arith, sym, ◌∙◌, subst, ap, refl, ◌≤◌, ◌<◌}
use Rattle.std.specs.Prelude.{◌==◌}
use Rattle.std.specs.List.{AllByRecursion as All}
use Rattle.std.proofs.lemmas.Bool.{eqb-true, false≢true}
use Rattle.std.proofs.lemmas.Result.{err_from_is_err_and}
use Rattle.onfi_problem.specs.Moves.{IsMove, move_lun, after}
use Rattle.onfi_problem.specs.Left.{InLimits}
use Rattle.onfi_problem.specs.declared.moves.Move.TheVariants.{Next}
use Rattle.onfi_problem.specs.Position.{Position, move_of, moved, lun_named}
use Rattle.onfi_schedule.specs.Runs.{Run}
use Rattle.onfi_bound.specs.Bounds.{bus}
use Rattle.onfi_bound.specs.Loads.{AreLoads}
use Rattle.onfi_bound.proofs.Loading.{loads_after}
use Rattle.onfi_check.specs.Tree.{ByBus, Closed}
use Rattle.onfi_check.proofs.Sound.{sound}
use Rattle.onfi_planner.specs.declared.search.Best.{Best}
use Rattle.onfi_planner.specs.Planning.{work, IsOver, Bounded, HasOpened, run_of}
use Rattle.onfi_planner.proofs.Halfway.{yields_some, one_over, one_opened, closed_node, closed_by, closed_at_end, open_node, done_node, given_up, skipped, visited, ended, ended_count, steps_same, listed, some_items, started}
use Rattle.onfi_check.proofs.LastEnds.{move_at}
use Rattle.onfi_problem.specs.Starts.{IsNamed}
use Rattle.onfi_problem.proofs.Lists.{all_at}
use Rattle.onfi_planner.proofs.Below.{handed_back}
use Rattle.onfi_bound.proofs.BusWork.{work_after}
use Rattle.onfi_problem.proofs.Limits.{after_limits}
use Rattle.onfi_planner.proofs.search.+search.Goals as goal
use Rattle.onfi_planner.proofs.search.+search.Goals.{search-then-branch, search-else-branch}

pub search-returns-then-count-clause-over : goal.search-returns-then-count-clause-over
search-returns-then-count-clause-over t c = λ e. one_over _ _ _ _ c.if-count.true

pub search-returns-then-is_some-clause-found : goal.search-returns-then-is_some-clause-found
search-returns-then-is_some-clause-found t c = closed_node c.args.problem.now c.args.best.now c.closing_token.result c.requires.limits.problem c.if-is_some.ensures c.closing_token.ensures

pub search-returns-then-is_some-clause-opened : goal.search-returns-then-is_some-clause-opened
search-returns-then-is_some-clause-opened t c = one_opened _ _ _ _ (closed_by c.args.problem.now.problem c.args.best.now.finish c.closing_token.result c.if-is_some.ensures c.closing_token.ensures)

pub search-returns-then-is_empty-clause-found : goal.search-returns-then-is_empty-clause-found
search-returns-then-is_empty-clause-found t c =
    let items = c.list_steps.new.moves in
    let are = c.list_steps.ensures.moves in
    done_node c.args.problem.now items c.args.best.now _ c.requires.limits.problem are (eqb-true _ _ (sym c.if-is_empty.ensures)) c.bus_free-best.ensures.value c.clear.ensures.items (open_node c.args.problem.now _ c.closing_token.result _ (sym c.if-is_some.ensures) c.closing_token.ensures)

pub search-returns-then-is_empty-clause-opened : goal.search-returns-then-is_empty-clause-opened
search-returns-then-is_empty-clause-opened t c = one_opened _ _ _ _ (closed_at_end c.args.problem.now c.list_steps.new.moves _ c.requires.limits.problem c.list_steps.ensures.moves (eqb-true _ _ (sym c.if-is_empty.ensures)) c.bus_free-best.ensures.value)

pub search-visit-requires : goal.search-visit-requires
search-visit-requires t c =
    let x = c.args.problem.now in
    let items = c.as_slice-steps.result.now in
    let e = c.loop-step.invariant.problem in
    let all = c.loop-step.invariant.listed in
    let m = move_at x.problem x.groups items c.loop-step.step-index (Next 0) c.loop-step-test.true all.are.moves_only in
    let named = all_at (IsNamed x.groups) items c.loop-step.step-index (Next 0) c.loop-step-test.true all.named in
    let w : work c.loop-step.problem.problem ≡ work x.problem = ap (λ (z : Position). work z.problem) e in (
      omega (arith, c.decreases, w),
      (
        subst (λ (z : Position). InLimits z.problem) (sym e) c.requires.limits,
        (
          subst (λ (z : Position). AreLoads z c.args.loads.now.of.items) (sym e) c.requires.loads,
          (
            subst (λ (z : Position). c.args.bus_bound ≡ bus z.problem) (sym e) c.requires.bus,
            (
              subst (λ n. c.loop-step.count.opened ≤ n) (sym c.loop-step.invariant.limit) c.loop-step.invariant.half.within,
              (
                subst (λ (z : Position). IsMove z.problem (move_of z.groups (get_or items c.loop-step.step-index (Next 0)))) (sym e) m,
                subst (λ (z : Position). move_lun (move_of z.groups (get_or items c.loop-step.step-index (Next 0))) ≡ lun_named (get_or items c.loop-step.step-index (Next 0))) (sym e) named.lun,
              ),
            ),
          ),
        ),
      ),
    )

pub search-returns-in_err-visit-clause-over : goal.search-returns-in_err-visit-clause-over
search-returns-in_err-visit-clause-over t c =
    let p = err_from_is_err_and c.from_residual.result c.from_residual.ensures.1 in
    let x = c.args.problem.now in
    let items = c.as_slice-steps.result.now in
    let i = c.loop-step.step-index in
    let s = get_or items i (Next 0) in
    rw (p.1, p.2) (λ q. given_up x items c.yields_of-yields.result i c.args.best.now c.loop-step.best c.loop-step.improved c.args.count.now.opened c.loop-step.count.opened c.visit.new.count.opened c.args.count.now.limit (Next 0) c.loop-step.invariant.listed c.loop-step.invariant.open_at c.loop-step-test.true c.loop-step.invariant.half
    (subst (λ n. IsOver (moved x s).problem c.loop-step.best.finish c.loop-step.count.opened c.visit.new.count.opened n) c.loop-step.invariant.limit
    (subst (λ (z : Position). IsOver (moved z s).problem c.loop-step.best.finish c.loop-step.count.opened c.visit.new.count.opened c.loop-step.count.limit) c.loop-step.invariant.problem (c.in_err-visit.ensures.over q))))

pub search-loop-step-preserved-then-is_some-2 : goal.search-loop-step-preserved-then-is_some-2
search-loop-step-preserved-then-is_some-2 t c =
    let x = c.args.problem.now in
    let items = c.as_slice-steps.result.now in
    let i = c.loop-step.step-index in
    let s = get_or items i (Next 0) in
    let h = c.loop-step.invariant.half in
    let e = c.loop-step.invariant.problem in
    let l = yields_some c.yields_of-yields.result c.lun.result (lun_named s) c.lun.ensures (sym c.if-is_some-2.ensures) in
    record {
      problem = e;
      listed = c.loop-step.invariant.listed;
      open_at = c.loop-step.invariant.open_at;
      limit = c.loop-step.invariant.limit;
      half = skipped x items c.yields_of-yields.result i c.args.best.now c.loop-step.best c.loop-step.improved c.args.count.now.opened c.loop-step.count.opened c.args.count.now.limit l.0 (Next 0) c.loop-step.invariant.listed c.loop-step-test.true l.1 h;
    }

pub search-loop-step-preserved : goal.search-loop-step-preserved
search-loop-step-preserved t c =
    let x = c.args.problem.now in
    let items = c.as_slice-steps.result.now in
    let i = c.loop-step.step-index in
    let s = get_or items i (Next 0) in
    let all = c.loop-step.invariant.listed in
    let o = c.loop-step.invariant.open_at in
    let h = c.loop-step.invariant.half in
    let e = c.loop-step.invariant.problem in
    let v = c.in_ok-visit.ensures in
    let best = c.visit.new.best in
    let least = subst (λ (z : Position). Bounded (moved z s).problem best.finish) e v.least in
    let more = subst (λ (z : Position). HasOpened (moved z s).problem c.loop-step.best.finish best.finish c.loop-step.count.opened c.visit.new.count.opened) e v.opened in
    let limit = v.limit ∙ c.loop-step.invariant.limit in
    let within = subst (λ n. c.visit.new.count.opened ≤ n) c.loop-step.invariant.limit v.within in
    elim c.if-branch.branch [
      | search-then-branch w ↦ (
          rw w.improved-is (record {
            problem = v.problem ∙ e;
            listed = all;
            open_at = o;
            limit = limit;
            half = visited x items c.yields_of-yields.result i c.args.best.now c.loop-step.best best c.loop-step.improved true c.args.count.now.opened c.loop-step.count.opened c.visit.new.count.opened c.args.count.now.limit (Next 0) all o c.loop-step-test.true h
                v.sooner least more within
                (λ q. subst (λ (z : Position). Run z.problem (run_of z.groups best.steps.items) best.finish) e (v.run w.if-branch.true))
                (λ q. absurd (false≢true (sym q)));
          }))
      | search-else-branch w ↦ (
          let k = v.kept w.if-branch.false in
          rw w.improved-is (record {
            problem = v.problem ∙ e;
            listed = all;
            open_at = o;
            limit = limit;
            half = visited x items c.yields_of-yields.result i c.args.best.now c.loop-step.best best c.loop-step.improved c.loop-step.improved c.args.count.now.opened c.loop-step.count.opened c.visit.new.count.opened c.args.count.now.limit (Next 0) all o c.loop-step-test.true h
                v.sooner least more within
                (λ q. subst (λ (b : Best). Run x.problem (run_of x.groups b.steps.items) b.finish) (sym k) (h.run q))
                (λ q. k ∙ h.kept q);
          }))
    ]

pub search-returns-clause-found : goal.search-returns-clause-found
search-returns-clause-found t c =
    let x = c.args.problem.now in
    let items = c.as_slice-steps.result.now in
    let ay = c.yields_of-yields.ensures.yields in
    ended x items _ _ _ _ _ _ _ _ c.requires.limits.problem c.loop-step.invariant.listed ay (some_items items (c.if-is_empty.ensures ∙ ap (λ z. length z == 0) (sym c.as_slice-steps.ensures.value))) c.loop-step-test.false c.loop-step.invariant.half

pub search-returns-clause-opened : goal.search-returns-clause-opened
search-returns-clause-opened t c =
    let x = c.args.problem.now in
    let items = c.as_slice-steps.result.now in
    let ay = c.yields_of-yields.ensures.yields in
    ended_count x items _ _ _ _ _ _ _ _ c.loop-step.invariant.listed ay (some_items items (c.if-is_empty.ensures ∙ ap (λ z. length z == 0) (sym c.as_slice-steps.ensures.value))) c.loop-step-test.false c.loop-step.invariant.half

pub visit-search-requires : goal.visit-search-requires
visit-search-requires t c =
    let x = c.args.problem.now in
    let m = move_of x.groups c.args.step in
    let less = work_after x.problem m c.requires.limits.problem c.requires.step in
    let w : work c.advance-undo.new.self.problem ≡ work (after x.problem m) = ap (λ (z : Position). work z.problem) c.advance-undo.ensures.moved in (
      omega (arith, c.decreases, w, less),
      (subst (λ (z : Position). InLimits z.problem) (sym c.advance-undo.ensures.moved) (after_limits x.problem m c.requires.limits c.requires.step), (subst (λ (z : Position). AreLoads z c.args.loads.now.of.items) (sym c.advance-undo.ensures.moved) (loads_after x c.args.step c.args.loads.now.of.items c.requires.step c.requires.loads), (subst (λ (z : Position). c.bus_after-bound.result ≡ bus z.problem) (sym c.advance-undo.ensures.moved) c.bus_after-bound.ensures, c.requires.opened))),
    )

pub visit-returns-then-count-clause-over : goal.visit-returns-then-count-clause-over
visit-returns-then-count-clause-over t c = λ e. one_over _ _ _ _ (sym c.if-count.true)

pub visit-returns-then-bound-best-clause-least : goal.visit-returns-then-bound-best-clause-least
visit-returns-then-bound-best-clause-least t c =
    let x = c.args.problem.now in
    let m = move_of x.groups c.args.step in
    let limits = after_limits x.problem m c.requires.limits c.requires.step in
    sound (Closed ByBus) (after x.problem m) c.args.best.now.finish limits.problem (let b = c.bus_after-bound.ensures in let k = c.if-bound-best.true in omega arith)

pub visit-returns-then-bound-best-clause-opened : goal.visit-returns-then-bound-best-clause-opened
visit-returns-then-bound-best-clause-opened t c = one_opened _ _ _ _ (ByBus, let b = c.bus_after-bound.ensures in let k = c.if-bound-best.true in omega arith)

pub visit-returns-else-improved-clause-problem : goal.visit-returns-else-improved-clause-problem
visit-returns-else-improved-clause-problem t c = handed_back c.args.problem.now _ c.search.new.problem _ c.advance-undo.result c.in_ok-improved.ensures.problem c.advance-undo.ensures.undo c.undo.ensures

pub visit-returns-in-Ok-clause-problem : goal.visit-returns-in-Ok-clause-problem
visit-returns-in-Ok-clause-problem t c = handed_back c.args.problem.now _ c.search.new.problem _ c.advance-undo.result c.in_ok-improved.ensures.problem c.advance-undo.ensures.undo c.undo.ensures

pub search-loop-step-init : goal.search-loop-step-init
search-loop-step-init t c = record {
  problem = refl;
  listed = listed c.args.problem.now c.as_slice-steps.result.now _ c.as_slice-steps.ensures.value c.list_steps.ensures.moves c.list_steps.ensures.named;
  open_at = open_node c.args.problem.now c.args.best.now.finish c.closing_token.result _ (sym c.if-is_some.ensures) c.closing_token.ensures;
  limit = refl;
  half = started c.args.problem.now c.as_slice-steps.result.now c.yields_of-yields.result c.args.best.now c.args.count.now.opened c.args.count.now.limit (omega (arith, c.if-count.false));
}

pub search-last_ends-ends-requires-clause-moves : goal.search-last_ends-ends-requires-clause-moves
search-last_ends-ends-requires-clause-moves t c = (steps_same c.args.problem.now c.as_slice-steps.result.now _ c.as_slice-steps.ensures.value c.list_steps.ensures.moves).moves_only

pub search-last_ends-ends-requires-clause-named : goal.search-last_ends-ends-requires-clause-named
search-last_ends-ends-requires-clause-named t c = subst (All (IsNamed c.args.problem.now.groups)) (sym c.as_slice-steps.ensures.value) c.list_steps.ensures.named

pub search-bounds-yields-lun : goal.search-bounds-yields-lun
search-bounds-yields-lun t c = subst (λ l. l < 8) (sym c.lun.ensures) (all_at (IsNamed c.args.problem.now.groups) c.as_slice-steps.result.now c.loop-step.step-index (Next 0) c.loop-step-test.true c.loop-step.invariant.listed.named).few
