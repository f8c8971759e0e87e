use Rattle.std.proofs.Common.{◌≡◌, [], ◌∷◌, ◌++◌, length, get_or, arith, sym, ◌∙◌, subst, ap, refl, None, Some, ◌<◌}
use Rattle.std.specs.Prelude.{◌==◌}
use Rattle.std.specs.List.{AllByRecursion as All}
use Rattle.std.proofs.lemmas.Bool.{eqb-true}
use Rattle.onfi_problem.specs.Moves.{IsMove, move_lun, after}
use Rattle.onfi_problem.specs.Left.{InLimits}
use Rattle.onfi_problem.specs.Starts.{IsNamed}
use Rattle.onfi_problem.proofs.Lists.{all_at}
use Rattle.onfi_problem.proofs.Limits.{after_limits}
use Rattle.onfi_cert.specs.declared.token.Token.TheVariants.{Bus, Yield}
use Rattle.onfi_check.specs.Tree.{ByBus}
use Rattle.onfi_problem.specs.declared.moves.Move.TheVariants.{Next}
use Rattle.onfi_problem.specs.Position.{Position, move_of, moves_of, moved, lun_named}
use Rattle.onfi_bound.specs.Bounds.{bus}
use Rattle.onfi_bound.specs.Loads.{AreLoads}
use Rattle.onfi_bound.proofs.Loading.{loads_after}
use Rattle.onfi_planner.specs.Opening.{yield_at}
use Rattle.onfi_planner.specs.Planning.{work, Bounded, Written}
use Rattle.onfi_bound.proofs.BusWork.{work_after}
use Rattle.onfi_check.proofs.LastEnds.{move_at}
use Rattle.onfi_planner.proofs.Halfway.{listed, steps_same, some_items}
use Rattle.onfi_planner.proofs.Below.{handed_back}
use Rattle.onfi_planner.proofs.Growing.{closed_written, no_end, begun, with_child, with_yield, grown_up, bounded_below, yields_small}
use Rattle.onfi_planner.proofs.certificate.+write.Goals as goal
use Rattle.onfi_planner.proofs.certificate.+write.Goals.{write-in-Some-yields+in_ok-push-in-Some-yields, write-in-None+in_ok-write_below-in-None}

pub write-returns-in-Some-clause-written : goal.write-returns-in-Some-clause-written
write-returns-in-Some-clause-written t c = closed_written c.args.problem.now.problem c.args.e c.in-Some.token c.args.tokens.now.items _ c.in_ok-push.ensures.items c.in-Some.ensures

pub write-unreachable-requires : goal.write-unreachable-requires
write-unreachable-requires t c =
    let x = c.args.problem.now in
    no_end x c.list_steps.new.moves c.args.e c.requires.limits.problem c.list_steps.ensures.moves (eqb-true _ _ (sym c.if-is_empty.ensures)) c.in_default.ensures c.requires.least

pub write-loop-step-init : goal.write-loop-step-init
write-loop-step-init t c = record {
  problem = refl;
  listed = listed c.args.problem.now c.as_slice-steps.result.now _ c.as_slice-steps.ensures.value c.list_steps.ensures.moves c.list_steps.ensures.named;
  growing = begun c.args.problem.now c.as_slice-steps.result.now c.yields_of-yields.result c.args.e c.of.result c.args.tokens.now.items _ c.in_ok-push-2.ensures.items c.of.ensures;
}

pub write-of-requires-in-Some-yields : goal.write-of-requires-in-Some-yields
write-of-requires-in-Some-yields t c =
    let x = c.args.problem.now in
    let items = c.as_slice-steps.result.now in
    yields_small x.problem (moves_of x.groups items) c.yields_of-yields.result c.lun.result c.lun.result c.in-Some-yields.lun c.loop-step.invariant.listed.are c.yields_of-yields.ensures.yields c.requires.limits.small.few_luns refl c.in-Some-yields.is

pub write-write_below-requires : goal.write-write_below-requires
write-write_below-requires t c =
    let x = c.args.problem.now in
    let items = c.as_slice-steps.result.now in
    let e = c.loop-step.invariant.problem in
    let all = c.loop-step.invariant.listed in
    let m = move_at x.problem x.groups items c.loop-step.step-index (Next 0) c.loop-step-test.true all.are.moves_only in
    let named = all_at (IsNamed x.groups) items c.loop-step.step-index (Next 0) c.loop-step-test.true all.named in
    let w : work c.loop-step.problem.problem ≡ work x.problem = ap (λ (z : Position). work z.problem) e in (
      omega (arith, c.decreases, w),
      (
        subst (λ (z : Position). InLimits z.problem) (sym e) c.requires.limits,
        (
          subst (λ (z : Position). AreLoads z c.args.loads.now.of.items) (sym e) c.requires.loads,
          (
            subst (λ (z : Position). c.args.bus_bound ≡ bus z.problem) (sym e) c.requires.bus,
            (
              subst (λ (z : Position). Bounded z.problem c.args.e) (sym e) c.requires.least,
              (
                subst (λ (z : Position). IsMove z.problem (move_of z.groups (get_or items c.loop-step.step-index (Next 0)))) (sym e) m,
                subst (λ (z : Position). move_lun (move_of z.groups (get_or items c.loop-step.step-index (Next 0))) ≡ lun_named (get_or items c.loop-step.step-index (Next 0))) (sym e) named.lun,
              ),
            ),
          ),
        ),
      ),
    )

pub write-loop-step-preserved : goal.write-loop-step-preserved
write-loop-step-preserved t c =
    let x = c.args.problem.now in
    let items = c.as_slice-steps.result.now in
    let i = c.loop-step.step-index in
    let s = get_or items i (Next 0) in
    let all = c.loop-step.invariant.listed in
    let e = c.loop-step.invariant.problem in
    let g = c.loop-step.invariant.growing in
    elim c.match-yields-lun.branch [
      | write-in-Some-yields+in_ok-push-in-Some-yields w ↦ (
          let y : get_or c.yields_of-yields.result c.lun.result None ≡ Some w.in-Some-yields.lun = w.in-Some-yields.is in
          let l = (all_at (IsNamed x.groups) items i (Next 0) c.loop-step-test.true all.named).lun ∙ sym c.lun.ensures in
          rw (w.problem-is, w.tokens-is) (record { problem = e; listed = all; growing = with_yield x items c.yields_of-yields.result c.args.e i w.in-Some-yields.lun c.args.tokens.now.items c.loop-step.tokens.items _ (Next 0) c.loop-step-test.true (ap (yield_at c.yields_of-yields.result) l ∙ y) (subst (λ n. w.push-in-Some-yields.new.self.items ≡ c.loop-step.tokens.items ++ Yield n ∷ []) w.of-in-Some-yields.ensures w.in_ok-push-in-Some-yields.ensures.items) g }))
      | write-in-None+in_ok-write_below-in-None w ↦ (
          rw (w.problem-is, w.tokens-is) (record { problem = w.in_ok-write_below-in-None.ensures.problem ∙ e; listed = all; growing = with_child x items c.yields_of-yields.result c.args.e i c.args.tokens.now.items c.loop-step.tokens.items _ (Next 0) c.loop-step-test.true (subst (λ (z : Position). Written (moved z s).problem c.args.e c.loop-step.tokens.items w.write_below.new.tokens.items) e w.in_ok-write_below-in-None.ensures.written) g }))
    ]

pub write-returns-clause-written : goal.write-returns-clause-written
write-returns-clause-written t c =
    let x = c.args.problem.now in
    let items = c.as_slice-steps.result.now in
    let ay = c.yields_of-yields.ensures.yields in
    grown_up x items c.yields_of-yields.result c.args.e c.loop-step.step-index c.args.tokens.now.items c.loop-step.tokens.items c.loop-step.invariant.listed.are (some_items items (c.if-is_empty.ensures ∙ ap (λ z. length z == 0) (sym c.as_slice-steps.ensures.value))) ay c.loop-step-test.false c.loop-step.invariant.growing

pub write_below-write-requires : goal.write_below-write-requires
write_below-write-requires t c =
    let x = c.args.problem.now in
    let m = move_of x.groups c.args.step in
    let less = work_after x.problem m c.requires.limits.problem c.requires.step in
    let w : work c.advance-undo.new.self.problem ≡ work (after x.problem m) = ap (λ (z : Position). work z.problem) c.advance-undo.ensures.moved in (
      omega (arith, c.decreases, w, less),
      (
        subst (λ (z : Position). InLimits z.problem) (sym c.advance-undo.ensures.moved) (after_limits x.problem m c.requires.limits c.requires.step),
        (
          subst (λ (z : Position). AreLoads z c.args.loads.now.of.items) (sym c.advance-undo.ensures.moved) (loads_after x c.args.step c.args.loads.now.of.items c.requires.step c.requires.loads),
          (
            subst (λ (z : Position). c.bus_after-bound.result ≡ bus z.problem) (sym c.advance-undo.ensures.moved) c.bus_after-bound.ensures,
            subst (λ (z : Position). Bounded z.problem c.args.e) (sym c.advance-undo.ensures.moved) (bounded_below x.problem m c.args.e c.requires.step c.requires.least),
          ),
        ),
      ),
    )

pub write-last_ends-ends-requires-clause-moves : goal.write-last_ends-ends-requires-clause-moves
write-last_ends-ends-requires-clause-moves t c = (steps_same c.args.problem.now c.as_slice-steps.result.now _ c.as_slice-steps.ensures.value c.list_steps.ensures.moves).moves_only

pub write-last_ends-ends-requires-clause-named : goal.write-last_ends-ends-requires-clause-named
write-last_ends-ends-requires-clause-named t c = subst (All (IsNamed c.args.problem.now.groups)) (sym c.as_slice-steps.ensures.value) c.list_steps.ensures.named

pub write-of-requires-clause-low : goal.write-of-requires-clause-low
write-of-requires-clause-low t c = some_items c.as_slice-steps.result.now (c.if-is_empty.ensures ∙ ap (λ z. length z == 0) (sym c.as_slice-steps.ensures.value))

pub write-bounds : goal.write-bounds
write-bounds t c = subst (λ l. l < 8) (sym c.lun.ensures) (all_at (IsNamed c.args.problem.now.groups) c.as_slice-steps.result.now c.loop-step.step-index (Next 0) c.loop-step-test.true c.loop-step.invariant.listed.named).few

pub write-bounds-yields-lun : goal.write-bounds-yields-lun
write-bounds-yields-lun t c = subst (λ l. l < 8) (sym c.lun.ensures) (all_at (IsNamed c.args.problem.now.groups) c.as_slice-steps.result.now c.loop-step.step-index (Next 0) c.loop-step-test.true c.loop-step.invariant.listed.named).few

pub write_below-returns-clause-problem : goal.write_below-returns-clause-problem
write_below-returns-clause-problem t c = handed_back c.args.problem.now _ c.write.new.problem _ c.advance-undo.result c.in_ok-write.ensures.problem c.advance-undo.ensures.undo c.undo.ensures

pub write_below-returns-then-bound-e-clause-written : goal.write_below-returns-then-bound-e-clause-written
write_below-returns-then-bound-e-clause-written t c =
    let x = c.args.problem.now in
    let m = move_of x.groups c.args.step in
    closed_written (after x.problem m) c.args.e Bus c.args.tokens.now.items _ c.in_ok-push.ensures.items (ByBus, refl, let b = c.bus_after-bound.ensures in let k = c.if-bound-e.true in omega arith)
