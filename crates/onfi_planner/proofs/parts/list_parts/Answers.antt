use Rattle.std.proofs.Common.{get_or, None, refl, sym, ap, ◌∙◌}
use Rattle.onfi_problem.specs.declared.moves.Move.TheVariants.{Next}
use Rattle.onfi_planner.specs.Opening.{yield_at}
use Rattle.onfi_planner.proofs.Splitting.{parts_next, parts_passed}
use Rattle.onfi_planner.proofs.Turns.{none_of, some_of}
use Rattle.onfi_planner.proofs.parts.list_parts.Goals as goal
use Rattle.onfi_planner.proofs.parts.list_parts.Goals.{then-is_none+in_ok-push, else-is_none}

pub loop-step-preserved : goal.loop-step-preserved
loop-step-preserved c =
    let yields = c.yields_of-yields.result in
    let moves = c.args.moves.now in
    let i = c.loop-step.step-index in
    let s = get_or moves i (Next 0) in
    let at = ap (yield_at yields) (sym c.lun.ensures) in
    elim c.if-is_none.branch [
      | then-is_none+in_ok-push w ↦ (
          let none = at ∙ none_of (get_or yields c.lun.result None) w.if-is_none.ensures in
          rw w.parts-is (record { parts = parts_next yields moves c.loop-step.parts.items _ i s (Next 0) c.loop-step-test.true refl none c.loop-step.invariant.parts w.in_ok-push.ensures.items }))
      | else-is_none w ↦ (
          let (lun, some) = some_of (get_or yields c.lun.result None) w.if-is_none.ensures in
          rw w.parts-is (record { parts = parts_passed yields moves c.loop-step.parts.items i lun s (Next 0) c.loop-step-test.true refl (at ∙ some) c.loop-step.invariant.parts }))
    ]
