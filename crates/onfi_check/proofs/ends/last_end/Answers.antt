use Rattle.std.proofs.Common.{sym, ◌∙◌}
use Rattle.onfi_problem.specs.declared.moves.Move.TheVariants.{Next}
use Rattle.onfi_problem.specs.Starts.{IsNamed}
use Rattle.onfi_check.proofs.LastEnds.{move_at, end_own, end_other}
use Rattle.onfi_check.proofs.ends.last_end.Goals as goal
use Rattle.onfi_check.proofs.ends.last_end.Goals.{then-lun, else-lun}
use Rattle.onfi_bound.proofs.Steps.{all_at}

pub end_of-requires-clause-step : goal.end_of-requires-clause-step
end_of-requires-clause-step c = move_at c.args.problem.now.problem c.args.problem.now.groups c.args.moves.now c.loop-m.m-index (Next 0) c.loop-m-test.true c.requires.moves

pub loop-m-preserved : goal.loop-m-preserved
loop-m-preserved c =
    let x = c.args.problem.now in
    let named = all_at (IsNamed x.groups) c.args.moves.now c.loop-m.m-index (Next 0) c.loop-m-test.true c.requires.named in
    let own = named.lun ∙ sym c.lun.ensures in
    elim c.if-lun.branch [
      | then-lun w ↦ record { last = rw (w.last-is, w.choose_later-last.ensures) (end_own x.problem x.groups c.args.moves.now c.loop-m.m-index c.args.lun w.end_of.result (Next 0) c.loop-m.last c.loop-m-test.true (own ∙ w.if-lun.true) w.end_of.ensures.value c.loop-m.invariant.last) }
      | else-lun w ↦ record { last = rw w.last-is (end_other x.problem x.groups c.args.moves.now c.loop-m.m-index c.args.lun (Next 0) c.loop-m.last c.loop-m-test.true (λ q. w.if-lun.false (sym own ∙ q)) c.loop-m.invariant.last) }
    ]
