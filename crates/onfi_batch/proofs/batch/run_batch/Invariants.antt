use Rattle.onfi_batch.specs.Course.{IsOnCourse, state_of, steps_left}
use Rattle.onfi_batch.proofs.batch.run_batch.Given as goal

abbrev pub invariant-loop-due : goal.invariant-loop-due
invariant-loop-due g l = IsOnCourse l.target l.schedule l.fn.items.items (g.C.Chip.state l.fn.chip) l.course l.lanes (g.C.Chip.state l.chip)

abbrev pub decreases-loop-due : goal.decreases-loop-due
decreases-loop-due g l = steps_left (state_of l.course).left
