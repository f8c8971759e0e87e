use Rattle.std.proofs.Common.{◌≡◌, length}
use Rattle.onfi_log.specs.Parts.{parts}
use Rattle.onfi_script.specs.PlanText.{lines_of, plan_after}
use Rattle.onfi_script.proofs.plan_text.read_lines.Given as goal

abbrev pub invariant-loop-line : goal.invariant-loop-line
invariant-loop-line l = lines_of l.wants l.finish (parts 10 l.text) ≡ plan_after l.wants l.plan (parts 10 l.left)

abbrev pub decreases-loop-line : goal.decreases-loop-line
decreases-loop-line l = length l.left
