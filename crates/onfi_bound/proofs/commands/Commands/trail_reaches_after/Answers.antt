use Rattle.std.proofs.Common.{◌≡◌, ◌≤◌, ◌↔◌, ℕ, Option, Some, IsTrue, ◌∙◌, subst}
use Rattle.onfi_problem.specs.Moves.{after}
use Rattle.onfi_problem.specs.Position.{move_of}
use Rattle.onfi_bound.proofs.Counting.{timing_after}
use Rattle.onfi_bound.proofs.commands.Commands.trail_reaches_after.Goals as goal

pub returns : goal.returns
returns c =
    let x = c.args.problem.now in
    let m = move_of x.groups c.args.m in
    let is = c.trail_from.ensures (after x.problem m) (c.timing-timing.ensures ∙ timing_after x.problem m) c.end_of.ensures.value c.after-left.ensures in
    subst (λ (z : Option ℕ). IsTrue c.is_reached.result ↔ ((t : ℕ) × (z ≡ Some t) × (c.args.e ≤ t))) is c.is_reached.ensures
