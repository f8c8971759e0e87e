use Rattle.std.proofs.Common.{◌≡◌, ◌-◌, length}
use Rattle.onfi_planner.specs.Dealing.{GivesFrom}
use Rattle.onfi_planner.proofs.Turns.{Held}
use Rattle.onfi_planner.proofs.dealing.do_in_turn.Given as goal

abbrev pub invariant-loop-after : goal.invariant-loop-after
invariant-loop-after g l = record {
  held : Held g.F.Fn l.f l.workers (l.n - l.after) l.shares.items;
  given : GivesFrom g.F.Fn l.f (l.n - l.after) l.answers.items;
  long : length l.answers.items ≡ l.after;
}
