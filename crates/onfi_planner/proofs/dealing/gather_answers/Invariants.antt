use Rattle.std.proofs.Common.{◌≡◌, None, Some, Ok, Err, map}
use Rattle.onfi_group.specs.Words.{Has}
use Rattle.onfi_planner.proofs.dealing.gather_answers.Given as goal

abbrev pub invariant-loop-share : goal.invariant-loop-share
invariant-loop-share g l = record {
  done : l.first ≡ None → l.yielded ≡ map Ok l.all.items;
  refused : (refusal : _) → l.first ≡ Some refusal → Has l.yielded (Err refusal);
}
