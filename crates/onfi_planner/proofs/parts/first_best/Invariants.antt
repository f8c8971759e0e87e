use Rattle.std.proofs.Common.{◌≡◌, ◌⊎◌, ◌+◌, ◌≤◌, ◌<◌, ◌++◌}
use Rattle.std.specs.List.{AllByRecursion as Each}
use Rattle.onfi_group.specs.Words.{Has}
use Rattle.onfi_planner.specs.declared.parts.Part.{Part}
use Rattle.onfi_planner.specs.Parts.{opened_by}
use Rattle.onfi_planner.proofs.parts.first_best.Given as goal

abbrev pub invariant-loop-part : goal.invariant-loop-part
invariant-loop-part l = record {
  rest : l.fn.found.items ≡ l.yielded ++ l.part-iterator.rest.items;
  sooner : l.best.finish ≤ l.fn.best.finish;
  least : Each (λ part. l.best.finish ≤ part.best.finish) l.yielded;
  one : (l.best ≡ l.fn.best) ⊎ ((part : Part) × Has l.fn.found.items part × (part.best ≡ l.best) × (l.best.finish < l.fn.best.finish));
  opened : l.opened ≡ 1 + opened_by l.yielded;
}
