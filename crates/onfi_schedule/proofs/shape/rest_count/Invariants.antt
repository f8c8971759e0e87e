use Rattle.std.proofs.Common.{◌↔◌, drop}
use Rattle.std.specs.List.{AllByRecursion as All}
use Rattle.onfi_schedule.specs.Conditions.{EachRest, StateFits, Names, states_of}
use Rattle.onfi_schedule.proofs.shape.rest_count.Given as goal

abbrev pub invariant-loop-at : goal.invariant-loop-at
invariant-loop-at l = record {
  named : All (Names l.table) (drop l.at l.luns);
  rest : EachRest StateFits (states_of l.table (drop l.at l.luns)) (drop l.at l.rest) ↔ EachRest StateFits (states_of l.table l.luns) l.rest;
}
