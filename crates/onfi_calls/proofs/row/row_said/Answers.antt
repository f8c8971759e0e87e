use Rattle.std.proofs.Common.{rules}
use Rattle.onfi_calls.proofs.row.row_said.Goals as goal

pub returns-then-not-is_in_range-clause-none : goal.returns-then-not-is_in_range-clause-none
returns-then-not-is_in_range-clause-none c = record {
  geometry = c.in-Some.geometry;
  written = c.in-Some.ensures.some;
  not_there = search rules;
}

pub returns-clause-row : goal.returns-clause-row
returns-clause-row c = record {
  geometry = c.in-Some.geometry;
  written = c.in-Some.ensures.some;
  there = search rules;
  row_is = c.row_in.ensures;
}
