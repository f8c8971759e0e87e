use Rattle.std.proofs.Common.{rules}
use Rattle.onfi_calls.proofs.output.find_output.Goals as goal

pub returns-then-not-has_part-clause-none : goal.returns-then-not-has_part-clause-none
returns-then-not-has_part-clause-none c = record {
  geometry = c.in-Some.geometry;
  device = c.in-Some.ensures.some;
  operation = search rules;
  not_there = search rules;
}

pub returns-clause-output : goal.returns-clause-output
returns-clause-output c = record {
  geometry = c.in-Some.geometry;
  device = c.in-Some.ensures.some;
  operation = search rules;
  there = search rules;
  output_is = search rules;
}
