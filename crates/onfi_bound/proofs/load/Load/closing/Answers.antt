use Rattle.onfi_bound.proofs.Tallying.{tally_sums, tally_first}
use Rattle.onfi_bound.proofs.FirstBound.{first_bus, first_lead}
use Rattle.onfi_bound.proofs.load.Load.closing.Goals as goal

pub bus-bus-requires : goal.bus-bus-requires
bus-bus-requires c = tally_sums c.args.problem.now.problem c.of-tally.result c.of-tally.ensures

pub returns-then-bus-e : goal.returns-then-bus-e
returns-then-bus-e c = record {
  is_first = first_bus c.args.problem.now.problem c.args.e c.bus-bus.result c.bus-bus.ensures.value c.if-bus-e.true;
  comes_to = c.bus-bus.ensures.value;
}

pub lead-lead-requires-clause-sums : goal.lead-lead-requires-clause-sums
lead-lead-requires-clause-sums c = tally_sums c.args.problem.now.problem c.of-tally.result c.of-tally.ensures

pub lead-lead-requires-clause-first : goal.lead-lead-requires-clause-first
lead-lead-requires-clause-first c = tally_first c.args.problem.now.problem c.of-tally.result c.of-tally.ensures

pub returns-then-lead-e : goal.returns-then-lead-e
returns-then-lead-e c = record {
  is_first = first_lead c.args.problem.now.problem c.args.e c.bus-bus.result c.lead-lead.result c.bus-bus.ensures.value c.if-bus-e.false c.lead-lead.ensures.value c.if-lead-e.true;
  comes_to = c.lead-lead.ensures.value;
}

pub trail-requires : goal.trail-requires
trail-requires c = tally_sums c.args.problem.now.problem c.of-tally.result c.of-tally.ensures
