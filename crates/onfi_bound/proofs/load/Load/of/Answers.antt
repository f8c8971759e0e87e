use Rattle.onfi_bound.proofs.load.Load.of.Goals as goal

pub with_all-requires-clause-load : goal.with_all-requires-clause-load
with_all-requires-clause-load c = c.none.ensures.load c.timing-timing.result.now c.rules-rules.result
