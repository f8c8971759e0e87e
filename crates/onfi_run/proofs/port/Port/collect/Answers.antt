use Rattle.onfi_run.proofs.port.Port.collect.Goals as goal

pub returns-in-None-clause-emptied : goal.returns-in-None-clause-emptied
returns-in-None-clause-emptied g c none = record { waiting = c.in-None.ensures.none_waits; empty = c.in-None.ensures.empty }
