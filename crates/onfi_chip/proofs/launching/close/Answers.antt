use Rattle.onfi_chip.proofs.launching.close.Goals as goal

pub returns-clause-posting : goal.returns-clause-posting
returns-clause-posting c = c.launch.ensures.posting _ _ c.in_ok-queue.ensures.ok
