use Rattle.onfi_core.proofs.drive.run_due.Given as goal

abbrev pub ghost-done : goal.ghost-done
ghost-done g a = (g.C.Chip.state a.chip.now).faults
