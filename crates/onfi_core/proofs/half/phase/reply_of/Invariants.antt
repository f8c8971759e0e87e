use Rattle.onfi_core.proofs.half.phase.reply_of.Given as goal

abbrev pub ghost-of : goal.ghost-of
ghost-of g a = (a._accepted.now.accepted, g.faults)
