use Rattle.onfi_batch.proofs.course.Course.reply_of.Given as goal

abbrev pub ghost-of : goal.ghost-of
ghost-of g a = (a._accepted.now.items, (g.C.Chip.state a._faults.now).faults)
