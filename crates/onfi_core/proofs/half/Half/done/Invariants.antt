use Rattle.onfi_core.proofs.half.Half.done.Given as goal

abbrev pub ghost-reply_of : goal.ghost-reply_of
ghost-reply_of g a = g.faults
