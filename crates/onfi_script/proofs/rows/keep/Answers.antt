use Rattle.onfi_script.proofs.rows.keep.Goals as goal

pub returns-clause-arrays : goal.returns-clause-arrays
returns-clause-arrays c = λ told. rw c.in_ok-push.ensures.items (c.in_ok-put.ensures c.args.rows.now.items told)
