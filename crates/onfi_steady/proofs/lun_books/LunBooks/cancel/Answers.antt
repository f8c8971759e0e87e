use Rattle.onfi_steady.proofs.LunKept.{renewed}
use Rattle.onfi_steady.proofs.lun_books.LunBooks.cancel.Goals as goal

pub returns-clause-lun : goal.returns-clause-lun
returns-clause-lun c = λ timing spans is.
    renewed timing c.args.rules.now c.args.self.now.run c.take_out.new.self c.renew.new.self c.renew.ensures.run c.renew.ensures.line is.going (c.renew.ensures.offer timing spans)
