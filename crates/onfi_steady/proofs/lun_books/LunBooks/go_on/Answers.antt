use Rattle.std.proofs.Common.{◌+◌, ◌∙◌, ap}
use Rattle.onfi_steady.specs.Slots.{slots_in}
use Rattle.onfi_steady.specs.LunBooks.{state_in}
use Rattle.onfi_steady.proofs.LunKept.{renewed}
use Rattle.onfi_steady.proofs.lun_books.LunBooks.go_on.Goals as goal

pub returns : goal.returns
returns c = λ timing spans is.
    let going = is.going c.requires.some in
    record {
      ends = ap (λ z. c.args.started + z) going.span;
      state = ap state_in c.renew.ensures.run ∙ c.after-self.ensures.state timing spans going;
      line = ap slots_in c.renew.ensures.line;
      is = renewed timing c.args.rules.now c.after-self.result c.args.self.now.line c.renew.new.self c.renew.ensures.run c.renew.ensures.line (c.after-self.ensures.going timing spans going) (c.renew.ensures.offer timing spans);
    }
