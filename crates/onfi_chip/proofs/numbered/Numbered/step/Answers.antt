use Rattle.std.proofs.Common.{◌≡◌, ◌+◌, arith}
use Rattle.onfi_chip.proofs.Numbers.{failed_fine, failed_rises}
use Rattle.onfi_chip.proofs.numbered.Numbered.step.Goals as goal

pub returns-clause-failed : goal.returns-clause-failed
returns-clause-failed c f =
    let early = c.requires f in
    let next : c.saturating_add-self.result ≡ c.args.self.now.made + 1 = omega (arith, early) in
    failed_rises c.args.self.now.failing.items c.args.self.now.made c.saturating_add-self.result f next

pub returns-clause-fine : goal.returns-clause-fine
returns-clause-fine c f =
    failed_fine c.args.self.now.failing.items c.args.self.now.made c.saturating_add-self.result f (omega arith) (omega arith)
