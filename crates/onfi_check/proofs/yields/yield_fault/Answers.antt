use Rattle.std.proofs.Common.{arith}
use Rattle.onfi_check.proofs.yields.yield_fault.Goals as goal

pub returns-then-fits-clause-loops_or_fits : goal.returns-then-fits-clause-loops_or_fits
returns-then-fits-clause-loops_or_fits c = λ moves end. record { fits = (c.fits.ensures moves c.args.lun end).0 c.if-fits.true; other = omega arith; unasked = c.if-standing-own.false; stays = c.if-standing-lun.false }
