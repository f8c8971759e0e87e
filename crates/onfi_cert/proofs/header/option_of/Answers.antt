use Rattle.onfi_cert.proofs.Whole.{neither}
use Rattle.onfi_cert.proofs.header.option_of.Goals as goal

pub returns-clause-none : goal.returns-clause-none
returns-clause-none c = neither c.args.plain.now c.args.strict.now c.args.text.now c.in_default.ensures c.in_default-strip_header.ensures
