use Rattle.onfi_cert.proofs.Whole.{again}
use Rattle.onfi_cert.proofs.reading.read.Goals as goal

pub returns-clause-again : goal.returns-clause-again
returns-clause-again c = again c.args.text.now (λ v. v.items) c.take_tokens.result c.take_tokens.ensures.tokens c.take_tokens.ensures.fault
