use Rattle.std.proofs.Common.{arith}
use Rattle.std.proofs.lemmas.Grind.{common_steps}
use Rattle.onfi_cert.proofs.reading.take_tokens.Goals as goal

pub loop-tokens-init : goal.loop-tokens-init
loop-tokens-init c = grind (arith, common_steps)

pub loop-tokens-preserved : goal.loop-tokens-preserved
loop-tokens-preserved c = grind (arith, common_steps)

pub returns-clause-tokens : goal.returns-clause-tokens
returns-clause-tokens c = grind (arith, common_steps)
