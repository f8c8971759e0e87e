use Rattle.std.proofs.Common.{arith}
use Rattle.std.proofs.lemmas.Bool.{ltb-true}
use Rattle.onfi_addr.proofs.FaultLemmas.{never_wide}
use Rattle.onfi_addr.proofs.judging.has_wide_columns.Goals as goal

pub returns-else-cycles-lt5 : goal.returns-else-cycles-lt5
returns-else-cycles-lt5 c = (
  λ few. absurd (omega (arith, ltb-true c.column_cycles-cycles.result 5 few)),
  λ wide. absurd (never_wide _ _ (omega arith) (omega (arith, c.page_bytes-bytes.ensures.sum)) wide),
)
