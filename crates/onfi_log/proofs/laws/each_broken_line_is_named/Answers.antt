use Rattle.onfi_log.proofs.EachLine.{each_law}
use Rattle.onfi_log.proofs.laws.each_broken_line_is_named.Goals as goal

pub returns : goal.returns
returns c = each_law
