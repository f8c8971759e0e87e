use Rattle.onfi_script.proofs.ReadBack.{schedule_read, text_read}
use Rattle.onfi_script.proofs.laws.text_is_read_back.Goals as goal

pub returns : goal.returns
returns c = λ wants s ends line more has small certificate lacks. (text_read wants s ends line more has small certificate lacks, schedule_read s ends)
