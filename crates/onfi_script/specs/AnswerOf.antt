-- What is reported, as an answer.
use Rattle.std.specs.Prelude.{Result, Ok, Err}
use Rattle.std.specs.declared.alloc.AllocError.{AllocError}
use Rattle.onfi_script.specs.declared.text.Answer.{Answer as Told}
use Rattle.onfi_script.specs.Text.{Answer, memory}

abbrev pub answer_of : Told → Answer
answer_of told = record { text = told.text.items; status = told.status }

-- .. or that memory ran out
abbrev pub told_of : Result Told AllocError → Answer
told_of (Ok told) = answer_of told
told_of (Err refused) = memory
