use Rattle.onfi_script.specs.Script.{script_of}
use Rattle.onfi_script.proofs.Scan.{Left}
use Rattle.onfi_script.proofs.script.script_len.Given as goal

abbrev pub invariant-loop-at : goal.invariant-loop-at
invariant-loop-at l = Left (script_of l.input) l.starts l.input l.at
