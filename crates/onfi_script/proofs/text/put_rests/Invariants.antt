use Rattle.std.proofs.Common.{◌≡◌, ◌++◌, drop}
use Rattle.std.specs.Prelude.{string_bytes}
use Rattle.onfi_script.specs.Text.{rest_lines}
use Rattle.onfi_script.proofs.text.put_rests.Given as goal

abbrev pub invariant-loop-lun : goal.invariant-loop-lun
invariant-loop-lun l = string_bytes l.text ++ rest_lines l.lun (drop l.lun l.rest) ≡ string_bytes l.fn.text ++ rest_lines 0 l.rest
