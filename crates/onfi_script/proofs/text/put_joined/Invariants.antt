use Rattle.std.proofs.Common.{◌≡◌, ◌++◌, take}
use Rattle.std.specs.Prelude.{string_bytes}
use Rattle.onfi_script.specs.Text.{joined}
use Rattle.onfi_script.proofs.text.put_joined.Given as goal

abbrev pub invariant-loop-want : goal.invariant-loop-want
invariant-loop-want l = string_bytes l.text ≡ string_bytes l.fn.text ++ joined (take l.want-index l.wants)
