-- The texts of what calls answer.
use Rattle.std.specs.Prelude.{◌==◌, ℕ, List, [], Option, Some, None, find}
use Rattle.onfi_calls.specs.declared.status.Status.{Status}
use Rattle.onfi_calls.specs.declared.status.TheConstants.{ALL}
use Rattle.onfi_calls.specs.Status.{number_of, text_of}

-- what has this number
abbrev pub named : ℕ → Option Status
named number = find (λ s. number_of s == number) ALL

abbrev pub text_in : Option Status → List ℕ
text_in None = []
text_in (Some s) = text_of s

-- the text of a number, none where nothing has it
abbrev pub text_at : ℕ → List ℕ
text_at number = text_in (named number)
