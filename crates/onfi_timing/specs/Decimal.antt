-- Numbers as rows of text spell them.
use Rattle.std.specs.Prelude.{ℕ, ◌==◌, ◌^◌, ◌&&◌, not, nat_lt, if◌then◌else◌, Bool, false, List, [], ◌∷◌, length, Option, Some, None, option_and_then}
use Rattle.std.specs.List.{list_all}
use Rattle.std.specs.Char.{is_ascii_digit}
use Rattle.std.specs.Str.Parse.{digits_value}

-- one or more digits 0 to 9; zeros may lead
abbrev pub is_number : List ℕ → Bool
is_number text = not (length text == 0) && list_all is_ascii_digit text

-- the number, where the text is one
abbrev pub number_of : List ℕ → Option ℕ
number_of text = if is_number text then Some (digits_value 10 text) else None

-- more digits than one, the first a zero
abbrev pub has_leading_zero : List ℕ → Bool
has_leading_zero [] = false
has_leading_zero (c ∷ []) = false
has_leading_zero (c ∷ d ∷ more) = c == 48

-- a number, where it is below a limit
abbrev pub below : ℕ → ℕ → Option ℕ
below limit n = if nat_lt n limit then Some n else None

-- a number below 2^63 in digits, as it is written: without a leading zero
abbrev pub written_number : List ℕ → Option ℕ
written_number text = if has_leading_zero text then None else option_and_then (below (2 ^ 63)) (number_of text)
