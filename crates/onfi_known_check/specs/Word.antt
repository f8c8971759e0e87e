-- Words of a text, and the tokens that they spell. What a token looks like is said by `spelling` alone; here stands
-- the way back, for the readers' own contracts.
use Rattle.std.specs.Prelude.{ℕ, ◌+◌, ◌==◌, List, [], ◌∷◌, Option, Some, None, option_map, option_and_then, take, drop, position, if◌then◌else◌}
use Rattle.onfi_timing.specs.Decimal.{below, written_number}
use Rattle.onfi_cert.specs.declared.token.Token.{Token as PlainToken}
use Rattle.onfi_cert.specs.declared.token.Token.TheVariants as plain
use Rattle.onfi_cert.specs.Word.{token_of as plain_token_of}
use Rattle.onfi_known_check.specs.declared.token.Token.{Token}
use Rattle.onfi_known_check.specs.declared.token.Token.TheVariants as tk
use Rattle.onfi_known_check.specs.declared.token.TheConstants.{MOST_KNOWN}

-- a token of a plain certificate
abbrev pub of_plain : PlainToken → Token
of_plain (plain.Branch width) = tk.Branch width
of_plain plain.Bus = tk.Bus
of_plain plain.Lead = tk.Lead
of_plain plain.Trail = tk.Trail
of_plain (plain.Die lun) = tk.Die lun
of_plain (plain.Yield lun) = tk.Yield lun
of_plain plain.End = tk.End

-- the number of a node
abbrev pub again_token : List ℕ → Option Token
again_token text = option_and_then (λ n. option_map tk.Again (below MOST_KNOWN n)) (written_number text)

-- two numbers with a comma between them
abbrev pub window_token : List ℕ → Option Token
window_token text =
    option_and_then (λ at. option_and_then (λ start. option_map (tk.Window start) (written_number (drop (at + 1) text))) (written_number (take at text))) (position (λ b. b == 44) text)

-- the token that a word spells
abbrev pub token_of : List ℕ → Option Token
token_of [] = None
token_of (letter ∷ more) =
    if letter == 87 then window_token more
    else if letter == 82 then again_token more
    else option_map of_plain (plain_token_of (letter ∷ more))
