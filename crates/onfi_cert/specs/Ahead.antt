-- What a reader still gives, found from where it stands in its line. What this means for the text is said by `HoldsLine`.
use Rattle.std.specs.Prelude.{ℕ, zero, suc, ◌+◌, ◌-◌, ◌≤◌, ◌==◌, ⊤, List, [], ◌∷◌, Option, Some, None, Result, Ok, Err, drop, nat_lt, if◌then◌else◌}
use Rattle.onfi_cert.specs.declared.fault.LineFault.{LineFault}
use Rattle.onfi_cert.specs.declared.fault.LineFault.TheVariants as fault
use Rattle.onfi_cert.specs.Reading.{Line, led}
use Rattle.onfi_cert.specs.Word.{behind_word, word}

-- the first of these tokens, else how they end
abbrev pub first_of_line : {T : Type 0} → List T → Option LineFault → Result (Option T) LineFault
first_of_line (t ∷ ts) end = Ok (Some t)
first_of_line [] None = Ok None
first_of_line [] (Some e) = Err e

-- the first token ahead; where none is, that the line ends, or its fault
abbrev pub next_of : {T : Type 0} → Line T → Result (Option T) LineFault
next_of line = first_of_line line.tokens line.fault

-- without that token
abbrev pub later : {T : Type 0} → Line T → Line T
later line = record line { tokens = drop 1 line.tokens }

-- a fault at this place or in front of it
abbrev pub IsUpTo : ℕ → LineFault → Type 0
IsUpTo place (fault.BadToken told) = told ≤ place
IsUpTo place fault.TooLong = ⊤

-- the word after `place` tokens is this token
abbrev pub found : {T : Type 0} → ℕ → Option T → List ℕ → Result (Option (T × List ℕ)) LineFault
found place None rest = Err (fault.BadToken place)
found place (Some t) rest = Ok (Some (t, rest))

-- a token after `place` tokens, and what follows it
abbrev pub token_in : {T : Type 0} → (List ℕ → Option T) → ℕ → List ℕ → Result (Option (T × List ℕ)) LineFault
token_in token_of place text = found place (token_of (word text)) (behind_word text)

-- the next of the tokens that stand after `place` tokens, each with a space in front, and what follows it
abbrev pub step : {T : Type 0} → (List ℕ → Option T) → ℕ → ℕ → List ℕ → Result (Option (T × List ℕ)) LineFault
step token_of most place [] = Err (fault.BadToken place)
step token_of most place (b ∷ []) =
    if b == 10 then Ok None
    else if b == 32 then (if nat_lt place most then token_in token_of place [] else Err fault.TooLong)
    else Err (fault.BadToken place)
step token_of most place (b ∷ c ∷ rest) =
    if b == 32 then (if nat_lt place most then token_in token_of place (c ∷ rest) else Err fault.TooLong)
    else Err (fault.BadToken place)

-- the bytes that stand after `place` tokens, with a space in front of each token
abbrev pub from : ℕ → List ℕ → List ℕ
from place text = if place == 0 then led text else text

-- one step, and the walk after it
abbrev pub walked : {T : Type 0} → Result (Option (T × List ℕ)) LineFault → (List ℕ → Line T) → Line T
walked (Err e) next = record { tokens = []; fault = Some e }
walked (Ok None) next = record { tokens = []; fault = None }
walked (Ok (Some p)) next = record { tokens = p.0 ∷ (next p.1).tokens; fault = (next p.1).fault }

-- the tokens after `place` tokens and how they end, where fewer than `room` more are read
unfoldable pub walk : {T : Type 0} → (List ℕ → Option T) → ℕ → ℕ → ℕ → List ℕ → Line T
walk token_of most zero place text = record { tokens = []; fault = None }
walk token_of most (suc room) place text = walked (step token_of most place text) (walk token_of most room (place + 1))

-- what is ahead of a reader that gave `place` tokens and stands before these bytes
unfoldable pub ahead_of : {T : Type 0} → (List ℕ → Option T) → ℕ → ℕ → List ℕ → Line T
ahead_of token_of most place text = walk token_of most (most + 1 - place) place (from place text)
