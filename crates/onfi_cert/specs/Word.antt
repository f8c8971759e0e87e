-- Words of a text, and the tokens that they spell. What a token looks like is said by `spelling` alone; here stands
-- the way back, for the readers' own contracts.
use Rattle.std.specs.Prelude.{ℕ, ◌+◌, ◌-◌, ◌*◌, ◌==◌, ◌&&◌, ◌||◌, ◌≢◌, List, [], ◌∷◌, Bool, Option, Some, None, drop, nat_le, if◌then◌else◌}
use Rattle.std.specs.List.{before_first, position_or_len}
use Rattle.onfi_cert.specs.declared.token.Token.{Token}
use Rattle.onfi_cert.specs.declared.token.Token.TheVariants as tk

-- a space or LF
abbrev pub is_separator : ℕ → Bool
is_separator b = b == 32 || b == 10

-- the bytes up to the next space or LF
abbrev pub word : List ℕ → List ℕ
word text = before_first is_separator text

-- what follows that word
abbrev pub behind_word : List ℕ → List ℕ
behind_word text = drop (position_or_len is_separator text) text

-- no token of a kind has this spelling
abbrev pub NoToken : {T : Type 0} → (T → Type 0) → (T → List ℕ) → List ℕ → Type 0
NoToken {T} Kept spelling bytes = (token : T) → Kept token → spelling token ≢ bytes

abbrev pub is_within : ℕ → ℕ → ℕ → Bool
is_within low b high = nat_le low b && nat_le b high

-- U, L, T or X
abbrev pub letter_token : ℕ → Option Token
letter_token letter =
    if letter == 85 then Some tk.Bus
    else if letter == 76 then Some tk.Lead
    else if letter == 84 then Some tk.Trail
    else if letter == 88 then Some tk.End
    else None

-- the digit of a LUN
abbrev pub lun_at : ℕ → Option ℕ
lun_at d = if is_within 48 d 55 then Some (d - 48) else None

abbrev pub lun_token : (ℕ → Token) → Option ℕ → Option Token
lun_token token None = None
lun_token token (Some lun) = Some (token lun)

-- a branch of one digit, and of two
abbrev pub narrow : ℕ → Option Token
narrow d = if is_within 49 d 57 then Some (tk.Branch (d - 48)) else None

abbrev pub wide : ℕ → ℕ → Option Token
wide d e = if is_within 49 d 57 && is_within 48 e 57 then Some (tk.Branch ((d - 48) * 10 + (e - 48))) else None

-- B, D or Y with one digit
abbrev pub numbered : ℕ → ℕ → Option Token
numbered letter d =
    if letter == 66 then narrow d
    else if letter == 68 then lun_token tk.Die (lun_at d)
    else if letter == 89 then lun_token tk.Yield (lun_at d)
    else None

-- the token that a word spells
abbrev pub token_of : List ℕ → Option Token
token_of [] = None
token_of (letter ∷ []) = letter_token letter
token_of (letter ∷ d ∷ []) = numbered letter d
token_of (letter ∷ d ∷ e ∷ []) = if letter == 66 then wide d e else None
token_of (letter ∷ d ∷ e ∷ f ∷ more) = None
