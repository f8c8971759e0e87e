-- The one text of a list of tokens.
use Rattle.std.specs.Prelude.{ℕ, ◌+◌, ◌/◌, ◌%◌, ◌≤◌, ◌<◌, ◌≡◌, List, [], ◌∷◌, ◌++◌, ⊤, Bool, All, map, length, nat_lt, codes, if◌then◌else◌}
use Rattle.std.specs.List.{flat_map, join_with_byte}
use Rattle.onfi_cert.specs.declared.token.Token.{Token}
use Rattle.onfi_cert.specs.declared.token.Token.TheVariants as tk
use Rattle.onfi_cert.specs.declared.limits.TheConstants.{MOST_TOKENS}

-- its number is in range, as its type keeps it
abbrev pub InRange : Token → Type 0
InRange (tk.Branch width) = (1 ≤ width) × (width ≤ 99)
InRange tk.Bus = ⊤
InRange tk.Lead = ⊤
InRange tk.Trail = ⊤
InRange (tk.Die lun) = lun < 8
InRange (tk.Yield lun) = lun < 8
InRange tk.End = ⊤

-- a number below 10
abbrev pub digit : ℕ → ℕ
digit n = 48 + n

-- a number below 100, without a leading zero
abbrev pub number : ℕ → List ℕ
number n = if nat_lt n 10 then digit n ∷ [] else digit (n / 10) ∷ digit (n % 10) ∷ []

-- B1 to B99, U, L, T, D0 to D7, Y0 to Y7, X
abbrev pub spelling : Token → List ℕ
spelling (tk.Branch width) = codes "B" ++ number width
spelling tk.Bus = codes "U"
spelling tk.Lead = codes "L"
spelling tk.Trail = codes "T"
spelling (tk.Die lun) = codes "D" ++ digit lun ∷ []
spelling (tk.Yield lun) = codes "Y" ++ digit lun ∷ []
spelling tk.End = codes "X"

-- tokens of a kind with a space between each two
abbrev pub joined_of : {T : Type 0} → (T → List ℕ) → List T → List ℕ
joined_of spelling tokens = join_with_byte 32 (map spelling tokens)

-- .. with a space in front of each
abbrev pub fronted_of : {T : Type 0} → (T → List ℕ) → List T → List ℕ
fronted_of spelling tokens = flat_map (λ t. 32 ∷ spelling t) tokens

-- .. joined, and LF after them
abbrev pub line_of : {T : Type 0} → (T → List ℕ) → List T → List ℕ
line_of spelling tokens = joined_of spelling tokens ++ 10 ∷ []

-- the tokens with a space between each two
abbrev pub joined : List Token → List ℕ
joined tokens = joined_of spelling tokens

-- the line of tokens, with its LF
abbrev pub line : List Token → List ℕ
line tokens = line_of spelling tokens

abbrev pub header : Bool → List ℕ
header strict = if strict then codes "ONFICERT 2 strict\n" else codes "ONFICERT 1\n"

abbrev pub text_of : Bool → List Token → List ℕ
text_of strict tokens = header strict ++ line tokens

-- the text of these tokens under this option, with no more tokens than there may be
pub record IsCertificate (text : List ℕ) (strict : Bool) (tokens : List Token) : Type 0 where
  pub in_range : All InRange tokens
  pub few : length tokens ≤ MOST_TOKENS
  pub spelled : text ≡ text_of strict tokens
