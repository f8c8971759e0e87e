-- The one text of a list of tokens.
use Rattle.std.specs.Prelude.{ℕ, ◌+◌, ◌^◌, ◌≤◌, ◌<◌, ◌≡◌, List, [], ◌∷◌, ◌++◌, ⊤, Bool, All, length, codes, decimal, if◌then◌else◌}
use Rattle.onfi_cert.specs.Reading.{HoldsLine, Line}
use Rattle.onfi_cert.specs.Text.{digit, number as digits, line_of}
use Rattle.onfi_known_check.specs.declared.token.Token.{Token}
use Rattle.onfi_known_check.specs.declared.token.Token.TheVariants as tk
use Rattle.onfi_known_check.specs.declared.token.TheConstants.{MOST_KNOWN}

-- its numbers are in range
abbrev pub InRange : Token → Type 0
InRange (tk.Branch width) = (1 ≤ width) × (width ≤ 99)
InRange tk.Bus = ⊤
InRange tk.Lead = ⊤
InRange tk.Trail = ⊤
InRange (tk.Die lun) = lun < 8
InRange (tk.Yield lun) = lun < 8
InRange tk.End = ⊤
InRange (tk.Window start tail) = (start < 2 ^ 63) × (tail < 2 ^ 63)
InRange (tk.Again number) = number < MOST_KNOWN

-- B1 to B99, U, L, T, D0 to D7, Y0 to Y7, X as in plain certificates, W with two numbers, R with one
abbrev pub spelling : Token → List ℕ
spelling (tk.Branch width) = codes "B" ++ digits width
spelling tk.Bus = codes "U"
spelling tk.Lead = codes "L"
spelling tk.Trail = codes "T"
spelling (tk.Die lun) = codes "D" ++ digit lun ∷ []
spelling (tk.Yield lun) = codes "Y" ++ digit lun ∷ []
spelling tk.End = codes "X"
spelling (tk.Window start tail) = codes "W" ++ (decimal start ++ (codes "," ++ decimal tail))
spelling (tk.Again number) = codes "R" ++ decimal number

-- the tokens with a space between each two, and LF after them
abbrev pub line : List Token → List ℕ
line tokens = line_of spelling tokens

abbrev pub header : Bool → List ℕ
header strict = if strict then codes "ONFICERT 4 strict remember\n" else codes "ONFICERT 3 remember\n"

-- there are fewer tokens than bytes, so a text meets no limit
abbrev pub MOST : ℕ
MOST = 18446744073709551615

-- a text with the header of this option holds these good tokens, and then ends well or by this fault
abbrev pub Holds : List ℕ → Bool → Line Token → Type 0
Holds text strict line = HoldsLine header InRange spelling MOST text strict line

-- the text of these tokens under this option; there is at least one
pub record IsCertificate (text : List ℕ) (strict : Bool) (tokens : List Token) : Type 0 where
  pub some : 1 ≤ length tokens
  pub in_range : All InRange tokens
  pub spelled : text ≡ header strict ++ line tokens

-- a text of which the tokens before a place were read, with this option and this line after its header
pub record IsReading (text : List ℕ) (strict : Bool) (whole : Line Token) (place : ℕ) (left : Line Token) : Type 0 where
  pub holds : Holds text strict whole
  pub short : length text < 2 ^ 64
  pub fault_is : left.fault ≡ whole.fault
  pub counted : place + length left.tokens ≡ length whole.tokens
