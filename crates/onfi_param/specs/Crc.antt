-- The check value of a parameter page: a remainder of polynomials over bits.
use Rattle.std.specs.Prelude.{◌≡◌, ◌<◌, ◌^◌, ⊤, ℕ, ◌+◌, ◌*◌, ◌/◌, ◌%◌, List, [], ◌∷◌, ◌++◌, bit_xor, replicate}
use Rattle.std.specs.List.{flat_map}

-- the bits of a byte, the highest first
abbrev pub byte_bits : ℕ → List ℕ
byte_bits b = (b / 128 % 2) ∷ (b / 64 % 2) ∷ (b / 32 % 2) ∷ (b / 16 % 2) ∷ (b / 8 % 2) ∷ (b / 4 % 2) ∷ (b / 2 % 2) ∷ (b % 2) ∷ []

-- the bits of bytes
abbrev pub bits : List ℕ → List ℕ
bits bytes = flat_map byte_bits bytes

-- the bits of the start value 4F4Eh
abbrev pub start_bits : List ℕ
start_bits = bits (0x4F ∷ 0x4E ∷ [])

-- a bit string with a mask laid over its front
unfoldable pub masked : List ℕ → List ℕ → List ℕ
masked [] string = string
masked (m ∷ mask) [] = []
masked (m ∷ mask) (b ∷ string) = bit_xor m b ∷ masked mask string

-- x^16 + x^15 + x^2 + 1
abbrev pub polynomial : ℕ
polynomial = 0x18005

-- only the digits 0 and 1
unfoldable pub AllBits : List ℕ → Type 0
AllBits [] = ⊤
AllBits (b ∷ string) = (b < 2) × AllBits string

-- the number that a bit string spells after n; its bits are the coefficients of a polynomial
unfoldable pub number_from : ℕ → List ℕ → ℕ
number_from n [] = n
number_from n (b ∷ string) = number_from (n * 2 + b) string

-- the product of a bit string and the polynomial, without carries, after n
unfoldable pub product_from : ℕ → List ℕ → ℕ
product_from n [] = n
product_from n (b ∷ string) = product_from (bit_xor (n * 2) (b * polynomial)) string

-- r is below x^16, and the string is some multiple of the polynomial and r
abbrev pub IsRemainder : List ℕ → ℕ → Type 0
IsRemainder string r =
    (r < 2 ^ 16) × (quotient : List ℕ) × AllBits quotient × (number_from 0 string ≡ bit_xor (product_from 0 quotient) r)

-- r is the check value of the bytes: their bits with 16 zero bits after them, the first 16 of all these flipped by the
-- start value, leave r when they are divided by the polynomial
unfoldable pub IsCheckValue : List ℕ → ℕ → Type 0
IsCheckValue bytes r = IsRemainder (masked start_bits (bits bytes ++ replicate 16 0)) r
