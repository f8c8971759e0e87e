-- What a text holds after its header: tokens of a kind, or what is wrong with them.
use Rattle.std.specs.Prelude.{ℕ, ◌==◌, ◌≡◌, ◌≢◌, ◌<◌, ◌≤◌, ◌⊎◌, List, [], ◌∷◌, ◌++◌, Bool, Option, Some, None, Result, Ok, Err, All, length, option_map, if◌then◌else◌}
use Rattle.onfi_cert.specs.declared.token.Token.{Token}
use Rattle.onfi_cert.specs.declared.fault.CertTextFault.{CertTextFault}
use Rattle.onfi_cert.specs.declared.fault.CertTextFault.TheVariants as fault
use Rattle.onfi_cert.specs.declared.fault.LineFault.{LineFault}
use Rattle.onfi_cert.specs.declared.fault.LineFault.TheVariants as in_line
use Rattle.onfi_cert.specs.declared.limits.TheConstants.{MOST_TOKENS}
use Rattle.onfi_cert.specs.Text.{InRange, IsCertificate, fronted_of, header, line_of, spelling}
use Rattle.onfi_cert.specs.Word.{NoToken, word}

-- a line of tokens with a space in front of the first too
abbrev pub led : List ℕ → List ℕ
led [] = 32 ∷ []
led (b ∷ []) = if b == 10 then b ∷ [] else 32 ∷ b ∷ []
led (b ∷ c ∷ rest) = 32 ∷ b ∷ c ∷ rest

-- how the bytes after a header go wrong after these good tokens, where there may be that many
pub data IsWrongAfter {T : Type 0} (Kept : T → Type 0) (spelling : T → List ℕ) (most : ℕ) (good : List T) (bytes : List ℕ) : Type 0 where
  -- the next word is no token
  no_token : (rest : List ℕ) → led bytes ≡ fronted_of spelling good ++ 32 ∷ rest → NoToken Kept spelling (word rest) → length good < most
      → IsWrongAfter Kept spelling most good bytes
  -- they end without LF
  no_end : led bytes ≡ fronted_of spelling good → IsWrongAfter Kept spelling most good bytes
  -- they go on after LF
  goes_on : (b : ℕ) (more : List ℕ) → led bytes ≡ fronted_of spelling good ++ 10 ∷ b ∷ more → IsWrongAfter Kept spelling most good bytes

-- how the bytes after a header end after these good tokens: well, or by a fault
abbrev pub EndsBy : {T : Type 0} → (T → Type 0) → (T → List ℕ) → ℕ → List T → List ℕ → Option LineFault → Type 0
EndsBy Kept spelling most good bytes None = bytes ≡ line_of spelling good
EndsBy Kept spelling most good bytes (Some (in_line.BadToken place)) = (place ≡ length good) × IsWrongAfter Kept spelling most good bytes
EndsBy Kept spelling most good bytes (Some in_line.TooLong) = (length good ≡ most) × ((more : List ℕ) × (led bytes ≡ fronted_of spelling good ++ 32 ∷ more))

-- what a reader of a line still gives: these tokens, and then the end or a fault
pub record Line (T : Type 0) : Type 0 where
  pub tokens : List T
  pub fault : Option LineFault

-- a text with the header of this option holds these good tokens, at most that many, and then ends well or by this fault
pub record HoldsLine {T : Type 0} (header : Bool → List ℕ) (Kept : T → Type 0) (spelling : T → List ℕ) (most : ℕ)
    (text : List ℕ) (strict : Bool) (line : Line T) : Type 0 where
  pub in_range : All Kept line.tokens
  pub few : length line.tokens ≤ most
  pub bytes : List ℕ
  pub spelled : text ≡ header strict ++ bytes
  pub ends : EndsBy Kept spelling most line.tokens bytes line.fault

-- .. of a certificate
abbrev pub Holds : List ℕ → Bool → Line Token → Type 0
Holds text strict line = HoldsLine header InRange spelling MOST_TOKENS text strict line

-- the text begins with neither of two headers
abbrev pub BeginsWithNeither : (Bool → List ℕ) → List ℕ → Type 0
BeginsWithNeither header text = (strict : Bool) (bytes : List ℕ) → text ≢ header strict ++ bytes

-- .. of a certificate
abbrev pub NoHeader : List ℕ → Type 0
NoHeader text = BeginsWithNeither header text

-- the fault of a text whose line has this fault
abbrev pub cert_fault : LineFault → CertTextFault
cert_fault (in_line.BadToken place) = fault.BadToken place
cert_fault in_line.TooLong = fault.TooLong

-- why the text is no certificate
abbrev pub IsFaultOf : List ℕ → CertTextFault → Type 0
IsFaultOf text e =
    ((e ≡ fault.Header) × NoHeader text)
    ⊎ ((strict : Bool) × (line : Line Token) × Holds text strict line × (option_map cert_fault line.fault ≡ Some e))

-- what `read` may answer of the text; out of memory says nothing of it
abbrev pub Reads : List ℕ → Result (Bool × List Token) CertTextFault → Type 0
Reads text (Ok r) = IsCertificate text r.0 r.1
Reads text (Err e) = (e ≡ fault.Memory) ⊎ IsFaultOf text e
