-- Which copy of a parameter page is taken.
use Rattle.std.specs.Prelude.{◌≡◌, ◌==◌, ◌<◌, ◌≤◌, ℕ, ◌+◌, ◌*◌, List, [], ◌∷◌, length, take, slice_index, slice_range, count_by}
use Rattle.onfi_param.specs.Crc.{IsCheckValue}
use Rattle.onfi_param.specs.Fields.{stored_crc}

-- 'O', 'N', 'F', 'I'
abbrev pub signature : List ℕ
signature = 0x4F ∷ 0x4E ∷ 0x46 ∷ 0x49 ∷ []

-- how many of the first four bytes are right in their places
abbrev pub right_signature_bytes : List ℕ → ℕ
right_signature_bytes copy = count_by (λ at. slice_index copy at == slice_index signature at) (0 ∷ 1 ∷ 2 ∷ 3 ∷ [])

-- 256 bytes, two or more signature bytes right in their places, and the last two bytes are the check value of the others
pub record IsPageCopy (copy : List ℕ) : Type 0 where
  pub size : length copy ≡ 256
  pub signed : 2 ≤ right_signature_bytes copy
  pub checked : IsCheckValue (take 254 copy) (stored_crc copy)

-- the 256 bytes, or what there is of them, at offset 0, 256, 512, ..
abbrev pub copy_at : List ℕ → ℕ → List ℕ
copy_at bytes number = slice_range bytes (256 * number) (256 * (number + 1))

-- no copy before this number is one
abbrev pub NoCopyBelow : List ℕ → ℕ → Type 0
NoCopyBelow bytes number = (earlier : ℕ) → earlier < number → ¬ IsPageCopy (copy_at bytes earlier)

-- the page is the first copy that is one
abbrev pub IsFirstCopy : List ℕ → List ℕ → Type 0
IsFirstCopy bytes page = (number : ℕ) × (page ≡ copy_at bytes number) × IsPageCopy page × NoCopyBelow bytes number
