-- What makes 256 bytes a copy of a parameter page, and where no copy is left.
use Rattle.std.proofs.Common.{◌≡◌, ℕ, ◌+◌, ◌*◌, ◌-◌, ◌/◌, ◌≤◌, ◌<◌, inl, inr, List, length, take, drop, arith, sym, ◌∙◌, subst, length-drop}
use Rattle.std.specs.Prelude.{◌==◌, ◌↔◌, IsTrue}
use Rattle.std.proofs.lemmas.Bool.{eqb-true, eq-eqb, cases_lt}
use Rattle.std.proofs.lemmas.List.{length-take}
use Rattle.onfi_param.specs.Crc.{IsCheckValue}
use Rattle.onfi_param.specs.Fields.{stored_crc}
use Rattle.onfi_param.specs.Copies.{IsPageCopy, NoCopyBelow, copy_at, right_signature_bytes}
use Rattle.onfi_param.proofs.Unique.{one_check_value}

pub checks : (copy : List ℕ) (crc stored : ℕ) → length copy ≡ 256 → 2 ≤ right_signature_bytes copy → IsCheckValue (take 254 copy) crc
    → stored ≡ stored_crc copy → IsTrue (crc == stored) ↔ IsPageCopy copy
checks copy crc stored size signed is same = (
  λ equal.
      let right : crc ≡ stored_crc copy = eqb-true crc stored equal ∙ same in
      record { size = size; signed = signed; checked = subst (IsCheckValue (take 254 copy)) right is },
  λ page. eq-eqb crc stored (one_check_value (take 254 copy) crc (stored_crc copy) is page.checked ∙ sym same),
)

-- after the last whole copy there is none
pub none_behind : (bytes : List ℕ) (number : ℕ) → length bytes / 256 ≤ number → IsPageCopy (copy_at bytes number) → ⊥
none_behind bytes number h page =
    omega (arith, page.size, length-take (256 * (number + 1) - 256 * number) (drop (256 * number) bytes), length-drop (256 * number) bytes)

-- and up to there each has its 256 bytes
pub copy_size : (bytes : List ℕ) (number : ℕ) → number < length bytes / 256 → length (copy_at bytes number) ≡ 256
copy_size bytes number h =
    omega (arith, length-take (256 * (number + 1) - 256 * number) (drop (256 * number) bytes), length-drop (256 * number) bytes)

-- no copy before a number, and none there
pub none_here : (bytes : List ℕ) (number : ℕ) → NoCopyBelow bytes number → (IsPageCopy (copy_at bytes number) → ⊥) → NoCopyBelow bytes (number + 1)
none_here bytes number none here earlier within page = elim (cases_lt earlier number) [
  | inl before ↦ none earlier before page
  | inr behind ↦ (let e : earlier ≡ number = omega arith in here (subst (λ n. IsPageCopy (copy_at bytes n)) e page))
]
