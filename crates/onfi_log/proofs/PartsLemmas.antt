-- The parts of a text, found one by one.
use Rattle.std.proofs.Common.{◌≡◌, ◌<◌, ◌≤◌, ℕ, ◌+◌, Bool, true, false, List, [], ◌∷◌, length, take, drop, Some, None, refl, ap, ◌∙◌, arith, cond}
use Rattle.std.specs.Prelude.{◌==◌, nat_lt, position}
use Rattle.std.specs.List.{position_or_len}
use Rattle.std.proofs.lemmas.List.Splits.{slice_split_first, slice_split_none, length-slice_split}
use Rattle.std.proofs.lemmas.List.Sums.{fails_before_first}
use Rattle.std.proofs.lemmas.Grind.{common_steps}
use Rattle.std.proofs.lemmas.Bool.Decides.{nat_tests}
use Rattle.onfi_log.specs.Parts.{parts}

found : (b : Bool) (n at : ℕ) → cond b (Some n) None ≡ Some at → (b ≡ true) × (n ≡ at)
found true n at e = (refl, cc)
found false n at e = cc

missed : (b : Bool) (n : ℕ) → cond b (Some n) None ≡ None → b ≡ false
missed true n e = cc
missed false n e = refl

-- the first part ends at the first such byte
pub parts_at : (byte : ℕ) (text : List ℕ) (at : ℕ) → position (λ b. b == byte) text ≡ Some at → parts byte text ≡ take at text ∷ parts byte (drop (at + 1) text)
parts_at byte text at e =
    let place = position_or_len (λ b. b == byte) text in
    let is = found (nat_lt place (length text)) place at e in
    let before : place < length text = let t = is.0 in grind (arith, nat_tests) in
    slice_split_first (λ b. b == byte) text 0 before ∙ ap (λ n. take n text ∷ parts byte (drop (n + 1) text)) is.1

-- where there is no such byte, the text is its only part
pub parts_none : (byte : ℕ) (text : List ℕ) → position (λ b. b == byte) text ≡ None → parts byte text ≡ text ∷ []
parts_none byte text e =
    let p = λ (b : ℕ). b == byte in
    let place = position_or_len p text in
    let t = missed (nat_lt place (length text)) place e in
    let all : length text ≤ place = grind (arith, nat_tests) in
    slice_split_none p text (λ k d m. let k' = fails_before_first p text k d (grind (arith, common_steps)) in grind (arith, common_steps))

-- each text has a part
pub some_parts : (byte : ℕ) (text : List ℕ) → 0 < length (parts byte text)
some_parts byte text = omega (arith, length-slice_split (λ b. b == byte) text)
