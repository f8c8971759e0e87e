-- Numbers and words as they are written, and the parts that they are read as.
use Rattle.std.proofs.Common.{◌≡◌, ◌<◌, ◌≤◌, ℕ, suc, zero, ◌^◌, true, false, List, [], ◌∷◌, ◌++◌, length, map, get_or, Some, None, refl, sym, ap, ◌∙◌, arith, cond, codes, append-nil}
use Rattle.std.specs.Prelude.{◌==◌, ◌&&◌, not, All, nat_le}
use Rattle.std.specs.List.{list_all, AllByRecursion as Each}
use Rattle.std.specs.Fmt.{decimal}
use Rattle.std.proofs.lemmas.Fmt.{decimal_is_IsNumeral}
use Rattle.std.proofs.lemmas.Str.Parse.{not_in_digits, numerals_by_value, tells_digits}
use Rattle.std.proofs.lemmas.List.{length-map}
use Rattle.std.proofs.lemmas.List.Elements.{All-append}
use Rattle.std.proofs.lemmas.List.Sums.{AllPass-from_list_all}
use Rattle.std.proofs.lemmas.List.Splits.{slice_split_at, slice_split_none}
use Rattle.std.proofs.lemmas.Bool.Decides.{nat_tests}
use Rattle.onfi_request.specs.declared.want.Want.{Want}
use Rattle.onfi_timing.proofs.Written.{number_again}
use Rattle.onfi_log.specs.Parts.{parts}
use Rattle.onfi_script.specs.PlanLine.{and_then, each_number, numbers}
use Rattle.onfi_script.specs.Text.{spaced, joined}
use Rattle.onfi_script.proofs.LineLemmas.{not_so}

-- no byte of the text is this one
abbrev pub Lacks : ℕ → List ℕ → Type 0
Lacks byte text = All (λ b. (b == byte) ≡ false) text

pub differs : (a b : ℕ) → (a ≡ b → ⊥) → (a == b) ≡ false
differs a b h = grind (arith, nat_tests)

pub same : (a : ℕ) → (a == a) ≡ true
same a = grind (arith, nat_tests)

either_default : (xs : List ℕ) (k d : ℕ) → k < length xs → get_or xs k d ≡ get_or xs k 0
either_default [] k d h = absurd (omega arith)
either_default (x ∷ xs) zero d h = refl
either_default (x ∷ xs) (suc k) d h = either_default xs k d (omega arith)

-- digits have no byte that is none
pub decimal_lacks : (byte n : ℕ) → n < 2 ^ 64 → (48 ≤ byte → byte ≤ 57 → ⊥) → Lacks byte (decimal n)
decimal_lacks byte n small none =
    λ k d h.
    differs (get_or (decimal n) k d) byte
    (λ e. not_in_digits (numerals_by_value _ tells_digits) (decimal n) byte (decimal_is_IsNumeral n small).0.1 (λ r. none r.0 r.1) k h (sym (either_default (decimal n) k d h) ∙ e))

pub each_read : (ns : List ℕ) → Each (λ n. n < 2 ^ 63) ns → each_number (map decimal ns) ≡ Some ns
each_read [] h = refl
each_read (n ∷ ns) h =
    ap (λ o. and_then o (λ n. and_then (each_number (map decimal ns)) (λ rest. Some (n ∷ rest)))) (number_again n h.0)
    ∙ ap (λ o. and_then o (λ rest. Some (n ∷ rest))) (each_read ns h.1)

pub numbers_read : (most : ℕ) (ns : List ℕ) → 1 ≤ length ns → length ns ≤ most → Each (λ n. n < 2 ^ 63) ns → numbers most (map decimal ns) ≡ Some ns
numbers_read most ns some few small =
    let size = length-map ns decimal in
    let counted : (nat_le 1 (length (map decimal ns)) && nat_le (length (map decimal ns)) most) ≡ true = grind (arith, nat_tests, size) in
    ap (λ b. cond b (each_number (map decimal ns)) None) counted ∙ each_read ns small

-- the first part ends at the byte
pub part_ended : (byte : ℕ) (part rest : List ℕ) → Lacks byte part → parts byte (part ++ byte ∷ rest) ≡ part ∷ parts byte rest
part_ended byte part rest lacks = slice_split_at (λ b. b == byte) part byte rest lacks (same byte)

pub part_whole : (byte : ℕ) (part : List ℕ) → Lacks byte part → parts byte part ≡ part ∷ []
part_whole byte part lacks = slice_split_none (λ b. b == byte) part lacks

-- words after spaces, and numbers after pluses
pub spaced_parts : (word : List ℕ) (ns : List ℕ) → Lacks 32 word → Each (λ n. n < 2 ^ 63) ns → parts 32 (word ++ spaced ns) ≡ word ∷ map decimal ns
spaced_parts word [] lacks small = ap (parts 32) (append-nil word) ∙ part_whole 32 word lacks
spaced_parts word (n ∷ ns) lacks small =
    part_ended 32 word (decimal n ++ spaced ns) lacks
    ∙ ap (λ l. word ∷ l) (spaced_parts (decimal n) ns (decimal_lacks 32 n (omega (arith, small.0)) (λ a b. omega arith)) small.1)

pub joined_parts : (word : List ℕ) (wants : List Want) → Lacks 43 word → Each (λ w. w.id < 2 ^ 63) wants → parts 43 (word ++ joined wants) ≡ word ∷ map decimal (map (λ w. w.id) wants)
joined_parts word [] lacks small = ap (parts 43) (append-nil word) ∙ part_whole 43 word lacks
joined_parts word (w ∷ wants) lacks small =
    part_ended 43 word (decimal w.id ++ joined wants) lacks
    ∙ ap (λ l. word ∷ l) (joined_parts (decimal w.id) wants (decimal_lacks 43 w.id (omega (arith, small.0)) (λ a b. omega arith)) small.1)

pub lacks_nothing : (byte : ℕ) → Lacks byte []
lacks_nothing byte = λ k d h. absurd (omega arith)

pub lacks_both : (byte : ℕ) (xs ys : List ℕ) → Lacks byte xs → Lacks byte ys → Lacks byte (xs ++ ys)
lacks_both byte xs ys a b = All-append (λ b. (b == byte) ≡ false) xs ys a b

pub lacks_more : (byte c : ℕ) (xs : List ℕ) → (c == byte) ≡ false → Lacks byte xs → Lacks byte (c ∷ xs)
lacks_more byte c xs e lacks zero d h = e
lacks_more byte c xs e lacks (suc k) d h = lacks k d (omega arith)

pub spaced_lacks : (byte : ℕ) (ns : List ℕ) → (32 == byte) ≡ false → (48 ≤ byte → byte ≤ 57 → ⊥) → Each (λ n. n < 2 ^ 63) ns → Lacks byte (spaced ns)
spaced_lacks byte [] space none small = lacks_nothing byte
spaced_lacks byte (n ∷ ns) space none small =
    lacks_both byte (codes " " ++ decimal n) (spaced ns) (lacks_more byte 32 (decimal n) space (decimal_lacks byte n (omega (arith, small.0)) none)) (spaced_lacks byte ns space none small.1)

pub joined_lacks : (byte : ℕ) (wants : List Want) → (43 == byte) ≡ false → (48 ≤ byte → byte ≤ 57 → ⊥) → Each (λ w. w.id < 2 ^ 63) wants → Lacks byte (joined wants)
joined_lacks byte [] plus none small = lacks_nothing byte
joined_lacks byte (w ∷ wants) plus none small =
    lacks_both byte (codes "+" ++ decimal w.id) (joined wants) (lacks_more byte 43 (decimal w.id) plus (decimal_lacks byte w.id (omega (arith, small.0)) none)) (joined_lacks byte wants plus none small.1)

pub lacks_by : (byte : ℕ) (text : List ℕ) → list_all (λ b. not (b == byte)) text ≡ true → Lacks byte text
lacks_by byte text e = λ k d h. not_so (get_or text k d == byte) (AllPass-from_list_all (λ b. not (b == byte)) text e k d h)
