-- How often calls failed.
use Rattle.std.proofs.Common.{◌≡◌, ℕ, ◌+◌, ◌<◌, ◌≤◌, ◌||◌, Bool, true, false, inl, inr, List, [], ◌∷◌, refl, arith}
use Rattle.std.specs.Prelude.{◌==◌, nat_lt, if◌then◌else◌}
use Rattle.std.proofs.lemmas.Bool.{cases_Bool}
use Rattle.std.proofs.lemmas.Bool.Decides.{nat_tests}
use Rattle.onfi_chip.specs.Numbers.{fails_at, failed}

abbrev count : ℕ → ℕ → ℕ
count n made = if nat_lt n made then 1 else 0

count_none : (n : ℕ) → count n 0 ≡ 0
count_none n = grind (arith, nat_tests)

count_fine : (n made next : ℕ) → n == made ≡ false → made ≤ next → next ≤ made + 1 → count n next ≡ count n made
count_fine n made next h a b = grind (arith, nat_tests)

count_rises : (n made next : ℕ) → made ≤ next → count n made ≤ count n next
count_rises n made next a = grind (arith, nat_tests)

count_here : (n made next : ℕ) → n == made ≡ true → next ≡ made + 1 → count n made + 1 ≤ count n next
count_here n made next h e = grind (arith, nat_tests)

pub none_failed : (ns : List ℕ) → failed ns 0 ≡ 0
none_failed [] = refl
none_failed (n ∷ ns) = let e = none_failed ns in let k = count_none n in rw (e, k) refl

rises : (ns : List ℕ) (made next : ℕ) → made ≤ next → failed ns made ≤ failed ns next
rises [] made next a = omega arith
rises (n ∷ ns) made next a = let e = rises ns made next a in let k = count_rises n made next a in omega arith

fine_cases : (n made next : ℕ) (ns : List ℕ) → (b : Bool) → n == made ≡ b → b || fails_at ns made ≡ false → made ≤ next → next ≤ made + 1 → (failed ns next ≡ failed ns made) → failed (n ∷ ns) next ≡ failed (n ∷ ns) made
fine_cases n made next ns true h f a b e = cc
fine_cases n made next ns false h f a b e = let k = count_fine n made next h a b in rw (e, k) refl

or_second : (a b : Bool) → a || b ≡ false → b ≡ false
or_second true b h = cc
or_second false b h = h

pub failed_fine : (ns : List ℕ) (made next : ℕ) → fails_at ns made ≡ false → made ≤ next → next ≤ made + 1 → failed ns next ≡ failed ns made
failed_fine [] made next f a b = refl
failed_fine (n ∷ ns) made next f a b = fine_cases n made next ns (n == made) refl f a b (failed_fine ns made next (or_second (n == made) _ f) a b)

pub failed_rises : (ns : List ℕ) (made next : ℕ) → fails_at ns made ≡ true → next ≡ made + 1 → failed ns made < failed ns next
failed_rises [] made next f e = cc
failed_rises (n ∷ ns) made next f e =
    elim (cases_Bool (n == made)) [
      | inl h ↦ let k = count_here n made next h e in let r = rises ns made next (omega arith) in omega arith
      | inr h ↦ let k = count_rises n made next (omega arith) in let r = failed_rises ns made next (rw h at f) e in omega arith
    ]
