-- Calls numbered from 0, of which some fail.
use Rattle.std.specs.Prelude.{ℕ, ◌+◌, ◌-◌, ◌^◌, min, ◌==◌, nat_lt, Bool, if◌then◌else◌, List, [], ◌∷◌}
use Rattle.std.specs.List.{list_any}

-- whether the next call fails, after that many
abbrev pub fails_at : List ℕ → ℕ → Bool
fails_at failing made = list_any (λ n. n == made) failing

-- how many of that many calls failed
abbrev pub failed : List ℕ → ℕ → ℕ
failed [] made = 0
failed (n ∷ ns) made = (if nat_lt n made then 1 else 0) + failed ns made

-- one more call; a count stays at the greatest u64
abbrev pub one_more : ℕ → ℕ
one_more made = min (made + 1) (2 ^ 64 - 1)
