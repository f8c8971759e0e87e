-- What a line of a plan text says.
use Rattle.std.specs.Prelude.{ℕ, ◌==◌, ◌&&◌, nat_le, if◌then◌else◌, List, [], ◌∷◌, ◌++◌, length, map, find, unwrap_or, Option, Some, None, codes}
use Rattle.std.specs.Str.{bytes_eq}
use Rattle.onfi_timing.specs.Decimal.{written_number}
use Rattle.onfi_timing.specs.declared.kind.Kind.TheVariants.{Read}
use Rattle.onfi_request.specs.declared.want.Want.{Want}
use Rattle.onfi_log.specs.Parts.{parts}
use Rattle.onfi_script.specs.declared.plan_line.Line.{Line}
use Rattle.onfi_script.specs.declared.plan_line.Line.TheVariants.{Rest, Group}

-- goes on with what was read, where something was
abbrev pub and_then : {A B : Type 0} → Option A → (A → Option B) → Option B
and_then None f = None
and_then (Some x) f = f x

abbrev pub each_number : List (List ℕ) → Option (List ℕ)
each_number [] = Some []
each_number (text ∷ texts) = and_then (written_number text) (λ n. and_then (each_number texts) (λ rest. Some (n ∷ rest)))

-- one number more after the others
abbrev pub with_last : List ℕ → ℕ → Option (List ℕ)
with_last numbers n = Some (numbers ++ n ∷ [])

-- one number to `most` of them
abbrev pub numbers : ℕ → List (List ℕ) → Option (List ℕ)
numbers most texts = if nat_le 1 (length texts) && nat_le (length texts) most then each_number texts else None

-- a want that no problem with these wants has
abbrev pub stranger : ℕ → Want
stranger id = record { id = id; kind = Read; lun = 0; plane = 0; block = 0; page = 0 }

-- the want of that number, else a stranger
abbrev pub want_named : List Want → ℕ → Want
want_named wants id = unwrap_or (find (λ w. w.id == id) wants) (stranger id)

-- `LUN START ..`
abbrev pub rest_of : List (List ℕ) → Option Line
rest_of [] = None
rest_of (lun ∷ starts) = and_then (written_number lun) (λ lun. and_then (numbers 8 starts) (λ starts. Some (Rest (record { lun = lun; starts = starts }))))

-- `ID+ID.. START ..`
abbrev pub group_of : List Want → List (List ℕ) → Option Line
group_of wants [] = None
group_of wants (ids ∷ starts) = and_then (numbers 4 (parts 43 ids)) (λ ids. and_then (numbers 8 starts) (λ starts. Some (Group (record { members = map (want_named wants) ids; starts = starts }))))

-- a line of these words
abbrev pub line_of_words : List Want → List (List ℕ) → Option Line
line_of_words wants [] = None
line_of_words wants (name ∷ words) =
    if bytes_eq name (codes "rest") then rest_of words
    else (if bytes_eq name (codes "group") then group_of wants words
    else None)

-- a line of words that single spaces part
abbrev pub line_of : List Want → List ℕ → Option Line
line_of wants line = line_of_words wants (parts 32 line)

-- `NAME N`
abbrev pub number_in_words : List ℕ → List (List ℕ) → Option ℕ
number_in_words name (first ∷ text ∷ []) = if bytes_eq first name then written_number text else None
number_in_words name words = None

abbrev pub number_in : List ℕ → List ℕ → Option ℕ
number_in name line = number_in_words name (parts 32 line)

-- `finish N`
abbrev pub finish_of : List ℕ → Option ℕ
finish_of line = number_in (codes "finish") line

-- `below N`
abbrev pub below_of : List ℕ → Option ℕ
below_of line = number_in (codes "below") line
