-- What a line of a log says.
use Rattle.std.specs.Prelude.{ℕ, ◌+◌, ◌==◌, nat_le, if◌then◌else◌, Bool, true, false, List, [], ◌∷◌, length, Option, Some, None, unwrap_or, slice_get, codes}
use Rattle.std.specs.Str.{bytes_eq}
use Rattle.onfi_timing.specs.Decimal.{number_of}
use Rattle.onfi_timing.specs.declared.operation.Operation.{Operation}
use Rattle.onfi_timing.specs.declared.operation.Operation.TheVariants.{Read, Program, Erase}
use Rattle.onfi_audit.specs.declared.line.Line.{Line}
use Rattle.onfi_log.specs.declared.bytes.Bytes.{Bytes}
use Rattle.onfi_log.specs.declared.line.LogLine.{LogLine}
use Rattle.onfi_log.specs.Bytes.{bytes_of}
use Rattle.onfi_log.specs.Parts.{parts}

-- goes on with what was read, where something was
abbrev pub and_then : {A B : Type 0} → Option A → (A → Option B) → Option B
and_then None f = None
and_then (Some x) f = f x

-- a number up to `most` in digits
abbrev pub up_to : ℕ → ℕ → Option ℕ
up_to most n = if nat_le n most then Some n else None

abbrev pub number : ℕ → List ℕ → Option ℕ
number most text = and_then (number_of text) (up_to most)

-- it begins with '#'
abbrev pub is_comment : List ℕ → Bool
is_comment [] = false
is_comment (c ∷ cs) = c == 35

abbrev pub operation : List ℕ → Option Operation
operation text =
    if bytes_eq text (codes "read") then Some Read
    else (if bytes_eq text (codes "program") then Some Program
    else (if bytes_eq text (codes "erase") then Some Erase
    else None))

abbrev pub is_post : List ℕ → Option Bool
is_post text = if bytes_eq text (codes "cmd") then Some false else (if bytes_eq text (codes "post") then Some true else None)

-- the number of a request; `-` where the phase is of a group that ran before the log
abbrev pub request : List ℕ → Option (Option ℕ)
request text = if bytes_eq text (codes "-") then Some None else and_then (number 9223372036854775807 text) (λ n. Some (Some n))

abbrev pub word : List (List ℕ) → ℕ → List ℕ
word words at = unwrap_or (slice_get words at) []

-- START LUN KIND PART BLOCK PAGE [REQUEST], or as a trace has it START END LUN KIND PART BLOCK PAGE OPENER CLOSER [REQUEST]:
-- where LUN stands
abbrev pub lun_at : ℕ → Option ℕ
lun_at count =
    if count == 6 then Some 1
    else (if count == 7 then Some 1
    else (if count == 9 then Some 2
    else (if count == 10 then Some 2
    else None)))

-- .. and the request, of the last word
abbrev pub request_in : List (List ℕ) → Option (Option ℕ)
request_in words =
    if length words == 7 then request (word words 6)
    else (if length words == 10 then request (word words 9)
    else Some None)

-- .. and END and the command bytes, of a line whose LUN stands there
abbrev pub end_in : List (List ℕ) → ℕ → Option (Option ℕ)
end_in words at = if at == 2 then and_then (number 9223372036854775807 (word words 1)) (λ n. Some (Some n)) else Some None

abbrev pub bytes_in : List (List ℕ) → ℕ → Line → Option Bytes
bytes_in words at phase = if at == 2 then Some (bytes_of phase.operation phase.is_post (word words 7) (word words 8)) else None

-- the phase of a line whose LUN stands there
abbrev pub phase_in : List (List ℕ) → ℕ → Option Line
phase_in words at =
    and_then (number 4611686018427387903 (word words 0)) (λ start.
    and_then (number 7 (word words at)) (λ lun.
    and_then (operation (word words (at + 1))) (λ operation.
    and_then (is_post (word words (at + 2))) (λ is_post.
    and_then (number 65535 (word words (at + 3))) (λ block.
    and_then (number 4095 (word words (at + 4))) (λ page.
    Some (record { start = start; lun = lun; operation = operation; is_post = is_post; block = block; page = page })))))))

abbrev pub line_of_words : List (List ℕ) → Option LogLine
line_of_words words =
    and_then (lun_at (length words)) (λ at.
    and_then (phase_in words at) (λ phase.
    and_then (request_in words) (λ request.
    and_then (end_in words at) (λ end.
    Some (record { phase = phase; request = request; end = end; bytes = bytes_in words at phase })))))

-- a line of words that single spaces part
abbrev pub line_of : List ℕ → Option LogLine
line_of line = line_of_words (parts 32 line)
