-- What a line of a log says where statuses are reported.
use Rattle.std.specs.Prelude.{ℕ, ◌==◌, ◌<◌, ◌≤◌, ◌^◌, if◌then◌else◌, Bool, false, List, length, Option, Some, None, IfSome, codes}
use Rattle.std.specs.Str.{bytes_eq}
use Rattle.onfi_log.specs.declared.entry.LogEntry.{LogEntry}
use Rattle.onfi_log.specs.declared.entry.LogEntry.TheVariants.{Phase, Ready, Comment}
use Rattle.onfi_log.specs.declared.entry.Sign.{Sign}
use Rattle.onfi_log.specs.declared.entry.Sign.TheVariants.{Status, Edge}
use Rattle.onfi_log.specs.declared.line.LogLine.{LogLine}
use Rattle.onfi_log.specs.declared.readies.Readies.{Readies}
use Rattle.onfi_log.specs.declared.readies.Readies.TheVariants.{Stated, Reported}
use Rattle.onfi_log.specs.Line.{and_then, is_comment, line_of_words, number, word}
use Rattle.onfi_log.specs.Parts.{parts}

-- `ready` by the LUN's status, `edge` by its ready/busy line
abbrev pub sign_of : List ℕ → Option Sign
sign_of text = if bytes_eq text (codes "ready") then Some Status else (if bytes_eq text (codes "edge") then Some Edge else None)

-- START LUN SIGN: the LUN was ready then
abbrev pub report_in : List (List ℕ) → Option LogEntry
report_in words =
    and_then (number 4611686018427387903 (word words 0)) (λ moment.
    and_then (number 7 (word words 1)) (λ lun.
    and_then (sign_of (word words 2)) (λ sign.
    Some (Ready lun moment sign))))

-- a line of three words is a report, where reports are taken
abbrev pub is_report : Readies → ℕ → Bool
is_report Stated count = false
is_report Reported count = count == 3

abbrev pub phase_of : LogLine → Option LogEntry
phase_of line = Some (Phase line)

abbrev pub entry_of_words : Readies → List (List ℕ) → Option LogEntry
entry_of_words readies words = if is_report readies (length words) then report_in words else and_then (line_of_words words) phase_of

-- a comment, or a line of words that single spaces part
abbrev pub entry_of : Readies → List ℕ → Option LogEntry
entry_of readies line = if is_comment line then Some Comment else entry_of_words readies (parts 32 line)

abbrev pub lun_in : LogEntry → ℕ
lun_in (Phase line) = line.phase.lun
lun_in (Ready lun moment sign) = lun
lun_in Comment = 0

-- how many phases it is
abbrev pub phases_in : LogEntry → ℕ
phases_in (Phase line) = 1
phases_in (Ready lun moment sign) = 0
phases_in Comment = 0

-- its moment is below 2^62, its LUN one of eight, and the number of its request, if it has one, below 2^63
abbrev pub IsInRange : LogEntry → Type 0
IsInRange (Phase line) = (line.phase.start < 2 ^ 62) × (line.phase.lun ≤ 7) × IfSome line.request (λ number. number < 2 ^ 63)
IsInRange (Ready lun moment sign) = (moment < 2 ^ 62) × (lun ≤ 7)
IsInRange Comment = Unit {0}
