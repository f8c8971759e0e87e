-- What the words of a command ask for.
use Rattle.std.specs.Prelude.{◌==◌, ◌+◌, ℕ, if◌then◌else◌, Bool, true, false, List, [], ◌∷◌, length, Option, Some, None, Result, Ok, Err, is_some, option_map, codes}
use Rattle.std.specs.Str.{bytes_eq}
use Rattle.onfi_log.specs.Parts.{parts}
use Rattle.onfi_planners.specs.declared.by.By.{By}
use Rattle.onfi_planners.specs.declared.by.By.TheVariants.{Plain, Within, Rule}
use Rattle.onfi_script.specs.Field.{number}
use Rattle.onfi_script.specs.Limit.{IsLimited}
use Rattle.onfi_script.specs.PlanLine.{and_then}
use Rattle.onfi_script.specs.declared.auditing.AuditOptions.{AuditOptions}
use Rattle.onfi_script.specs.declared.command.Command.{Command}
use Rattle.onfi_script.specs.declared.command.Command.TheVariants.{PlanBy, Check, CheckWithin, Legal}
use Rattle.onfi_script.specs.declared.command.Output.{Output}
use Rattle.onfi_script.specs.declared.command.Output.TheVariants as output
use Rattle.onfi_script.specs.declared.command.PlanOptions.{PlanOptions}
use Rattle.onfi_script.specs.declared.fault.ScriptFault.{ScriptFault}
use Rattle.onfi_calls.specs.declared.words.Asked.{Asked}
use Rattle.onfi_calls.specs.declared.words.Asked.TheVariants.{Answer, Audit}

-- the words of a text: a space stands between two
abbrev pub words_of : List ℕ → List (List ℕ)
words_of text = parts 32 text

-- the words of what stands after one of them, which may be the last
abbrev pub words_in : Option (List ℕ) → List (List ℕ)
words_in None = []
words_in (Some text) = words_of text

-- the words after the first one that is this; none where none is
abbrev pub tail : List ℕ → List (List ℕ) → Option (List (List ℕ))
tail name [] = None
tail name (w ∷ words) = if bytes_eq w name then Some words else tail name words

abbrev pub has : List ℕ → List (List ℕ) → Bool
has name words = is_some (tail name words)

abbrev pub first : List (List ℕ) → Option (List ℕ)
first [] = None
first (w ∷ words) = Some w

-- the word after it
abbrev pub value : List ℕ → List (List ℕ) → Option (List ℕ)
value name words = and_then (tail name words) first

-- how many words an option takes, where it is given, alone or with its value
abbrev pub alone : List ℕ → List (List ℕ) → ℕ
alone name words = if has name words then 1 else 0

abbrev pub with_value : List ℕ → List (List ℕ) → ℕ
with_value name words = if has name words then 2 else 0

-- the way that is named; the plain one where none is
abbrev pub by_named : Option (List ℕ) → Option By
by_named None = Some Plain
by_named (Some word) =
    if bytes_eq word (codes "plain") then Some Plain else
    (if bytes_eq word (codes "within") then Some Within else
    (if bytes_eq word (codes "rule") then Some Rule else None))

abbrev pub taken : Result ℕ ScriptFault → Option ℕ
taken (Ok n) = Some n
taken (Err fault) = None

-- the limit of a way that is named, or its usual one; the rule takes none
abbrev pub limit_named : By → Option (List ℕ) → Option ℕ
limit_named Plain None = Some 1048576
limit_named Within None = Some 65536
limit_named Rule None = Some 1048576
limit_named Plain (Some word) = taken (number 1 1048576 word)
limit_named Within (Some word) = taken (number 1 1048576 word)
limit_named Rule (Some word) = None

abbrev pub output_of : Bool → Bool → Output
output_of trace true = output.Trace true
output_of true false = output.Trace false
output_of false false = output.Plan

-- how many words `plan [--by WAY] [--early] [--limit N] [--trace] [--requests]` has, each option at most once
abbrev pub plan_words : List (List ℕ) → ℕ
plan_words words =
    1 + with_value (codes "--by") words + alone (codes "--early") words + with_value (codes "--limit") words + alone (codes "--trace") words
    + alone (codes "--requests") words

abbrev pub plan_by : List (List ℕ) → By → Option PlanOptions
plan_by words by = option_map (λ limit. record {
  by = by;
  early = has (codes "--early") words;
  limit = limit;
  output = output_of (has (codes "--trace") words) (has (codes "--requests") words);
}) (limit_named by (value (codes "--limit") words))

abbrev pub plan_asked : List (List ℕ) → Option PlanOptions
plan_asked words = if length words == plan_words words then and_then (by_named (value (codes "--by") words)) (plan_by words) else None

-- .. `check [--by WAY] [--legal]`, one of them
abbrev pub check_words : List (List ℕ) → ℕ
check_words words = 1 + with_value (codes "--by") words + alone (codes "--legal") words

abbrev pub check_by : By → Option Command
check_by Plain = Some Check
check_by Within = Some CheckWithin
check_by Rule = None

abbrev pub check_asked : List (List ℕ) → Option Command
check_asked words =
    if length words == check_words words then
    (if has (codes "--legal") words then (if has (codes "--by") words then None else Some Legal)
    else and_then (by_named (value (codes "--by") words)) check_by)
    else None

-- .. `audit [--all] [--ready-by-status] [--tolerance NS] [--one-status]`
abbrev pub audit_words : List (List ℕ) → ℕ
audit_words words =
    1 + alone (codes "--all") words + alone (codes "--ready-by-status") words + with_value (codes "--tolerance") words + alone (codes "--one-status") words

-- how much too soon a phase may come, in ns; not at all where nothing is named
abbrev pub tolerance_named : Option (List ℕ) → Option ℕ
tolerance_named None = Some 0
tolerance_named (Some word) = taken (number 1 1000000 word)

abbrev pub audit_by : List (List ℕ) → ℕ → AuditOptions
audit_by words tolerance = record {
  all = has (codes "--all") words;
  by_status = has (codes "--ready-by-status") words;
  tolerance = tolerance;
  one_status = has (codes "--one-status") words;
}

abbrev pub audit_asked : List (List ℕ) → Option AuditOptions
audit_asked words = if length words == audit_words words then option_map (audit_by words) (tolerance_named (value (codes "--tolerance") words)) else None

-- what a command of this name asks for
abbrev pub asked_by : Option (List ℕ) → List (List ℕ) → Option Asked
asked_by None words = None
asked_by (Some name) words =
    if bytes_eq name (codes "plan") then option_map (λ options. Answer (PlanBy options)) (plan_asked words) else
    (if bytes_eq name (codes "check") then option_map Answer (check_asked words) else
    (if bytes_eq name (codes "audit") then option_map Audit (audit_asked words) else None))

abbrev pub asked_in : List (List ℕ) → Option Asked
asked_in words = asked_by (first words) words

-- what a text asks for
abbrev pub asked_for : List ℕ → Option Asked
asked_for text = asked_in (words_of text)

-- a search that is asked for has a limit in its range
abbrev pub IsAskLimited : Asked → Type 0
IsAskLimited (Answer command) = IsLimited command
IsAskLimited (Audit options) = Unit {0}
