-- What a plan text says: its schedule, and the text of the certificate after it, or which line is the first wrong one.
use Rattle.std.specs.Prelude.{ℕ, ◌+◌, ◌==◌, ◌&&◌, nat_eq, nat_le, nat_lt, if◌then◌else◌, Bool, List, [], ◌∷◌, ◌++◌, length, zero, suc, find, option_map, Option, Some, None, Result, Ok, Err, codes}
use Rattle.std.specs.List.{list_all, list_any, starts_with, join_with_byte}
use Rattle.std.specs.Str.{bytes_eq}
use Rattle.onfi_request.specs.declared.want.Want.{Want}
use Rattle.onfi_problem.specs.Problem.{Problem}
use Rattle.onfi_schedule.specs.Schedule.{Placed, Schedule}
use Rattle.onfi_log.specs.Parts.{parts}
use Rattle.onfi_script.specs.PlanLine.{line_of, finish_of, below_of}
use Rattle.onfi_script.specs.declared.plan_line.RestLine.{RestLine}
use Rattle.onfi_script.specs.declared.plan_line.Line.{Line}
use Rattle.onfi_script.specs.declared.plan_line.Line.TheVariants.{Rest, Group}

-- when the schedule is said to end, and its lines
pub record Plan : Type 0 where
  pub finish : ℕ
  pub rest : List RestLine
  pub groups : List Placed

abbrev pub begun : ℕ → Plan
begun finish = record { finish = finish; rest = []; groups = [] }

-- each line `rest` is of a LUN below this one
abbrev pub rises : Plan → ℕ → Bool
rises plan lun = list_all (λ other. nat_lt other.lun lun) plan.rest

-- the line may come next: LUNs rise, no `rest` comes after a `group`, and there are at most eight of each
abbrev pub takes : Plan → Line → Bool
takes plan (Rest line) = rises plan line.lun && nat_lt (length plan.rest) 8 && length plan.groups == 0
takes plan (Group group) = nat_lt (length plan.groups) 8

abbrev pub with_line : Plan → Line → Plan
with_line plan (Rest line) = record plan { rest = plan.rest ++ line ∷ [] }
with_line plan (Group group) = record plan { groups = plan.groups ++ group ∷ [] }

-- the number of the line after these, counted from 1
abbrev pub next_number : Plan → ℕ
next_number plan = length plan.rest + length plan.groups + 3

-- the line begins the text of a certificate
abbrev pub is_certificate : List ℕ → Bool
is_certificate line = starts_with nat_eq line (codes "ONFICERT")

-- the plan with one line more, where it may come
abbrev pub grown : Plan → Option Line → Option Plan
grown plan None = None
grown plan (Some line) = if takes plan line then Some (with_line plan line) else None

-- goes on with the plan, or says which line is wrong
abbrev pub told : {A : Type 0} → ℕ → Option Plan → (Plan → Result A ℕ) → Result A ℕ
told number None go = Err number
told number (Some plan) go = go plan

-- the plan that goes on with the text between these LFs, up to its certificate; no LF follows the last part,
-- which so is no line
unfoldable pub plan_after : List Want → Plan → List (List ℕ) → Result (Plan × List ℕ) ℕ
plan_after wants plan [] = Err (next_number plan)
plan_after wants plan (last ∷ []) = Err (next_number plan)
plan_after wants plan (line ∷ next ∷ more) =
    if is_certificate line then Ok (plan, join_with_byte 10 (line ∷ next ∷ more))
    else told (next_number plan) (grown plan (line_of wants line)) (λ plan. plan_after wants plan (next ∷ more))

-- the plan of that finish with the lines of a text up to its certificate, and the text of that
abbrev pub lines_of : List Want → ℕ → List (List ℕ) → Result (Plan × List ℕ) ℕ
lines_of wants finish parts = plan_after wants (begun finish) parts

-- the finish that the second line gives, with the parts after it
abbrev pub behind_finish : Option ℕ → List (List ℕ) → Result (ℕ × List (List ℕ)) ℕ
behind_finish None parts = Err 2
behind_finish (Some finish) parts = Ok (finish, parts)

-- .. read after the first line
abbrev pub behind_head : List (List ℕ) → Result (ℕ × List (List ℕ)) ℕ
behind_head [] = Err 2
behind_head (last ∷ []) = Err 2
behind_head (line ∷ next ∷ more) = behind_finish (finish_of line) (next ∷ more)

-- the finish that the first two lines of a text give and the parts after them, or which of the two is wrong
abbrev pub opened : List (List ℕ) → Result (ℕ × List (List ℕ)) ℕ
opened [] = Err 1
opened (last ∷ []) = Err 1
opened (line ∷ next ∷ more) = if bytes_eq line (codes "ONFIPLAN 1") then behind_head (next ∷ more) else Err 1

-- goes on with what was read, or names the same wrong line
abbrev pub and_on : {A B : Type 0} → Result A ℕ → (A → Result B ℕ) → Result B ℕ
and_on (Ok x) go = go x
and_on (Err number) go = Err number

-- the plan that a text says of these wants and the text of its certificate, or its first wrong line
abbrev pub plan_of : List Want → List ℕ → Result (Plan × List ℕ) ℕ
plan_of wants text = and_on (opened (parts 10 text)) (λ o. lines_of wants o.0 o.1)

-- the number of a line `below` in front, and the parts after it
abbrev pub below_first : List (List ℕ) → Option (ℕ × List (List ℕ))
below_first [] = None
below_first (last ∷ []) = None
below_first (line ∷ next ∷ more) = option_map (λ below. (below, next ∷ more)) (below_of line)

-- a plan with the number of a line `below` before its lines, which are so counted from one more on
abbrev pub behind_below : ℕ → Result (Plan × List ℕ) ℕ → Result (Plan × ℕ × List ℕ) ℕ
behind_below below (Ok r) = Ok (r.0, below, r.1)
behind_below below (Err number) = Err (number + 1)

-- a plan without such a line: nothing ends before its finish
abbrev pub without_below : ℕ → Result (Plan × List ℕ) ℕ → Result (Plan × ℕ × List ℕ) ℕ
without_below finish (Ok r) = Ok (r.0, finish, r.1)
without_below finish (Err number) = Err number

abbrev pub lines_within : List Want → ℕ → List (List ℕ) → Option (ℕ × List (List ℕ)) → Result (Plan × ℕ × List ℕ) ℕ
lines_within wants finish parts None = without_below finish (lines_of wants finish parts)
lines_within wants finish parts (Some r) = behind_below r.0 (lines_of wants finish r.1)

-- the plan that a text says of these wants, before which time nothing ends, and the text of its certificate, or its first
-- wrong line; a line `below` may stand after the finish
abbrev pub plan_within_of : List Want → List ℕ → Result (Plan × ℕ × List ℕ) ℕ
plan_within_of wants text = and_on (opened (parts 10 text)) (λ o. lines_within wants o.0 o.1 (below_first o.1))

-- the starts of a LUN's line, none where there is no such line
abbrev pub starts_in : Option RestLine → List ℕ
starts_in None = []
starts_in (Some line) = line.starts

abbrev pub starts_on : List RestLine → ℕ → List ℕ
starts_on lines lun = starts_in (find (λ line. line.lun == lun) lines)

-- of the first `luns` LUNs
unfoldable pub rests : List RestLine → ℕ → List (List ℕ)
rests lines zero = []
rests lines (suc luns) = rests lines luns ++ starts_on lines luns ∷ []

-- a line names a LUN that isn't there
abbrev pub names_absent : ℕ → List RestLine → Bool
names_absent luns lines = list_any (λ line. nat_le luns line.lun) lines

-- the starts on each LUN; and on one LUN more, where a line names one that isn't there
abbrev pub rest_on : ℕ → List RestLine → List (List ℕ)
rest_on luns lines = if names_absent luns lines then rests lines luns ++ [] ∷ [] else rests lines luns

-- the schedule that a plan says of that many LUNs
abbrev pub schedule_on : ℕ → Plan → Schedule
schedule_on luns plan = record { rest = rest_on luns plan.rest; groups = plan.groups }

-- .. of those of a problem: no legal schedule has a LUN too many or a want that the problem doesn't have
abbrev pub schedule_of : Problem → Plan → Schedule
schedule_of p plan = schedule_on (length p.luns) plan
