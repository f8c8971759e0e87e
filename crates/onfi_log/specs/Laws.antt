-- Laws of logs that are answered.
use Rattle.std.specs.Prelude.{◌≡◌, ◌≢◌, ℕ, ◌+◌, ◌<◌, ◌≤◌, min, if◌then◌else◌, Bool, true, false, List, [], ◌∷◌, ◌++◌, length, map, Option, Some, None, slice_get, slice_set}
use Rattle.std.specs.List.{AllByRecursion as Each}
use Rattle.onfi_request.specs.declared.want.Want.{Want}
use Rattle.onfi_group.specs.Words.{Pairs}
use Rattle.onfi_problem.specs.declared.lun_state.LunState.{LunState}
use Rattle.onfi_problem.specs.declared.lun_state.LunState.TheVariants.{Free, Running}
use Rattle.onfi_problem.specs.Moves.{Move, placed}
use Rattle.onfi_problem.specs.Problem.{Problem, IsProblem}
use Rattle.onfi_audit.specs.Audit.{Audit, MayCome, after_line, opening}
use Rattle.onfi_audit.specs.Legal.{Accept, Audited, Entry, IsLineOf, Leads, Phase, lines_of, wants_of, with_wants}
use Rattle.onfi_audit.specs.declared.line.Line.{Line}
use Rattle.onfi_log.specs.declared.breach.LineBreach.{LineBreach}
use Rattle.onfi_log.specs.declared.entry.LogEntry.{LogEntry}
use Rattle.onfi_log.specs.declared.entry.LogEntry.TheVariants as says
use Rattle.onfi_log.specs.declared.entry.Sign.{Sign}
use Rattle.onfi_log.specs.declared.entry.Sign.TheVariants.{Status, Edge}
use Rattle.onfi_log.specs.declared.line.LogLine.{LogLine}
use Rattle.onfi_log.specs.declared.manner.Manner.{Manner}
use Rattle.onfi_log.specs.declared.readies.Readies.{Readies}
use Rattle.onfi_log.specs.declared.requests.Requests.{Requests}
use Rattle.onfi_log.specs.Entry.{entry_of, lun_in}
use Rattle.onfi_log.specs.Judging.{Judged, Takes, brought_by}
use Rattle.onfi_log.specs.Line.{is_comment, line_of}
use Rattle.onfi_log.specs.Manner.{exact_by}
use Rattle.onfi_log.specs.Parts.{parts}
use Rattle.onfi_log.specs.Text.{Answer, AnswersLog, AnswersLogBy, breach_text}

-- Logs of phases alone

-- the text says that phase
abbrev pub IsSaid : List ℕ → Line → Type 0
IsSaid text line = (l : LogLine) × (line_of text ≡ Some l) × (l.phase ≡ line)

-- a comment, or the first of the phases
abbrev pub SaysFirst : Bool → List ℕ → List Line → (List Line → Type 0) → Type 0
SaysFirst true text lines Rest = Rest lines
SaysFirst false text [] Rest = ⊥
SaysFirst false text (line ∷ lines) Rest = IsSaid text line × Rest lines

-- each of the texts but comments and the last, which has no line end, says one of the phases
abbrev pub Says : List (List ℕ) → List Line → Type 0
Says [] lines = lines ≡ []
Says (last ∷ []) lines = lines ≡ []
Says (text ∷ next ∷ more) lines = SaysFirst (is_comment text) text lines (λ rest. Says (next ∷ more) rest)

-- what is answered as legal is: with the requests that it mentions, and after what came before, the opening is a problem, and its
-- phases lead on from that
abbrev pub LegalLaw : Type 0
LegalLaw = (p : Problem) (before : List Entry) (a : Audit) (requests : Requests) (all : Bool) (text : List ℕ) (answer : Answer)
    → IsProblem p → Audited (opening p) before a → AnswersLog requests a all text answer → answer.status ≡ 0
    → (entries : List Entry) × (q : Problem) × Says (parts 10 text) (lines_of entries) × IsProblem (with_wants p (wants_of (before ++ entries)))
    × Leads (with_wants p (wants_of (before ++ entries))) (lines_of (before ++ entries)) q

-- The lines of a legal log

abbrev pub with_phase : Option LogLine → List Line → List Line
with_phase None lines = []
with_phase (Some l) lines = l.phase ∷ lines

-- the phases that the texts say, up to the first that says none and is no comment
abbrev pub phases_of : List (List ℕ) → List Line
phases_of [] = []
phases_of (text ∷ texts) = if is_comment text then phases_of texts else with_phase (line_of text) (phases_of texts)

-- each line may come after those before it, with the request that it brings
abbrev pub AllCome : Requests → Audit → List Line → Type 0
AllCome requests a [] = Unit {0}
AllCome requests a (line ∷ lines) = MayCome (brought_by requests a line) line × AllCome requests (after_line (brought_by requests a line) line) lines

-- what is answered as legal has lines each of which may come
abbrev pub ComesLaw : Type 0
ComesLaw = (requests : Requests) (a : Audit) (all : Bool) (text : List ℕ) (answer : Answer) → AnswersLog requests a all text answer → answer.status ≡ 0
    → AllCome requests a (phases_of (parts 10 text))

-- Logs with reports

-- a LUN that is ready at that moment, or before
abbrev pub ready_state : ℕ → LunState → LunState
ready_state moment (Free since) = Free since
ready_state moment (Running group next ready) = Running group next (min ready moment)

abbrev pub ready_on : Problem → ℕ → ℕ → Option LunState → Problem
ready_on p lun moment None = p
ready_on p lun moment (Some s) = record p { luns = slice_set p.luns lun (ready_state moment s) }

-- the problem with that LUN ready then
abbrev pub ready_by : Problem → ℕ → ℕ → Problem
ready_by p lun moment = ready_on p lun moment (slice_get p.luns lun)

-- what a log has: a request that it mentions, a phase, a report that a LUN is ready at a moment, by what sign, or a comment
pub data Event : Type 0 where
  Mentions : Want → Event
  Runs : Line → Event
  Reports : ℕ → ℕ → Sign → Event
  Remarks : Event

abbrev pub event_of : Entry → Event
event_of (Accept w) = Mentions w
event_of (Phase line) = Runs line

abbrev pub mentioned : List Event → List Want
mentioned [] = []
mentioned (Mentions w ∷ events) = w ∷ mentioned events
mentioned (Runs line ∷ events) = mentioned events
mentioned (Reports lun moment sign ∷ events) = mentioned events
mentioned (Remarks ∷ events) = mentioned events

-- each of the texts but the last, which has no line end, says one of the phases and reports
abbrev pub SaysBy : Readies → List (List ℕ) → List Event → Type 0
SaysBy readies texts [] = length texts ≡ 1
SaysBy readies texts (Mentions w ∷ events) = SaysBy readies texts events
SaysBy readies [] (Runs line ∷ events) = ⊥
SaysBy readies (text ∷ texts) (Runs line ∷ events) =
    ((l : LogLine) × (entry_of readies text ≡ Some (says.Phase l)) × (l.phase ≡ line)) × SaysBy readies texts events
SaysBy readies [] (Reports lun moment sign ∷ events) = ⊥
SaysBy readies (text ∷ texts) (Reports lun moment sign ∷ events) = (entry_of readies text ≡ Some (says.Ready lun moment sign)) × SaysBy readies texts events
SaysBy readies [] (Remarks ∷ events) = ⊥
SaysBy readies (text ∷ texts) (Remarks ∷ events) = (entry_of readies text ≡ Some says.Comment) × SaysBy readies texts events

-- a status was read when the bus was free; the edge of a ready/busy line comes at any moment
abbrev pub IsSeen : Sign → ℕ → ℕ → Type 0
IsSeen Status moment bus_free = bus_free ≤ moment
IsSeen Edge moment bus_free = Unit {0}

-- each phase is that of a move of the problem as it then stands, with the LUNs ready that were reported so, and that problem is left
abbrev pub LeadsBy : Problem → List Event → Problem → Type 0
LeadsBy p [] q = p ≡ q
LeadsBy p (Mentions w ∷ events) q = LeadsBy p events q
LeadsBy p (Runs line ∷ events) q = (move : Move) × IsLineOf p move line × LeadsBy (placed p move line.start) events q
LeadsBy p (Reports lun moment sign ∷ events) q = (lun < length p.luns) × IsSeen sign moment p.bus_free × LeadsBy (ready_by p lun moment) events q
LeadsBy p (Remarks ∷ events) q = LeadsBy p events q

-- .. the same of a log with reports: its phases lead from the opening on where LUNs are ready as reported
abbrev pub ReportedLaw : Type 0
ReportedLaw = (p : Problem) (before : List Entry) (a : Audit) (requests : Requests) (readies : Readies) (all : Bool) (text : List ℕ) (answer : Answer)
    → IsProblem p → Audited (opening p) before a → AnswersLogBy requests (exact_by readies) a all text answer → answer.status ≡ 0
    → (events : List Event) × (q : Problem) × SaysBy readies (parts 10 text) events × IsProblem (with_wants p (mentioned (map event_of before ++ events)))
    × LeadsBy (with_wants p (mentioned (map event_of before ++ events))) (map event_of before ++ events) q

-- Each line that breaks a condition

-- a line that was judged: what it says, the condition that it breaks, if it breaks one, and the log before and after it
pub record Found : Type 0 where
  pub before : Judged
  pub entry : LogEntry
  pub breach : Option LineBreach
  pub after : Judged
  pub takes : Takes before entry breach after

-- each where the one before it left the log
abbrev pub Follow : Judged → List Found → Type 0
Follow j [] = Unit {0}
Follow j (f ∷ found) = (f.before ≡ j) × Follow f.after found

-- they are all lines, but for the last text, which has no line end, or all before a line that says nothing
abbrev pub AreLines : Readies → List (List ℕ) → List Found → Type 0
AreLines readies [] found = found ≡ []
AreLines readies (last ∷ []) found = found ≡ []
AreLines readies (text ∷ next ∷ more) [] = entry_of readies text ≡ None
AreLines readies (text ∷ next ∷ more) (f ∷ found) = (entry_of readies text ≡ Some f.entry) × AreLines readies (next ∷ more) found

-- the answer's line for a line of that number
abbrev pub found_text : ℕ → LogEntry → Option LineBreach → List ℕ
found_text number entry None = []
found_text number entry (Some b) = breach_text number (lun_in entry) b

-- .. and for all from that number on
abbrev pub found_texts : ℕ → List Found → List ℕ
found_texts number [] = []
found_texts number (f ∷ found) = found_text number f.entry f.breach ++ found_texts (number + 1) found

-- what needs the bus begins by more than that before it is free
abbrev pub IsOver : LogEntry → ℕ → ℕ → Type 0
IsOver (says.Phase line) tolerance bus_free = line.phase.start + tolerance < bus_free
IsOver (says.Ready lun moment Status) tolerance bus_free = moment < bus_free
IsOver (says.Ready lun moment Edge) tolerance bus_free = ⊥
IsOver says.Comment tolerance bus_free = ⊥

-- the later line begins while the earlier one, or what came before that, is on the bus, and by more than a phase may come too soon
abbrev pub Overlaps : Found → Found → Type 0
Overlaps earlier later = IsOver later.entry later.before.tolerance earlier.after.audit.bus_free

-- a line that breaks nothing ends when it says so: from then on the bus is free
abbrev pub EndsAsSaid : Found → Type 0
EndsAsSaid f = (line : LogLine) (end : ℕ) → f.entry ≡ says.Phase line → f.breach ≡ None → line.end ≡ Some end → f.after.audit.bus_free ≡ end

-- where all are asked for the answer has a line for each line that breaks a condition, and does so first; what begins while an earlier
-- line is on the bus breaks one, whatever stands between them; and so does what ends at another moment than it says
pub record IsEach (readies : Readies) (j : Judged) (texts : List (List ℕ)) (answer : Answer) : Type 0 where
  pub found : List Found
  pub follow : Follow j found
  pub lines : AreLines readies texts found
  pub rest : List ℕ
  pub text : answer.text ≡ found_texts 1 found ++ rest
  pub overlaps : Pairs (λ earlier later. Overlaps earlier later → later.breach ≢ None) found
  pub ends : Each EndsAsSaid found

abbrev pub EachLaw : Type 0
EachLaw = (audit : Audit) (requests : Requests) (manner : Manner) (text : List ℕ) (answer : Answer) → AnswersLogBy requests manner audit true text answer
    → (j : Judged) × (j.audit ≡ audit) × (j.tolerance ≡ manner.tolerance) × IsEach manner.readies j (parts 10 text) answer
