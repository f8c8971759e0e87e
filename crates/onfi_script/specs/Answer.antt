-- What is written for an input, and with which status.
use Rattle.std.specs.Prelude.{◌≡◌, ◌≢◌, codes, ℕ, ◌+◌, ◌++◌, ◌^◌, ◌<◌, ◌≤◌, ◌⊎◌, Bool, true, false, List, take, Option, Some, None, position, Result, Ok, Err, IfSome, MatchResult}
use Rattle.std.specs.Io.KnownBytes.{Appends}
use Rattle.std.specs.List.{AllByRecursion as Each}
use Rattle.onfi_problem.specs.Problem.{Problem, HasLengths, IsSmall, IsProblem}
use Rattle.onfi_problem.specs.Left.{horizon, InLimits}
use Rattle.onfi_problem.specs.Position.{Position}
use Rattle.onfi_schedule.specs.Schedule.{Schedule, Legal, Optimal, finish}
use Rattle.onfi_schedule.specs.Trace.{IsTrace}
use Rattle.onfi_cert.specs.declared.token.Token.{Token}
use Rattle.onfi_cert.specs.Text.{IsCertificate}
use Rattle.onfi_check.specs.Tree.{AcceptsTokens}
use Rattle.onfi_check.specs.Faults.{IsTextFault}
use Rattle.onfi_check.specs.Nodes.{HasMoreNodes, IsSplitOver}
use Rattle.onfi_cert.specs.declared.fault.CertTextFault.{CertTextFault}
use Rattle.onfi_check.specs.declared.fault.CertFault.{CertFault}
use Rattle.onfi_check.specs.declared.fault.TextFault.{TextFault}
use Rattle.onfi_known_check.specs.Faults.{IsTextFault as IsKnownTextFault}
use Rattle.onfi_known_check.specs.Laws.{NoneBefore}
use Rattle.onfi_known_check.specs.Proves.{ProvesTokens}
use Rattle.onfi_known_check.specs.Text.{IsCertificate as IsKnownCertificate}
use Rattle.onfi_known_check.specs.declared.fault.KnownFault.{KnownFault}
use Rattle.onfi_known_check.specs.declared.fault.KnownTextFault.{KnownTextFault}
use Rattle.onfi_known_check.specs.declared.token.Token.{Token as KnownToken}
use Rattle.onfi_planner.specs.Planning.{AreRising}
use Rattle.onfi_plan.specs.Certificate.{IsPlain, IsSpelled, ShowsBelow as Shows}
use Rattle.onfi_plan.specs.declared.plan.Plan.{Plan as OnePlan}
use Rattle.onfi_planners.specs.Choice.{IsMadeFrom, IsPlannedByRule, IsPlannedWithin}
use Rattle.onfi_planners.specs.declared.by.By.{By}
use Rattle.onfi_planners.specs.declared.by.By.TheVariants.{Plain, Within, Rule}
use Rattle.onfi_planners.specs.declared.weights.Weights.{Weights}
use Rattle.onfi_script.specs.declared.command.Command.{Command}
use Rattle.onfi_script.specs.declared.command.Command.TheVariants as asked
use Rattle.onfi_script.specs.declared.command.Output.{Output}
use Rattle.onfi_script.specs.declared.command.Output.TheVariants.{Plan, Trace}
use Rattle.onfi_script.specs.declared.command.PlanOptions.{PlanOptions}
use Rattle.onfi_script.specs.declared.fault.ScriptFault.{ScriptFault}
use Rattle.onfi_script.specs.declared.fault.ScriptFault.TheVariants.{OutOfRange, Problem as Fault}
use Rattle.onfi_problem.specs.declared.fault.ProblemFault.TheVariants.{TooMany, BadLun, NoLengths, Clock}
use Rattle.onfi_script.specs.declared.fault.Refusal.{Refusal}
use Rattle.onfi_script.specs.declared.purpose.Purpose.TheVariants as for_a
use Rattle.onfi_script.specs.declared.row.Row.{Row}
use Rattle.onfi_script.specs.Input.{TellsRows}
use Rattle.onfi_script.specs.Script.{plan_text_of}
use Rattle.onfi_script.specs.declared.device.Device.{Device}
use Rattle.onfi_script.specs.Device.{TellsDevice}
use Rattle.onfi_script.specs.Setup.{asks_amiss, is_beyond, weights as weights_in, SetsUp}
use Rattle.onfi_script.specs.PlanText.{plan_of, plan_within_of, schedule_of}
use Rattle.onfi_script.specs.Text.{Answer, memory, refused, planned, over, accepted, within, legal_until, refused_for, refused_at, text_refused, known_text_refused}

-- a fault of the script as a whole
abbrev pub whole : ScriptFault → Refusal
whole fault = record { row = 0; fault = fault }

-- the text is that of tokens which are accepted for this time: plain ones of the plain search, of the other ways ones that
-- remember states
abbrev pub Certifies : By → Problem → ℕ → List ℕ → Type 0
Certifies Plain p below text = (tokens : List Token) × IsCertificate text p.rules.strict tokens × AcceptsTokens tokens p below
Certifies _ p below text = (tokens : List KnownToken) × IsKnownCertificate text p.rules.strict tokens × ProvesTokens p.wants tokens p below

-- .. and nothing ends before it
pub record ShowsBelow (by : By) (p : Problem) (below : ℕ) (text : List ℕ) : Type 0 where
  pub certificate : Certifies by p below text
  pub none_before : NoneBefore p below

-- what is promised of plans by each way beside what is of all: the plain search shows when its plans end, the others promise as
-- much to who plans by them alone
abbrev pub IsBy : By → ℕ → Position → OnePlan → Type 0
IsBy Plain limit x plan = (plan.below ≡ plan.finish) × IsPlain plan.certificate
IsBy Within limit x plan = IsPlannedWithin x limit plan
IsBy Rule limit x plan = IsPlannedByRule x plan

-- a plan was found by this way: a legal schedule, its groups by rising first start, and a certificate that nothing ends before
-- `below`
pub record IsFound (by : By) (limit : ℕ) (x : Position) (plan : OnePlan) : Type 0 where
  pub legal : Legal x.problem plan.schedule
  pub ends : finish x.problem plan.schedule ≡ plan.finish
  pub rising : AreRising plan.schedule.groups
  pub shown : Shows plan.certificate x.all x.problem plan.below
  pub none_before : NoneBefore x.problem plan.below
  pub is_by : IsBy by limit x plan

-- the plan was made better by these weights, where that was asked for
abbrev pub IsEarly : Bool → Weights → Position → OnePlan → OnePlan → Type 0
IsEarly false weights x first plan = plan ≡ first
IsEarly true weights x first plan = IsMadeFrom weights x first plan

-- a plan as the options ask for it: one was found by their way, and made better by these weights where they say so. By the plain
-- search it is optimal; within a limit it ends no later than the rule's plan and than the first schedule, and where it may end too
-- late the tree has more nodes than the limit, and the certificate shows no less than the greatest bound
pub record IsPlan (options : PlanOptions) (weights : Weights) (x : Position) (plan : OnePlan) : Type 0 where
  pub legal : Legal x.problem plan.schedule
  pub ends : finish x.problem plan.schedule ≡ plan.finish
  pub rising : AreRising plan.schedule.groups
  pub shown : Shows plan.certificate x.all x.problem plan.below
  pub none_before : NoneBefore x.problem plan.below
  pub optimal : options.by ≡ Plain → Optimal x.problem plan.schedule × (plan.below ≡ plan.finish) × IsPlain plan.certificate
  pub near : options.by ≡ Within → IsPlannedWithin x options.limit plan
  pub first : OnePlan
  pub found : IsFound options.by options.limit x first
  pub early : IsEarly options.early weights x first plan

-- the requests of a script weigh so: its wants as its rows say, and each member of a group that runs 1
abbrev pub IsWeighed : List ℕ → Weights → Type 0
IsWeighed input weights = (rows : List Row) × TellsRows for_a.Problem input (Ok rows) × (weights.wants ≡ weights_in rows) × Each (Each (λ w. w ≡ 1)) weights.running

-- a plan is printed as asked for: the plan text with its certificate, or its trace, whose lines name their requests where that
-- is asked for
abbrev pub Prints : Output → Problem → Schedule → ℕ → List ℕ → Answer → Type 0
Prints Plan p s below text answer = answer ≡ planned s (finish p s) below text
Prints (Trace requests) p s below text answer = IsTrace requests p s answer.text × (answer.status ≡ 0)

-- a plan as the options ask for it, of the problem with all of its wants
pub record PrintsPlan (options : PlanOptions) (weights : Weights) (p : Problem) (answer : Answer) : Type 0 where
  pub x : Position
  pub of_problem : x.problem ≡ p
  pub of_wants : x.all ≡ p.wants
  pub plan : OnePlan
  pub is_plan : IsPlan options weights x plan
  pub text : List ℕ
  pub spelled : IsSpelled p.rules.strict plan.certificate text
  pub printed : Prints options.output p plan.schedule plan.below text answer

-- one search with a limit reports that limit, where the tree of the problem has more nodes
abbrev pub OneTells : ℕ → Problem → ℕ → Type 0
OneTells limit p opened = (opened ≡ limit) × HasMoreNodes p limit

-- several workers with a limit for each part report as over what `plan_split` reports
abbrev pub PartsTell : ℕ → Problem → ℕ → Type 0
PartsTell limit p opened = IsSplitOver p limit opened

-- what is reported as over by a way, where the plain search reports it so: the others are never over
abbrev pub TellsOver : (ℕ → Problem → ℕ → Type 0) → By → ℕ → Problem → ℕ → Type 0
TellsOver Tells Plain limit p opened = Tells limit p opened
TellsOver Tells _ limit p opened = ⊥

-- a plan, or how many nodes were opened
abbrev pub AnswersPlan : (ℕ → Problem → ℕ → Type 0) → PlanOptions → Weights → Problem → Answer → Type 0
AnswersPlan Tells options weights p answer = PrintsPlan options weights p answer ⊎ ((opened : ℕ) × TellsOver Tells options.by options.limit p opened × (answer ≡ over opened))

-- a schedule is optimal, and the text a certificate of that
pub record IsProved (by : By) (p : Problem) (s : Schedule) (text : List ℕ) : Type 0 where
  pub optimal : Optimal p s
  pub certificate : Certifies by p (finish p s) text

-- .. is legal, and the text a certificate that nothing ends before `below`, when it may not have ended yet
pub record IsShown (by : By) (p : Problem) (s : Schedule) (below : ℕ) (text : List ℕ) : Type 0 where
  pub legal : Legal p s
  pub shown : ShowsBelow by p below text
  pub least : below ≤ finish p s

-- what is wrong with the schedule or its certificate is reported
abbrev pub TellsFault : By → Problem → Schedule → ℕ → List ℕ → Answer → Type 0
TellsFault Plain p s below text answer = (fault : TextFault CertFault CertTextFault) × IsTextFault p s text fault × (answer ≡ text_refused fault)
TellsFault _ p s below text answer = (fault : TextFault KnownFault KnownTextFault) × IsKnownTextFault p.wants p s below text fault × (answer ≡ known_text_refused fault)

-- the answer to a schedule that is said to end at `ends`, where its certificate is to show that nothing ends before `below`:
-- what is wrong with them, that the schedule ends at another time, that it is legal and so near the optimum, or optimal
pub data AnswersSchedule (by : By) (p : Problem) (s : Schedule) (ends below : ℕ) (text : List ℕ) (answer : Answer) : Type 0 where
  is_refused : TellsFault by p s below text answer → AnswersSchedule by p s ends below text answer
  ends_otherwise : IsShown by p s below text → finish p s ≢ ends → answer ≡ refused_for (codes "finish") → AnswersSchedule by p s ends below text answer
  is_within : IsShown by p s below text → finish p s ≡ ends → below < ends → answer ≡ within ends below → AnswersSchedule by p s ends below text answer
  is_accepted : IsProved by p s text → finish p s ≡ ends → answer ≡ accepted ends → AnswersSchedule by p s ends below text answer

-- the answer to a plan text with a plain certificate, which is to show that its schedule is optimal: its first wrong line, or the
-- answer to what it says
abbrev pub AnswersOptimal : Problem → List ℕ → Answer → Type 0
AnswersOptimal p text answer = MatchResult (plan_of p.wants text)
    (λ r. AnswersSchedule Plain p (schedule_of p r.0) r.0.finish (finish p (schedule_of p r.0)) r.1 answer) (λ number. answer ≡ refused_at (codes "plan") number)

-- .. to one whose certificate remembers states, in which a line `below` may stand
abbrev pub AnswersWithin : Problem → List ℕ → Answer → Type 0
AnswersWithin p text answer = MatchResult (plan_within_of p.wants text)
    (λ r. AnswersSchedule Within p (schedule_of p r.0) r.0.finish r.1 r.2 answer) (λ number. answer ≡ refused_at (codes "plan") number)

-- the answer to a schedule alone: that a condition is broken, or when it ends
pub data TellsLegal (p : Problem) (s : Schedule) (answer : Answer) : Type 0 where
  is_illegal : (Legal p s → ⊥) → answer ≡ refused_for (codes "1 Illegal") → TellsLegal p s answer
  is_legal : Legal p s → answer ≡ legal_until (finish p s) → TellsLegal p s answer

-- .. to the schedule that a plan text says, or its first wrong line; a line `below` may stand there, and says nothing here
abbrev pub AnswersAlone : Problem → List ℕ → Answer → Type 0
AnswersAlone p text answer = MatchResult (plan_within_of p.wants text) (λ r. TellsLegal p (schedule_of p r.0) answer) (λ number. answer ≡ refused_at (codes "plan") number)

-- .. where the text is read up to its certificate, or to its end where none stands there
abbrev pub AnswersLegal : Problem → List ℕ → Answer → Type 0
AnswersLegal p text answer = AnswersAlone p (text ++ codes "ONFICERT\n") answer

-- the trace where it is asked for, else the plan
abbrev pub output_of : Bool → Output
output_of true = Trace false
output_of false = Plan

-- a plan by a way as it is
abbrev pub options_of : By → ℕ → Output → PlanOptions
options_of by limit output = record { by = by; early = false; limit = limit; output = output }

-- what the command asks for, where requests weigh so; all but those that plan read the plan text after the script
abbrev pub AnswersCommand : (ℕ → Problem → ℕ → Type 0) → Command → Weights → List ℕ → Problem → Answer → Type 0
AnswersCommand Tells (asked.Plan limit trace) weights text p answer = AnswersPlan Tells (options_of Plain limit (output_of trace)) weights p answer
AnswersCommand Tells asked.Check weights text p answer = AnswersOptimal p text answer
AnswersCommand Tells (asked.PlanBy options) weights text p answer = AnswersPlan Tells options weights p answer
AnswersCommand Tells asked.CheckWithin weights text p answer = AnswersWithin p text answer
AnswersCommand Tells asked.Legal weights text p answer = AnswersLegal p text answer

-- lengths are stated for all that is put out, and reads alone put out sectors
pub record HasAllLengths (rows : List Row) (p : Problem) : Type 0 where
  pub stated : HasLengths p
  pub reads : asks_amiss rows p.wants ≡ false

-- a problem that is set up: its first fault, or the problem itself
pub data TellsProblem (rows : List Row) (p : Problem) (told : Result Problem Refusal) : Type 0 where
  is_too_many : (IsSmall p → ⊥) → told ≡ Err (whole (Fault TooMany)) → TellsProblem rows p told
  is_bad_lun : IsSmall p → (IsProblem p → ⊥) → told ≡ Err (whole (Fault BadLun)) → TellsProblem rows p told
  lacks_lengths : IsSmall p → IsProblem p → (HasAllLengths rows p → ⊥) → told ≡ Err (whole (Fault NoLengths)) → TellsProblem rows p told
  is_late : IsSmall p → IsProblem p → HasAllLengths rows p → 2 ^ 62 ≤ horizon p → told ≡ Err (whole (Fault Clock)) → TellsProblem rows p told
  is_problem : InLimits p → HasAllLengths rows p → told ≡ Ok p → TellsProblem rows p told

-- rows that are each in order: why they describe no device, the first that goes beyond it, or the problem that they set up
pub data TellsSetup (rows : List Row) (told : Result Problem Refusal) : Type 0 where
  has_no_device : (fault : ScriptFault) → TellsDevice rows (Err fault) → told ≡ Err (whole fault) → TellsSetup rows told
  goes_beyond : (device : Device) (at : ℕ) → TellsDevice rows (Ok device) → position (is_beyond device) rows ≡ Some at
      → told ≡ Err (record { row = at + 1; fault = OutOfRange }) → TellsSetup rows told
  has_problem : (device : Device) (p : Problem) → TellsDevice rows (Ok device) → position (is_beyond device) rows ≡ None → SetsUp rows device p
      → TellsProblem rows p told → TellsSetup rows told

-- the script of an input: the first refusal of its rows, or what they set up
pub data TellsScript (input : List ℕ) (told : Result Problem Refusal) : Type 0 where
  has_refusal : (refusal : Refusal) → TellsRows for_a.Problem input (Err refusal) → told ≡ Err refusal → TellsScript input told
  has_rows : (rows : List Row) → TellsRows for_a.Problem input (Ok rows) → TellsSetup rows told → TellsScript input told

-- the answer to an input: why its script is refused, or what the command asks for
pub data AnswersScript (Answers : List ℕ → Problem → Answer → Type 0) (input : List ℕ) (answer : Answer) : Type 0 where
  is_unread : (refusal : Refusal) → TellsScript input (Err refusal) → answer ≡ refused refusal → AnswersScript Answers input answer
  is_read : (p : Problem) → TellsScript input (Ok p) → Answers (plan_text_of input) p answer → AnswersScript Answers input answer

-- .. or that memory ran out
abbrev pub IsAnswerBy : (ℕ → Problem → ℕ → Type 0) → Command → List ℕ → Answer → Type 0
IsAnswerBy Tells command input answer =
    (answer ≡ memory) ⊎ AnswersScript (λ text p a. (weights : Weights) × IsWeighed input weights × AnswersCommand Tells command weights text p a) input answer

-- the writer was given the answer to what the reader had, where both show their bytes
abbrev pub AnswersBy : (ℕ → Problem → ℕ → Type 0) → Command → Option (List ℕ) → Option (List ℕ) → Option (List ℕ) → ℕ → Type 0
AnswersBy Tells command input old new status = IfSome input (λ xs. (answer : Answer) × IsAnswerBy Tells command xs answer × (answer.status ≡ status) × Appends old new answer.text)

-- the same of a beginning of it
abbrev pub BeginsAnswerBy : (ℕ → Problem → ℕ → Type 0) → Command → Option (List ℕ) → Option (List ℕ) → Option (List ℕ) → Type 0
BeginsAnswerBy Tells command input old new = IfSome input (λ xs. (answer : Answer) × (n : ℕ) × IsAnswerBy Tells command xs answer × Appends old new (take n answer.text))

-- with one search
abbrev pub IsAnswer : Command → List ℕ → Answer → Type 0
IsAnswer command input answer = IsAnswerBy OneTells command input answer

abbrev pub Answers : Command → Option (List ℕ) → Option (List ℕ) → Option (List ℕ) → ℕ → Type 0
Answers command input old new status = AnswersBy OneTells command input old new status

abbrev pub BeginsAnswer : Command → Option (List ℕ) → Option (List ℕ) → Option (List ℕ) → Type 0
BeginsAnswer command input old new = BeginsAnswerBy OneTells command input old new
