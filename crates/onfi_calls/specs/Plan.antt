-- What a caller is given for a batch that is to be planned.
use Rattle.std.specs.Prelude.{◌≡◌, ◌⊎◌, ◌==◌, ◌<◌, ◌≤◌, ℕ, if◌then◌else◌, Bool, true, false, List, length, Option, Some, None}
use Rattle.onfi_problem.specs.Position.{Position}
use Rattle.onfi_problem.specs.Problem.{Problem}
use Rattle.onfi_schedule.specs.Schedule.{Legal, finish}
use Rattle.onfi_check.specs.Nodes.{HasMoreNodes}
use Rattle.onfi_known_check.specs.Laws.{NoneBefore}
use Rattle.onfi_planner.specs.Planning.{AreRising}
use Rattle.onfi_plan.specs.Certificate.{IsSpelled, ShowsBelow}
use Rattle.onfi_plan.specs.declared.plan.Plan.{Plan}
use Rattle.onfi_planners.specs.Choice.{IsMadeFrom, IsPlannedBy}
use Rattle.onfi_planners.specs.declared.by.By.{By}
use Rattle.onfi_planners.specs.declared.by.By.TheVariants.{Plain, Within, Rule}
use Rattle.onfi_planners.specs.declared.weights.Weights.{Weights}
use Rattle.onfi_calls.specs.declared.channel.PlainChannel.{PlainChannel}
use Rattle.onfi_calls.specs.declared.channel.PlainWant.{PlainWant}
use Rattle.onfi_calls.specs.declared.plan.PlainOptions.{PlainOptions}
use Rattle.onfi_calls.specs.declared.plan.PlainWeights.{PlainWeights}
use Rattle.onfi_calls.specs.declared.schedule.PlainPlanned.{PlainPlanned}
use Rattle.onfi_calls.specs.declared.status.Status.{Status}
use Rattle.onfi_calls.specs.declared.status.Status.TheVariants.{BadBy, BadLimit, Memory, Over}
use Rattle.onfi_calls.specs.PlainSchedule.{written_schedule}
use Rattle.onfi_calls.specs.Problem.{IsSaid, have_lacking}
use Rattle.onfi_calls.specs.Refused.{IsRefused}
use Rattle.onfi_calls.specs.Room.{Gives}
use Rattle.onfi_calls.specs.Status.{number_of}

-- the way to plan that has this number
abbrev pub by_of : ℕ → Option By
by_of by = if by == 0 then Some Plain else (if by == 1 then Some Within else (if by == 2 then Some Rule else None))

abbrev pub weights_of : PlainWeights → Weights
weights_of weights = record { wants = weights.want; running = weights.running }

-- the plan was made better by these weights where that is asked
abbrev pub MadeEarly : Bool → Weights → Position → Plan → Plan → Type 0
MadeEarly false weights x first plan = plan ≡ first
MadeEarly true weights x first plan = IsMadeFrom weights x first plan

-- a plan of a problem as the options ask for it: a legal schedule, its groups by rising first start, and a certificate that nothing
-- ends before `below`; one was found that keeps what is promised of that way, and made better where that is asked
pub record IsPlanned (by : By) (options : PlainOptions) (x : Position) (plan : Plan) : Type 0 where
  pub legal : Legal x.problem plan.schedule
  pub ends : finish x.problem plan.schedule ≡ plan.finish
  pub rising : AreRising plan.schedule.groups
  pub least : plan.below ≤ plan.finish
  pub none_before : NoneBefore x.problem plan.below
  pub shown : ShowsBelow plan.certificate x.all x.problem plan.below
  pub within : plan.opened ≤ options.limit
  pub first : Plan
  pub planned : IsPlannedBy by x options.limit first
  pub early : MadeEarly options.early (weights_of options.weights) x first plan

-- .. as plain structs and the text of its certificate
pub record IsPlan (by : By) (options : PlainOptions) (x : Position) (plan : PlainPlanned) (text : List ℕ) : Type 0 where
  pub own : Plan
  pub planned : IsPlanned by options x own
  pub spelled : IsSpelled x.problem.rules.strict own.certificate text
  pub schedule : plan.schedule ≡ written_schedule own.schedule
  pub finish : plan.finish ≡ own.finish
  pub below : plan.below ≡ own.below
  pub opened : plan.opened ≡ own.opened

-- why there is none: the plain search opened as many nodes as it may, and the tree of the problem has more; or memory ran out
abbrev pub IsUnplanned : By → Problem → ℕ → Status → Type 0
IsUnplanned by p limit Over = (by ≡ Plain) × HasMoreNodes p limit
IsUnplanned by p limit Memory = Unit {0}
IsUnplanned by p limit _ = ⊥

-- a search opens no node, or more than it may
abbrev pub IsBadLimit : ℕ → Type 0
IsBadLimit limit = (limit ≡ 0) ⊎ (1048576 < limit)

-- the problem that a caller says, as it begins, with lengths of all that is put out; it is to be planned so
pub record IsPosed (channel : PlainChannel) (wants : List PlainWant) (options : PlainOptions) (by : By) (x : Position) : Type 0 where
  pub is : by_of options.by ≡ Some by
  pub some : 1 ≤ options.limit
  pub few : options.limit ≤ 1048576
  pub said : IsSaid channel wants x.problem
  pub lengths : have_lacking channel wants ≡ false
  pub begun : x.all ≡ x.problem.wants

-- why no plan is given: the first of these
pub data IsNoPlan (channel : PlainChannel) (wants : List PlainWant) (options : PlainOptions) (status : Status) : Type 0 where
  is_by : by_of options.by ≡ None → status ≡ BadBy → IsNoPlan channel wants options status
  is_limit : (by : By) → by_of options.by ≡ Some by → IsBadLimit options.limit → status ≡ BadLimit → IsNoPlan channel wants options status
  is_refused : (by : By) → by_of options.by ≡ Some by → 1 ≤ options.limit → options.limit ≤ 1048576 → IsRefused channel wants status → IsNoPlan channel wants options status
  is_unplanned : (by : By) (x : Position) → IsPosed channel wants options by x → IsUnplanned by x.problem options.limit status → IsNoPlan channel wants options status

-- a plan of what is given, with the text of its certificate
pub record IsFound (channel : PlainChannel) (wants : List PlainWant) (options : PlainOptions) (plan : PlainPlanned) (text : List ℕ) : Type 0 where
  pub by : By
  pub position : Position
  pub posed : IsPosed channel wants options by position
  pub is : IsPlan by options position plan text

-- a text is given where there is room for any
pub data GivesAsked (text old new : List ℕ) (bytes result : ℕ) : Type 0 where
  asked : 1 ≤ length old → Gives text 0 old new bytes result → GivesAsked text old new bytes result
  unasked : length old ≡ 0 → bytes ≡ length text → new ≡ old → result ≡ 0 → GivesAsked text old new bytes result

-- nothing is given, and a number says why
pub record IsUngiven (old new : PlainPlanned) (room_old room_new : List ℕ) (bytes result : ℕ) (status : Status) : Type 0 where
  pub plan : new ≡ old
  pub room : room_new ≡ room_old
  pub none : bytes ≡ 0
  pub number : result ≡ number_of status

-- a caller is given a plan of what he says, and its certificate; or a number that says why there is none, and nothing else
pub data GivesPlan (channel : PlainChannel) (wants : List PlainWant) (options : PlainOptions) (old new : PlainPlanned) (room_old room_new : List ℕ) (bytes result : ℕ) : Type 0 where
  gives : (text : List ℕ) → IsFound channel wants options new text → GivesAsked text room_old room_new bytes result
      → GivesPlan channel wants options old new room_old room_new bytes result
  gives_none : (status : Status) → IsNoPlan channel wants options status → IsUngiven old new room_old room_new bytes result status
      → GivesPlan channel wants options old new room_old room_new bytes result
