-- What every reachable state of a channel keeps.
use Rattle.std.specs.Prelude.{◌≡◌, ℕ, ◌+◌, ◌-◌, ◌<◌, ◌≤◌, ◌^◌, ◌==◌, ◌⊎◌, nat_lt, Bool, false, if◌then◌else◌, List, [], ◌∷◌, ◌++◌, length, map, take, drop, replicate, Option, Some, None, IfSome, slice_get}
use Rattle.std.specs.List.{AllByRecursion as Each, filter, flat_map}
use Rattle.onfi_request.specs.declared.want.Want.{Want}
use Rattle.onfi_request.specs.declared.answer.Answer.{Answer}
use Rattle.onfi_request.specs.declared.request.Item.{Item}
use Rattle.onfi_request.specs.declared.reply.Reply.{Reply}
use Rattle.onfi_request.specs.declared.fault.Fault.{Fault}
use Rattle.onfi_request.specs.Words.{Pairs}
use Rattle.onfi_request.specs.Range.{Fits}
use Rattle.onfi_group.specs.Words.{number}
use Rattle.onfi_problem.specs.declared.lun_state.LunState.{LunState}
use Rattle.onfi_problem.specs.declared.lun_state.LunState.TheVariants.{Free, Running}
use Rattle.onfi_problem.specs.Problem.{Problem, IsProblem, has_id}
use Rattle.onfi_problem.specs.Moves.{free_from}
use Rattle.onfi_schedule.specs.Schedule.{Legal, Schedule}
use Rattle.onfi_steady.specs.Waiting.{Books, wants_of}
use Rattle.onfi_die.specs.Shapes.{Device}
use Rattle.onfi_die.specs.Contents.{fresh, runs}
use Rattle.onfi_die.specs.Answers.{answer_at}
use Rattle.onfi_die.specs.Rightful.{IsRightful, AreRightful}
use Rattle.onfi_die.specs.Order.{IsBeginning}
use Rattle.onfi_chip.specs.declared.post.Post.{Post}
use Rattle.onfi_chip.specs.Chip.{Chip, Failures, Lun, opened}
use Rattle.onfi_chip.specs.Chip.Lun.{Idle, Commanding, Posting}
use Rattle.onfi_core.specs.declared.outcome.Cause.{Cause}
use Rattle.onfi_core.specs.declared.setup.Choice.{Choice}
use Rattle.onfi_core.specs.declared.setup.Choice.TheVariants.{InOrder, NextPhase}
use Rattle.onfi_core.specs.declared.setup.Setup.{Setup}
use Rattle.onfi_core.specs.State.{HalfState, ChannelState, Way, want_of, wants_from, item_at, request_of, device_for, is_to, sent_by, posted_to, collected_by}
use Rattle.onfi_plan.specs.declared.plan.Certificate.{Certificate}
use Rattle.onfi_core.specs.Steps.{unplanned, IsPlanned, IsPromised}

abbrev pub is_want_on : ℕ → ℕ → Want → Bool
is_want_on lun block w = if w.lun == lun then w.block == block else false

-- the wants of a block
abbrev pub on : ℕ → ℕ → List Want → List Want
on lun block wants = filter (is_want_on lun block) wants

-- the group of a LUN that has commands left
abbrev pub commanding : Option LunState → List Want
commanding (Some (Running group next ready)) = if nat_lt next (length group) then group else []
commanding (Some (Free since)) = []
commanding None = []

-- the members of a LUN's group whose posts are left
abbrev pub unposted : LunState → List Want
unposted (Running group next ready) = drop (next - length group) group
unposted (Free since) = []

-- Of a block, what has run on it, what is in its commands, what is not started and what is not planned is, in this order, what was accepted for it.
pub record BlockAgrees (s : Setup) (h : HalfState) (chip : Chip) (lun block : ℕ) : Type 0 where
  pub ran : List Want
  pub contents : chip.blocks lun block ≡ runs (device_for s chip) (map (request_of h.accepted) ran) (fresh (device_for s chip))
  pub order : on lun block (wants_from s.geometry 0 h.accepted) ≡ ran ++ (on lun block (commanding (slice_get h.now.luns lun)) ++ (on lun block h.now.wants ++ on lun block (unplanned s h)))

-- the answer at the place of a want
abbrev pub answer_for : Device → List Item → Want → Answer
answer_for device accepted w = answer_at device accepted w.id (item_at accepted w.id)

-- the post of a want
abbrev pub post_for : Device → List Item → Want → Post
post_for device accepted w = record { kind = (request_of accepted w).kind; place = (request_of accepted w).place; answer = answer_for device accepted w }

-- A LUN of the chip is where the problem's is: it took the commands of the members so far, or has the rightful answers of the members whose posts are left.
abbrev pub LunAgrees : Device → List Item → Option LunState → Option Lun → Type 0
LunAgrees device accepted None l = l ≡ None
LunAgrees device accepted (Some (Free since)) l = l ≡ Some Idle
LunAgrees device accepted (Some (Running group next ready)) l =
    ((next < length group) × (l ≡ Some (Commanding (map (request_of accepted) (take next group)) ready)))
    ⊎ ((length group ≤ next) × (l ≡ Some (Posting (map (post_for device accepted) (drop (next - length group) group)) ready)))

pub record ChipAgrees (s : Setup) (h : HalfState) (chip : Chip) : Type 0 where
  pub geometry : chip.geometry ≡ s.geometry
  pub timing : chip.timing ≡ s.timing
  pub blocks : (lun block : ℕ) → BlockAgrees s h chip lun block
  pub luns : (lun : ℕ) → LunAgrees (device_for s chip) h.accepted (slice_get h.now.luns lun) (slice_get chip.luns lun)

-- a want that a plan took: the item at its place
pub record IsTaken (s : Setup) (planned : ℕ) (accepted : List Item) (w : Want) : Type 0 where
  pub below : w.id < planned
  pub item : Item
  pub there : slice_get accepted w.id ≡ Some item
  pub is : w ≡ want_of s.geometry w.id item

abbrev pub is_of_place : ℕ → Reply → Bool
is_of_place place r = r.place == place

-- how often a place is unplanned, not started, running, held or posted
abbrev pub times : Setup → HalfState → ℕ → ℕ
times s h place =
    number (has_id place) (unplanned s h)
    + (number (has_id place) h.now.wants
    + (number (has_id place) (flat_map unposted h.now.luns)
    + (number (is_of_place place) h.held
    + number (is_of_place place) h.posted)))

-- the replies that were made for a host, in order of making
abbrev pub made_for : ℕ → HalfState → List Reply
made_for host h = filter (is_to host) h.posted ++ filter (is_to host) h.held

-- Each reply is rightful in what it rests on: the device's faults, and a beginning of what is accepted. That of a later reply begins with that of an earlier one.
pub record AreMade (device : Device) (accepted : List Item) (replies : List Reply) : Type 0 where
  pub faults : Each (λ r. r.basis.faults ≡ device.faults) replies
  pub each : Each (λ r. IsRightful device r.basis.accepted r) replies
  pub within : Each (λ r. IsBeginning r.basis.accepted accepted) replies
  pub rise : Pairs (λ a b. IsBeginning a.basis.accepted b.basis.accepted) replies

-- in order what is left of the plan is legal, and has at most eight wants
pub record GoesInOrder (s : Setup) (now : Problem) (left : Schedule) : Type 0 where
  pub choice : s.choice ≡ InOrder
  pub few : length now.wants ≤ 8
  pub legal : Legal now left

-- how far a half is
pub record Progress : Type 0 where
  pub planned : ℕ
  pub accepted : ℕ
  pub outdated : Bool
  pub stopped : Option Cause

-- bus and LUNs are free before 2^62 ns
pub record IsInTime (p : Problem) : Type 0 where
  pub bus : p.bus_free < 2 ^ 62
  pub luns : (lun : ℕ) → free_from (slice_get p.luns lun) < 2 ^ 62

-- by the next phase all that is accepted was taken at once, and what isn't started is what waits by the books; until the channel stops bus and LUNs are free in time
pub record GoesByBooks (s : Setup) (books : Books) (now : Problem) (progress : Progress) : Type 0 where
  pub choice : s.choice ≡ NextPhase
  pub waiting : now.wants ≡ wants_of books.waiting
  pub rules : books.rules ≡ s.rules
  pub all : progress.planned ≡ progress.accepted
  pub current : progress.outdated ≡ false
  pub in_time : progress.stopped ≡ None → IsInTime now

abbrev pub GoesBy : Setup → Option Books → Problem → Schedule → Progress → Type 0
GoesBy s None now left progress = GoesInOrder s now left
GoesBy s (Some books) now left progress = GoesByBooks s books now progress

-- what the sequencer's half keeps, whatever the chip answered
pub record IsSound (s : Setup) (h : HalfState) : Type 0 where
  pub planned : h.planned ≤ length h.accepted
  pub some_batch : 1 ≤ h.batch
  pub few_batch : h.batch ≤ 8
  pub timing : h.now.timing ≡ s.timing
  pub rules : h.now.rules ≡ s.rules
  pub problem : IsProblem h.now
  pub luns : length h.now.luns ≡ s.geometry.lun_count
  pub way : GoesBy s h.books h.now h.left (record { planned = h.planned; accepted = length h.accepted; outdated = h.outdated; stopped = h.stopped })
  pub in_range : Each (λ x. Fits s.geometry x.request) h.accepted
  pub wants : Each (IsTaken s h.planned h.accepted) h.now.wants
  pub running : (lun : ℕ) (group : List Want) (next ready : ℕ) → slice_get h.now.luns lun ≡ Some (Running group next ready) → Each (IsTaken s h.planned h.accepted) group
  -- each accepted place is exactly one of unplanned, not started, running, held and posted, and no other place is any
  pub once : (place : ℕ) → times s h place ≡ number (has_id place) (wants_from s.geometry 0 h.accepted)
  pub last : IfSome h.last IsPlanned

-- .. and its replies are those of the device
pub record IsHalf (s : Setup) (device : Device) (h : HalfState) : Type 0 where
  pub sound : IsSound s h
  pub held : Each (IsRightful device h.accepted) h.held
  pub posted : Each (IsRightful device h.accepted) h.posted
  pub made : (host : ℕ) → AreMade device h.accepted (made_for host h)

-- the serials of a host's items are 0, 1, 2, ..
abbrev pub SerialsFrom : ℕ → List Item → Type 0
SerialsFrom n [] = Unit {0}
SerialsFrom n (x ∷ xs) = (x.serial ≡ n) × SerialsFrom (n + 1) xs

pub record IsReached (s : Setup) (c : ChannelState) : Type 0 where
  pub half : IsHalf s (device_for s c.chip) c.half
  -- after a stop nothing more is known of the chip
  pub chip : c.half.stopped ≡ None → ChipAgrees s c.half c.chip
  pub sent : c.sent ≡ c.half.accepted ++ c.waiting
  pub in_range : Each (λ x. Fits s.geometry x.request) c.waiting
  pub hosts : Each (λ x. x.host < s.hosts) c.sent
  pub fit : (host : ℕ) → length (sent_by host c) ≤ 2 ^ 32
  pub serials : (host : ℕ) → SerialsFrom 0 (sent_by host c)
  pub collected : (host : ℕ) → IsBeginning (collected_by host c) (posted_to host c)

-- The state at the opening

abbrev pub first_problem : Setup → Problem
first_problem s = record { timing = s.timing; rules = s.rules; bus_free = 0; luns = replicate s.geometry.lun_count (Free 0); wants = [] }

-- by the next phase nothing waits yet, and nothing is planned
abbrev pub first_left : Choice → Setup → Schedule
first_left InOrder s = record { rest = replicate s.geometry.lun_count []; groups = [] }
first_left NextPhase s = record { rest = []; groups = [] }

abbrev pub first_books : Choice → Setup → Option Books
first_books InOrder s = None
first_books NextPhase s = Some (record { rules = s.rules; waiting = []; newest = None })

abbrev pub first_way : Setup → Way
first_way s = record { now = first_problem s; left = first_left s.choice s; books = first_books s.choice s }

abbrev pub first_half : Setup → HalfState
first_half s = record {
  accepted = [];
  planned = 0;
  batch = s.batch;
  now = first_problem s;
  left = first_left s.choice s;
  books = first_books s.choice s;
  outdated = false;
  last = None;
  held = [];
  posted = [];
  stopped = None;
}

abbrev pub first : Setup → List Fault → Failures → ChannelState
first s faults failures = record { half = first_half s; chip = opened s.geometry s.timing faults failures; sent = []; waiting = []; collected = [] }

-- The promise of one channel: what is posted is rightful in what was accepted; what a host sent is accepted or waits, in order and numbered; what it collected is a beginning of what it was posted; each accepted place is exactly one of unplanned, planned with its post undone, held and posted; and the last plan is a legal schedule of its problem and its finish, a number no later before which no legal schedule ends, and a certificate accepted for that; where the planner is exact it is the best, and shown to be
pub record KeepsPromise (exact : Bool) (certifies : Certificate → Type 0) (s : Setup) (c : ChannelState) : Type 0 where
  pub rightful : AreRightful (device_for s c.chip) c.half.accepted c.half.posted
  pub sent : c.sent ≡ c.half.accepted ++ c.waiting
  pub serials : (host : ℕ) → SerialsFrom 0 (sent_by host c)
  pub collected : (host : ℕ) → IsBeginning (collected_by host c) (posted_to host c)
  pub once : (place : ℕ) → times s c.half place ≡ number (has_id place) (wants_from s.geometry 0 c.half.accepted)
  pub made : (host : ℕ) → AreMade (device_for s c.chip) c.half.accepted (made_for host c.half)
  pub last : IfSome c.half.last IsPlanned
  pub promised : IfSome c.half.last (IsPromised exact certifies)
