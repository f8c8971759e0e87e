-- The condition that a schedule breaks, as a plain struct says it.
use Rattle.std.specs.Prelude.{◌≡◌, ℕ, ◌<◌, List, true, false}
use Rattle.onfi_problem.specs.Problem.{Problem}
use Rattle.onfi_schedule.specs.Schedule.{Legal, Schedule}
use Rattle.onfi_schedule.specs.Breaks.{Breaks}
use Rattle.onfi_schedule.specs.Tells.{Tells}
use Rattle.onfi_schedule.specs.declared.breach.Breach.{Breach}
use Rattle.onfi_schedule.specs.declared.breach.Breach.TheVariants.{ForeignLun, MissingLun, RestOfFreeLun, RestCount, StartCount, UnknownRequest, MissingRequest, RepeatedRequest, MixedGroup, SinglePlane, PlaneOrder, BusNotFree, NotReady, WaitTooShort, LunNotFree, RunningGroupLeft, LunTaken, BlockOrder, Overlap}
use Rattle.onfi_schedule.specs.declared.breach.Difference.{Difference}
use Rattle.onfi_schedule.specs.declared.breach.Difference.TheVariants.{Kind as Kinds, Lun as Luns, Page as Pages, Block as Blocks}
use Rattle.onfi_schedule.specs.declared.phase_name.Owner.{Owner}
use Rattle.onfi_schedule.specs.declared.phase_name.Owner.TheVariants.{Request as OfRequest, Running as OfRunning}
use Rattle.onfi_schedule.specs.declared.phase_name.Part.{Part}
use Rattle.onfi_schedule.specs.declared.phase_name.Part.TheVariants.{Command, DataOutput, Status as StatusOutput}
use Rattle.onfi_schedule.specs.declared.phase_name.PhaseName.{PhaseName}
use Rattle.onfi_calls.specs.declared.broken.PlainBroken.{PlainBroken}
use Rattle.onfi_calls.specs.declared.broken.PlainNamed.{PlainNamed}
use Rattle.onfi_calls.specs.declared.channel.PlainChannel.{PlainChannel}
use Rattle.onfi_calls.specs.declared.channel.PlainWant.{PlainWant}
use Rattle.onfi_calls.specs.declared.schedule.PlainSchedule.{PlainSchedule}
use Rattle.onfi_calls.specs.declared.status.Status.{Status}
use Rattle.onfi_calls.specs.declared.status.Status.TheVariants.{Illegal}
use Rattle.onfi_calls.specs.Stand.{IsNoSchedule, IsScheduleSaid}
use Rattle.onfi_calls.specs.Status.{number_of}

abbrev pub part_number : Part → ℕ
part_number Command = 0
part_number DataOutput = 1
part_number StatusOutput = 2

-- a phase of that part
abbrev pub owned_by : ℕ → Owner → PlainNamed
owned_by part (OfRequest want) = record { want = want; block = 0; lun = 0; part = part; is_running = false }
owned_by part (OfRunning lun block) = record { want = 0; block = block; lun = lun; part = part; is_running = true }

abbrev pub written_name : PhaseName → PlainNamed
written_name name = owned_by (part_number name.part) name.owner

abbrev pub difference_number : Difference → ℕ
difference_number Kinds = 1
difference_number Luns = 2
difference_number Pages = 3
difference_number Blocks = 4

-- no phase, and no condition
abbrev pub no_name : PlainNamed
no_name = record { want = 0; block = 0; lun = 0; part = 0; is_running = false }

abbrev pub unbroken : PlainBroken
unbroken = record {
  phase = no_name;
  other = no_name;
  want = 0;
  other_want = 0;
  start = 0;
  earliest = 0;
  held = 0;
  count = 0;
  right = 0;
  condition = 0;
  lun = 0;
  difference = 0;
}

-- a phase that starts before it could
abbrev pub too_soon : ℕ → PhaseName → ℕ → ℕ → ℕ → PlainBroken
too_soon condition name lun start earliest = record unbroken { condition = condition; phase = written_name name; lun = lun; start = start; earliest = earliest }

-- .. or starts of one
abbrev pub counted : ℕ → ℕ → ℕ → ℕ → ℕ → PlainBroken
counted condition lun want count right = record unbroken { condition = condition; lun = lun; want = want; count = count; right = right }

-- a request beside another one
abbrev pub paired : ℕ → ℕ → ℕ → ℕ → PlainBroken
paired condition other_want want difference = record unbroken { condition = condition; want = want; other_want = other_want; difference = difference }

-- something is in the way of a phase or a request
abbrev pub in_the_way : Breach → PlainBroken
in_the_way (Overlap name start holder from to) = record (too_soon 13 name 0 start to) { other = written_name holder; held = from }
in_the_way (LunTaken name lun start holder from to) = record (too_soon 17 name lun start to) { other_want = holder; held = from }
in_the_way (BlockOrder earlier later start end) = record (paired 19 earlier later 0) { start = start; earliest = end }
in_the_way _ = unbroken

-- .. or the bus or a LUN isn't free or ready
abbrev pub timed : Breach → PlainBroken
timed (BusNotFree name start bus_free) = too_soon 12 name 0 start bus_free
timed (NotReady name lun start ready) = too_soon 14 name lun start ready
timed (RunningGroupLeft name lun start end) = too_soon 16 name lun start end
timed (LunNotFree name lun start since) = too_soon 18 name lun start since
timed breach = in_the_way breach

-- .. or a phase starts too soon after the one before it in its group
abbrev pub waited : Breach → PlainBroken
waited (WaitTooShort name before lun start ready) = record (too_soon 15 name lun start ready) { other = written_name before }
waited breach = timed breach

-- .. and all
abbrev pub written_breach : Breach → PlainBroken
written_breach (ForeignLun last) = counted 1 last 0 0 0
written_breach (MissingLun lun) = counted 2 lun 0 0 0
written_breach (RestOfFreeLun lun) = counted 3 lun 0 0 0
written_breach (RestCount lun starts left) = counted 4 lun 0 starts left
written_breach (StartCount request starts phases) = counted 5 0 request starts phases
written_breach (UnknownRequest request) = counted 6 0 request 0 0
written_breach (MissingRequest request) = counted 7 0 request 0 0
written_breach (RepeatedRequest request times) = counted 8 0 request times 0
written_breach (MixedGroup first request difference) = paired 9 first request (difference_number difference)
written_breach (SinglePlane first request) = paired 10 first request 0
written_breach (PlaneOrder before request) = paired 11 before request 0
written_breach breach = waited breach

-- the LUN that is spoken of has a number of one byte
abbrev pub IsNear : Breach → Type 0
IsNear (ForeignLun last) = last < 256
IsNear (MissingLun lun) = lun < 256
IsNear _ = Unit {0}

-- the schedule breaks a condition, and what is reported of it is so
pub record IsBroken (p : Problem) (s : Schedule) (broken : PlainBroken) : Type 0 where
  pub breach : Breach
  pub breaks : Breaks p s breach
  pub tells : Tells p s breach
  pub written : broken ≡ written_breach breach

-- it is legal, or breaks that condition, and a number says which
pub data IsJudged (p : Problem) (s : Schedule) (broken : PlainBroken) (result : ℕ) : Type 0 where
  is_legal : Legal p s → broken ≡ unbroken → result ≡ 0 → IsJudged p s broken result
  is_illegal : IsBroken p s broken → result ≡ number_of Illegal → IsJudged p s broken result

-- a caller learns that the schedule is legal, or which condition it breaks; or by a number why there is none, and nothing else
pub data GivesBreach (channel : PlainChannel) (wants : List PlainWant) (schedule : PlainSchedule) (old new : PlainBroken) (result : ℕ) : Type 0 where
  gives_breach : (p : Problem) (s : Schedule) → IsScheduleSaid channel wants schedule p s → IsJudged p s new result
      → GivesBreach channel wants schedule old new result
  refuses_breach : (status : Status) → IsNoSchedule channel wants schedule status → new ≡ old → result ≡ number_of status
      → GivesBreach channel wants schedule old new result
