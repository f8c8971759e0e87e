-- A simulated chip as a chip, which of its calls fail, and when its LUNs say that they are ready.
use Rattle.std.specs.Prelude.{◌≡◌, ℕ, ◌||◌, Bool, true, false, ◌↔◌, List, Option, Result, Ok, Err, IsBitSet, slice_get}
use Rattle.onfi_timing.specs.Kinds.{spans_of}
use Rattle.onfi_request.specs.declared.request.Request.{Request}
use Rattle.onfi_chip.specs.declared.array_time.ArrayTime.{ArrayTime}
use Rattle.onfi_chip.specs.declared.arrays.LunArray.{LunArray}
use Rattle.onfi_chip.specs.declared.closer.Closer.{Closer}
use Rattle.onfi_chip.specs.declared.fault.ChipFault.{ChipFault}
use Rattle.onfi_chip.specs.declared.fault.ChipFault.TheVariants.{Bus, Memory}
use Rattle.onfi_chip.specs.declared.sim.SimChip.{SimChip}
use Rattle.onfi_chip.specs.Chip.{Chip, Failures}
use Rattle.onfi_chip.specs.Numbers.{failed, fails_at, one_more}
use Rattle.onfi_chip.specs.Arrays.{behind, is_done_at, next_done, one_over, with_change}
use Rattle.onfi_chip.specs.Sim.{chip_of, is_over_at}

-- how often a call's bus failed, and how often a status said that its LUN isn't ready
abbrev pub failures_of : SimChip → Failures
failures_of sim = record { bus = failed sim.calls.failing.items sim.calls.made; unready = failed sim.statuses.failing.items sim.statuses.made }

abbrev pub chip_in : SimChip → Chip
chip_in sim = record (chip_of sim.dies) { failures = failures_of sim }

-- the numbers of the calls whose bus fails
abbrev pub failing_calls : SimChip → List ℕ
failing_calls sim = sim.calls.failing.items

-- the numbers of the status calls that say that their LUN isn't ready
abbrev pub failing_statuses : SimChip → List ℕ
failing_statuses sim = sim.statuses.failing.items

-- how many calls were counted
abbrev pub calls_made : SimChip → ℕ
calls_made sim = sim.calls.made

-- how many status calls were counted
abbrev pub statuses_made : SimChip → ℕ
statuses_made sim = sim.statuses.made

-- the number of the next call is listed
abbrev pub is_call_listed : SimChip → Bool
is_call_listed sim = fails_at (failing_calls sim) (calls_made sim)

-- the number of the next status call is listed
abbrev pub is_status_listed : SimChip → Bool
is_status_listed sim = fails_at (failing_statuses sim) (statuses_made sim)

-- how long the operations of its arrays really take
abbrev pub array_times : SimChip → List ArrayTime
array_times sim = sim.arrays.times.items

-- what the array of each LUN does
abbrev pub arrays_of : SimChip → List LunArray
arrays_of sim = sim.arrays.luns.items

-- the next moment after `now` at which an array is done by its real length, which the list has: its LUN says ready from then on
abbrev pub next_ready : SimChip → ℕ → Option ℕ
next_ready sim now = next_done now (arrays_of sim)

-- all lists are kept
pub record KeepsLists (old new : SimChip) : Type 0 where
  pub calls : failing_calls new ≡ failing_calls old
  pub statuses : failing_statuses new ≡ failing_statuses old
  pub arrays : array_times new ≡ array_times old

-- nothing is counted, and which calls fail is as before
pub record KeepsCalls (old new : SimChip) : Type 0 where
  pub calls : new.calls ≡ old.calls
  pub statuses : new.statuses ≡ old.statuses

-- Bus is reported exactly at a listed call
abbrev pub FailsAsListed : {A : Type 0} → SimChip → Result A ChipFault → Type 0
FailsAsListed old (Ok x) = is_call_listed old ≡ false
FailsAsListed old (Err Bus) = is_call_listed old ≡ true
FailsAsListed old (Err Memory) = is_call_listed old ≡ false

-- a call counts, save one that was refused for memory
abbrev pub IsCounted : {A : Type 0} → SimChip → Result A ChipFault → SimChip → Type 0
IsCounted old (Ok x) new = calls_made new ≡ one_more (calls_made old)
IsCounted old (Err Bus) new = calls_made new ≡ one_more (calls_made old)
IsCounted old (Err Memory) new = calls_made new ≡ calls_made old

-- a status call counts as one, save where its bus failed
abbrev pub IsCountedStatus : {A : Type 0} → SimChip → Result A ChipFault → SimChip → Type 0
IsCountedStatus old (Ok x) new = statuses_made new ≡ one_more (statuses_made old)
IsCountedStatus old (Err fault) new = statuses_made new ≡ statuses_made old

-- RDY is 0 exactly at a listed status call
abbrev pub IsReadyAsListed : SimChip → ℕ → Type 0
IsReadyAsListed old byte = IsBitSet byte 6 ↔ (is_status_listed old ≡ false)

-- the arrays after a command at `now`
abbrev pub arrays_behind : Closer → SimChip → Request → ℕ → List LunArray
arrays_behind closer sim r now = behind closer (array_times sim) r.place.lun now (spans_of (chip_in sim).timing r.kind) (arrays_of sim)

-- the arrays after a post of that LUN, whose array is over by then
abbrev pub arrays_posted : SimChip → ℕ → List LunArray
arrays_posted sim lun = with_change lun one_over (arrays_of sim)

-- the LUN says at `now` that it is ready: what it waits for is over by the stated lengths, or its array by its real one
abbrev pub says_ready : SimChip → ℕ → ℕ → Bool
says_ready sim lun now = is_over_at now (slice_get (chip_in sim).luns lun) || is_done_at now (slice_get (arrays_of sim) lun)
