-- The refusals of a half's calls, as outcomes.
use Rattle.std.specs.Prelude.{ℕ, Option, None, Some, Result, Ok, Err}
use Rattle.onfi_lun.specs.declared.drive.DriveFault.{DriveFault}
use Rattle.onfi_lun.specs.declared.drive.DriveFault.TheVariants as drive
use Rattle.onfi_core.specs.declared.drive.PhaseStop.{PhaseStop}
use Rattle.onfi_core.specs.declared.drive.PhaseStop.TheVariants as phase
use Rattle.onfi_core.specs.declared.half.PlanRefusal.{PlanRefusal}
use Rattle.onfi_core.specs.declared.half.PlanRefusal.TheVariants as refused
use Rattle.onfi_core.specs.declared.outcome.Cause.{Cause}
use Rattle.onfi_core.specs.declared.outcome.Cause.TheVariants as cause
use Rattle.onfi_core.specs.declared.outcome.Outcome.{Outcome}
use Rattle.onfi_core.specs.declared.outcome.Outcome.TheVariants as outcome
use Rattle.onfi_core.specs.declared.half.passing.WaitRefusal.{WaitRefusal}
use Rattle.onfi_core.specs.declared.half.passing.WaitRefusal.TheVariants as waiting
use Rattle.onfi_core.specs.declared.half.passing.ReadyRefusal.{ReadyRefusal}
use Rattle.onfi_core.specs.declared.half.passing.ReadyRefusal.TheVariants as readying
use Rattle.onfi_core.specs.declared.half.AcceptFault.{AcceptFault}
use Rattle.onfi_core.specs.declared.half.AcceptFault.TheVariants.{Stopped, WindowFull}

abbrev pub fault_outcome : AcceptFault → Outcome
fault_outcome (Stopped cause) = outcome.Stopped cause
fault_outcome WindowFull = outcome.WindowFull

abbrev pub refusal_outcome : PlanRefusal → Outcome
refusal_outcome (refused.Stopped cause) = outcome.Stopped cause
refusal_outcome refused.NothingToPlan = outcome.NothingToPlan
refusal_outcome (refused.Over opened) = outcome.Over opened
refusal_outcome refused.Memory = outcome.Memory None

abbrev pub wait_outcome : WaitRefusal → Outcome
wait_outcome (waiting.Stopped cause) = outcome.Stopped cause
wait_outcome waiting.TooLate = outcome.TooLate

-- what a wait came to
abbrev pub waited_outcome : Result ℕ WaitRefusal → Outcome
waited_outcome (Ok bus_free) = outcome.Waited bus_free
waited_outcome (Err refusal) = wait_outcome refusal

abbrev pub ready_outcome : ReadyRefusal → Outcome
ready_outcome readying.NoSuchLun = outcome.NoSuch None
ready_outcome (readying.Stopped cause) = outcome.Stopped cause
ready_outcome readying.NotInArray = outcome.NotInArray

-- what a planning came to
abbrev pub planned_outcome : Result ℕ PlanRefusal → Outcome
planned_outcome (Ok finish) = outcome.Planned finish
planned_outcome (Err refusal) = refusal_outcome refusal

-- why the channel stops where the phase on that LUN wasn't run; refused memory stops nothing
abbrev pub cause_of : DriveFault → ℕ → Option Cause
cause_of drive.Bus lun = Some cause.Bus
cause_of drive.NotReady lun = Some (cause.NotReady lun)
cause_of drive.Memory lun = None

-- what a due phase came to
abbrev pub phase_outcome : Result ℕ PhaseStop → Outcome
phase_outcome (Ok start) = outcome.Phase start
phase_outcome (Err (phase.Stopped why)) = outcome.Stopped why
phase_outcome (Err phase.Memory) = outcome.Memory None
