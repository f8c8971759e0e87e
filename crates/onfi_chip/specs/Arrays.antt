-- The arrays of a simulated chip, and how long their operations really take.
use Rattle.std.specs.Prelude.{ℕ, ◌+◌, ◌==◌, ◌&&◌, ◌^◌, min, nat_le, nat_lt, if◌then◌else◌, Bool, false, List, Option, Some, None, option_map, option_and_then, find, slice_get, slice_set}
use Rattle.std.specs.List.{filter_map, reduce}
use Rattle.onfi_timing.specs.declared.spans.Spans.{Spans}
use Rattle.onfi_chip.specs.declared.array_time.ArrayTime.{ArrayTime}
use Rattle.onfi_chip.specs.declared.arrays.LunArray.{LunArray}
use Rattle.onfi_chip.specs.declared.closer.Closer.{Closer}
use Rattle.onfi_chip.specs.declared.closer.Closer.TheVariants.{More, Last}
use Rattle.onfi_chip.specs.declared.wait.Wait.{Wait}
use Rattle.onfi_chip.specs.Numbers.{one_more}
use Rattle.onfi_chip.specs.Sim.{over_at}

-- the length is that of this operation of the LUN
abbrev pub is_of : ℕ → ℕ → ArrayTime → Bool
is_of lun number time = (time.lun == lun) && (time.number == number)

-- how long an operation of a LUN really takes, where the list says so
abbrev pub listed : List ArrayTime → ℕ → ℕ → Option ℕ
listed times lun number = option_map (λ (time : ArrayTime). time.length) (find (is_of lun number) times)

-- the wait after a group's last command, which starts at `now`, by the real length; at most the stated one counts
abbrev pub real_wait : ℕ → Spans → Option ℕ → Option Wait
real_wait now spans None = None
real_wait now spans (Some length) = Some (record { from = now; length = spans.cmd + min spans.array length })

-- no operation has started
abbrev pub unused : LunArray
unused = record { started = 0; real = None }

-- the next operation has started, by the last command of its group at `now`
abbrev pub one_started : List ArrayTime → ℕ → ℕ → Spans → LunArray → LunArray
one_started times lun now spans array = record { started = one_more array.started; real = real_wait now spans (listed times lun array.started) }

-- the first post of the group has come
abbrev pub one_over : LunArray → LunArray
one_over array = record { started = array.started; real = None }

abbrev pub with_changed : ℕ → (LunArray → LunArray) → Option LunArray → List LunArray → List LunArray
with_changed lun change None arrays = arrays
with_changed lun change (Some array) arrays = slice_set arrays lun (change array)

-- the arrays with a change of that LUN's
abbrev pub with_change : ℕ → (LunArray → LunArray) → List LunArray → List LunArray
with_change lun change arrays = with_changed lun change (slice_get arrays lun) arrays

-- the arrays after a command at `now`: a group's last one starts that of its LUN
abbrev pub behind : Closer → List ArrayTime → ℕ → ℕ → Spans → List LunArray → List LunArray
behind More times lun now spans arrays = arrays
behind Last times lun now spans arrays = with_change lun (one_started times lun now spans) arrays

abbrev pub is_wait_over : ℕ → Option Wait → Bool
is_wait_over now None = false
is_wait_over now (Some wait) = nat_le (over_at wait) now

-- the operation that runs is done by its real length, which the list has
abbrev pub is_done : ℕ → LunArray → Bool
is_done now array = is_wait_over now array.real

abbrev pub is_done_at : ℕ → Option LunArray → Bool
is_done_at now None = false
is_done_at now (Some array) = is_done now array

-- when a wait is over, where that is after `now` and a moment of 64 bits
abbrev pub over_behind : ℕ → Wait → Option ℕ
over_behind now wait = if nat_lt now (over_at wait) && nat_lt (over_at wait) (2 ^ 64) then Some (over_at wait) else None

-- when the operation that runs is done by its real length, where that is after `now`
abbrev pub done_behind : ℕ → LunArray → Option ℕ
done_behind now array = option_and_then (over_behind now) array.real

-- the least of these moments of all LUNs
abbrev pub next_done : ℕ → List LunArray → Option ℕ
next_done now arrays = reduce min (filter_map (done_behind now) arrays)
