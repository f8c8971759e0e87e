-- Whether a phase of a half is left, and which is due, whatever its fields are.
use Rattle.std.proofs.Common.{◌≡◌, ◌↔◌, Bool, true, false, Option, Some, None, length, refl, sym, ◌∙◌, subst}
use Rattle.std.specs.Prelude.{IsTrue, not}
use Rattle.onfi_steady.specs.Waiting.{Books}
use Rattle.onfi_flight.specs.declared.due.Due.{Due}
use Rattle.onfi_core.specs.declared.outcome.Outcome.TheVariants as outcome
use Rattle.onfi_core.specs.Dues.{IsDue}
use Rattle.onfi_core.specs.declared.setup.Setup.{Setup}
use Rattle.onfi_core.specs.Kept.{GoesBy, IsSound}
use Rattle.onfi_core.specs.State.{HalfState, flight_of, way_of}
use Rattle.onfi_core.specs.Steps.{bus_refusal, none_left}
use Rattle.onfi_core.specs.Ways.{IsFlown, IsFlownBy, IsOnTime, IsOnTimeBy}
use Rattle.onfi_core.specs.View.{HalfView}
use Rattle.onfi_core.proofs.Halves.{sound_flight}

pub due_outside : (inside h : HalfView) (due : Due) → inside ≡ h → IsDue inside.state due → IsDue h.state due
due_outside inside h due v is = subst (λ (x : HalfView). IsDue x.state due) v is

pub due_inside : (inside h : HalfView) (due : Due) → inside ≡ h → IsDue h.state due → IsDue inside.state due
due_inside inside h due v is = subst (λ (x : HalfView). IsDue x.state due) (sym v) is

-- where a phase is left the bus isn't refused
pub open_outside : (inside h : HalfView) → inside ≡ h → inside.state.stopped ≡ None → none_left inside.state ≡ false → bus_refusal h.state ≡ None
open_outside inside h v going some =
    let inner : bus_refusal inside.state ≡ None = rw (going, some) refl in
    subst (λ (x : HalfView). bus_refusal x.state ≡ None) v inner

-- .. and where none is left it is
pub none_outside : (inside h : HalfView) → inside ≡ h → inside.state.stopped ≡ None → none_left inside.state ≡ true → bus_refusal h.state ≡ Some outcome.NoPlan
none_outside inside h v going none =
    let inner : bus_refusal inside.state ≡ Some outcome.NoPlan = rw (going, none) refl in
    subst (λ (x : HalfView). bus_refusal x.state ≡ Some outcome.NoPlan) v inner

-- what is left of a plan is legal
pub flown : (s : Setup) (h : HalfState) → IsSound s h → IsFlown (way_of h)
flown s h sound = by h.books refl
  where
    by : (books : Option Books) → h.books ≡ books → IsFlownBy books (flight_of h)
    by None none = sound_flight s h sound none
    by (Some books) is = tt

-- .. or bus and LUNs are free in time, until the channel stops
pub on_time : (s : Setup) (h : HalfState) → IsSound s h → h.stopped ≡ None → IsOnTime (way_of h)
on_time s h sound going = by h.books sound.way
  where
    by : (books : Option Books) → GoesBy s books h.now h.left (record { planned = h.planned; accepted = length h.accepted; outdated = h.outdated; stopped = h.stopped }) → IsOnTimeBy books (flight_of h)
    by None way = tt
    by (Some books) way = way.in_time going

-- a phase is left where not all are done
pub phase_there : (s : Setup) (h : HalfState) → IsSound s h → (done : Bool) → (IsFlown (way_of h) → done ≡ none_left h) → IsTrue (not done) ↔ (none_left h ≡ false)
phase_there s h sound done is = by_done done (is (flown s h sound))
  where
    by_done : (b : Bool) → b ≡ none_left h → IsTrue (not b) ↔ (none_left h ≡ false)
    by_done true is = (λ yes. absurd (let e : false ≡ true = yes in cc), λ left. absurd (let e : true ≡ false = is ∙ left in cc))
    by_done false is = (λ _. sym is, λ _. refl)
