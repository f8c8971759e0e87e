-- A dispatcher in memory of the caller's, from call to call.
use Rattle.std.proofs.Common.{◌≡◌, ℕ, suc, ◌*◌, ◌<◌, List, [], ◌∷◌, length, Option, Some, None, arith, ap, refl, ◌∙◌}
use Rattle.std.specs.Prelude.{slice_get}
use Rattle.std.specs.List.{AllByRecursion as Each}
use Rattle.onfi_addr.specs.declared.geometry.Geometry.{Geometry}
use Rattle.onfi_timing.specs.declared.timing.Timing.{Timing}
use Rattle.onfi_request.specs.declared.want.Want.{Want}
use Rattle.onfi_problem.specs.declared.lun_state.LunState.{LunState}
use Rattle.onfi_problem.specs.declared.lun_state.LunState.TheVariants.{Free, Running}
use Rattle.onfi_problem.specs.Problem.{Problem, IsProblem}
use Rattle.onfi_steady.specs.declared.fault.AcceptFault.{AcceptFault}
use Rattle.onfi_steady.specs.declared.group_phase.GroupPhase.{GroupPhase}
use Rattle.onfi_steady.specs.Dispatcher.{IsPhaseOn}
use Rattle.onfi_steady.specs.LunBooks.{HasPhaseLeft, IsGroupPhase}
use Rattle.onfi_calls.specs.declared.phase.PlainPhase.{PlainPhase}
use Rattle.onfi_calls.specs.declared.status.Status.{Status}
use Rattle.onfi_calls.specs.Dispatching.{IsPhaseOutside, IsPhaseSaid, told}
use Rattle.onfi_calls.specs.Due.{IsOutside, IsWritten}
use Rattle.onfi_calls.specs.Status.{accept_status}

-- why a request isn't taken
pub told_first : (o : Option Status) (fault : Option AcceptFault) (status : Status) → o ≡ Some status → told o fault ≡ Some status
told_first o fault status is = ap (λ z. told z fault) is

pub told_then : (o : Option Status) (p : Option AcceptFault) (fault : AcceptFault) → o ≡ None → p ≡ Some fault → told o p ≡ Some (accept_status fault)
told_then o p fault none is = ap (λ z. told z p) none ∙ ap (told None) is

-- what runs has a phase left
each_left : (luns : List LunState) → ((lun : ℕ) (group : List Want) (next ready : ℕ) → slice_get luns lun ≡ Some (Running group next ready) → next < 2 * length group) → Each HasPhaseLeft luns
each_left [] left = tt
each_left (Free since ∷ luns) left = (tt, each_left luns (λ lun. left (suc lun)))
each_left (Running group next ready ∷ luns) left = (let k = left 0 group next ready refl in omega (arith, k), each_left luns (λ lun. left (suc lun)))

pub left_of : (p : Problem) → IsProblem p → Each HasPhaseLeft p.luns
left_of p is = each_left p.luns (λ lun group next ready there. (is.running lun group next ready there).unfinished)

-- a phase on a LUN as a plain struct
pub phase_said : (timing : Timing) (geometry : Geometry) (luns : List LunState) (lun : ℕ) (members : List Want) (start : ℕ) (p : GroupPhase) (phase : PlainPhase)
    → IsPhaseOn timing luns lun members p → ((group : List Want) (number : ℕ) → IsGroupPhase timing group number p → IsWritten timing geometry group start number phase)
    → IsPhaseSaid timing geometry luns lun members start phase
phase_said timing geometry luns lun [] start p phase (group, next, ready, there, is) written = (group, next, ready, there, written group next is)
phase_said timing geometry luns lun (m ∷ ms) start p phase is written = written (m ∷ ms) 0 is

pub phase_outside : (timing : Timing) (geometry : Geometry) (luns : List LunState) (lun : ℕ) (members : List Want) (p : GroupPhase)
    → IsPhaseOn timing luns lun members p → ((group : List Want) (number : ℕ) → IsGroupPhase timing group number p → IsOutside geometry group number)
    → IsPhaseOutside geometry luns lun members
phase_outside timing geometry luns lun [] p (group, next, ready, there, is) outside = (group, next, ready, there, outside group next is)
phase_outside timing geometry luns lun (m ∷ ms) p is outside = outside (m ∷ ms) 0 is
