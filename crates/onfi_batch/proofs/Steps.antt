-- A phase of a batch, and what it leaves.
use Rattle.std.proofs.Common.{◌≡◌, ℕ, ◌<◌, inl, inr, List, ◌∷◌, length, None, Some, get_or, refl, sym, ap, subst, ◌∙◌, arith}
use Rattle.std.specs.Prelude.{slice_get}
use Rattle.onfi_request.specs.declared.request.Item.{Item}
use Rattle.onfi_request.specs.declared.reply.Reply.{Reply}
use Rattle.onfi_request.specs.declared.want.Want.{Want}
use Rattle.onfi_die.specs.Shapes.{device_of}
use Rattle.onfi_chip.specs.Calls.{AreNoFewer, HasDone}
use Rattle.onfi_chip.specs.Chip.{Chip, Failures}
use Rattle.onfi_chip.specs.declared.fault.PostFault.TheVariants as post_fault
use Rattle.onfi_group.specs.Group.{lun_of}
use Rattle.onfi_group.specs.Words.{total}
use Rattle.onfi_problem.proofs.Perm.{All-has}
use Rattle.onfi_problem.proofs.Places.{get_within}
use Rattle.onfi_problem.proofs.Totals.{total_set}
use Rattle.onfi_problem.proofs.Wants.{total-append}
use Rattle.onfi_problem.specs.Moves.{Move, Next, Start, move_lun}
use Rattle.onfi_schedule.specs.Laws.{Begins}
use Rattle.onfi_schedule.specs.Schedule.{Placed, Schedule}
use Rattle.onfi_lun.specs.declared.drive.DriveFault.{DriveFault}
use Rattle.onfi_lun.specs.declared.drive.DriveFault.TheVariants as drive
use Rattle.onfi_flight.specs.declared.due.Due.{Due}
use Rattle.onfi_lun.specs.declared.phase_result.PhaseResult.{PhaseResult}
use Rattle.onfi_core.specs.declared.setup.Setup.{Setup}
use Rattle.onfi_lun.specs.Drive.{HasRun, AfterDrive, IsStatus}
use Rattle.onfi_flight.specs.Flight.{left_behind, member_of, move_of}
use Rattle.onfi_core.specs.Dues.{IsDue, after_due, left_by, replies_of}
use Rattle.onfi_core.proofs.Stepping.{due_in_order, due_of}
use Rattle.onfi_core.specs.Kept.{IsHalf, IsSound, IsTaken, ChipAgrees}
use Rattle.onfi_core.specs.State.{HalfState, device_for, item_at, no_item, quiet}
use Rattle.onfi_core.specs.Steps.{RunsOnChip, LacksSectors}
use Rattle.onfi_core.proofs.Bus.{AfterPhase, after_move}
use Rattle.onfi_core.proofs.Done.{goes}
use Rattle.onfi_core.proofs.Driving.{asks_sectors, asks_status, ran_on_chip}
use Rattle.onfi_core.proofs.Lists.{get_has, index_get}
use Rattle.onfi_lun.proofs.Places.{get_of_or}
use Rattle.onfi_batch.specs.Batch.{KeptSince, fault_of}
use Rattle.onfi_batch.specs.Course.{AfterPhaseFault, GoesOn, IsFaultOf, steps_left}

-- Reading

pub item_read : (items : List Item) (i : ℕ) (v d : Item) → i < length items → v ≡ get_or items i d → v ≡ item_at items i
item_read items i v d lt e = sym (index_get items i v no_item (get_of_or items i v d lt e))

-- each member of the due group was taken in
pub taken_is : (s : Setup) (h : HalfState) (due : Due) → IsSound s h → IsDue h due → (i : ℕ) (m : Want) → slice_get due.group i ≡ Some m
    → IsTaken s h.planned h.accepted m
taken_is s h due sound is i m at = All-has (IsTaken s h.planned h.accepted) due.group m (goes s h due sound is).1.members (get_has due.group i m at)

-- What is known of the chip

pub kept_on : (first old new : Chip) → KeptSince first old → KeptSince old new → KeptSince first new
kept_on first old new a b = record { faults = b.faults ∙ a.faults; failures = no_fewer first.failures old.failures new.failures a.failures b.failures }
  where
    no_fewer : (first old new : Failures) → AreNoFewer first old → AreNoFewer old new → AreNoFewer first new
    no_fewer first old new a b =
        let bus = a.bus in
        let bus' = b.bus in
        let unready = a.unready in
        let unready' = b.unready in
        record { bus = omega (arith, bus, bus'); unready = omega (arith, unready, unready') }

pub kept_same : (old new : Chip) → new ≡ old → KeptSince old new
kept_same old new e = subst (KeptSince old) (sym e) (record { faults = refl; failures = record { bus = omega arith; unready = omega arith } })

done_keeps : (chip after chip' : Chip) → after.faults ≡ chip.faults → after.failures ≡ chip.failures → HasDone after chip' → KeptSince chip chip'
done_keeps chip after chip' faults failures done = record {
  faults = ap (λ (x : Chip). x.faults) done.state ∙ faults;
  failures = subst (λ f. AreNoFewer f chip'.failures) failures done.count;
}

pub kept_by : (h h' : HalfState) (chip chip' : Chip) (due : Due) → GoesOn h chip due h' chip' → KeptSince chip chip'
kept_by h h' chip chip' due (replies, inl (inl c, none), after) = done_keeps chip _ chip' refl refl c.done
kept_by h h' chip chip' due (replies, inl (inr c, none), after) = done_keeps chip _ chip' refl refl c.done
kept_by h h' chip chip' due (replies, inr (member, answer, c, one), after) = done_keeps chip _ chip' refl refl c.done

-- The due phase runs

module _ (s : Setup) (h : HalfState) (chip : Chip) (half : IsHalf s (device_for s chip) h) (agrees : ChipAgrees s h chip) (due : Due) (is : IsDue h due) where
  after_run : (chip' : Chip) (replies : List Reply) → RunsOnChip h.accepted due.group due.phase due.start chip chip' replies
      → AfterPhase s chip (after_due h due replies) chip'
  after_run chip' replies on =
      let d = due_of s h due half.sound is in
      after_move s h chip half agrees (move_of due) due.start (left_by h.books h.left due) d.comes due.group due.phase d.phase chip' replies on

  -- the half and the chip agree after it
  pub agree_behind : (h' : HalfState) (chip' : Chip) → GoesOn h chip due h' chip' → IsHalf s (device_for s chip') h' × ChipAgrees s h' chip'
  agree_behind h' chip' (replies, on, after) =
      let a = after_run chip' replies on in
      let e : after_due h due replies ≡ h' = sym after in (
        subst (λ d. IsHalf s d h') (sym (ap (device_of s.geometry) a.0)) (subst (IsHalf s (device_for s chip)) e a.1),
        subst (λ (x : HalfState). ChipAgrees s x chip') e a.2,
      )

  module _ (item : Item) (m : Want) (at : member_of due.group due.phase ≡ Some m) (item_is : item ≡ item_at h.accepted m.id) where
    pub goes_on : (h' : HalfState) (chip' : Chip) (given : PhaseResult) → HasRun chip s.geometry due item given chip'
        → h' ≡ after_due h due (replies_of h.accepted chip'.faults due given) → GoesOn h chip due h' chip'
    goes_on h' chip' given has_run after =
        let on = ran_on_chip s h chip half.sound agrees due is m at item item_is chip' given has_run in
        (replies_of h.accepted chip.faults due given, on, after ∙ ap (λ fs. after_due h due (replies_of h.accepted fs due given)) (after_run chip' _ on).0)

    pub fault_is : (fault : DriveFault) (lun : ℕ) → lun ≡ due.lun → (fault ≡ drive.NotReady → IsStatus due item) → IsFaultOf h (fault_of fault lun)
    fault_is drive.Bus lun e status = tt
    fault_is drive.NotReady lun e status =
        let asks = asks_status s h chip half.sound agrees due is m at item item_is (status refl) in
        let d = due_of s h due half.sound is in
        (move_of due, due.start, left_by h.books h.left due, d.comes, d.lun ∙ sym e, asks)
    fault_is drive.Memory lun e status = tt

    -- what it leaves of the chip
    pub fault_leaves : (fault : DriveFault) (lun : ℕ) (chip' : Chip) → AfterDrive due item fault chip chip' → AfterPhaseFault h (fault_of fault lun) chip chip'
    fault_leaves drive.Bus lun chip' (inl lost) = record { faults = lost.faults; why = inl lost.rose }
    fault_leaves drive.Bus lun chip' (inr none) =
        let asks = asks_sectors s h chip half.sound agrees due is m at item item_is none.post none.sectors in
        let lacks : LacksSectors (quiet h chip) post_fault.Bus chip' = record {
          bus = refl;
          same = none.same;
          asked = (move_of due, due.start, left_by h.books h.left due, (due_of s h due half.sound is).comes, asks);
        } in
        record { faults = ap (λ (x : Chip). x.faults) none.same; why = inr lacks }
    fault_leaves drive.NotReady lun chip' lost = lost
    fault_leaves drive.Memory lun chip' same = kept_same chip chip' same

-- One phase less is left

begins_fewer : (s : Schedule) (move : Move) (start : ℕ) (left : Schedule) → move_lun move < length s.rest → Begins s move start left
    → steps_left left < steps_left s
begins_fewer s (Next lun) start left low (starts, at, is) =
    let a = total_set (λ (us : List ℕ). length us) s.rest lun (start ∷ starts) starts at in
    let b = ap steps_left is in
    omega (arith, a, b)
begins_fewer s (Start group) start left low (starts, before, behind, are, is) =
    let g : Placed = record { members = group; starts = start ∷ starts } in
    let there = get_within s.rest (lun_of group) low in
    let a = total_set (λ (us : List ℕ). length us) s.rest (lun_of group) there.0 starts there.1 in
    let b = ap steps_left is in
    let c = ap (total (λ (x : Placed). length x.starts)) are in
    let d = total-append (λ (x : Placed). length x.starts) before (g ∷ behind) in
    let e = total-append (λ (x : Placed). length x.starts) before behind in
    omega (arith, a, b, c, d, e)

pub fewer_left : (s : Setup) (h h' : HalfState) (chip chip' : Chip) (due : Due) → IsSound s h → h.books ≡ None → IsDue h due → GoesOn h chip due h' chip'
    → steps_left h'.left < steps_left h.left
fewer_left s h h' chip chip' due sound none next (replies, on, after) =
    let is = due_in_order h none due next in
    let low : move_lun (move_of due) < length h.left.rest = (let a = is.there in let b = is.lun in omega (arith, a, b)) in
    let fewer = begins_fewer h.left (move_of due) due.start (left_behind h.left due) low is.begins in
    let e : steps_left h'.left ≡ steps_left (left_behind h.left due) = ap (λ (x : HalfState). steps_left x.left) after ∙ ap (λ b. steps_left (left_by b h.left due)) none in
    omega (arith, fewer, e)
