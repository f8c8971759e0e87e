-- What a phase that is done leaves of a half.
use Rattle.std.proofs.Common.{◌≡◌, ℕ, ◌+◌, ◌*◌, ◌-◌, ◌<◌, ◌≤◌, ◌⊎◌, inl, inr, List, [], ◌∷◌, ◌++◌, length, Some, None, Option, drop, refl, sym, ap, ◌∙◌, subst, append-nil, length-append, arith}
use Rattle.std.specs.Prelude.{slice_get, slice_set}
use Rattle.std.proofs.lemmas.Bool.{lt-ltb, le-ltb, cases_lt}
use Rattle.onfi_timing.specs.Phases.{phase_length}
use Rattle.onfi_request.specs.declared.answer.Answer.{Answer}
use Rattle.onfi_request.specs.declared.basis.Basis.{Basis}
use Rattle.onfi_request.specs.declared.fault.Fault.{Fault}
use Rattle.onfi_request.specs.declared.request.Item.{Item}
use Rattle.onfi_request.specs.declared.reply.Reply.{Reply}
use Rattle.onfi_request.specs.declared.want.Want.{Want}
use Rattle.onfi_group.specs.Group.{group_spans, lun_of}
use Rattle.onfi_group.specs.Words.{number}
use Rattle.onfi_problem.specs.Moves.{Move, Next, Start, IsMove, move_lun, lun_after, placed, without, next_ran}
use Rattle.onfi_problem.specs.Problem.{Problem, IsProblem, has_id}
use Rattle.onfi_problem.proofs.Wants.{number_has}
use Rattle.onfi_problem.specs.declared.lun_state.LunState.TheVariants.{Free, Running}
use Rattle.onfi_problem.proofs.Places.{get_within}
use Rattle.onfi_schedule.specs.Schedule.{Schedule}
use Rattle.onfi_steady.specs.Waiting.{Books}
use Rattle.slab.specs.Slab.{Slab}
use Rattle.onfi_flight.specs.declared.due.Due.{Due}
use Rattle.onfi_lun.specs.declared.phase_result.PhaseResult.{PhaseResult}
use Rattle.onfi_lun.specs.declared.phase_result.PhaseResult.TheVariants as ran
use Rattle.onfi_core.specs.declared.setup.Setup.{Setup}
use Rattle.onfi_core.specs.declared.slot.Slot.{Slot}
use Rattle.onfi_flight.specs.Flight.{IsPhase, member_of, move_of}
use Rattle.onfi_core.specs.declared.outcome.Cause.{Cause}
use Rattle.onfi_core.specs.Dues.{IsDue, IsRan, after_due, left_by, replies_of}
use Rattle.onfi_core.specs.Kept.{GoesBy, IsSound}
use Rattle.onfi_core.specs.State.{HalfState, Way, item_at, no_item, way_of, with_way}
use Rattle.onfi_core.specs.Steps.{Comes, books_after, half_after_phase, reply_to, stopped_after}
use Rattle.onfi_core.specs.Ways.{way_after}
use Rattle.onfi_core.specs.View.{AreFields, AreSlots, HasSlot}
use Rattle.onfi_core.proofs.Bus.{number_set, sound_kept, counts_command, counts_post}
use Rattle.onfi_core.proofs.Few.{replies_few}
use Rattle.onfi_core.proofs.Going.{Going, going_next, going_start}
use Rattle.onfi_core.proofs.Lists.{drop_next, index_get, get_has}
use Rattle.onfi_core.proofs.Next.{not_posted, was_accepted}
use Rattle.onfi_core.proofs.Halves.{fields_but}
use Rattle.onfi_core.proofs.Stepping.{due_of, step_of}

-- a phase makes the reply to its member at a post, and none at a command
abbrev pub Makes : List Item → List Want → ℕ → List Reply → Type 0
Makes accepted g n replies =
    ((n < length g) × (replies ≡ []))
    ⊎ ((faults : List Fault) × (m : Want) × (answer : Answer) × (length g ≤ n) × (slice_get g (n - length g) ≡ Some m) × (replies ≡ reply_to accepted faults m answer ∷ []))

module _ (s : Setup) (h : HalfState) (half : IsSound s h) (l : ℕ) (g : List Want) (n start : ℕ) (wants : List Want) (going : Going s h l g n wants) (now : Problem) (left : Schedule) (books : Option Books) (stopped : Option Cause)
    (timing_is : now.timing ≡ h.now.timing) (rules_are : now.rules ≡ h.now.rules) (luns_are : now.luns ≡ slice_set h.now.luns l (lun_after h.now.timing g n (start + phase_length (group_spans h.now.timing g) (length g) n))) (wants_are : now.wants ≡ wants) (problem : IsProblem now) (way : GoesBy s books now left (record { planned = h.planned; accepted = length h.accepted; outdated = h.outdated; stopped = stopped })) where
  sound_phase : (replies : List Reply) → Makes h.accepted g n replies → IsSound s (record h { now = now; left = left; books = books; held = h.held ++ replies; stopped = stopped })
  sound_phase replies (inl (lt, none)) =
      let P : List Reply → Type 0 = λ rs. IsSound s (record h { now = now; left = left; books = books; held = rs; stopped = stopped }) in
      subst P (sym (ap (λ rs. h.held ++ rs) none ∙ append-nil h.held))
      (sound_kept s h half l g n start wants going now left books h.held stopped timing_is rules_are luns_are wants_are problem way
      (counts_command s h half l g n start wants going now left books h.held stopped timing_is rules_are luns_are wants_are lt))
  sound_phase replies (inr (faults, m, answer, le, at, one)) =
      let held = h.held ++ reply_to h.accepted faults m answer ∷ [] in
      let P : List Reply → Type 0 = λ rs. IsSound s (record h { now = now; left = left; books = books; held = h.held ++ rs; stopped = stopped }) in
      subst P (sym one)
      (sound_kept s h half l g n start wants going now left books held stopped timing_is rules_are luns_are wants_are problem way
      (counts_post s h half l g n start wants going now left books held stopped timing_is rules_are luns_are wants_are faults m answer le at))

-- a half whose phase is done is sound
sound_move : (s : Setup) (h : HalfState) → IsSound s h → (move : Move) (start : ℕ) (left : Schedule) → Comes h move start left → (g : List Want) (n : ℕ) → IsPhase h.now move g n → (replies : List Reply) → Makes h.accepted g n replies → IsSound s (half_after_phase h move start left replies)
sound_move s h sound (Next l) start left next g n (ready, at) replies makes =
    let m = step_of s h sound (Next l) start left next in
    let e : placed h.now (Next l) start ≡ next_ran h.now l (Some (Running g n ready)) start = ap (λ o. next_ran h.now l o start) at in
    sound_phase s h sound l g n start h.now.wants (going_next s h sound l g n ready at) (placed h.now (Next l) start) left (books_after h.books (Next l)) (stopped_after h.books (placed h.now (Next l) start) l h.stopped)
    (ap (λ (p : Problem). p.timing) e) (ap (λ (p : Problem). p.rules) e) (ap (λ (p : Problem). p.luns) e) (ap (λ (p : Problem). p.wants) e) m.problem m.way replies makes
sound_move s h sound (Start members) start left next g n (same, zero') replies makes =
    let m = step_of s h sound (Start members) start left next in
    let P : List Want → ℕ → Type 0 = λ x k. Makes h.accepted x k replies in
    let makes' : P members 0 = subst (λ x. P x 0) (sym same) (subst (P g) zero' makes) in
    sound_phase s h sound (lun_of members) members 0 start (without members h.now.wants) (going_start s h sound members m.is_move) (placed h.now (Start members) start) left (books_after h.books (Start members)) (stopped_after h.books (placed h.now (Start members) start) (lun_of members) h.stopped)
    refl refl refl refl m.problem m.way replies makes'

pub sound_due : (s : Setup) (h : HalfState) (due : Due) → IsSound s h → IsDue h due → (replies : List Reply) → Makes h.accepted due.group due.phase replies → IsSound s (after_due h due replies)
sound_due s h due sound is replies makes =
    let d = due_of s h due sound is in
    sound_move s h sound (move_of due) due.start (left_by h.books h.left due) d.comes due.group due.phase d.phase replies makes

-- The member of the phase

goes_by : (s : Setup) (h : HalfState) → IsSound s h → (move : Move) → IsMove h.now move → (g : List Want) (n : ℕ) → IsPhase h.now move g n → (wants : List Want) × Going s h (move_lun move) g n wants
goes_by s h sound (Next l) m g n (ready, at) = (h.now.wants, going_next s h sound l g n ready at)
goes_by s h sound (Start members) m g n (same, none) =
    let P : List Want → ℕ → Type 0 = λ x k. (wants : List Want) × Going s h (lun_of members) x k wants in
    let base : P members 0 = (without members h.now.wants, going_start s h sound members m) in
    subst (P g) (sym none) (subst (λ x. P x 0) same base)

-- the group of the due phase goes on
pub goes : (s : Setup) (h : HalfState) (due : Due) → IsSound s h → IsDue h due → (wants : List Want) × Going s h due.lun due.group due.phase wants
goes s h due sound is =
    let d = due_of s h due sound is in
    subst (λ l. (wants : List Want) × Going s h l due.group due.phase wants) d.lun (goes_by s h sound (move_of due) d.is_move due.group due.phase d.phase)

-- the member is of those that have no reply
member_left : (g : List Want) (n : ℕ) (m : Want) → member_of g n ≡ Some m → 1 ≤ number (has_id m.id) (drop (n - length g) g)
member_left g n m at = elim (cases_lt n (length g)) [
  | inl lt ↦ (
      let z : n - length g ≡ 0 = omega arith in
      let at' : slice_get g n ≡ Some m = rw (lt-ltb n (length g) lt) at at in
      rw z (number_has g m (get_has g n m at')))
  | inr ge ↦ (
      let at' : slice_get g (n - length g) ≡ Some m = rw (le-ltb n (length g) ge) at at in
      let d = drop_next g (n - length g) m at' in
      rw d (number_has (m ∷ drop (n - length g + 1) g) m (inl refl)))
]

-- .. so it stands in a slot
slot_of : (s : Setup) (slots : Slab Slot) (h : HalfState) (due : Due) → AreSlots slots h.accepted h.posted → IsSound s h → IsDue h due → (m : Want) → 1 ≤ number (has_id m.id) (drop (due.phase - length due.group) due.group) → HasSlot slots m.id
slot_of s slots h due a sound is m one =
    let g = goes s h due sound is in
    let c = g.1.counts m.id in
    let w = number_set m.id h.now.luns due.lun g.1.state (Free 0) g.1.there in
    let o = sound.once m.id in
    let there = was_accepted s.geometry 0 m.id h.accepted (omega arith) in
    a.kept m.id (omega (arith, there)) (not_posted s h m.id sound (omega arith))

pub member_slot : (s : Setup) (slots : Slab Slot) (h : HalfState) (due : Due) → AreSlots slots h.accepted h.posted → IsSound s h → IsDue h due → (m : Want) → member_of due.group due.phase ≡ Some m → HasSlot slots m.id
member_slot s slots h due a sound is m at = slot_of s slots h due a sound is m (member_left due.group due.phase m at)

-- the replies of a phase are those that it makes
pub makes_of : (accepted : List Item) (faults : List Fault) (due : Due) (given : PhaseResult) → IsRan due given → due.phase < 2 * length due.group → Makes accepted due.group due.phase (replies_of accepted faults due given)
makes_of accepted faults due ran.Command lt within = inl (lt, refl)
makes_of accepted faults due (ran.Post answer) le within =
    let m = get_within due.group (due.phase - length due.group) (omega arith) in
    let at = m.1 in
    inr (faults, m.0, answer, le, m.1, rw at refl)

-- there is room for the reply
pub room_for : (s : Setup) (slots : Slab Slot) (came : ℕ) (room : ℕ) (kept : List Reply) (h : HalfState) (lent : Option Reply) (due : Due) (replies : List Reply) → AreFields s slots came room kept None h lent → IsDue h due → Makes h.accepted due.group due.phase replies → length kept + length replies ≤ room
room_for s slots came room kept h lent due replies f is makes =
    let few = replies_few s (after_due h due replies) (sound_due s h due f.sound is replies makes) in
    let l = length-append h.held replies in
    let k = ap length f.lending.1 in
    let a = f.slots_are.total in
    let b = f.slots_are.few in
    let c = f.room_is in
    omega arith

-- why it is stopped says the same of the books before and after the phase
pub stopped_same : (books : Option Books) (move : Move) (p : Problem) (lun : ℕ) (stopped : Option Cause) → stopped_after (books_after books move) p lun stopped ≡ stopped_after books p lun stopped
stopped_same None move p lun stopped = refl
stopped_same (Some books) move p lun stopped = refl

-- the fields once the phase is done
pub fields_done : (s : Setup) (slots : Slab Slot) (came : ℕ) (room room' : ℕ) (kept kept' : List Reply) (h : HalfState) (lent lent' : Option Reply) (due : Due) (replies : List Reply) (accepted' : List Item) (held' posted' : List Reply) (way' : Way) (stopped' : Option Cause)
    → AreFields s slots came room kept None h lent → IsDue h due → Makes h.accepted due.group due.phase replies → kept' ≡ kept ++ replies → room' ≡ room
    → accepted' ≡ h.accepted → held' ≡ h.held ++ replies → posted' ≡ h.posted → lent' ≡ lent → way' ≡ way_after due (way_of h) → stopped' ≡ stopped_after way'.books way'.now due.lun h.stopped
    → AreFields s slots came room' kept' None (record (with_way h way') { accepted = accepted'; held = held'; posted = posted'; stopped = stopped' }) lent'
fields_done s slots came room room' kept kept' h lent lent' due replies accepted' held' posted' way' stopped' f is makes k c e0 e1 e2 e3 ef es =
    let l = f.lending in
    let same : kept' ≡ h.held ++ replies = k ∙ ap (λ rs. rs ++ replies) l.1 in
    let stop = es ∙ ap (λ (w : Way). stopped_after w.books w.now due.lun h.stopped) ef ∙ stopped_same h.books (move_of due) (placed h.now (move_of due) due.start) due.lun h.stopped
    ∙ ap (λ n. stopped_after h.books (placed h.now (move_of due) due.start) n h.stopped) (sym (due_of s h due f.sound is).lun) in
    rw (e0, e1, e2, e3, stop, ef) (fields_but s slots came room room' kept kept' None None h (after_due h due replies) lent lent f refl refl c (l.0, same) (sound_due s h due f.sound is replies makes))

-- a reply of these parts is that to the member
pub reply_is : (accepted : List Item) (faults : List Fault) (due : Due) (given : PhaseResult) (answer : Answer) (place : ℕ) (item : Item) (basis : Basis)
    → (m : Want) → given ≡ ran.Post answer → length due.group ≤ due.phase → member_of due.group due.phase ≡ Some m → place ≡ m.id
    → item ≡ item_at accepted m.id → basis.accepted ≡ accepted → basis.faults ≡ faults
    → (let r : Reply = record { host = item.host; serial = item.serial; place = place; answer = answer; basis = basis } in r) ∷ []
    ≡ replies_of accepted faults due given
reply_is accepted faults due given answer place item basis m eg le at ep ei ea ef =
    let there : slice_get due.group (due.phase - length due.group) ≡ Some m = rw (le-ltb due.phase (length due.group) le) at at in
    let b : basis ≡ record { accepted = accepted; faults = faults } = ap (λ xs. let z : Basis = record { accepted = xs; faults = basis.faults } in z) ea
    ∙ ap (λ fs. let z : Basis = record { accepted = accepted; faults = fs } in z) ef in
    rw (eg, there, ep, ei, b) refl

-- the item that a slot keeps
pub item_in_slot : (accepted : List Item) (p : ℕ) (slot : Slot) (item : Item) → slice_get accepted slot.place ≡ Some slot.item → slot.place ≡ p → item ≡ slot.item → item ≡ item_at accepted p
item_in_slot accepted p slot item there e is = is ∙ sym (index_get accepted p slot.item no_item (subst (λ i. slice_get accepted i ≡ Some slot.item) e there))
