-- A bus phase keeps what every reachable state keeps.
use Rattle.std.proofs.Common.{◌≡◌, ℕ, zero, suc, ◌+◌, ◌*◌, ◌-◌, ◌<◌, ◌≤◌, ◌⊎◌, inl, inr, List, [], ◌∷◌, ◌++◌, length, Option, Some, None, drop, refl, sym, ap, ◌∙◌, subst, append-nil, arith}
use Rattle.std.specs.Prelude.{slice_get, slice_set}
use Rattle.std.specs.List.{AllByRecursion as All, flat_map}
use Rattle.std.proofs.lemmas.Bool.{cases_lt}
use Rattle.std.proofs.lemmas.List.{drop_all}
use Rattle.onfi_timing.specs.Phases.{phase_length}
use Rattle.onfi_request.specs.declared.answer.Answer.{Answer}
use Rattle.onfi_request.specs.declared.reply.Reply.{Reply}
use Rattle.onfi_request.specs.declared.fault.Fault.{Fault}
use Rattle.onfi_request.specs.declared.want.Want.{Want}
use Rattle.onfi_group.specs.Group.{group_spans, lun_of}
use Rattle.onfi_group.specs.Words.{number}
use Rattle.onfi_problem.specs.Moves.{Move, Next, Start, lun_after, placed, without, next_ran}
use Rattle.onfi_problem.specs.Problem.{Problem, IsProblem, has_id}
use Rattle.onfi_problem.specs.declared.lun_state.LunState.{LunState}
use Rattle.onfi_problem.specs.declared.lun_state.LunState.TheVariants.{Running}
use Rattle.onfi_problem.proofs.LunAfter.{lun_after_running, lun_after_free, running_is}
use Rattle.onfi_problem.proofs.Perm.{All-append}
use Rattle.onfi_problem.proofs.Places.{get_set_same, get_set_other, length_set, same_place}
use Rattle.onfi_schedule.specs.Schedule.{Schedule}
use Rattle.onfi_steady.specs.Waiting.{Books}
use Rattle.onfi_die.specs.Rightful.{IsRightful}
use Rattle.onfi_die.specs.Shapes.{device_of}
use Rattle.onfi_chip.specs.Chip.{Chip}
use Rattle.onfi_core.specs.declared.outcome.Cause.{Cause}
use Rattle.onfi_core.specs.Kept.{GoesBy, IsSound, IsTaken, IsHalf, ChipAgrees, IsReached, unposted, is_of_place}
use Rattle.onfi_core.specs.State.{HalfState, ChannelState, device_for}
use Rattle.onfi_flight.specs.Flight.{IsPhase}
use Rattle.onfi_core.specs.Steps.{Comes, reply_to, Commands, Launches, Posts, RunsOnChip, Runs, books_after, half_after_phase, stopped_after}
use Rattle.onfi_core.specs.declared.setup.Setup.{Setup}
use Rattle.onfi_core.proofs.Going.{Going, OnLun, going_next, going_start, on_next, on_start}
use Rattle.onfi_core.proofs.Halves.{chip_but, other_half, sound_but}
use Rattle.onfi_core.proofs.Stepping.{step_of}
use Rattle.onfi_core.proofs.Lists.{drop_next}
use Rattle.onfi_core.proofs.Made.{made_push}
use Rattle.onfi_core.proofs.Phase.{after_command, after_launch, after_post, right_reply}
pub use Rattle.onfi_group.proofs.Counting.{number-append}

pub number_set : (i : ℕ) (xs : List LunState) (l : ℕ) (x y : LunState) → slice_get xs l ≡ Some x → number (has_id i) (flat_map unposted (slice_set xs l y)) + number (has_id i) (unposted x) ≡ number (has_id i) (flat_map unposted xs) + number (has_id i) (unposted y)
number_set i [] l x y h = cc
number_set i (z ∷ xs) zero x y h =
    let e : z ≡ x = cc in
    let a = number-append (has_id i) (unposted y) (flat_map unposted xs) in
    let b = number-append (has_id i) (unposted z) (flat_map unposted xs) in
    let c : number (has_id i) (unposted z) ≡ number (has_id i) (unposted x) = ap (λ w. number (has_id i) (unposted w)) e in
    omega arith
number_set i (z ∷ xs) (suc l) x y h =
    let a = number_set i xs l x y h in
    let b = number-append (has_id i) (unposted z) (flat_map unposted (slice_set xs l y)) in
    let c = number-append (has_id i) (unposted z) (flat_map unposted xs) in
    omega arith

module _ (s : Setup) (h : HalfState) (half : IsSound s h) (l : ℕ) (g : List Want) (n start : ℕ) (wants : List Want) (going : Going s h l g n wants) (now : Problem) (left : Schedule) (books : Option Books) (held : List Reply) (stopped : Option Cause)
    (timing_is : now.timing ≡ h.now.timing) (rules_are : now.rules ≡ h.now.rules) (luns_are : now.luns ≡ slice_set h.now.luns l (lun_after h.now.timing g n (start + phase_length (group_spans h.now.timing g) (length g) n))) (wants_are : now.wants ≡ wants) where
  still_running : (j : ℕ) (g' : List Want) (n' r' : ℕ) → slice_get now.luns j ≡ Some (Running g' n' r') → All (IsTaken s h.planned h.accepted) g'
  still_running j g' n' r' at =
      let at' : slice_get (slice_set h.now.luns l (lun_after h.now.timing g n (start + phase_length (group_spans h.now.timing g) (length g) n))) j ≡ Some (Running g' n' r') = ap (λ ls. slice_get ls j) (sym luns_are) ∙ at in
      elim (same_place l j) [
        | inl e ↦ (
            let q = running_is h.now.timing g g' n _ n' r' (sym (get_set_same h.now.luns l going.state _ going.there) ∙ subst (λ i. slice_get (slice_set h.now.luns l (lun_after h.now.timing g n (start + phase_length (group_spans h.now.timing g) (length g) n))) i ≡ Some (Running g' n' r')) (sym e) at') in
            subst (All (IsTaken s h.planned h.accepted)) q.0 going.members)
        | inr d ↦ half.running j g' n' r' (sym (get_set_other h.now.luns l j _ (λ e. d (sym e))) ∙ at')
      ]

  pub sound_kept : IsProblem now → GoesBy s books now left (record { planned = h.planned; accepted = length h.accepted; outdated = h.outdated; stopped = stopped })
      → ((i : ℕ) → number (has_id i) (drop (n - length g) g) + number (is_of_place i) h.held ≡ number (has_id i) (unposted (lun_after h.now.timing g n (start + phase_length (group_spans h.now.timing g) (length g) n))) + number (is_of_place i) held)
      → IsSound s (record h { now = now; left = left; books = books; held = held; stopped = stopped })
  sound_kept problem way counts =
      let taken : All (IsTaken s h.planned h.accepted) now.wants = rw wants_are going.left_taken in
      sound_but s h half now left books h.outdated held h.posted stopped timing_is rules_are (ap length luns_are ∙ length_set h.now.luns l _) problem way taken still_running (λ i.
      let f1 = half.once i in
      let f2 = going.counts i in
      let f3 = number_set i h.now.luns l going.state (lun_after h.now.timing g n (start + phase_length (group_spans h.now.timing g) (length g) n)) going.there in
      let f4 = counts i in
      rw (wants_are, luns_are) (omega arith))

  -- while commands are given no member is answered
  pub counts_command : n < length g → (i : ℕ) → number (has_id i) (drop (n - length g) g) + number (is_of_place i) h.held ≡ number (has_id i) (unposted (lun_after h.now.timing g n (start + phase_length (group_spans h.now.timing g) (length g) n))) + number (is_of_place i) h.held
  counts_command lt i =
      let e = lun_after_running h.now.timing g n (start + phase_length (group_spans h.now.timing g) (length g) n) (omega arith) in
      let z : n + 1 - length g ≡ 0 = omega arith in
      let y : n - length g ≡ 0 = omega arith in
      rw (e, y) (rw z refl)

  -- a post moves its member to the replies held
  pub counts_post : (faults : List Fault) (m : Want) (answer : Answer) → length g ≤ n → slice_get g (n - length g) ≡ Some m → (i : ℕ) → number (has_id i) (drop (n - length g) g) + number (is_of_place i) h.held ≡ number (has_id i) (unposted (lun_after h.now.timing g n (start + phase_length (group_spans h.now.timing g) (length g) n))) + number (is_of_place i) (h.held ++ reply_to h.accepted faults m answer ∷ [])
  counts_post faults m answer le at i =
      let d = drop_next g (n - length g) m at in
      let a = number-append (is_of_place i) h.held (reply_to h.accepted faults m answer ∷ []) in
      let z : n + 1 - length g ≡ n - length g + 1 = omega arith in
      let c : number (has_id i) (drop (n - length g) g) ≡ number (has_id i) (m ∷ drop (n - length g + 1) g) = ap (number (has_id i)) d in
      elim (cases_lt (n + 1) (2 * length g)) [
        | inl lt ↦ (let e = lun_after_running h.now.timing g n (start + phase_length (group_spans h.now.timing g) (length g) n) lt in rw (e, z) (omega arith))
        | inr ge ↦ (let e = lun_after_free h.now.timing g n (start + phase_length (group_spans h.now.timing g) (length g) n) ge in
            let none = ap (number (has_id i)) (drop_all (n - length g + 1) g (omega arith)) in rw e (omega arith))
      ]

-- the half and the chip after a phase
abbrev pub AfterPhase : Setup → Chip → HalfState → Chip → Type 0
AfterPhase s chip h chip' = (chip'.faults ≡ chip.faults) × IsHalf s (device_for s chip) h × ChipAgrees s h chip'

module _ (s : Setup) (h : HalfState) (chip : Chip) (half : IsHalf s (device_for s chip) h) (agrees : ChipAgrees s h chip) (l : ℕ) (g : List Want) (n start : ℕ) (wants : List Want) (going : Going s h l g n wants) (lane : OnLun s h chip l g n) (now : Problem) (left : Schedule) (books : Option Books) (stopped : Option Cause)
    (timing_is : now.timing ≡ h.now.timing) (rules_are : now.rules ≡ h.now.rules) (luns_are : now.luns ≡ slice_set h.now.luns l (lun_after h.now.timing g n (start + phase_length (group_spans h.now.timing g) (length g) n))) (wants_are : now.wants ≡ wants) (problem : IsProblem now) (way : GoesBy s books now left (record { planned = h.planned; accepted = length h.accepted; outdated = h.outdated; stopped = stopped })) where
  -- after a command
  after_a_command : (chip' : Chip) → Commands h.accepted g n start chip chip' ⊎ Launches h.accepted g n start chip chip' → AfterPhase s chip (record h { now = now; left = left; books = books; stopped = stopped }) chip'
  after_a_command chip' (inl c) =
      let more = c.more in (
        ap (λ (x : Chip). x.faults) c.done.state,
        record { sound = sound_kept s h half.sound l g n start wants going now left books h.held stopped timing_is rules_are luns_are wants_are problem way (counts_command s h half.sound l g n start wants going now left books h.held stopped timing_is rules_are luns_are wants_are (omega arith)); held = half.held; posted = half.posted; made = half.made },
        chip_but s (record h { now = now; left = left }) chip' left books h.outdated h.held h.posted stopped (after_command s h half.sound.timing chip agrees l g n start wants going lane now left h.held luns_are wants_are chip' c),
      )
  after_a_command chip' (inr c) =
      let last = c.last in (
        ap (λ (x : Chip). x.faults) c.done.state,
        record { sound = sound_kept s h half.sound l g n start wants going now left books h.held stopped timing_is rules_are luns_are wants_are problem way (counts_command s h half.sound l g n start wants going now left books h.held stopped timing_is rules_are luns_are wants_are (omega arith)); held = half.held; posted = half.posted; made = half.made },
        chip_but s (record h { now = now; left = left }) chip' left books h.outdated h.held h.posted stopped (after_launch s h half.sound.timing chip agrees l g n start wants going lane now left h.held luns_are wants_are chip' c),
      )

  -- after a post
  after_a_post : (chip' : Chip) (m : Want) (answer : Answer) → Posts g n start chip chip' m answer → AfterPhase s chip (record h { now = now; left = left; books = books; held = h.held ++ reply_to h.accepted chip.faults m answer ∷ []; stopped = stopped }) chip'
  after_a_post chip' m answer c =
      let r = reply_to h.accepted chip.faults m answer in
      let held = h.held ++ r ∷ [] in
      let right = right_reply s h half.sound.timing chip agrees l g n start wants going lane now left held luns_are wants_are chip' m answer c in (
        ap (λ (x : Chip). x.faults) c.done.state,
        record {
          sound = sound_kept s h half.sound l g n start wants going now left books held stopped timing_is rules_are luns_are wants_are problem way (counts_post s h half.sound l g n start wants going now left books held stopped timing_is rules_are luns_are wants_are chip.faults m answer c.behind c.is);
          held = All-append (IsRightful (device_for s chip) h.accepted) h.held (r ∷ []) half.held (right, tt);
          posted = half.posted;
          made = λ host. made_push (device_for s chip) h.accepted h.posted h.held r refl refl right host (half.made host);
        },
        chip_but s (record h { now = now; left = left; held = held }) chip' left books h.outdated held h.posted stopped (after_post s h half.sound.timing chip agrees l g n start wants going lane now left held luns_are wants_are chip' m answer c),
      )

  pub after_phase : (chip' : Chip) (replies : List Reply) → RunsOnChip h.accepted g n start chip chip' replies → AfterPhase s chip (record h { now = now; left = left; books = books; held = h.held ++ replies; stopped = stopped }) chip'
  after_phase chip' replies (inl (c, none)) =
      let e : h.held ++ replies ≡ h.held = ap (λ rs. h.held ++ rs) none ∙ append-nil h.held in
      let P : List Reply → Type 0 = λ rs. AfterPhase s chip (record h { now = now; left = left; books = books; held = rs; stopped = stopped }) chip' in
      subst P (sym e) (after_a_command chip' c)
  after_phase chip' replies (inr (m, answer, c, one)) =
      let P : List Reply → Type 0 = λ rs. AfterPhase s chip (record h { now = now; left = left; books = books; held = h.held ++ rs; stopped = stopped }) chip' in
      subst P (sym one) (after_a_post chip' m answer c)

-- for a move of the problem
pub after_move : (s : Setup) (h : HalfState) (chip : Chip) → IsHalf s (device_for s chip) h → ChipAgrees s h chip → (move : Move) (start : ℕ) (left : Schedule) → Comes h move start left
    → (g : List Want) (n : ℕ) → IsPhase h.now move g n → (chip' : Chip) (replies : List Reply) → RunsOnChip h.accepted g n start chip chip' replies
    → AfterPhase s chip (half_after_phase h move start left replies) chip'
after_move s h chip half agrees (Next l) start left next g n (ready, at) chip' replies ran =
    let m = step_of s h half.sound (Next l) start left next in
    let e : placed h.now (Next l) start ≡ next_ran h.now l (Some (Running g n ready)) start = ap (λ o. next_ran h.now l o start) at in
    after_phase s h chip half agrees l g n start h.now.wants (going_next s h half.sound l g n ready at) (on_next s h chip agrees l g n ready at) (placed h.now (Next l) start) left (books_after h.books (Next l)) (stopped_after h.books (placed h.now (Next l) start) l h.stopped)
    (ap (λ (p : Problem). p.timing) e) (ap (λ (p : Problem). p.rules) e) (ap (λ (p : Problem). p.luns) e) (ap (λ (p : Problem). p.wants) e) m.problem m.way chip' replies ran
after_move s h chip half agrees (Start members) start left next g n (same, zero') chip' replies ran =
    let m = step_of s h half.sound (Start members) start left next in
    let P : List Want → ℕ → Type 0 = λ x m. RunsOnChip h.accepted x m start chip chip' replies in
    let ran' : P members 0 = subst (λ x. P x 0) (sym same) (subst (P g) zero' ran) in
    after_phase s h chip half agrees (lun_of members) members 0 start (without members h.now.wants) (going_start s h half.sound members m.is_move) (let i = m.is_move in on_start s h chip agrees members i.2.group.some i.0 i.1) (placed h.now (Start members) start) left (books_after h.books (Start members)) (stopped_after h.books (placed h.now (Start members) start) (lun_of members) h.stopped)
    refl refl refl refl m.problem m.way chip' replies ran'

pub bus_kept : (s : Setup) (c c' : ChannelState) (start : ℕ) → IsReached s c → c.half.stopped ≡ None → Runs c c' start → IsReached s c'
bus_kept s c c' start reached going r =
    let a = after_move s c.half c.chip reached.half (reached.chip going) r.move start r.left r.next r.group r.phase r.is r.chip r.replies r.on_chip in
    let e = ap (device_of s.geometry) a.0 in
    let h' = half_after_phase c.half r.move start r.left r.replies in
    let half = subst (λ d. IsHalf s d h') (sym e) a.1 in
    subst (IsReached s) (sym r.after) (other_half s c h' r.chip reached refl refl half (λ _. a.2))
