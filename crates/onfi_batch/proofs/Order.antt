-- The posts of a batch come in the order of their starts.
use Rattle.std.proofs.Common.{◌≡◌, ℕ, zero, suc, ◌+◌, ◌-◌, ◌<◌, ◌≤◌, inl, inr, List, [], ◌∷◌, ◌++◌, length, None, Some, drop, refl, sym, ap, subst, ◌∙◌, append-nil, arith}
use Rattle.std.specs.Prelude.{slice_get, slice_set}
use Rattle.std.specs.List.{AllByRecursion as Each, AllZip}
use Rattle.onfi_timing.specs.Phases.{phase_length}
use Rattle.onfi_request.specs.declared.reply.Reply.{Reply}
use Rattle.onfi_request.specs.declared.want.Want.{Want}
use Rattle.onfi_chip.specs.Chip.{Chip}
use Rattle.onfi_group.specs.Group.{IsGroup, group_spans, lun_of}
use Rattle.onfi_group.specs.Words.{Has}
use Rattle.onfi_group.proofs.PhaseLengths.{phase_some}
use Rattle.onfi_problem.proofs.LunAfter.{running_is}
use Rattle.onfi_problem.proofs.Ordered.{Pairs-append}
use Rattle.onfi_problem.proofs.Perm.{All-append, All-back, All-each, All-front, All-has, All-weaker}
use Rattle.onfi_problem.proofs.Places.{get_set_other, get_set_same, get_within, same_place, within_get}
use Rattle.onfi_problem.specs.declared.lun_state.LunState.{LunState}
use Rattle.onfi_problem.specs.declared.lun_state.LunState.TheVariants.{Free, Running}
use Rattle.onfi_problem.specs.Moves.{Move, Next, Start, IsMove, lun_after, move_lun, next_ran, placed}
use Rattle.onfi_problem.specs.Problem.{IsProblem, Problem}
use Rattle.onfi_schedule.proofs.Following.{first_move_law}
use Rattle.onfi_schedule.specs.Laws.{ComesNext}
use Rattle.onfi_schedule.specs.Schedule.{Legal, Placed, Schedule, rest_of}
use Rattle.onfi_flight.specs.declared.due.Due.{Due}
use Rattle.onfi_core.specs.declared.setup.Setup.{Setup}
use Rattle.onfi_core.specs.Dues.{IsDue, left_by}
use Rattle.onfi_core.proofs.Halves.{legal_left}
use Rattle.onfi_core.proofs.Stepping.{comes_in_order, due_in_order}
use Rattle.onfi_core.specs.Kept.{IsSound}
use Rattle.onfi_core.specs.State.{HalfState}
use Rattle.onfi_flight.specs.Flight.{IsPhase, left_behind, move_of}
use Rattle.onfi_core.specs.Steps.{AsksSectors, Comes, RunsOnChip, half_after_phase, reply_to}
use Rattle.onfi_core.proofs.Lists.{get_has}
use Rattle.onfi_core.proofs.Next.{get_drop}
use Rattle.onfi_core.proofs.MayRunDue.{group_lun}
use Rattle.onfi_batch.specs.declared.fault.BatchFault.{BatchFault}
use Rattle.onfi_batch.specs.declared.fault.BatchFault.TheVariants as fault
use Rattle.onfi_batch.specs.Course.{GoesOn, IsFaultOf, IsInOrder}
use Rattle.onfi_batch.specs.Order.{PostStarts, RepliesAt, StartsSectors, TellsStatus}

zip_more : {A B : Type 0} (R : A → B → Type 0) (xs : List A) (ys : List B) (x : A) (y : B) → AllZip R xs ys → R x y → AllZip R (xs ++ x ∷ []) (ys ++ y ∷ [])
zip_more R [] [] x y h r = (r, tt)
zip_more R [] (v ∷ ys) x y h r = absurd h
zip_more R (u ∷ xs) [] x y h r = absurd h
zip_more R (u ∷ xs) (v ∷ ys) x y h r = (h.0, zip_more R xs ys x y h.1 r)

drop_tail : {A : Type 0} (n : ℕ) (xs : List A) (y : A) (ys : List A) → drop n xs ≡ y ∷ ys → drop (n + 1) xs ≡ ys
drop_tail zero [] y ys h = absurd (let e : [] ≡ y ∷ ys = h in cc)
drop_tail zero (x ∷ xs) y ys h = cc
drop_tail (suc n) [] y ys h = absurd (let e : [] ≡ y ∷ ys = h in cc)
drop_tail (suc n) (x ∷ xs) y ys h = let e : suc n + 1 ≡ suc (n + 1) = omega arith in rw e (drop_tail n xs y ys h)

-- A phase of the schedule

-- the phase is that of a group of the schedule, and what stands after it
record IsStepOf (schedule : Schedule) (h : HalfState) (l : ℕ) (group : List Want) (phase start : ℕ) (now : Problem) (left : Schedule) : Type 0 where
  starts : List ℕ
  rest : List ℕ
  planned : Has schedule.groups (record { members = group; starts = starts })
  at : drop phase starts ≡ start ∷ rest
  lun : LunState
  lun_there : slice_get h.now.luns l ≡ Some lun
  luns : now.luns ≡ slice_set h.now.luns l (lun_after h.now.timing group phase (start + phase_length (group_spans h.now.timing group) (length group) phase))
  rests : left.rest ≡ slice_set h.left.rest l rest
  groups : Each (Has schedule.groups) left.groups
  bus : start < now.bus_free

step_of : (schedule : Schedule) (s : Setup) (h : HalfState) → IsSound s h → Legal h.now h.left → IsInOrder schedule h → (move : Move) (start : ℕ) (left : Schedule)
    → ComesNext h.now h.left move start left → (group : List Want) (phase : ℕ) → IsPhase h.now move group phase
    → IsStepOf schedule h (move_lun move) group phase start (placed h.now move start) left
step_of schedule s h sound legal order (Next l) start left next group phase (ready, there) =
    let runs = order.running l group phase ready there in
    let begins = next.begins in
    let same : Some (drop phase runs.0) ≡ Some (start ∷ begins.0) = sym runs.2 ∙ begins.1 in
    let after : placed h.now (Next l) start ≡ next_ran h.now l (Some (Running group phase ready)) start = ap (λ o. next_ran h.now l o start) there in
    let some = phase_some h.now.timing group phase (sound.problem.running l group phase ready there).unfinished in
    let bus = ap (λ (p : Problem). p.bus_free) after in
    record {
      starts = runs.0;
      rest = begins.0;
      planned = runs.1;
      at = cc;
      lun = Running group phase ready;
      lun_there = there;
      luns = ap (λ (p : Problem). p.luns) after;
      rests = ap (λ (x : Schedule). x.rest) begins.2;
      groups = subst (λ (x : Schedule). Each (Has schedule.groups) x.groups) (sym begins.2) order.waiting;
      bus = omega (arith, some, bus);
    }
step_of schedule s h sound legal order (Start members) start left next group phase (same, none) =
    let P : List Want → ℕ → Type 0 = λ x n. IsStepOf schedule h (lun_of members) x n start (placed h.now (Start members) start) left in
    let (rest, before, behind, are, is) = next.begins in
    let g : Placed = record { members = members; starts = start ∷ rest } in
    let all = subst (Each (Has schedule.groups)) are order.waiting in
    let later = All-back (Has schedule.groups) before (g ∷ behind) all in
    let move = (first_move_law h.now h.left (Start members) start left sound.problem legal next).is_move in
    let more = move.2.group.some in
    let some = phase_some h.now.timing members 0 (omega (arith, more)) in
    let base : P members 0 = record {
      starts = start ∷ rest;
      rest = rest;
      planned = later.0;
      at = refl;
      lun = Free move.0;
      lun_there = move.1;
      luns = refl;
      rests = ap (λ (x : Schedule). x.rest) is;
      groups = subst (λ (x : Schedule). Each (Has schedule.groups) x.groups) (sym is)
          (All-append (Has schedule.groups) before behind (All-front (Has schedule.groups) before (g ∷ behind) all) later.1);
      bus = omega (arith, some);
    } in
    subst (P group) (sym none) (subst (λ x. P x 0) same base)

-- the post that such a phase is
post_starts : (schedule : Schedule) (group : List Want) (starts : List ℕ) (phase start : ℕ) (rest : List ℕ)
    → Has schedule.groups (record { members = group; starts = starts }) → drop phase starts ≡ start ∷ rest → (m : Want) → length group ≤ phase
    → slice_get group (phase - length group) ≡ Some m → PostStarts schedule m start
post_starts schedule group starts phase start rest planned at m le there =
    let e : phase ≡ length group + (phase - length group) = omega arith in
    let z : phase ≡ phase + 0 = omega arith in
    let here : slice_get starts phase ≡ Some start = ap (slice_get starts) z ∙ sym (get_drop phase starts 0) ∙ ap (λ us. slice_get us 0) at in
    record {
      group = record { members = group; starts = starts };
      planned = planned;
      member = phase - length group;
      is_member = there;
      starts = subst (λ i. slice_get starts i ≡ Some start) e here;
    }

module _ (schedule : Schedule) (s : Setup) (h : HalfState) (sound : IsSound s h) (legal : Legal h.now h.left) (order : IsInOrder schedule h) (move : Move) (start : ℕ) (left : Schedule)
    (next : ComesNext h.now h.left move start left) (group : List Want) (phase : ℕ) (is : IsPhase h.now move group phase) where
  step : IsStepOf schedule h (move_lun move) group phase start (placed h.now move start) left
  step = step_of schedule s h sound legal order move start left next group phase is

  on_time : h.now.bus_free ≤ start
  on_time = let t = (first_move_law h.now h.left move start left sound.problem legal next).on_time in omega (arith, t)

  runs : (lun : ℕ) (g : List Want) (n ready : ℕ) → slice_get (placed h.now move start).luns lun ≡ Some (Running g n ready)
      → (starts : List ℕ) × Has schedule.groups (record { members = g; starts = starts }) × (rest_of left lun ≡ Some (drop n starts))
  runs lun g n ready there =
      let l = move_lun move in
      let after = lun_after h.now.timing group phase (start + phase_length (group_spans h.now.timing group) (length group) phase) in
      elim (same_place lun l) [
        | inl q ↦ (
            let set : slice_get (placed h.now move start).luns l ≡ Some after =
            ap (λ ls. slice_get ls l) step.luns ∙ get_set_same h.now.luns l step.lun after step.lun_there in
            let here : Some after ≡ Some (Running g n ready) =
            sym set ∙ subst (λ i. slice_get (placed h.now move start).luns i ≡ Some (Running g n ready)) q there in
            let r = running_is h.now.timing group g phase _ n ready here in
            let size = legal.shape.luns in
            let low = within_get h.now.luns l step.lun step.lun_there in
            let old = get_within h.left.rest l (omega (arith, size, low)) in
            let rest : step.rest ≡ drop n step.starts = sym (drop_tail phase step.starts start step.rest step.at) ∙ ap (λ i. drop i step.starts) r.1 in (
              step.starts,
              subst (λ x. Has schedule.groups (record { members = x; starts = step.starts })) r.0 step.planned,
              ap (rest_of left) q ∙ ap (λ us. slice_get us l) step.rests ∙ get_set_same h.left.rest l old.0 step.rest old.1 ∙ ap Some rest,
            ))
        | inr q ↦ (
            let here : slice_get h.now.luns lun ≡ Some (Running g n ready) =
            sym (ap (λ ls. slice_get ls lun) step.luns ∙ get_set_other h.now.luns l lun after q) ∙ there in
            let r = order.running lun g n ready here in
            (r.0, r.1, ap (λ us. slice_get us lun) step.rests ∙ get_set_other h.left.rest l lun step.rest q ∙ r.2))
      ]

  earlier : Each (λ t. t < start) order.starts
  earlier = let le = on_time in All-weaker (λ t. t < h.now.bus_free) (λ t. t < start) (λ t lt. omega (arith, le, lt)) order.starts order.behind

  before_bus : Each (λ t. t < (placed h.now move start).bus_free) order.starts
  before_bus =
      let lt = step.bus in
      All-weaker (λ t. t < start) (λ t. t < (placed h.now move start).bus_free) (λ t less. omega (arith, lt, less)) order.starts earlier

  order_behind : (chip chip' : Chip) (replies : List Reply) → RunsOnChip h.accepted group phase start chip chip' replies
      → IsInOrder schedule (half_after_phase h move start left replies)
  order_behind chip chip' replies (inl (on, none)) = record {
    waiting = step.groups;
    running = runs;
    starts = order.starts;
    posts = subst (λ rs. AllZip (RepliesAt schedule) rs order.starts) (sym (ap (λ rs. h.held ++ rs) none ∙ append-nil h.held)) order.posts;
    rise = order.rise;
    behind = before_bus;
  }
  order_behind chip chip' replies (inr (member, answer, on, one)) =
      let r : RepliesAt schedule (reply_to h.accepted chip.faults member answer) start =
      (member, refl, post_starts schedule group step.starts phase start step.rest step.planned step.at member on.behind on.is) in
      record {
        waiting = step.groups;
        running = runs;
        starts = order.starts ++ start ∷ [];
        posts = subst (λ rs. AllZip (RepliesAt schedule) (h.held ++ rs) (order.starts ++ start ∷ [])) (sym one)
            (zip_more (RepliesAt schedule) h.held order.starts _ start order.posts r);
        rise = Pairs-append (λ (a b : ℕ). a < b) order.starts (start ∷ []) order.rise (tt, tt)
            (λ a b ha hb. let lt = All-has (λ t. t < start) order.starts a earlier ha in elim hb [ inl e ↦ omega (arith, lt, e) | inr x ↦ absurd x ]);
        behind = All-append (λ t. t < (placed h.now move start).bus_free) order.starts (start ∷ []) before_bus (step.bus, tt);
      }

-- a phase keeps the order
pub order_kept : (schedule : Schedule) (s : Setup) (h h' : HalfState) (chip chip' : Chip) (due : Due) → IsSound s h → IsDue h due → GoesOn h chip due h' chip'
    → h.books ≡ None → IsInOrder schedule h → IsInOrder schedule h'
order_kept schedule s h h' chip chip' due sound next (replies, on, after) none order =
    let is = due_in_order h none due next in
    let legal = legal_left s h sound none in
    subst (IsInOrder schedule) (sym after)
    (subst (λ l. IsInOrder schedule (half_after_phase h (move_of due) due.start l replies)) (sym (ap (λ b. left_by b h.left due) none))
    (order_behind schedule s h sound legal order (move_of due) due.start (left_behind h.left due) (is.next legal) due.group due.phase is.phase chip chip' replies on))

group_of : (p : Problem) → IsProblem p → (move : Move) → IsMove p move → (g : List Want) (n : ℕ) → IsPhase p move g n → IsGroup p.rules g
group_of p ip (Next l) m g n (ready, at) = (ip.running l g n ready at).group
group_of p ip (Start members) (since, at, st) g n (same, none) = subst (IsGroup p.rules) same st.group

-- a LUN that said that it isn't ready is that of the status
pub status_told : (schedule : Schedule) (s : Setup) (h : HalfState) → IsSound s h → h.books ≡ None → IsInOrder schedule h → (fault : BatchFault) → IsFaultOf h fault
    → (start : ℕ) × TellsStatus schedule start fault
status_told schedule s h sound none order fault.Bus why = (0, tt)
status_told schedule s h sound none order fault.Memory why = (0, tt)
status_told schedule s h sound none order (fault.NotReady lun) (move, start, left, comes, is_lun, asks) =
    let legal = legal_left s h sound none in
    let next = comes_in_order h none move start left comes in
    let step = step_of schedule s h sound legal order move start left next asks.group asks.phase asks.is in
    let move_there = (first_move_law h.now h.left move start left sound.problem legal next).is_move in
    let group = group_of h.now sound.problem move move_there asks.group asks.phase asks.is in
    let here = All-has (λ (w : Want). w.lun ≡ lun_of asks.group) asks.group asks.member group.lun
    (get_has asks.group (asks.phase - length asks.group) asks.member asks.there) in
    let lun_is = here ∙ group_lun h.now sound.problem move asks.group asks.phase asks.is ∙ is_lun in
    let post = post_starts schedule asks.group step.starts asks.phase start step.rest step.planned step.at asks.member asks.behind asks.there in
    (start, (asks.member, lun_is, asks.operation, post))

-- an output of some sectors that comes next is one of the schedule
pub sectors_told : (schedule : Schedule) (s : Setup) (h : HalfState) → IsSound s h → h.books ≡ None → IsInOrder schedule h → (move : Move) (start : ℕ) (left : Schedule)
    → Comes h move start left → AsksSectors h.now move → StartsSectors schedule
sectors_told schedule s h sound none order move start left comes asks =
    let legal = legal_left s h sound none in
    let next = comes_in_order h none move start left comes in
    let step = step_of schedule s h sound legal order move start left next asks.group asks.phase asks.is in
    record {
      start = start;
      want = asks.member;
      sectors = asks.sectors;
      post = post_starts schedule asks.group step.starts asks.phase start step.rest step.planned step.at asks.member asks.behind asks.there;
    }

-- where nothing is done
pub order_opens : (schedule : Schedule) (h : HalfState) → h.left.groups ≡ schedule.groups
    → ((lun : ℕ) (group : List Want) (next ready : ℕ) → slice_get h.now.luns lun ≡ Some (Running group next ready) → ⊥) → h.held ≡ [] → IsInOrder schedule h
order_opens schedule h groups nothing none = record {
  waiting = subst (Each (Has schedule.groups)) (sym groups) (All-each (Has schedule.groups) schedule.groups (λ g here. here));
  running = λ lun group next ready at. absurd (nothing lun group next ready at);
  starts = [];
  posts = subst (λ rs. AllZip (RepliesAt schedule) rs []) (sym none) tt;
  rise = tt;
  behind = tt;
}
