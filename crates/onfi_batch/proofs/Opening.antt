-- A batch as it opens, and as it ends.
use Rattle.std.proofs.Common.{◌≡◌, ◌≢◌, ℕ, suc, ◌+◌, ◌<◌, ◌≤◌, inl, inr, true, List, [], ◌∷◌, ◌++◌, length, Option, Some, None, map, replicate, refl, sym, ap, subst, ◌∙◌, append-nil, append_assoc, length-append, lit≤, arith}
use Rattle.std.specs.Prelude.{slice_get, ◌==◌, IfNone}
use Rattle.std.specs.List.{AllByRecursion as All, flat_map}
use Rattle.std.proofs.lemmas.Bool.{cases_Bool}
use Rattle.std.proofs.lemmas.Bool.Decides.{nat_tests}
use Rattle.std.proofs.lemmas.List.{drop_all, length-replicate}
use Rattle.onfi_addr.specs.declared.geometry.Geometry.{Geometry}
use Rattle.onfi_timing.specs.declared.timing.Timing.{Timing}
use Rattle.onfi_request.specs.declared.want.Want.{Want}
use Rattle.onfi_request.specs.declared.fault.Fault.{Fault}
use Rattle.onfi_request.specs.declared.request.Item.{Item}
use Rattle.onfi_request.specs.declared.reply.Reply.{Reply}
use Rattle.onfi_request.specs.Range.{Fits}
use Rattle.onfi_die.specs.Shapes.{Device, device_of}
use Rattle.onfi_die.specs.Contents.{fresh, runs}
use Rattle.onfi_die.specs.Answers.{requests_on}
use Rattle.onfi_die.specs.Blocks.{is_on}
use Rattle.onfi_die.specs.Rightful.{IsRightful, AreRightful}
use Rattle.onfi_chip.specs.declared.fault.PostFault.TheVariants as post_fault
use Rattle.onfi_chip.specs.Calls.{IsLost}
use Rattle.onfi_chip.specs.Chip.{Chip, Failures, Lun, opened}
use Rattle.onfi_chip.specs.Chip.Lun.{Idle}
use Rattle.onfi_group.specs.Words.{Has, Pairs, number}
use Rattle.onfi_group.specs.Group.{lun_of}
use Rattle.onfi_problem.specs.declared.lun_state.LunState.{LunState}
use Rattle.onfi_problem.specs.declared.lun_state.LunState.TheVariants.{Free, Running}
use Rattle.onfi_problem.specs.Moves.{IsDone}
use Rattle.onfi_problem.specs.Problem.{Problem, IsProblem, has_id}
use Rattle.onfi_problem.proofs.Perm.{All-append, All-each}
use Rattle.onfi_problem.proofs.Places.{within_get}
use Rattle.onfi_schedule.specs.Schedule.{Schedule, Legal, StartsFrom, Apart, phases, rest_phases, group_phases}
use Rattle.onfi_schedule.specs.declared.phase.Phase.{Phase}
use Rattle.onfi_schedule.proofs.Following.{done_law}
use Rattle.onfi_flight.specs.declared.due.Due.{Due}
use Rattle.onfi_core.specs.declared.setup.Setup.{Setup}
use Rattle.onfi_core.specs.declared.setup.Choice.TheVariants.{InOrder}
use Rattle.onfi_core.specs.Dues.{IsDue}
use Rattle.onfi_core.specs.State.{HalfState, want_of, wants_from, item_at, quiet, request_of, device_for}
use Rattle.onfi_core.specs.Steps.{RunsOnChip, IsLostAt, none_left, unplanned}
use Rattle.onfi_core.specs.Kept.{ChipAgrees, IsHalf, IsTaken, IsSound, LunAgrees, commanding, unposted, on, is_of_place}
use Rattle.onfi_core.proofs.Numbered.{all_taken}
use Rattle.onfi_core.proofs.Members.{request_at}
use Rattle.onfi_core.proofs.Halves.{legal_left}
use Rattle.onfi_core.proofs.HeldFor.{is_nil}
use Rattle.onfi_core.proofs.Next.{is_wanted}
use Rattle.onfi_core.proofs.Promise.{one_each, places_apart}
use Rattle.onfi_core.proofs.Opening.{idle, none_running, same_element}
use Rattle.onfi_batch.specs.declared.course.Course.{Course}
use Rattle.onfi_lun.specs.declared.lanes.any_lun.AnyLun.{AnyLun}
use Rattle.onfi_lun.specs.declared.target.Target.{Target}
use Rattle.onfi_batch.specs.declared.fault.BatchFault.{BatchFault}
use Rattle.onfi_batch.specs.declared.fault.BatchFault.TheVariants as fault
use Rattle.onfi_batch.specs.Batch.{AfterBatchFault, IsBatchOf, EachReplied, HoldsItems, KeptSince, RestsOn}
use Rattle.onfi_batch.specs.Course.{AfterPhaseFault, GoesOn, IsDriven, IsInOrder, IsOnCourse, opening, state_of}
use Rattle.onfi_lun.specs.Lanes.{LanesAgree}
use Rattle.onfi_batch.proofs.Order.{order_kept, order_opens, sectors_told}
use Rattle.onfi_batch.proofs.Steps.{kept_by, kept_on, kept_same}

abbrev NothingRuns : List LunState → Type 0
NothingRuns luns = (lun : ℕ) (group : List Want) (next ready : ℕ) → slice_get luns lun ≢ Some (Running group next ready)

none_unposted : (xs : List LunState) → NothingRuns xs → flat_map unposted xs ≡ []
none_unposted [] h = refl
none_unposted (Free since ∷ xs) h = none_unposted xs (λ i g n r. h (suc i) g n r)
none_unposted (Running g n r ∷ xs) h = absurd (h 0 g n r refl)

none_commanding : (o : Option LunState) → ((g : List Want) (n r : ℕ) → o ≢ Some (Running g n r)) → commanding o ≡ []
none_commanding None h = refl
none_commanding (Some (Free since)) h = refl
none_commanding (Some (Running g n r)) h = absurd (h g n r refl)

-- nothing is left of what runs
no_rest_phases : (timing : Timing) (from : ℕ) (luns : List LunState) (rest : List (List ℕ)) → NothingRuns luns → rest_phases timing from luns rest ≡ []
no_rest_phases timing from [] rest h = refl
no_rest_phases timing from (state ∷ luns) [] h = refl
no_rest_phases timing from (Free since ∷ luns) (starts ∷ rest) h = no_rest_phases timing (from + 1) luns rest (λ j. h (suc j))
no_rest_phases timing from (Running g k r ∷ luns) (starts ∷ rest) h = absurd (h 0 g k r refl)

from_0 : (since : ℕ) (starts : List ℕ) → 0 ≡ since → StartsFrom since starts
from_0 since [] e = tt
from_0 since (t ∷ ts) e = omega (arith, e)

-- where nothing runs a schedule is legal for that many free LUNs too
module _ (p : Problem) (s : Schedule) (n : ℕ) (problem : IsProblem p) (legal : Legal p s) (nothing : NothingRuns p.luns)
    (below : All (λ (w : Want). w.lun < n) p.wants) where
  abbrev now : Problem
  now = record p { luns = replicate n (Free 0) }

  problem_fits : IsProblem now
  problem_fits = record {
    wants = problem.wants;
    in_range = subst (λ k. All (λ (w : Want). w.lun < k) p.wants) (sym (length-replicate n (Free 0))) below;
    ids = problem.ids;
    running = λ lun g k r at. absurd (none_running n lun g k r at);
  }

  same_phases : phases p s ≡ phases now (record { rest = replicate n []; groups = s.groups })
  same_phases =
      let none = no_rest_phases p.timing 0 p.luns s.rest nothing in
      let none' = no_rest_phases p.timing 0 (replicate n (Free 0)) (replicate n []) (none_running n) in
      ap (λ xs. xs ++ flat_map (group_phases p.timing) s.groups) (none ∙ sym none')

  legal_fits : Legal now (record { rest = replicate n []; groups = s.groups })
  legal_fits = record {
    shape = record {
      luns = length-replicate n [] ∙ sym (length-replicate n (Free 0));
      rest = λ lun group next ready starts at k. absurd (none_running n lun group next ready at);
      no_rest = λ lun since starts at k. sym (same_element n [] lun starts k);
      starts = legal.shape.starts;
      wants_only = legal.shape.wants_only;
      once = legal.shape.once;
    };
    from_bus_free = subst (All (λ (x : Phase). p.bus_free ≤ x.start)) same_phases legal.from_bus_free;
    no_overlap = subst (Pairs Apart) same_phases legal.no_overlap;
    rest_waits = λ lun group next ready starts at k. absurd (none_running n lun group next ready at);
    waits = legal.waits;
    running_first = All-each _ s.groups (λ g here group next ready starts at k. absurd (none_running n (lun_of g.members) group next ready at));
    turns = legal.turns;
    from_since = All-each _ s.groups (λ g here since at. from_0 since g.starts (let e = same_element n (Free 0) (lun_of g.members) (Free since) at in cc));
    block_order = legal.block_order;
    group = legal.group;
  }

-- the items' wants are in range
wants_below : (geometry : Geometry) (n : ℕ) (xs : List Item) → All (λ (x : Item). Fits geometry x.request) xs
    → All (λ (w : Want). w.lun < geometry.lun_count) (wants_from geometry n xs)
wants_below geometry n [] h = tt
wants_below geometry n (x ∷ xs) h = (h.0.lun, wants_below geometry (n + 1) xs h.1)

module _ (target : Target) (items : List Item) (p : Problem) (s : Schedule) (faults : List Fault) (failures : Failures) (chip : Chip)
    (timing : target.timing ≡ p.timing) (is : chip ≡ opened target.geometry p.timing faults failures) (batch : IsBatchOf target.geometry items p)
    (problem : IsProblem p) (few : length p.wants ≤ 8) (legal : Legal p s) where
  abbrev setup : Setup
  setup = record {
    geometry = target.geometry;
    timing = target.timing;
    rules = p.rules;
    channels = 1;
    hosts = 1;
    batch = 8;
    submit_cap = 1;
    post_cap = 1;
    limit = 1;
    choice = InOrder;
    mark = 256;
    some_channel = lit≤ tt;
    few_channels = lit≤ tt;
    some_host = lit≤ tt;
    few_hosts = lit≤ tt;
    some_batch = lit≤ tt;
    small_batch = lit≤ tt;
    some_room = lit≤ tt;
    little_room = lit≤ tt;
    some_posts = lit≤ tt;
    few_posts = lit≤ tt;
    some_node = lit≤ tt;
    few_nodes = lit≤ tt;
    stated = λ (byte : 256 < 256). absurd (omega (arith, byte));
  }

  abbrev count : ℕ
  count = target.geometry.lun_count

  abbrev first : HalfState
  first = opening count p s items

  below : All (λ (w : Want). w.lun < count) p.wants
  below = subst (All (λ (w : Want). w.lun < count)) (sym batch.wants) (wants_below target.geometry 0 items batch.fits)

  none_unplanned : unplanned setup first ≡ []
  none_unplanned = ap (wants_from target.geometry (length items)) (drop_all (length items) items (omega arith))

  sound : IsSound setup first
  sound = record {
    planned = omega arith;
    some_batch = omega arith;
    few_batch = omega arith;
    timing = sym timing;
    rules = refl;
    problem = problem_fits p s count problem legal batch.nothing_runs below;
    luns = length-replicate count (Free 0);
    way = record { choice = refl; few = few; legal = legal_fits p s count problem legal batch.nothing_runs below };
    in_range = batch.fits;
    wants = subst (All (IsTaken setup (length items) items)) (sym batch.wants) (all_taken setup items 0 [] items refl refl);
    running = λ lun g n r at. absurd (none_running count lun g n r at);
    once = λ place. (
        let d = ap (number (has_id place)) none_unplanned in
        let e = ap (number (has_id place)) (none_unposted (replicate count (Free 0)) (none_running count)) in
        let f = ap (number (has_id place)) batch.wants in
        omega (arith, d, e, f));
    last = tt;
  }

  agrees : ChipAgrees setup first chip
  agrees = record {
    geometry = ap (λ (c : Chip). c.geometry) is;
    timing = ap (λ (c : Chip). c.timing) is ∙ sym timing;
    blocks = λ lun block. record {
      ran = [];
      contents = let P : Chip → Type 0 = λ c. c.blocks lun block ≡ fresh (device_for setup c) in subst P (sym is) refl;
      order = (
          let e = none_commanding (slice_get (replicate count (Free 0)) lun) (λ g n r. none_running count lun g n r) in
          let f = batch.wants in
          let u = none_unplanned in
          rw (e, f, u) (sym (append-nil (on lun block (wants_from target.geometry 0 items)))));
    };
    luns = λ lun. subst (λ (ls : List Lun). LunAgrees (device_for setup chip) items (slice_get (replicate count (Free 0)) lun) (slice_get ls lun))
        (sym (ap (λ (c : Chip). c.luns) is)) (idle (device_for setup chip) items count lun);
  }

  pub opens : (started : Course) (lanes : List AnyLun) → state_of started ≡ first → ((other : Chip) → other.luns ≡ replicate count Idle → LanesAgree other lanes)
      → IsOnCourse target s items chip started lanes chip
  opens started lanes state agree = record {
    driven = record {
      setup = setup;
      geometry = refl;
      timing = refl;
      half = subst (IsHalf setup (device_for setup chip)) (sym state)
          (record { sound = sound; held = tt; posted = tt; made = λ host. record { faults = tt; each = tt; within = tt; rise = tt } });
      agrees = subst (λ h. ChipAgrees setup h chip) (sym state) agrees;
      lanes_agree = agree chip (ap (λ (c : Chip). c.luns) is);
    };
    items_are = ap (λ (h : HalfState). h.accepted) state;
    order = subst (IsInOrder s) (sym state) (order_opens s first refl (none_running count) refl);
    basis = subst (All _) (sym (ap (λ (h : HalfState). h.held) state)) tt;
    kept = kept_same chip chip refl;
  }

-- A phase keeps a batch on course

basis_behind : (h h' : HalfState) (chip chip' : Chip) (due : Due) (faults : List Fault) → chip.faults ≡ faults → GoesOn h chip due h' chip'
    → All (RestsOn h.accepted faults) h.held → All (RestsOn h.accepted faults) h'.held
basis_behind h h' chip chip' due faults same (replies, on, after) old =
    subst (All (RestsOn h.accepted faults)) (sym (ap (λ (x : HalfState). x.held) after)) (All-append (RestsOn h.accepted faults) h.held replies old (made on))
  where
    made : RunsOnChip h.accepted due.group due.phase due.start chip chip' replies → All (RestsOn h.accepted faults) replies
    made (inl (on, none)) = subst (All (RestsOn h.accepted faults)) (sym none) tt
    made (inr (member, answer, on, one)) = subst (All (RestsOn h.accepted faults)) (sym one) ((refl, same), tt)

pub course_kept : (target : Target) (schedule : Schedule) (items : List Item) (first : Chip) (started : Course) (lanes : List AnyLun) (chip : Chip)
    → IsOnCourse target schedule items first started lanes chip
    → (started' : Course) (lanes' : List AnyLun) (chip' : Chip) (due : Due) → IsDue (state_of started) due
    → GoesOn (state_of started) chip due (state_of started') chip' → IsDriven target started' lanes' chip'
    → IsOnCourse target schedule items first started' lanes' chip'
course_kept target schedule items first started lanes chip course started' lanes' chip' due is on driven =
    let h = state_of started in
    let same : started'.items.items ≡ started.items.items = ap (λ (x : HalfState). x.accepted) on.2 in
    record {
      driven = driven;
      items_are = same ∙ course.items_are;
      order = order_kept schedule course.driven.setup h (state_of started') chip chip' due course.driven.half.sound is on refl course.order;
      basis = (
          let old = subst (λ xs. All (RestsOn xs first.faults) started.replies.items) (sym course.items_are) course.basis in
          subst (λ xs. All (RestsOn xs first.faults) started'.replies.items) course.items_are
          (basis_behind h (state_of started') chip chip' due first.faults course.kept.faults on old));
      kept = kept_on first chip chip' course.kept (kept_by h (state_of started') chip chip' due on);
    }

-- A fault

-- counts of failures that rose at a phase rose since the batch opened
lost_since_bus : (first old new : Chip) → KeptSince first old → IsLost post_fault.Bus old new → IsLost post_fault.Bus first new
lost_since_bus first old new kept lost =
    let before = kept.failures.bus in
    let rose = lost.rose in
    record { faults = lost.faults ∙ kept.faults; rose = omega (arith, before, rose) }

lost_since_unready : (first old new : Chip) → KeptSince first old → IsLost post_fault.NotReady old new → IsLost post_fault.NotReady first new
lost_since_unready first old new kept lost =
    let before = kept.failures.unready in
    let rose = lost.rose in
    record { faults = lost.faults ∙ kept.faults; rose = omega (arith, before, rose) }

-- what a fault at the next phase leaves of the chip, it leaves since the batch opened
module _ (schedule : Schedule) (s : Setup) (h : HalfState) (sound : IsSound s h) (none : h.books ≡ None) (order : IsInOrder schedule h) (first old new : Chip) (kept : KeptSince first old) where
  bus_leaves : IsLostAt (quiet h old) post_fault.Bus new → AfterBatchFault schedule fault.Bus first new
  bus_leaves lost =
      elim lost.why [
        | inl rose ↦ inl (lost_since_bus first old new kept (record { faults = lost.faults; rose = rose }))
        | inr lacks ↦ (
            let (move, start, left, next, asks) = lacks.asked in
            inr (record { output = sectors_told schedule s h sound none order move start left next asks; kept = kept_on first old new kept (kept_same old new lacks.same) }))
      ]

  pub fault_since : (f : BatchFault) → AfterPhaseFault h f old new → AfterBatchFault schedule f first new
  fault_since fault.Bus lost = bus_leaves lost
  fault_since (fault.NotReady lun) lost = lost_since_unready first old new kept lost
  fault_since fault.Memory same = kept_on first old new kept same

-- The end

-- the requests of all wants of a block are those of its items
whole : (geometry : Geometry) (l b : ℕ) (all : List Item) (n : ℕ) (pre xs : List Item) → all ≡ pre ++ xs → n ≡ length pre
    → map (request_of all) (on l b (wants_from geometry n xs)) ≡ requests_on l b xs
whole geometry l b all n pre [] e f = refl
whole geometry l b all n pre (x ∷ xs) e f =
    let r = whole geometry l b all (n + 1) (pre ++ x ∷ []) xs (e ∙ sym (append_assoc pre (x ∷ []) xs)) (omega (arith, length-append pre (x ∷ []))) in
    let i : request_of all (want_of geometry n x) ≡ x.request = ap (λ (y : Item). y.request) (ap (item_at all) f ∙ request_at all pre x xs e) in
    elim (cases_Bool (is_on l b x.request)) [
      | inl k ↦ rw k (ap (λ rs. request_of all (want_of geometry n x) ∷ rs) r ∙ ap (λ q. q ∷ requests_on l b xs) i)
      | inr k ↦ rw k r
    ]

pub none_is : {A P : Type 0} (o : Option A) → IfNone o P → ((x : A) → o ≡ Some x → ⊥) → P
none_is None p h = p
none_is (Some x) p h = absurd (h x refl)

reply_there : (rs : List Reply) (i : ℕ) → 1 ≤ number (is_of_place i) rs → (r : Reply) × Has rs r × (r.place ≡ i)
reply_there [] i h = absurd (omega arith)
reply_there (r ∷ rs) i h =
    elim (cases_Bool (r.place == i)) [
      | inl k ↦ (r, inl refl, grind (arith, nat_tests))
      | inr k ↦ (let h' : 1 ≤ 0 + number (is_of_place i) rs = rw k at h in let q = reply_there rs i (omega arith) in (q.0, inr q.1, q.2))
    ]

module _ (target : Target) (items : List Item) (s : Schedule) (first chip : Chip) (started : Course) (lanes : List AnyLun)
    (course : IsOnCourse target s items first started lanes chip) where
  abbrev h : HalfState
  h = state_of started

  abbrev setup' : Setup
  setup' = course.driven.setup

  sound' : IsSound setup' h
  sound' = course.driven.half.sound

  none_unplanned' : unplanned setup' h ≡ []
  none_unplanned' = ap (wants_from setup'.geometry (length started.items.items)) (drop_all (length started.items.items) started.items.items (omega arith))

  device_is : device_for setup' chip ≡ device_of target.geometry first.faults
  device_is = ap (λ (g : Geometry). device_of g chip.faults) course.driven.geometry ∙ ap (device_of target.geometry) course.kept.faults

  pub ended_rightful : AreRightful (device_of target.geometry first.faults) items started.replies.items
  ended_rightful = record {
    once = places_apart started.replies.items (λ i. let a = sound'.once i in let b = one_each setup'.geometry 0 i started.items.items in omega arith);
    each = subst (λ xs. All (IsRightful (device_of target.geometry first.faults) xs) started.replies.items) course.items_are
        (subst (λ (d : Device). All (IsRightful d started.items.items) started.replies.items) device_is course.driven.half.held);
  }

  module _ (none : none_left h ≡ true) where
    done : IsDone h.now
    done = (done_law h.now h.left sound'.problem (legal_left setup' h sound' refl)).1 (is_nil (phases h.now h.left) none)

    pub ended_replied : EachReplied items started.replies.items
    ended_replied place item at =
        let wants = ap (number (has_id place)) done.wants in
        let posts = ap (number (has_id place)) (none_unposted h.now.luns done.free) in
        let later = ap (number (has_id place)) none_unplanned' in
        let a = sound'.once place in
        let at' : slice_get started.items.items place ≡ Some item = ap (λ xs. slice_get xs place) course.items_are ∙ at in
        let low = within_get started.items.items place item at' in
        let b = is_wanted setup'.geometry 0 place started.items.items (omega arith) (omega (arith, low)) in
        reply_there started.replies.items place (omega (arith, wants, posts, later, a, b))

    pub ended_blocks : HoldsItems (device_of target.geometry first.faults) items chip
    ended_blocks lun block =
        let all = started.items.items in
        let b = course.driven.agrees.blocks lun block in
        let c = none_commanding (slice_get h.now.luns lun) (λ g n r. done.free lun g n r) in
        let w = done.wants in
        let u = none_unplanned' in
        let ran : on lun block (wants_from setup'.geometry 0 all) ≡ b.ran ++ [] = rw (c, w, u) at b.order in
        let requests : map (request_of all) b.ran ≡ requests_on lun block items =
        ap (map (request_of all)) (sym (ran ∙ append-nil b.ran)) ∙ whole setup'.geometry lun block all 0 [] all refl refl
        ∙ ap (requests_on lun block) course.items_are in
        subst (λ (d : Device). chip.blocks lun block ≡ runs d (requests_on lun block items) (fresh d)) device_is
        (b.contents ∙ ap (λ rs. runs (device_for setup' chip) rs (fresh (device_for setup' chip))) requests)
