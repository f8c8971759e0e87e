-- The due phase may run on a chip that agrees with the half, and what ran is the phase.
use Rattle.std.proofs.Common.{◌≡◌, ◌≢◌, ℕ, zero, suc, ◌+◌, ◌-◌, ◌<◌, ◌≤◌, ◌⊎◌, inl, inr, true, false, List, [], ◌∷◌, length, Some, map, take, drop, refl, sym, ap, ◌∙◌, subst, arith}
use Rattle.std.specs.Prelude.{slice_get, nat_lt, ◌==◌, if◌then◌else◌, max}
use Rattle.std.specs.List.{AllByRecursion as All}
use Rattle.std.proofs.lemmas.Bool.{lt-ltb, le-ltb, eq-eqb, ne_eqb, cases_lt}
use Rattle.std.proofs.lemmas.List.Elements.{All-from_recursion}
use Rattle.onfi_addr.specs.declared.geometry.Geometry.{Geometry}
use Rattle.onfi_addr.specs.Rows.{IsInRange, row_of, plane_of_block}
use Rattle.onfi_timing.specs.declared.kind.Kind.{Kind}
use Rattle.onfi_timing.specs.declared.kind.Kind.TheVariants as kind
use Rattle.onfi_timing.specs.declared.operation.Operation.{Operation}
use Rattle.onfi_timing.specs.declared.operation.Operation.TheVariants as operation
use Rattle.onfi_timing.specs.Kinds.{operation_of, sectors_of}
use Rattle.onfi_request.specs.Parts.{has_part}
use Rattle.onfi_request.specs.Range.{Fits, IsPageFor}
use Rattle.onfi_request.specs.declared.request.Item.{Item}
use Rattle.onfi_request.specs.declared.request.Request.{Request}
use Rattle.onfi_request.specs.declared.want.Want.{Want}
use Rattle.onfi_group.specs.Group.{IsGroup, group_operation, lun_of, page_of}
use Rattle.onfi_group.specs.Words.{Has, Pairs}
use Rattle.onfi_problem.specs.Moves.{Move, Next, Start, IsMove, earliest}
use Rattle.onfi_problem.specs.declared.lun_state.LunState.TheVariants.{Running}
use Rattle.onfi_problem.proofs.Perm.{All-has}
use Rattle.onfi_chip.specs.declared.post.Post.{Post}
use Rattle.onfi_chip.specs.Calls.{HasDone, IsNextCommand, IsNextPost, MayJoin, MayTake, command_of}
use Rattle.onfi_chip.specs.Chip.{Chip, commanded, launched}
use Rattle.onfi_chip.specs.Chip.Lun.{Idle, Commanding, Posting}
use Rattle.onfi_chip.proofs.SimCalls.{in_range}
use Rattle.onfi_flight.specs.declared.due.Due.{Due}
use Rattle.onfi_lun.specs.declared.phase_result.PhaseResult.{PhaseResult}
use Rattle.onfi_lun.specs.declared.phase_result.PhaseResult.TheVariants as ran
use Rattle.onfi_core.specs.declared.setup.Setup.{Setup}
use Rattle.onfi_lun.specs.Drive.{MayRun, HasRun, IsStatus, closer_of}
use Rattle.onfi_flight.specs.Flight.{IsPhase, member_of, move_of}
use Rattle.onfi_core.specs.Dues.{IsDue, replies_of}
use Rattle.onfi_core.specs.Kept.{IsSound, IsTaken, ChipAgrees, LunAgrees, post_for}
use Rattle.onfi_core.specs.State.{HalfState, device_for, item_at, request_of}
use Rattle.onfi_core.specs.Steps.{AsksSectors, AsksStatus, RunsOnChip, Commands, Launches}
use Rattle.onfi_core.proofs.Stepping.{due_of}
use Rattle.onfi_core.proofs.Going.{going_start}
use Rattle.onfi_core.proofs.Lists.{drop_next, get_has, All-at}
use Rattle.onfi_core.proofs.Members.{item_of, place_lun, place_kind, place_page}

-- Where the LUN of the group is, as the phase starts: nothing was taken, or the commands before it, or what is after it waits to be posted
pub record Ready (s : Setup) (h : HalfState) (chip : Chip) (g : List Want) (n start : ℕ) : Type 0 where
  pub group : IsGroup h.now.rules g
  pub members : All (IsTaken s h.planned h.accepted) g
  pub command : n < length g
      → (slice_get chip.luns (lun_of g) ≡ Some Idle) ⊎ ((ready : ℕ) × (ready ≤ start) × (slice_get chip.luns (lun_of g) ≡ Some (Commanding (map (request_of h.accepted) (take n g)) ready)))
  pub post : length g ≤ n → (ready : ℕ) × (ready ≤ start) × (slice_get chip.luns (lun_of g) ≡ Some (Posting (map (post_for (device_for s chip) h.accepted) (drop (n - length g) g)) ready))

ready_next : (s : Setup) (h : HalfState) (chip : Chip) → IsSound s h → ChipAgrees s h chip → (l : ℕ) (g : List Want) (n ready start : ℕ) → slice_get h.now.luns l ≡ Some (Running g n ready) → earliest h.now (Next l) ≤ start → Ready s h chip g n start
ready_next s h chip sound agrees l g n ready start at time =
    let runs = sound.problem.running l g n ready at in
    let lun = runs.lun in
    let from : max h.now.bus_free ready ≤ start = rw at at time in
    let over : ready ≤ start = omega arith in
    let a : LunAgrees (device_for s chip) h.accepted (Some (Running g n ready)) (slice_get chip.luns l) = subst (λ o. LunAgrees (device_for s chip) h.accepted o (slice_get chip.luns l)) at (agrees.luns l) in
    record {
      group = runs.group;
      members = sound.running l g n ready at;
      command = λ lt. elim a [ inl x ↦ inr (ready, over, rw lun x.1) | inr x ↦ absurd (let y = x.0 in omega arith) ];
      post = λ le. elim a [ inl x ↦ absurd (let y = x.0 in omega arith) | inr x ↦ (ready, over, rw lun x.1) ];
    }

ready_start : (s : Setup) (h : HalfState) (chip : Chip) → IsSound s h → ChipAgrees s h chip → (g : List Want) (start : ℕ) → IsMove h.now (Start g) → Ready s h chip g 0 start
ready_start s h chip sound agrees g start (since, at, st) =
    let some = st.group.some in
    let a : slice_get chip.luns (lun_of g) ≡ Some Idle = subst (λ o. LunAgrees (device_for s chip) h.accepted o (slice_get chip.luns (lun_of g))) at (agrees.luns (lun_of g)) in
    record {
      group = st.group;
      members = (going_start s h sound g (since, at, st)).members;
      command = λ lt. inl a;
      post = λ le. absurd (omega arith);
    }

ready_by : (s : Setup) (h : HalfState) (chip : Chip) → IsSound s h → ChipAgrees s h chip → (move : Move) (start : ℕ) → IsMove h.now move → earliest h.now move ≤ start → (g : List Want) (n : ℕ) → IsPhase h.now move g n → Ready s h chip g n start
ready_by s h chip sound agrees (Next l) start m time g n (ready, at) = ready_next s h chip sound agrees l g n ready start at time
ready_by s h chip sound agrees (Start members) start m time g n (same, none) =
    let P : List Want → ℕ → Type 0 = λ x k. Ready s h chip x k start in
    subst (P g) (sym none) (subst (λ x. P x 0) same (ready_start s h chip sound agrees members start m))

pub ready_for : (s : Setup) (h : HalfState) (chip : Chip) (due : Due) → IsSound s h → ChipAgrees s h chip → IsDue h due → Ready s h chip due.group due.phase due.start
ready_for s h chip due sound agrees is =
    let d = due_of s h due sound is in
    ready_by s h chip sound agrees (move_of due) due.start d.is_move d.on_time due.group due.phase d.phase

-- The members of the group

module _ (s : Setup) (h : HalfState) (sound : IsSound s h) where
  abbrev Taken : Want → Type 0
  Taken w = IsTaken s h.planned h.accepted w

  pub fits_is : (w : Want) → Taken w → Fits s.geometry (request_of h.accepted w)
  fits_is w t = subst (λ (x : Item). Fits s.geometry x.request) (sym (item_of s h w t)) (All-at (λ (x : Item). Fits s.geometry x.request) h.accepted w.id t.item sound.in_range t.there)

  plane_is : (w : Want) → Taken w → plane_of_block s.geometry (request_of h.accepted w).place.block ≡ w.plane
  plane_is w t = ap (λ (x : Item). plane_of_block s.geometry x.request.place.block) (item_of s h w t) ∙ sym (ap (λ (v : Want). v.plane) t.is)

  erase_page : (w : Want) → Taken w → w.kind ≡ kind.Erase → w.page ≡ 0
  erase_page w t e =
      let page : IsPageFor s.geometry kind.Erase (request_of h.accepted w).place.page = subst (λ k. IsPageFor s.geometry k (request_of h.accepted w).place.page) (place_kind s h w t ∙ e) (fits_is w t).page in
      sym (place_page s h w t) ∙ (let first : (request_of h.accepted w).place.page ≡ 0 = omega (arith, page) in first)

  operation_cases : (o : Operation) (P : Type 0) → (o ≡ operation.Erase → P) → (o ≢ operation.Erase → P) → P
  operation_cases operation.Read P f other = other (λ e. cc)
  operation_cases operation.Program P f other = other (λ e. cc)
  operation_cases operation.Erase P f other = f refl

  is_erase : (k : Kind) → operation_of k ≡ operation.Erase → k ≡ kind.Erase
  is_erase kind.Read e = absurd cc
  is_erase (kind.ReadSectors first count) e = absurd cc
  is_erase kind.Program e = absurd cc
  is_erase kind.Erase e = refl

  module _ (g : List Want) (group : IsGroup h.now.rules g) (members : All Taken g) where
    operation_in : (w : Want) → Has g w → operation_of w.kind ≡ group_operation g
    operation_in w has = All-has (λ (v : Want). operation_of v.kind ≡ group_operation g) g w group.operation has

    -- members share their page
    same_page : (v m : Want) → Has g v → Has g m → v.page ≡ m.page
    same_page v m hv hm =
        operation_cases (group_operation g) (v.page ≡ m.page)
        (λ e. erase_page v (All-has Taken g v members hv) (is_erase v.kind (operation_in v hv ∙ e))
        ∙ sym (erase_page m (All-has Taken g m members hm) (is_erase m.kind (operation_in m hm ∙ e))))
        (λ n. All-has (λ (w : Want). w.page ≡ page_of g) g v (group.page n) hv ∙ sym (All-has (λ (w : Want). w.page ≡ page_of g) g m (group.page n) hm))

    may_join : (v m : Want) → Has g v → Has g m → v.plane < m.plane → MayJoin s.geometry (request_of h.accepted m) (request_of h.accepted v)
    may_join v m hv hm lower =
        let tv = All-has Taken g v members hv in
        let tm = All-has Taken g m members hm in
        let pv = plane_is v tv in
        let pm = plane_is m tm in (
          ap operation_of (place_kind s h v tv) ∙ operation_in v hv ∙ sym (operation_in m hm) ∙ ap operation_of (sym (place_kind s h m tm)),
          place_page s h v tv ∙ same_page v m hv hm ∙ sym (place_page s h m tm),
          omega (arith, pv, pm, lower),
        )

    -- those before a member join it
    pub all_join : (m : Want) → Has g m → (vs : List Want) → ((v : Want) → Has vs v → Has g v × (v.plane < m.plane)) → All (MayJoin s.geometry (request_of h.accepted m)) (map (request_of h.accepted) vs)
    all_join m hm [] k = tt
    all_join m hm (v ∷ vs) k = let q = k v (inl refl) in (may_join v m q.0 hm q.1, all_join m hm vs (λ w r. k w (inr r)))

pub below_next : (g : List Want) (n : ℕ) (m : Want) → Pairs (λ (a b : Want). a.plane < b.plane) g → slice_get g n ≡ Some m → (v : Want) → Has (take n g) v → Has g v × (v.plane < m.plane)
below_next [] n m p at v h = absurd (let e : slice_get [] n ≡ Some m = at in cc)
below_next (w ∷ g) zero m p at v h = absurd h
below_next (w ∷ g) (suc n) m p at v (inl e) = (inl e, let q = All-has (λ (b : Want). w.plane < b.plane) g m p.0 (get_has g n m at) in subst (λ (x : Want). x.plane < m.plane) e q)
below_next (w ∷ g) (suc n) m p at v (inr h) = let r = below_next g n m p.1 at v h in (inr r.0, r.1)

member_has : (g : List Want) (n : ℕ) (m : Want) → member_of g n ≡ Some m → Has g m
member_has g n m at = get_has g (if nat_lt n (length g) then n else n - length g) m at

module _ (s : Setup) (h : HalfState) (chip : Chip) (sound : IsSound s h) (agrees : ChipAgrees s h chip) (due : Due) (is : IsDue h due) (m : Want) (at : member_of due.group due.phase ≡ Some m) (item : Item) (item_is : item ≡ item_at h.accepted m.id) where
  abbrev g : List Want
  g = due.group

  ready : Ready s h chip due.group due.phase due.start
  ready = ready_for s h chip due sound agrees is

  has : Has due.group m
  has = member_has due.group due.phase m at

  taken : IsTaken s h.planned h.accepted m
  taken = All-has (IsTaken s h.planned h.accepted) due.group m ready.members has

  lun_is : (request_of h.accepted m).place.lun ≡ lun_of due.group
  lun_is = place_lun s h m taken ∙ All-has (λ (v : Want). v.lun ≡ lun_of due.group) due.group m ready.group.lun has

  abbrev request : Request
  request = request_of h.accepted m

  command_at : due.phase < length due.group → slice_get due.group due.phase ≡ Some m
  command_at lt = rw (lt-ltb due.phase (length due.group) lt) at at

  post_at : length due.group ≤ due.phase → slice_get due.group (due.phase - length due.group) ≡ Some m
  post_at le = rw (le-ltb due.phase (length due.group) le) at at

  may_take : due.phase < length due.group → MayTake s.geometry due.start (request_of h.accepted m) (slice_get chip.luns (lun_of due.group))
  may_take lt = elim (ready.command lt) [
    | inl idle ↦ subst (MayTake s.geometry due.start (request_of h.accepted m)) (sym idle) tt
    | inr c ↦ subst (MayTake s.geometry due.start (request_of h.accepted m)) (sym c.2) (
      c.1,
      All-from_recursion (MayJoin s.geometry (request_of h.accepted m)) (map (request_of h.accepted) (take due.phase due.group))
          (all_join s h sound due.group ready.group ready.members m has (take due.phase due.group) (below_next due.group due.phase m ready.group.planes (command_at lt))),
    )
  ]

  next_command : due.phase < length due.group → IsNextCommand chip due.start (row_of s.geometry request.place) request.kind request.bytes request
  next_command lt = record {
    carried = record {
      kind_is = refl;
      row_is = ap (λ (x : Geometry). row_of x request.place) agrees.geometry;
      bytes_are = refl;
      fits = subst (λ (x : Geometry). Fits x request) (sym agrees.geometry) (fits_is s h sound m taken);
    };
    may_take = subst (λ (x : Geometry). MayTake x due.start request (slice_get chip.luns request.place.lun)) (sym agrees.geometry) (subst (λ l. MayTake s.geometry due.start request (slice_get chip.luns l)) (sym lun_is) (may_take lt));
  }

  abbrev post : Post
  post = post_for (device_for s chip) h.accepted m

  abbrev left : List Post
  left = map (post_for (device_for s chip) h.accepted) (drop (due.phase - length due.group + 1) due.group)

  posting : (le : length due.group ≤ due.phase) → slice_get chip.luns (lun_of due.group) ≡ Some (Posting (post ∷ left) (ready.post le).0)
  posting le = (ready.post le).2 ∙ ap (λ ws. Some (Posting (map (post_for (device_for s chip) h.accepted) ws) (ready.post le).0)) (drop_next due.group (due.phase - length due.group) m (post_at le))

  next_post : length due.group ≤ due.phase → IsNextPost chip due.start (row_of s.geometry request.place) post left
  next_post le = record {
    ready = (ready.post le).0;
    there = subst (λ l. slice_get chip.luns l ≡ Some (Posting (post ∷ left) (ready.post le).0)) (sym lun_is) (posting le);
    over = (ready.post le).1;
    in_range = subst (λ (x : Geometry). IsInRange x post.place) (sym agrees.geometry) (in_range s.geometry request (fits_is s h sound m taken));
    part = subst (λ (x : Geometry). has_part x request.kind ≡ true) (sym agrees.geometry) (fits_is s h sound m taken).part;
    row_is = ap (λ (x : Geometry). row_of x request.place) agrees.geometry;
  }

  pub may_run : MayRun chip s.geometry due item
  may_run =
      let base : MayRun chip s.geometry due (item_at h.accepted m.id) = record { geometry_is = agrees.geometry; command = next_command; post = λ le. (post, left, next_post le, refl) } in
      subst (MayRun chip s.geometry due) (sym item_is) base

  ran_command : (chip' : Chip) → due.phase < length due.group → HasDone (command_of (closer_of due.group due.phase) chip request due.start) chip' → Commands h.accepted due.group due.phase due.start chip chip' ⊎ Launches h.accepted due.group due.phase due.start chip chip'
  ran_command chip' lt done = elim (cases_lt (due.phase + 1) (length due.group)) [
    | inl more ↦ (
        let other : (due.phase + 1 == length due.group) ≡ false = ne_eqb (due.phase + 1) (length due.group) (λ e. omega arith) in
        let done' : HasDone (commanded chip request due.start) chip' = rw other at done in
        inl (record { member = m; is = command_at lt; more = more; done = done' }))
    | inr ge ↦ (
        let last : due.phase + 1 ≡ length due.group = omega arith in
        let same : (due.phase + 1 == length due.group) ≡ true = eq-eqb (due.phase + 1) (length due.group) last in
        let done' : HasDone (launched chip request due.start) chip' = rw same at done in
        inr (record { member = m; is = command_at lt; last = last; done = done' }))
  ]

  ran_base : (chip' : Chip) (given : PhaseResult) → HasRun chip s.geometry due (item_at h.accepted m.id) given chip' → RunsOnChip h.accepted due.group due.phase due.start chip chip' (replies_of h.accepted chip.faults due given)
  ran_base chip' ran.Command (lt, done) = inl (ran_command chip' lt done, refl)
  ran_base chip' (ran.Post answer) (le, told) =
      let t = told post left (next_post le) in
      let here = post_at le in
      inr (
        m,
        answer,
        record { is = here; behind = le; post = post; others = left; since = (ready.post le).0; given = posting le; told = t.0; done = t.1 },
        rw here refl,
      )

  pub ran_on_chip : (chip' : Chip) (given : PhaseResult) → HasRun chip s.geometry due item given chip' → RunsOnChip h.accepted due.group due.phase due.start chip chip' (replies_of h.accepted chip.faults due given)
  ran_on_chip chip' given has_run = ran_base chip' given (subst (λ (x : Item). HasRun chip s.geometry due x given chip') item_is has_run)

  -- at the output of some sectors the move asks for them
  pub asks_sectors : length due.group ≤ due.phase → 1 ≤ sectors_of item.request.kind → AsksSectors h.now (move_of due)
  asks_sectors le some = record {
    group = due.group;
    phase = due.phase;
    is = (due_of s h due sound is).phase;
    behind = le;
    member = m;
    there = post_at le;
    sectors = subst (λ (k : Kind). 1 ≤ sectors_of k) (place_kind s h m taken) (subst (λ (x : Item). 1 ≤ sectors_of x.request.kind) item_is some);
  }

  -- at the post of a program or an erase the move asks for a status
  pub asks_status : IsStatus due item → AsksStatus h.now (move_of due)
  asks_status (le, other) = record {
    group = due.group;
    phase = due.phase;
    is = (due_of s h due sound is).phase;
    behind = le;
    member = m;
    there = post_at le;
    operation = λ e. other (ap (λ (x : Item). operation_of x.request.kind) item_is ∙ ap operation_of (place_kind s h m taken) ∙ e);
  }
