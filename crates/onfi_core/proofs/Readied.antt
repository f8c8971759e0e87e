-- A LUN that is found ready keeps what every reachable state keeps.
use Rattle.std.proofs.Common.{◌≡◌, ◌≢◌, ℕ, zero, suc, ◌-◌, ◌<◌, ◌^◌, inl, inr, Bool, true, false, List, [], ◌∷◌, ◌++◌, length, drop, Option, Some, None, refl, sym, ap, ◌∙◌, subst, arith}
use Rattle.std.specs.Prelude.{◌==◌, map, min, not, slice_get, slice_set}
use Rattle.std.specs.List.{AllByRecursion as All, flat_map}
use Rattle.std.proofs.lemmas.Bool.Decides.{nat_tests}
use Rattle.onfi_request.specs.declared.reply.Reply.{Reply}
use Rattle.onfi_request.specs.declared.want.Want.{Want}
use Rattle.onfi_group.specs.Words.{number}
use Rattle.onfi_problem.specs.declared.lun_state.LunState.{LunState}
use Rattle.onfi_problem.specs.declared.lun_state.LunState.TheVariants.{Free, Running}
use Rattle.onfi_problem.specs.Moves.{free_from}
use Rattle.onfi_problem.specs.Problem.{IsProblem, IsRunning, has_id}
use Rattle.onfi_problem.proofs.Places.{get_set_other, get_set_same, length_set, same_place}
use Rattle.onfi_flight.specs.Flight.{IsFlight, luns_ready_by}
use Rattle.onfi_flight.proofs.Stays.{ready_stays}
use Rattle.onfi_chip.specs.Chip.{Chip, Lun, found_ready}
use Rattle.onfi_chip.specs.Chip.Lun.{Posting}
use Rattle.onfi_chip.specs.declared.post.Post.{Post}
use Rattle.slab.specs.Slab.{Slab}
use Rattle.onfi_core.specs.declared.lent.Lent.{Lent}
use Rattle.onfi_core.specs.declared.setup.Setup.{Setup}
use Rattle.onfi_core.specs.declared.slot.Slot.{Slot}
use Rattle.onfi_steady.specs.Waiting.{Books}
use Rattle.onfi_core.specs.Kept.{ChipAgrees, GoesBy, IsInTime, IsReached, IsSound, IsTaken, LunAgrees, commanding, post_for, unposted}
use Rattle.onfi_core.specs.State.{ChannelState, HalfState, Way, device_for, flight_of, way_of, with_way}
use Rattle.onfi_core.specs.Steps.{is_in_array, outdated_by, readied}
use Rattle.onfi_core.specs.Ways.{way_ready}
use Rattle.onfi_core.specs.View.{AreFields}
use Rattle.onfi_core.proofs.Halves.{fields_but, same_replies, sound_but, sound_flight}
use Rattle.onfi_core.proofs.Lists.{each_set}

-- the LUN runs a group whose next phase is the first post
pub record InArray (state : Option LunState) : Type 0 where
  pub group : List Want
  pub next : ℕ
  pub ready : ℕ
  pub is : state ≡ Some (Running group next ready)
  pub behind : next ≡ length group

pub in_array : (lun : ℕ) (state : Option LunState) → not (is_in_array state) ≡ false → InArray state
in_array lun None h = cc
in_array lun (Some (Free since)) h = cc
in_array lun (Some (Running group next ready)) h =
    let e : (next == length group) ≡ true = not_false (next == length group) h in
    record { group = group; next = next; ready = ready; is = refl; behind = grind (arith, nat_tests) }
  where
    not_false : (b : Bool) → not b ≡ false → b ≡ true
    not_false true h = refl
    not_false false h = cc

set_posts : (luns : List LunState) (l : ℕ) (x y : LunState) → slice_get luns l ≡ Some x → unposted y ≡ unposted x → flat_map unposted (slice_set luns l y) ≡ flat_map unposted luns
set_posts [] l x y at e = refl
set_posts (z ∷ luns) zero x y at e = let same : z ≡ x = cc in let f : unposted y ≡ unposted z = e ∙ ap unposted (sym same) in ap (λ ws. ws ++ flat_map unposted luns) f
set_posts (z ∷ luns) (suc l) x y at e = ap (λ ws. unposted z ++ ws) (set_posts luns l x y at e)

module _ (s : Setup) (h : HalfState) (half : IsSound s h) (lun : ℕ) (works : InArray (slice_get h.now.luns lun)) where
  abbrev luns : List LunState
  luns = slice_set h.now.luns lun (Running works.group works.next (min works.ready h.now.bus_free))

  -- what it does then
  here : slice_get luns lun ≡ Some (Running works.group works.next (min works.ready h.now.bus_free))
  here = get_set_same h.now.luns lun (Running works.group works.next works.ready) (Running works.group works.next (min works.ready h.now.bus_free)) works.is

  other : (l : ℕ) → l ≢ lun → slice_get luns l ≡ slice_get h.now.luns l
  other l d = get_set_other h.now.luns lun l (Running works.group works.next (min works.ready h.now.bus_free)) d

  commanding_same : (l : ℕ) → commanding (slice_get luns l) ≡ commanding (slice_get h.now.luns l)
  commanding_same l =
      elim (same_place l lun) [
        | inl e ↦ (let a = here in let b = works.is in rw (e, a, b) refl)
        | inr d ↦ ap commanding (other l d)
      ]

  abbrev pub found : HalfState
  found = record h { now = record h.now { luns = slice_set h.now.luns lun (Running works.group works.next (min works.ready h.now.bus_free)) }; outdated = outdated_by h.books h.outdated h.now.bus_free works.ready }

  -- so it is the state that the definition says
  pub found_is : readied lun h ≡ found
  found_is = let a = works.is in rw a refl

  -- what runs then was taken
  abbrev MembersTaken : ℕ → LunState → Type 0
  MembersTaken l x = (group : List Want) (next ready : ℕ) → x ≡ Running group next ready → All (IsTaken s h.planned h.accepted) group

  running : (l : ℕ) (x : LunState) → slice_get luns l ≡ Some x → MembersTaken l x
  running = each_set MembersTaken h.now.luns lun (Running works.group works.next works.ready) (Running works.group works.next (min works.ready h.now.bus_free)) works.is
      (λ group next ready e. let q : works.group ≡ group = cc in subst (All (IsTaken s h.planned h.accepted)) q (half.running lun works.group works.next works.ready works.is))
      (λ l x d at group next ready e. half.running l group next ready (at ∙ ap Some e))

  -- what runs then is a group as before
  abbrev Runs : ℕ → LunState → Type 0
  Runs l x = (group : List Want) (next ready : ℕ) → x ≡ Running group next ready → IsRunning h.now.rules l group next

  runs : (l : ℕ) (x : LunState) → slice_get luns l ≡ Some x → Runs l x
  runs = each_set Runs h.now.luns lun (Running works.group works.next works.ready) (Running works.group works.next (min works.ready h.now.bus_free)) works.is
      (λ group next ready e. (
      let old = half.problem.running lun works.group works.next works.ready works.is in
      let g : works.group ≡ group = cc in
      let n : works.next ≡ next = cc in
      subst (IsRunning h.now.rules lun group) n (subst (λ (ws : List Want). IsRunning h.now.rules lun ws works.next) g old)))
      (λ l x d at group next ready e. half.problem.running l group next ready (at ∙ ap Some e))

  -- .. and is free in time
  luns_in_time : IsInTime h.now → (l : ℕ) → free_from (slice_get luns l) < 2 ^ 62
  luns_in_time t l = elim (same_place l lun) [
    | inl e ↦ (
        let a = here in
        let old = subst (λ (o : Option LunState). free_from o < 2 ^ 62) works.is (t.luns lun) in
        rw (e, a) (omega (arith, old)))
    | inr d ↦ subst (λ (o : Option LunState). free_from o < 2 ^ 62) (sym (other l d)) (t.luns l)
  ]

  way_found : (books : Option Books) → h.books ≡ books → GoesBy s books h.now h.left (record { planned = h.planned; accepted = length h.accepted; outdated = h.outdated; stopped = h.stopped })
      → GoesBy s books found.now h.left (record { planned = h.planned; accepted = length h.accepted; outdated = outdated_by books h.outdated h.now.bus_free works.ready; stopped = h.stopped })
  way_found None none way =
      let P : Option LunState → Type 0 = λ o. IsFlight (record { now = record h.now { luns = luns_ready_by h.now.bus_free lun o h.now.luns }; left = h.left }) in
      let stays = subst P works.is (ready_stays (flight_of h) lun h.now.bus_free (sound_flight s h half none)) in
      record { choice = way.choice; few = stays.few; legal = stays.legal }
  way_found (Some books) is way = record {
    choice = way.choice;
    waiting = way.waiting;
    rules = way.rules;
    all = way.all;
    current = way.current;
    in_time = λ going. (let t = way.in_time going in record { bus = t.bus; luns = luns_in_time t });
  }

  sound_found : IsSound s found
  sound_found =
      let size = length_set h.now.luns lun (Running works.group works.next (min works.ready h.now.bus_free)) in
      let many = sym size in
      let problem : IsProblem found.now = record {
        wants = half.problem.wants;
        in_range = rw size half.problem.in_range;
        ids = half.problem.ids;
        running = λ l group next ready at. runs l (Running group next ready) at group next ready refl;
      } in
      sound_but s h half found.now h.left h.books found.outdated h.held h.posted h.stopped refl refl size problem (way_found h.books refl half.way) half.wants
      (λ l group next ready at. running l (Running group next ready) at group next ready refl) (λ i.
      let e = ap (number (has_id i)) (set_posts h.now.luns lun (Running works.group works.next works.ready) (Running works.group works.next (min works.ready h.now.bus_free)) works.is refl) in
      let o = half.once i in
      omega (arith, e, o))

  pub sound_readied : IsSound s (readied lun h)
  sound_readied = subst (IsSound s) (sym found_is) sound_found

  module _ (chip : Chip) (agrees : ChipAgrees s h chip) where
    abbrev posts : List Post
    posts = map (post_for (device_for s chip) h.accepted) (drop (works.next - length works.group) works.group)

    -- the chip's LUN is in its posts
    in_posts : slice_get chip.luns lun ≡ Some (Posting (map (post_for (device_for s chip) h.accepted) (drop (works.next - length works.group) works.group)) works.ready)
    in_posts =
        let a : LunAgrees (device_for s chip) h.accepted (Some (Running works.group works.next works.ready)) (slice_get chip.luns lun) = subst (λ (x : Option LunState). LunAgrees (device_for s chip) h.accepted x (slice_get chip.luns lun)) works.is (agrees.luns lun) in
        let behind = works.behind in
        elim a [
          | inl c ↦ absurd (omega (arith, c.0, behind))
          | inr c ↦ c.1
        ]

    abbrev chip_luns : List Lun
    chip_luns = slice_set chip.luns lun (Posting (map (post_for (device_for s chip) h.accepted) (drop (works.next - length works.group) works.group)) (min works.ready h.now.bus_free))

    chip_is : found_ready chip lun h.now.bus_free ≡ (let c : Chip = record chip { luns = chip_luns } in c)
    chip_is = let a = in_posts in rw a refl

    agrees_found : ChipAgrees s found (record chip { luns = chip_luns })
    agrees_found = record {
      geometry = agrees.geometry;
      timing = agrees.timing;
      blocks = λ l b. (
          let old = agrees.blocks l b in
          let same = commanding_same l in
          record { ran = old.ran; contents = old.contents; order = rw same old.order });
      luns = λ l. elim (same_place l lun) [
        | inl e ↦ (
            let a = here in
            let b = get_set_same chip.luns lun (Posting posts works.ready) (Posting posts (min works.ready h.now.bus_free)) in_posts in
            let behind = works.behind in
            rw (e, a, b) (inr (omega (arith, behind), refl)))
        | inr d ↦ (
            let a = other l d in
            let b = get_set_other chip.luns lun l (Posting posts (min works.ready h.now.bus_free)) d in
            rw (a, b) (agrees.luns l))
      ];
    }

    pub agrees_readied : ChipAgrees s (readied lun h) (found_ready chip lun h.now.bus_free)
    agrees_readied =
        subst (λ (x : HalfState). ChipAgrees s x (found_ready chip lun h.now.bus_free)) (sym found_is)
        (subst (λ (c : Chip). ChipAgrees s found c) (sym chip_is) agrees_found)

pub ready_kept : (s : Setup) (c : ChannelState) (lun : ℕ) → IsReached s c → c.half.stopped ≡ None → InArray (slice_get c.half.now.luns lun)
    → IsReached s (record c { half = readied lun c.half; chip = found_ready c.chip lun c.half.now.bus_free })
ready_kept s c lun r going works = same_replies s c (readied lun c.half) (found_ready c.chip lun c.half.now.bus_free) r refl refl refl refl
    (sound_readied s c.half r.half.sound lun works) (λ _. agrees_readied s c.half r.half.sound lun works c.chip (r.chip going))

-- the fields of a half whose LUN is ready
pub fields_readied : (s : Setup) (slots : Slab Slot) (came : ℕ) (room : ℕ) (kept : List Reply) (at : Option Lent) (h : HalfState) (lent : Option Reply) (lun : ℕ) (way' : Way) (outdated : Bool)
    → AreFields s slots came room kept at h lent → InArray (slice_get h.now.luns lun) → way' ≡ way_ready lun h.now.bus_free (way_of h)
    → outdated ≡ outdated_by h.books h.outdated h.now.bus_free (free_from (slice_get h.now.luns lun))
    → AreFields s slots came room kept at (record (with_way h way') { outdated = outdated }) lent
fields_readied s slots came room kept at h lent lun way' outdated f works ef eo =
    rw (ef, eo) (fields_but s slots came room room kept kept at at h (readied lun h) lent lent f refl refl refl f.lending (sound_readied s h f.sound lun works))
