-- A planning keeps what every reachable state keeps.
use Rattle.std.proofs.Common.{◌≡◌, ℕ, ◌+◌, ◌-◌, ◌<◌, ◌≤◌, ◌⊎◌, inl, inr, true, false, List, ◌++◌, length, take, drop, Option, Some, None, refl, sym, ap, subst, ◌∙◌, append_assoc, length-drop, length-append, arith}
use Rattle.std.specs.Prelude.{slice_get, if◌then◌else◌, not, ◌%◌, ◌^◌}
use Rattle.std.specs.List.{AllByRecursion as All}
use Rattle.std.proofs.Math.Nat.{mod-lt}
use Rattle.std.proofs.Math.Seq.{take-nil}
use Rattle.std.proofs.lemmas.List.{drop-drop, drop_all, length-take, length-take-le, take-append-drop}
use Rattle.std.proofs.lemmas.List.Elements.{filter-append}
use Rattle.onfi_addr.specs.Rows.{plane_of_block}
use Rattle.onfi_timing.specs.declared.kind.Kind.{Kind}
use Rattle.onfi_timing.specs.declared.kind.Kind.TheVariants.{Read, ReadSectors, Program, Erase}
use Rattle.onfi_timing.specs.declared.timing.Timing.{Timing}
use Rattle.onfi_timing.specs.Kinds.{IsStated}
use Rattle.onfi_request.specs.Range.{Fits, IsPageFor}
use Rattle.onfi_request.specs.declared.request.Item.{Item}
use Rattle.onfi_request.specs.declared.want.Want.{Want}
use Rattle.onfi_group.specs.Words.{number}
use Rattle.onfi_problem.specs.Problem.{Problem, AreStated, HasLengths, IsLunStated, IsProblem, IsWant, has_id}
use Rattle.onfi_problem.proofs.Perm.{All-weaker, All-append}
use Rattle.onfi_chip.specs.Chip.{Chip}
use Rattle.onfi_problem.specs.declared.lun_state.LunState.{LunState}
use Rattle.onfi_problem.specs.declared.lun_state.LunState.TheVariants.{Free, Running}
use Rattle.onfi_problem.specs.Kept.{problem_of}
use Rattle.onfi_steady.specs.Waiting.{Books}
use Rattle.onfi_core.specs.Kept.{GoesBy, on, is_want_on, IsTaken, IsSound, ChipAgrees, IsReached, commanding}
use Rattle.onfi_core.specs.State.{HalfState, ChannelState, Planning, want_of, wants_from}
use Rattle.onfi_core.specs.Stated.{StatesParts}
use Rattle.onfi_core.specs.Steps.{is_current, is_empty, none_left, nothing_to_plan, unplanned, taken_next, next_problem, planned_by, Plans}
use Rattle.onfi_core.specs.declared.setup.Setup.{Setup}
use Rattle.onfi_core.proofs.Bus.{number-append}
use Rattle.onfi_core.proofs.Halves.{in_order, same_replies}
use Rattle.onfi_core.proofs.Lists.{All-at, All-drop, All-take, each_there}
use Rattle.onfi_core.proofs.Numbered.{All-wants, length_wants, split_at, taken_are, not_below, numbers_rise, Rising-append}

-- an item in range is a want of a problem
plane_small : (s : Setup) (block : ℕ) → plane_of_block s.geometry block ≤ 3
plane_small s block =
    let few = s.geometry.few_planes in
    let p = s.geometry.plane_address_bits in
    elim (few_cases p few) [
      | inl e ↦ (let h : block % 2 ^ 0 < 1 = mod-below block 1 (omega arith) in rw e (omega arith))
      | inr (inl e) ↦ (let h : block % 2 ^ 1 < 2 = mod-below block 2 (omega arith) in rw e (omega arith))
      | inr (inr e) ↦ (let h : block % 2 ^ 2 < 4 = mod-below block 4 (omega arith) in rw e (omega arith))
    ]
  where
    few_cases : (p : ℕ) → p ≤ 2 → (p ≡ 0) ⊎ ((p ≡ 1) ⊎ (p ≡ 2))
    few_cases p h = grind arith

    mod-below : (a b : ℕ) → 1 ≤ b → a % b < b
    mod-below a b h = mod-lt a h

erase_page : (s : Setup) (kind : Kind) (page : ℕ) → IsPageFor s.geometry kind page → kind ≡ Erase → page ≡ 0
erase_page s Read page h e = cc
erase_page s (ReadSectors first count) page h e = cc
erase_page s Program page h e = cc
erase_page s Erase page h e = omega (arith, h)

pub is_want : (s : Setup) (n : ℕ) (x : Item) → Fits s.geometry x.request → IsWant (want_of s.geometry n x)
is_want s n x f = record {
  plane = plane_small s x.request.place.block;
  erase = erase_page s x.request.kind x.request.place.page f.page;
}

-- the timing states the lengths of a want that was taken
module _ (s : Setup) (n : ℕ) (accepted : List Item) (in_range : All (λ (x : Item). Fits s.geometry x.request) accepted) where
  taken_is_stated : StatesParts s.geometry s.timing → (timing : Timing) → timing ≡ s.timing → (w : Want) → IsTaken s n accepted w → IsStated timing w.kind
  taken_is_stated stated timing same w t =
      let part = (All-at (λ (x : Item). Fits s.geometry x.request) accepted w.id t.item in_range t.there).part in
      subst (λ (v : Want). IsStated timing v.kind) (sym t.is) (subst (λ (k : Timing). IsStated k t.item.request.kind) (sym same) (stated t.item.request.kind part))

later_taken : (s : Setup) (accepted : List Item) (n m : ℕ) → n ≤ m → (w : Want) → IsTaken s n accepted w → IsTaken s m accepted w
later_taken s accepted n m low w t = let q = t.below in record { below = omega arith; item = t.item; there = t.there; is = t.is }

module _ (s : Setup) (h : HalfState) (half : IsSound s h) where
  abbrev room : ℕ
  room = h.batch - length h.now.wants

  abbrev items : List Item
  items = drop h.planned h.accepted

  pub next_wants : All (IsTaken s (h.planned + length (taken_next s h)) h.accepted) (h.now.wants ++ taken_next s h)
  next_wants = All-append (IsTaken s (h.planned + length (taken_next s h)) h.accepted) h.now.wants (taken_next s h)
      (All-weaker _ _ (later_taken s h.accepted h.planned (h.planned + length (taken_next s h)) (omega arith)) h.now.wants half.wants)
      (taken_are s h.accepted h.planned room (h.planned + length (taken_next s h)) (take h.planned h.accepted) items (sym (take-append-drop h.planned h.accepted)) (sym (length-take-le h.planned h.accepted half.planned)) refl)

  pub next_is_problem : IsProblem (next_problem s h)
  next_is_problem =
      let fit = All-drop (λ (x : Item). Fits s.geometry x.request) h.planned h.accepted half.in_range in
      let wants = All-wants s.geometry IsWant (λ (x : Item). Fits s.geometry x.request) (λ n x f. is_want s n x f) h.planned items fit in
      let below = All-wants s.geometry (λ (w : Want). w.lun < s.geometry.lun_count) (λ (x : Item). Fits s.geometry x.request) (λ n x f. f.lun) h.planned items fit in
      record {
        wants = All-append IsWant h.now.wants (taken_next s h) half.problem.wants (All-take IsWant room (wants_from s.geometry h.planned items) wants);
        running = half.problem.running;
        ids = Rising-append h.planned h.now.wants (taken_next s h) half.problem.ids (numbers_rise s.geometry h.planned room items) (All-weaker _ (λ (w : Want). w.id < h.planned) (λ w t. t.below) h.now.wants half.wants) (not_below s.geometry h.planned room h.planned items (omega arith));
        in_range = All-append _ h.now.wants (taken_next s h) half.problem.in_range (let e = half.luns in rw e (All-take (λ (w : Want). w.lun < s.geometry.lun_count) room (wants_from s.geometry h.planned items) below));
      }

  pub next_few : h.books ≡ None → length (h.now.wants ++ taken_next s h) ≤ 8
  next_few none =
      let a = length-append h.now.wants (taken_next s h) in
      let b = length-take room (unplanned s h) in
      let c = (in_order s h half none).few in
      let d = half.few_batch in
      omega arith

  -- what was not planned is what is taken now and what is left
  unplanned_splits : unplanned s h ≡ taken_next s h ++ wants_from s.geometry (h.planned + length (taken_next s h)) (drop (h.planned + length (taken_next s h)) h.accepted)
  unplanned_splits =
      split_at s.geometry h.planned room items
      ∙ ap (λ xs. taken_next s h ++ wants_from s.geometry (h.planned + length (taken_next s h)) xs) (drop-drop (length (taken_next s h)) h.planned h.accepted)

  pub few_taken : h.planned + length (taken_next s h) ≤ length h.accepted
  few_taken =
      let a = length-take room (wants_from s.geometry h.planned items) in
      let b = length_wants s.geometry h.planned items in
      let c = length-drop h.planned h.accepted in
      let d = half.planned in
      omega arith

  -- the timing states lengths for all that is planned
  pub has_lengths : StatesParts s.geometry s.timing → HasLengths (next_problem s h)
  has_lengths stated = record {
    wants = all_stated (h.planned + length (taken_next s h)) (h.now.wants ++ taken_next s h) next_wants;
    luns = each_there (IsLunStated h.now.timing) h.now.luns lun_stated;
  }
    where
      all_stated : (n : ℕ) (ws : List Want) → All (IsTaken s n h.accepted) ws → AreStated h.now.timing ws
      all_stated n ws t = All-weaker (IsTaken s n h.accepted) (λ (w : Want). IsStated h.now.timing w.kind) (taken_is_stated s n h.accepted half.in_range stated h.now.timing half.timing) ws t

      lun_stated : (i : ℕ) (state : LunState) → slice_get h.now.luns i ≡ Some state → IsLunStated h.now.timing state
      lun_stated i (Free since) at = tt
      lun_stated i (Running group next ready) at = all_stated h.planned group (half.running i group next ready at)

-- by its books all is taken
all_by_books : (s : Setup) (h : HalfState) (books : Option Books) → GoesBy s books h.now h.left (record { planned = h.planned; accepted = length h.accepted; outdated = h.outdated; stopped = h.stopped }) → (books ≡ None → ⊥) → is_empty (taken_next s h) ≡ true
all_by_books s h None way some = absurd (some refl)
all_by_books s h (Some books) way some =
    let none = drop_all h.planned h.accepted (let a = way.all in omega (arith, a)) in
    ap (λ xs. is_empty (take (h.batch - length h.now.wants) (wants_from s.geometry h.planned xs))) none ∙ ap is_empty (take-nil (h.batch - length h.now.wants))

pub none_by_books : (s : Setup) (h : HalfState) → IsSound s h → (h.books ≡ None → ⊥) → not (is_empty (taken_next s h)) ≡ false
none_by_books s h half some = ap not (all_by_books s h h.books half.way some)

-- where something is to be planned it plans
pub plans_where : (s : Setup) (h : HalfState) → IsSound s h → nothing_to_plan s h ≡ false → h.books ≡ None
plans_where s h half some = by h.books refl half.way
  where
    by : (books : Option Books) → h.books ≡ books → GoesBy s books h.now h.left (record { planned = h.planned; accepted = length h.accepted; outdated = h.outdated; stopped = h.stopped }) → h.books ≡ None
    by None e way = e
    by (Some books) e way =
        let taken = all_by_books s h (Some books) way (λ q. cc) in
        let over : nothing_to_plan s h ≡ true = ap (λ b. if b then is_current h else false) taken ∙ ap (λ b. if b then none_left h else true) way.current in
        absurd (let q : true ≡ false = sym over ∙ some in cc)

module _ (s : Setup) (h : HalfState) (half : IsSound s h) (none : h.books ≡ None) (plan : Planning) (plans : Plans s h plan) where
  luns_same : plan.problem.luns ≡ h.now.luns
  luns_same = ap (λ (p : Problem). p.luns) plans.problem

  wants_are : plan.problem.wants ≡ h.now.wants ++ taken_next s h
  wants_are = ap (λ (p : Problem). p.wants) plans.problem

  pub sound_planned : IsSound s (planned_by s h plan)
  sound_planned = record {
    planned = few_taken s h half;
    some_batch = half.some_batch;
    few_batch = half.few_batch;
    timing = ap (λ (p : Problem). p.timing) plans.problem ∙ half.timing;
    rules = ap (λ (p : Problem). p.rules) plans.problem ∙ half.rules;
    problem = subst IsProblem (sym plans.problem) (next_is_problem s h half);
    luns = ap length luns_same ∙ half.luns;
    way = subst (λ b. GoesBy s b plan.problem plan.schedule (record { planned = h.planned + length (taken_next s h); accepted = length h.accepted; outdated = false; stopped = h.stopped })) (sym none)
        (record { choice = (in_order s h half none).choice; few = rw wants_are (next_few s h half none); legal = plans.planned.legal });
    in_range = half.in_range;
    wants = rw wants_are (next_wants s h half);
    running = λ lun group next ready at. All-weaker _ _ (later_taken s h.accepted h.planned (h.planned + length (taken_next s h)) (omega arith)) group (half.running lun group next ready (ap (λ ls. slice_get ls lun) (sym luns_same) ∙ at));
    once = λ i. (
        let a = half.once i in
        let b = ap (number (has_id i)) (unplanned_splits s h half) ∙ number-append (has_id i) (taken_next s h) (unplanned s (planned_by s h plan)) in
        let d = number-append (has_id i) h.now.wants (taken_next s h) in
        rw (wants_are, luns_same) (omega arith));
    last = plans.planned;
  }

  pub chip_planned : (chip : Chip) → ChipAgrees s h chip → ChipAgrees s (planned_by s h plan) chip
  chip_planned chip agrees = record {
    geometry = agrees.geometry;
    timing = agrees.timing;
    blocks = λ l b. (
        let old = agrees.blocks l b in
        let C = on l b (commanding (slice_get h.now.luns l)) in
        let a = filter-append (is_want_on l b) h.now.wants (taken_next s h) in
        let c = ap (on l b) (unplanned_splits s h half) ∙ filter-append (is_want_on l b) (taken_next s h) (unplanned s (planned_by s h plan)) in
        let order = ap (λ zs. on l b h.now.wants ++ zs) c ∙ sym (append_assoc (on l b h.now.wants) (on l b (taken_next s h)) (on l b (unplanned s (planned_by s h plan)))) ∙ ap (λ zs. zs ++ on l b (unplanned s (planned_by s h plan))) (sym a) in
        record {
          ran = old.ran;
          contents = old.contents;
          order = rw (luns_same, wants_are) (old.order ∙ ap (λ zs. old.ran ++ (C ++ zs)) order);
        });
    luns = λ lun. (let e = luns_same in rw e (agrees.luns lun));
  }

pub plan_kept : (s : Setup) (c : ChannelState) (plan : Planning) → nothing_to_plan s c.half ≡ false → IsReached s c → Plans s c.half plan → IsReached s (record c { half = planned_by s c.half plan })
plan_kept s c plan some reached plans =
    let none = plans_where s c.half reached.half.sound some in
    same_replies s c (planned_by s c.half plan) c.chip reached refl refl refl refl
    (sound_planned s c.half reached.half.sound none plan plans) (λ going. chip_planned s c.half reached.half.sound none plan plans c.chip (reached.chip going))

-- the problem of these parts is what a planning takes
pub parts_are : (s : Setup) (h : HalfState) → IsSound s h → (bus : ℕ) (luns : List LunState) (wants : List Want) → bus ≡ h.now.bus_free → luns ≡ h.now.luns → wants ≡ h.now.wants ++ taken_next s h → problem_of s.timing s.rules bus luns wants ≡ next_problem s h
parts_are s h sound bus luns wants b l w =
    let t = sym sound.timing in
    let r = sym sound.rules in
    ap (λ x. problem_of x s.rules bus luns wants) t ∙ ap (λ x. problem_of h.now.timing x bus luns wants) r ∙ ap (λ x. problem_of h.now.timing h.now.rules x luns wants) b ∙ ap (λ x. problem_of h.now.timing h.now.rules h.now.bus_free x wants) l ∙ ap (problem_of h.now.timing h.now.rules h.now.bus_free h.now.luns) w
