-- The channels of a core from event to event.
use Rattle.std.proofs.Common.{◌≡◌, ℕ, ◌<◌, ◌≤◌, inr, true, false, List, [], ◌∷◌, ◌++◌, length, Some, map, refl, sym, ap, ◌∙◌, subst, append_assoc, append-nil, arith}
use Rattle.std.proofs.lemmas.Bool.{false≢true}
use Rattle.std.proofs.lemmas.List.{length-map, map-append}
use Rattle.std.specs.Prelude.{Bool, Option, None, IfSome, IsTrue, slice_get, slice_set}
use Rattle.std.specs.List.{AllByRecursion as All}
use Rattle.onfi_problem.proofs.Lists.{map_get, map_set}
use Rattle.onfi_problem.proofs.Places.{length_set}
use Rattle.onfi_problem.proofs.Perm.{All-append, All-weaker}
use Rattle.onfi_core.specs.declared.event.Event.{Event}
use Rattle.onfi_core.specs.declared.outcome.Outcome.{Outcome}
use Rattle.onfi_core.specs.declared.setup.Setup.{Setup}
use Rattle.onfi_core.specs.Core.{CoreRun, CoreStep, Did, IsReachedWith, channel_of, with_batch}
use Rattle.onfi_core.specs.Core.Doing.{SetsBatch}
use Rattle.onfi_chip.specs.Chip.{Chip}
use Rattle.onfi_core.specs.Queues.{ChannelView, AreChannels, AreOpened, opened_with, state_in}
use Rattle.onfi_core.specs.State.{ChannelState, Planning}
use Rattle.onfi_plan.specs.declared.plan.Certificate.{Certificate}
use Rattle.onfi_core.specs.Kept.{IsReached}
use Rattle.onfi_core.specs.Steps.{IsBest, IsPromised, PlansSuch, Step}
use Rattle.onfi_core.proofs.Channels.{All-set}
use Rattle.onfi_core.proofs.Lists.{head_same, tail_same, All-at, All-map}
use Rattle.onfi_core.proofs.Reaching.{events_reach, opened_reaches, step_reaches}
use Rattle.onfi_core.specs.Reaching.{Reaches}

module _ {C : Type 0} (state : C → Chip) (Such : Planning → Type 0) where
  abbrev states : List (ChannelView C) → List ChannelState
  states views = map (state_in state) views

  -- an event changes its channel
  pub channel_steps : (s : Setup) (views : List (ChannelView C)) (e : Event) (o : Outcome) (at : ℕ) (v v' : ChannelView C) → at ≡ channel_of e → slice_get views at ≡ Some v → v.0.setup ≡ s → Step v.0.setup (state_in state v) e o (state_in state v') → PlansSuch Such o (state_in state v') → CoreStep Such s (states views) e o (states (slice_set views at v'))
  channel_steps s views e o at v v' is there same step such =
      let there' : slice_get views (channel_of e) ≡ Some v = subst (λ i. slice_get views i ≡ Some v) is there in
      inr (
        state_in state v,
        state_in state v',
        map_get (state_in state) views (channel_of e) v there',
        subst (λ (x : Setup). Step x (state_in state v) e o (state_in state v')) same step,
        such,
        ap (λ i. states (slice_set views i v')) is ∙ map_set (state_in state) views (channel_of e) v',
      )

  -- the channels stay those of the setup, and events reach them
  pub channels_kept : (s : Setup) (views : List (ChannelView C)) (at : ℕ) (v v' : ChannelView C) → AreChannels state Such s views → slice_get views at ≡ Some v → v'.0.setup ≡ v.0.setup → Reaches Such s (state_in state v') → AreChannels state Such s (slice_set views at v')
  channels_kept s views at v v' a there same reached = record {
    count = length_set views at v' ∙ a.count;
    each = All-set (λ (x : ChannelView C). (x.0.setup ≡ s) × Reaches Such s (state_in state x)) views at v' a.each (same ∙ (All-at (λ (x : ChannelView C). (x.0.setup ≡ s) × Reaches Such s (state_in state x)) views at v a.each there).0, reached);
  }

  pub setup_at : (s : Setup) (views : List (ChannelView C)) (at : ℕ) (v : ChannelView C) → AreChannels state Such s views → slice_get views at ≡ Some v → v.0.setup ≡ s
  setup_at s views at v a there = (All-at (λ (x : ChannelView C). (x.0.setup ≡ s) × Reaches Such s (state_in state x)) views at v a.each there).0

  pub reached_at : (s : Setup) (views : List (ChannelView C)) (at : ℕ) (v : ChannelView C) → AreChannels state Such s views → slice_get views at ≡ Some v → Reaches Such s (state_in state v)
  reached_at s views at v a there = (All-at (λ (x : ChannelView C). (x.0.setup ≡ s) × Reaches Such s (state_in state x)) views at v a.each there).1

  pub reached_behind : (s : Setup) (views : List (ChannelView C)) (at : ℕ) (v v' : ChannelView C) (e : Event) (o : Outcome) → AreChannels state Such s views → slice_get views at ≡ Some v → Step v.0.setup (state_in state v) e o (state_in state v') → PlansSuch Such o (state_in state v') → Reaches Such s (state_in state v')
  reached_behind s views at v v' e o a there step such =
      step_reaches Such s (state_in state v) e o (state_in state v') (reached_at s views at v a there) (subst (λ (x : Setup). Step x (state_in state v) e o (state_in state v')) (setup_at s views at v a there) step) such

  -- the last plan of a channel is such
  pub last_at : (s : Setup) (views : List (ChannelView C)) (at : ℕ) (v : ChannelView C) → AreChannels state Such s views → slice_get views at ≡ Some v → IfSome v.0.half.last Such
  last_at s views at v a there = (events_reach Such s (state_in state v) (reached_at s views at v a there)).1

  -- the batch of a channel is set
  pub batch_set : (s : Setup) (views : List (ChannelView C)) (at batch : ℕ) (v v' : ChannelView C) → 1 ≤ batch → batch ≤ 8 → slice_get views at ≡ Some v → state_in state v' ≡ with_batch batch (state_in state v) → Did Such s (states views) (SetsBatch at batch) (states (slice_set views at v'))
  batch_set s views at batch v v' some few there is =
      (some, few, state_in state v, map_get (state_in state) views at v there, map_set (state_in state) views at v' ∙ ap (slice_set (states views) at) is)

-- so far these events happened, and those are left
pub record Halfway (Such : Planning → Type 0) (s : Setup) (cs : List ChannelState) (events left : List Event) (outcomes : List Outcome) (now : List ChannelState) : Type 0 where
  pub done : List Event
  pub parts : events ≡ done ++ left
  pub run : CoreRun Such s cs done outcomes now

-- one event more
module _ (Such : Planning → Type 0) where
  pub run_more : (s : Setup) (cs : List ChannelState) (es : List Event) (os : List Outcome) (mid cs' : List ChannelState) (e : Event) (o : Outcome) → CoreRun Such s cs es os mid → CoreStep Such s mid e o cs' → CoreRun Such s cs (es ++ e ∷ []) (os ++ o ∷ []) cs'
  run_more s cs [] [] mid cs' e o run step = (cs', subst (λ (x : List ChannelState). CoreStep Such s x e o cs') run step, refl)
  run_more s cs [] (p ∷ os) mid cs' e o run step = absurd run
  run_more s cs (d ∷ es) [] mid cs' e o run step = absurd run
  run_more s cs (d ∷ es) (p ∷ os) mid cs' e o (first, one, rest) step = (first, one, run_more s first es os mid cs' e o rest step)

  pub halfway_more : (s : Setup) (cs : List ChannelState) (events left left' : List Event) (outcomes : List Outcome) (mid now : List ChannelState) (e : Event) (o : Outcome) → Halfway Such s cs events left outcomes mid → left ≡ e ∷ left' → CoreStep Such s mid e o now → Halfway Such s cs events left' (outcomes ++ o ∷ []) now
  halfway_more s cs events left left' outcomes mid now e o h is step = record {
    done = h.done ++ e ∷ [];
    parts = h.parts ∙ ap (λ es. h.done ++ es) is ∙ sym (append_assoc h.done (e ∷ []) left');
    run = run_more s cs h.done outcomes mid now e o h.run step;
  }

pub all_reached : {C : Type 0} (state : C → Chip) (Such : Planning → Type 0) (s : Setup) (views : List (ChannelView C)) → AreChannels state Such s views → All (Reaches Such s) (map (state_in state) views)
all_reached {C} state Such s views a = All-map (Reaches Such s) (state_in state) views (All-weaker (λ (v : ChannelView C). (v.0.setup ≡ s) × Reaches Such s (state_in state v)) (λ (v : ChannelView C). Reaches Such s (state_in state v)) (λ v h. h.1) views a.each)

pub all_kept_by_events : (Such : Planning → Type 0) (s : Setup) (cs : List ChannelState) → All (Reaches Such s) cs → All (IsReachedWith Such s) cs
all_kept_by_events Such s cs h = All-weaker (Reaches Such s) (IsReachedWith Such s) (λ c r. events_reach Such s c r) cs h

-- so far those chips have their channels, and these are left
pub record OpenedSoFar {C : Type 0} (state : C → Chip) (s : Setup) (chips left : List C) (views : List (ChannelView C)) : Type 0 where
  pub done : List C
  pub parts : chips ≡ done ++ left
  pub are : AreOpened state s done views

-- one chip more
pub opened_more : {C : Type 0} (state : C → Chip) (s : Setup) (chips left left' : List C) (views : List (ChannelView C)) (chip : C) (v : ChannelView C) → OpenedSoFar state s chips left views → left ≡ chip ∷ left' → v.0.setup ≡ s → state_in state v ≡ opened_with s (state chip) → OpenedSoFar state s chips left' (views ++ v ∷ [])
opened_more {C} state s chips left left' views chip v h is setup same = record {
  done = h.done ++ chip ∷ [];
  parts = h.parts ∙ ap (λ cs. h.done ++ cs) is ∙ sym (append_assoc h.done (chip ∷ []) left');
  are = record {
    setups = All-append (λ (x : ChannelView C). x.0.setup ≡ s) views (v ∷ []) h.are.setups (setup, tt);
    states = map-append (state_in state) views (v ∷ []) ∙ ap (λ cs. map (state_in state) views ++ cs ∷ []) same ∙ ap (λ cs. cs ++ opened_with s (state chip) ∷ []) h.are.states ∙ sym (map-append (λ x. opened_with s (state x)) h.done (chip ∷ []));
  };
}

pub opened_all : {C : Type 0} (state : C → Chip) (s : Setup) (chips left : List C) (views : List (ChannelView C)) → OpenedSoFar state s chips left views → left ≡ [] → AreOpened state s chips views
opened_all {C} state s chips left views h none = let P : List C → Type 0 = λ cs. AreOpened state s cs views in subst P (sym (h.parts ∙ ap (λ cs. h.done ++ cs) none ∙ append-nil h.done)) h.are

paired : {A B D : Type 0} (f : A → D) (k : B → D) (P : D → Type 0) → ((b : B) → P (k b)) → (xs : List A) (ys : List B) → map f xs ≡ map k ys → All (λ x. P (f x)) xs
paired f k P h [] ys e = tt
paired f k P h (x ∷ xs) [] e = cc
paired f k P h (x ∷ xs) (y ∷ ys) e = (subst P (sym (head_same (f x) (k y) (map f xs) (map k ys) e)) (h y), paired f k P h xs ys (tail_same (f x) (k y) (map f xs) (map k ys) e))

All-both : {A : Type 0} (P Q : A → Type 0) (xs : List A) → All P xs → All Q xs → All (λ x. P x × Q x) xs
All-both P Q [] p q = tt
All-both P Q (x ∷ xs) p q = ((p.0, q.0), All-both P Q xs p.1 q.1)

same_length : {A B D : Type 0} (f : A → D) (k : B → D) (xs : List A) (ys : List B) → map f xs ≡ map k ys → length xs ≡ length ys
same_length f k xs ys e = sym (length-map xs f) ∙ ap length e ∙ length-map ys k

opened_reached : (Such : Planning → Type 0) (s : Setup) (chip : Chip) → Reaches Such s (opened_with s chip)
opened_reached Such s chip = opened_reaches Such s (opened_with s chip) (chip.faults, chip.failures, refl)

pub channels_opened : {C : Type 0} (state : C → Chip) (Such : Planning → Type 0) (s : Setup) (chips : List C) (views : List (ChannelView C)) → AreOpened state s chips views → length chips ≡ s.channels → AreChannels state Such s views
channels_opened {C} state Such s chips views a count = record {
  count = same_length (state_in state) (λ x. opened_with s (state x)) views chips a.states ∙ count;
  each = All-both (λ (v : ChannelView C). v.0.setup ≡ s) (λ (v : ChannelView C). Reaches Such s (state_in state v)) views a.setups (paired (state_in state) (λ x. opened_with s (state x)) (Reaches Such s) (λ x. opened_reached Such s (state x)) views chips a.states);
}

pub none_left : {A : Type 0} (n : ℕ) (xs : List A) → (0 < n → false ≡ true) → n ≡ length xs → xs ≡ []
none_left n [] h e = refl
none_left n (x ∷ xs) h e = absurd (false≢true (h (omega arith)))

-- what is so of each channel that events reach
pub all_those : (Such : Planning → Type 0) (s : Setup) (cs : List ChannelState) → All (IsReachedWith Such s) cs → All (IsReached s) cs
all_those Such s cs h = All-weaker (IsReachedWith Such s) (IsReached s) (λ c r. r.0) cs h

pub all_such : (Such : Planning → Type 0) (s : Setup) (cs : List ChannelState) → All (IsReachedWith Such s) cs → All (λ c. IfSome c.half.last Such) cs
all_such Such s cs h = All-weaker (IsReachedWith Such s) (λ c. IfSome c.half.last Such) (λ c r. r.1) cs h

-- the last plan of an exact planner is the best
pub best_of : (exact : Bool) (certifies : Certificate → Type 0) (last : Option Planning) → IsTrue exact → IfSome last (IsPromised exact certifies) → IfSome last IsBest
best_of exact certifies None is promised = tt
best_of exact certifies (Some plan) is promised = promised.best is

-- where the planner is exact, each last plan is the best
pub all_best : (exact : Bool) (certifies : Certificate → Type 0) (s : Setup) (cs : List ChannelState) → IsTrue exact → All (IsReachedWith (IsPromised exact certifies) s) cs → All (λ c. IfSome c.half.last IsBest) cs
all_best exact certifies s cs is h = All-weaker (IsReachedWith (IsPromised exact certifies) s) (λ c. IfSome c.half.last IsBest) (λ c r. best_of exact certifies c.half.last is r.1) cs h
