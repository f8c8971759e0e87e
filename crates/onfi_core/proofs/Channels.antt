-- Each channel of a core keeps the promise.
use Rattle.std.proofs.Common.{ℕ, zero, suc, ◌≤◌, inl, inr, List, [], ◌∷◌, refl, sym, subst}
use Rattle.std.specs.Prelude.{slice_set}
use Rattle.std.specs.List.{AllByRecursion as All}
use Rattle.onfi_problem.proofs.Perm.{All-weaker}
use Rattle.std.specs.Prelude.{Bool}
use Rattle.onfi_plan.specs.declared.plan.Certificate.{Certificate}
use Rattle.onfi_core.specs.Core.{Headline, RunKeeps, CoreRun, CoreStep, Doing, Did, DidAll, IsOpened, IsReachedWith, with_batch, channel_of}
use Rattle.onfi_core.specs.Core.Doing.{Happens, SetsBatch}
use Rattle.onfi_core.specs.Kept.{IsSound, IsReached, KeepsPromise}
use Rattle.onfi_core.specs.State.{HalfState, ChannelState, Planning}
use Rattle.onfi_core.specs.Steps.{IsPromised, PlansSuch, Step}
use Rattle.onfi_core.specs.declared.event.Event.{Event}
use Rattle.onfi_core.specs.declared.outcome.Outcome.{Outcome}
use Rattle.onfi_core.specs.declared.setup.Setup.{Setup}
use Rattle.onfi_core.proofs.Halves.{same_replies}
use Rattle.onfi_core.proofs.Opening.{opened}
use Rattle.onfi_core.proofs.Promise.{promise}
use Rattle.onfi_core.proofs.Promised.{step_last}
use Rattle.onfi_core.proofs.Reach.{step_kept}
use Rattle.onfi_core.proofs.Lists.{All-at}

pub All-set : {A : Type 0} (P : A → Type 0) (xs : List A) (i : ℕ) (x : A) → All P xs → P x → All P (slice_set xs i x)
All-set P [] i x h p = tt
All-set P (y ∷ xs) zero x h p = (p, h.1)
All-set P (y ∷ xs) (suc i) x h p = (h.0, All-set P xs i x h.1 p)

pub sound_batch : (s : Setup) (batch : ℕ) (h : HalfState) → 1 ≤ batch → batch ≤ 8 → IsSound s h → IsSound s (record h { batch = batch })
sound_batch s batch h some few r = record { planned = r.planned; some_batch = some; few_batch = few; timing = r.timing; rules = r.rules; problem = r.problem; luns = r.luns; way = r.way; in_range = r.in_range; wants = r.wants; running = r.running; once = r.once; last = r.last }

pub batch_kept : (s : Setup) (batch : ℕ) (c : ChannelState) → 1 ≤ batch → batch ≤ 8 → IsReached s c → IsReached s (with_batch batch c)
batch_kept s batch c some few r = same_replies s c (record c.half { batch = batch }) c.chip r refl refl refl refl (sound_batch s batch c.half some few r.half.sound)
    (λ going. (let g = r.chip going in record { geometry = g.geometry; timing = g.timing; blocks = λ l b. (let o = g.blocks l b in record { ran = o.ran; contents = o.contents; order = o.order }); luns = g.luns }))

module _ (Such : Planning → Type 0) where
  -- a channel with another batch is reached too, and its last plan is the same
  pub batch_with : (s : Setup) (batch : ℕ) (c : ChannelState) → 1 ≤ batch → batch ≤ 8 → IsReachedWith Such s c → IsReachedWith Such s (with_batch batch c)
  batch_with s batch c some few r = (batch_kept s batch c some few r.0, r.1)

  step_with : (s : Setup) (c : ChannelState) (e : Event) (o : Outcome) (c' : ChannelState) → IsReachedWith Such s c → Step s c e o c' → PlansSuch Such o c' → IsReachedWith Such s c'
  step_with s c e o c' r step such = (step_kept s c e o c' r.0 step, step_last Such s c e o c' step such r.1)

  pub core_step_kept : (s : Setup) (cs : List ChannelState) (e : Event) (o : Outcome) (cs' : List ChannelState) → All (IsReachedWith Such s) cs → CoreStep Such s cs e o cs' → All (IsReachedWith Such s) cs'
  core_step_kept s cs e o cs' all (inl (none, out, same)) = subst (All (IsReachedWith Such s)) (sym same) all
  core_step_kept s cs e o cs' all (inr (c, c', at, step, such, after)) =
      subst (All (IsReachedWith Such s)) (sym after) (All-set (IsReachedWith Such s) cs (channel_of e) c' all (step_with s c e o c' (All-at (IsReachedWith Such s) cs (channel_of e) c all at) step such))

  did_kept : (s : Setup) (cs : List ChannelState) (d : Doing) (cs' : List ChannelState) → All (IsReachedWith Such s) cs → Did Such s cs d cs' → All (IsReachedWith Such s) cs'
  did_kept s cs (Happens e o) cs' all step = core_step_kept s cs e o cs' all step
  did_kept s cs (SetsBatch n batch) cs' all (some, few, c, at, after) =
      subst (All (IsReachedWith Such s)) (sym after) (All-set (IsReachedWith Such s) cs n (with_batch batch c) all (batch_with s batch c some few (All-at (IsReachedWith Such s) cs n c all at)))

  pub all_kept : (s : Setup) (cs : List ChannelState) (ds : List Doing) (cs' : List ChannelState) → All (IsReachedWith Such s) cs → DidAll Such s cs ds cs' → All (IsReachedWith Such s) cs'
  all_kept s cs [] cs' all h = subst (All (IsReachedWith Such s)) (sym h) all
  all_kept s cs (d ∷ ds) cs' all (mid, one, rest) = all_kept s mid ds cs' (did_kept s cs d mid all one) rest

  ran : (s : Setup) (cs : List ChannelState) (es : List Event) (os : List Outcome) (cs' : List ChannelState) → All (IsReachedWith Such s) cs → CoreRun Such s cs es os cs' → All (IsReachedWith Such s) cs'
  ran s cs [] [] cs' r h = subst (All (IsReachedWith Such s)) (sym h) r
  ran s cs [] (o ∷ os) cs' r h = absurd h
  ran s cs (e ∷ es) [] cs' r h = absurd h
  ran s cs (e ∷ es) (o ∷ os) cs' r (mid, one, rest) = ran s mid es os cs' (core_step_kept s cs e o mid r one) rest

  -- nothing is planned in a channel that was opened
  pub opened_with_none : (s : Setup) (c : ChannelState) → IsOpened s c → IsReachedWith Such s c
  opened_with_none s c (faults, failures, is) = subst (IsReachedWith Such s) (sym is) (opened s faults failures, tt)

-- each keeps the promise
pub all_promised : (exact : Bool) (certifies : Certificate → Type 0) (s : Setup) (cs : List ChannelState) → All (IsReachedWith (IsPromised exact certifies) s) cs → All (KeepsPromise exact certifies s) cs
all_promised exact certifies s cs h = All-weaker (IsReachedWith (IsPromised exact certifies) s) (KeepsPromise exact certifies s) (λ c r. promise exact certifies s c r.0 r.1) cs h

pub headline : (exact : Bool) (certifies : Certificate → Type 0) → Headline exact certifies
headline exact certifies s cs cs' ds open' run =
    let such = IsPromised exact certifies in
    all_promised exact certifies s cs' (all_kept such s cs ds cs' (All-weaker (IsOpened s) (IsReachedWith such s) (λ c o. opened_with_none such s c o) cs open') run)

pub run_keeps : (exact : Bool) (certifies : Certificate → Type 0) → RunKeeps exact certifies
run_keeps exact certifies s cs cs' events outcomes reached run =
    let kept = ran (IsPromised exact certifies) s cs events outcomes cs' reached run in
    (kept, all_promised exact certifies s cs' kept)
