-- The channels that events reach, and what leads from one to another.
use Rattle.std.proofs.Common.{◌≡◌, ℕ, ◌-◌, ◌<◌, ◌≤◌, ◌^◌, inr, List, [], ◌∷◌, ◌++◌, length, Option, Some, None, refl, sym, ap, ◌∙◌, subst, length-append, arith}
use Rattle.std.specs.Prelude.{slice_get, slice_set}
use Rattle.std.specs.List.{filter}
use Rattle.onfi_request.specs.declared.reply.Reply.{Reply}
use Rattle.onfi_request.specs.declared.request.Item.{Item}
use Rattle.onfi_chip.specs.Chip.{Chip}
use Rattle.onfi_core.specs.declared.event.Event.{Event}
use Rattle.onfi_core.specs.declared.event.Event.TheVariants as event
use Rattle.onfi_core.specs.declared.outcome.Outcome.{Outcome}
use Rattle.onfi_core.specs.declared.outcome.Outcome.TheVariants as outcome
use Rattle.onfi_core.specs.declared.setup.Setup.{Setup}
use Rattle.onfi_core.specs.Core.{Did, DidAll, Doing, IsOpened, channel_of, with_batch}
use Rattle.onfi_core.specs.Core.Doing.{Happens, SetsBatch}
use Rattle.onfi_core.specs.Kept.{IsReached}
use Rattle.onfi_core.specs.Reaching.{Reaches, StaysReached, EventsReach, StepReaches, BatchReached, AcceptingReached, PostingReached}
use Rattle.onfi_core.specs.State.{HalfState, ChannelState, Planning, is_to, posted_to, quiet, sent_by}
use Rattle.onfi_core.specs.Steps.{accepting, IsAny, PlansSuch, Step, StepBy, GoesOut, refusal, submitted}
use Rattle.onfi_core.specs.View.{IsOldest}
use Rattle.onfi_core.proofs.Channels.{all_kept, batch_kept, opened_with_none}
use Rattle.onfi_core.proofs.HeldFor.{goes_to}
use Rattle.onfi_core.proofs.Hosted.{to_own}
use Rattle.onfi_core.proofs.Lists.{get_at_length}
use Rattle.onfi_core.proofs.Promised.{any_plans}
use Rattle.onfi_core.proofs.Reach.{step_kept}
use Rattle.onfi_core.proofs.Refused.{accepts, collect_open, post_open, step_does, submit_open}
pub use Rattle.onfi_request.proofs.Faults.{no_fault}

-- the same event of channel 0
abbrev to_first : Event → Event
to_first (event.Submit host channel r) = event.Submit host 0 r
to_first (event.Accept channel) = event.Accept 0
to_first (event.Plan channel) = event.Plan 0
to_first (event.Bus channel) = event.Bus 0
to_first (event.Wait channel moment) = event.Wait 0 moment
to_first (event.Ready channel lun) = event.Ready 0 lun
to_first (event.Post channel host) = event.Post 0 host
to_first (event.Collect channel host) = event.Collect 0 host

of_first : (e : Event) → channel_of (to_first e) ≡ 0
of_first (event.Submit host channel r) = refl
of_first _ = refl

-- a step doesn't look at the channel's number
same_refusal : (s : Setup) (c : ChannelState) (e : Event) → refusal s c (to_first e) ≡ refusal s c e
same_refusal s c (event.Submit host channel r) = refl
same_refusal s c _ = refl

first_by : (refused : Option Outcome) (s : Setup) (c : ChannelState) (e : Event) (o : Outcome) (c' : ChannelState) → StepBy refused s c e o c' → StepBy refused s c (to_first e) o c'
first_by (Some refused) s c e o c' h = h
first_by None s c (event.Submit host channel r) o c' h = h
first_by None s c _ o c' h = h

first_step : (s : Setup) (c : ChannelState) (e : Event) (o : Outcome) (c' : ChannelState) → Step s c e o c' → Step s c (to_first e) o c'
first_step s c e o c' h = subst (λ (q : Option Outcome). StepBy q s c (to_first e) o c') (sym (same_refusal s c e)) (first_by (refusal s c e) s c e o c' h)

did_more : (Such : Planning → Type 0) (s : Setup) (cs : List ChannelState) (ds : List Doing) (mid : List ChannelState) (d : Doing) (cs' : List ChannelState) → DidAll Such s cs ds mid → Did Such s mid d cs' → DidAll Such s cs (ds ++ d ∷ []) cs'
did_more Such s cs [] mid d cs' did one = (cs', subst (λ (x : List ChannelState). Did Such s x d cs') did one, refl)
did_more Such s cs (b ∷ ds) mid d cs' (next, first, rest) one = (next, first, did_more Such s next ds mid d cs' rest one)

reaches_more : (Such : Planning → Type 0) (s : Setup) (c c' : ChannelState) (d : Doing) → Reaches Such s c → Did Such s (c ∷ []) d (c' ∷ []) → Reaches Such s c'
reaches_more Such s c c' d r one = record { start = r.start; opened = r.opened; doings = r.doings ++ d ∷ []; did = did_more Such s (r.start ∷ []) r.doings (c ∷ []) d (c' ∷ []) r.did one }

pub opened_reaches : (Such : Planning → Type 0) (s : Setup) (c : ChannelState) → IsOpened s c → Reaches Such s c
opened_reaches Such s c o = record { start = c; opened = o; doings = []; did = refl }

pub step_reaches : (Such : Planning → Type 0) → StepReaches Such
step_reaches Such s c e o c' r step such =
    let at = of_first e in
    reaches_more Such s c c' (Happens (to_first e) o) r (inr (c, c', ap (slice_get (c ∷ [])) at, first_step s c e o c' step, such, sym (ap (λ n. slice_set (c ∷ []) n c') at)))

batch_reaches : (Such : Planning → Type 0) (s : Setup) (c : ChannelState) (batch : ℕ) → 1 ≤ batch → batch ≤ 8 → Reaches Such s c → Reaches Such s (with_batch batch c)
batch_reaches Such s c batch some few r = reaches_more Such s c (with_batch batch c) (SetsBatch 0 batch) r (some, few, c, refl, refl)

pub events_reach : (Such : Planning → Type 0) → EventsReach Such
events_reach Such s c r = (all_kept Such s (r.start ∷ []) r.doings (c ∷ []) (opened_with_none Such s r.start r.opened, tt) r.did).0

-- whatever the step plans
pub any_reaches : (s : Setup) (c : ChannelState) (e : Event) (o : Outcome) (c' : ChannelState) → Reaches IsAny s c → Step s c e o c' → Reaches IsAny s c'
any_reaches s c e o c' r step = step_reaches IsAny s c e o c' r step (any_plans o c')

pub batch_reached : (Such : Planning → Type 0) → BatchReached Such
batch_reached Such s c batch some few = (λ r. batch_kept s batch c some few r, λ r. batch_reaches Such s c batch some few r)

-- two steps that plan nothing
stays : (Such : Planning → Type 0) (s : Setup) (c c1 c2 : ChannelState) (e1 e2 : Event) (o1 o2 : Outcome) → Step s c e1 o1 c1 → PlansSuch Such o1 c1 → Step s c1 e2 o2 c2 → PlansSuch Such o2 c2 → StaysReached Such s c c2
stays Such s c c1 c2 e1 e2 o1 o2 first none second no_more = (
  λ r. step_kept s c1 e2 o2 c2 (step_kept s c e1 o1 c1 r first) second,
  λ r. step_reaches Such s c1 e2 o2 c2 (step_reaches Such s c e1 o1 c1 r first none) second no_more,
)

-- Accepting

pub accepting_reached : (Such : Planning → Type 0) → AcceptingReached Such
accepting_reached Such s h chip x open' next =
    let c = quiet h chip in
    let sent : Item = record { host = x.host; serial = length (sent_by x.host c); request = x.request } in
    let same : sent ≡ x = ap (λ n. let y : Item = record { host = x.host; serial = n; request = x.request } in y) (sym next.serial) in
    let low : length (sent_by x.host c) < 2 ^ 32 = subst (λ n. n < 2 ^ 32) next.serial next.fits in
    let room : 0 < s.submit_cap = (let some = s.some_room in omega arith) in
    let c1 = submitted c x.host x.request in
    let first : Step s c (event.Submit x.host 0 x.request) (outcome.Submitted (length (sent_by x.host c))) c1 = step_does s c (event.Submit x.host 0 x.request) (outcome.Submitted (length (sent_by x.host c))) c1 (submit_open s c x.host 0 x.request next.host (no_fault s.geometry x.request next.in_range) low room) (refl, refl) in
    let second : Step s c1 (event.Accept 0) (outcome.Accepted (length h.accepted)) (quiet (accepting s h sent) chip) = accepts s c1 (quiet (accepting s h sent) chip) 0 sent [] open' refl refl in
    subst (λ (y : Item). StaysReached Such s c (quiet (accepting s h y) chip)) same (stays Such s c c1 (quiet (accepting s h sent) chip) (event.Submit x.host 0 x.request) (event.Accept 0) _ _ first (λ _ is. cc) second (λ _ is. cc))

-- Posting

module _ (Such : Planning → Type 0) (s : Setup) (h : HalfState) (chip : Chip) (host : ℕ) (r : Reply) (before behind : List Reply) (held : h.held ≡ before ++ r ∷ behind) (oldest : filter (is_to host) before ≡ []) (own : r.host ≡ host) (known : host < s.hosts) where
  abbrev moved : HalfState
  moved = record h { held = before ++ behind; posted = h.posted ++ r ∷ [] }

  abbrev sent_out : ChannelState
  sent_out = record (quiet h chip) { half = moved }

  posting_step : Step s (quiet h chip) (event.Post 0 host) (outcome.Posted r.place) sent_out
  posting_step =
      let oldest_is : IsOldest host h.held r = record { before = before; behind = behind; is = held; own = own; none = oldest } in
      let out : GoesOut h moved host r = record { before = before; behind = behind; held = held; oldest = oldest; own = own; after = refl } in
      let some = s.some_posts in
      let n = length (filter (is_to host) h.posted) in
      let room : n - n < s.post_cap = omega arith in
      step_does s (quiet h chip) (event.Post 0 host) (outcome.Posted r.place) sent_out (post_open s (quiet h chip) host 0 known r oldest_is room) (r, moved, refl, out, refl)

  collecting_step : Step s sent_out (event.Collect 0 host) (outcome.Collected r) (quiet moved chip)
  collecting_step =
      let list = filter (is_to host) h.posted in
      let more : posted_to host sent_out ≡ list ++ r ∷ [] = to_own host h.posted r own in
      let count = ap length more ∙ length-append list (r ∷ []) in
      let there : slice_get (posted_to host sent_out) (length list) ≡ Some r = ap (λ rs. slice_get rs (length list)) more ∙ get_at_length list r [] in
      step_does s sent_out (event.Collect 0 host) (outcome.Collected r) (quiet moved chip) (collect_open s sent_out host 0 known (omega arith)) (r, refl, there, refl)

  posting_stays : StaysReached Such s (quiet h chip) (quiet moved chip)
  posting_stays = stays Such s (quiet h chip) sent_out (quiet moved chip) (event.Post 0 host) (event.Collect 0 host) (outcome.Posted r.place) (outcome.Collected r) posting_step (λ _ is. cc) collecting_step (λ _ is. cc)

pub posting_reached : (Such : Planning → Type 0) → PostingReached Such
posting_reached Such s h h' chip host r out =
    let known : IsReached s (quiet h chip) → host < s.hosts = λ reached. goes_to s (quiet h chip) h' host r reached out in
    let stays_at = λ (at : host < s.hosts). subst (λ (m : HalfState). StaysReached Such s (quiet h chip) (quiet m chip)) (sym out.after) (posting_stays Such s h chip host r out.before out.behind out.held out.oldest out.own at) in (
      λ reached. (stays_at (known reached)).0 reached,
      λ reaches. (stays_at (known (events_reach Such s (quiet h chip) reaches).0)).1 reaches,
    )
