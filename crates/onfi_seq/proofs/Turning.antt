-- Why a turn does what it does.
use Rattle.std.proofs.Common.{◌≡◌, ℕ, ◌+◌, ◌<◌, inl, inr, Bool, true, false, List, [], Option, Some, None, refl, sym, ap, ◌∙◌, subst, arith}
use Rattle.std.specs.Prelude.{slice_get, slice_set}
use Rattle.std.specs.List.{filter}
use Rattle.onfi_chip.specs.Chip.{Chip}
use Rattle.onfi_core.specs.declared.outcome.Cause.{Cause}
use Rattle.onfi_core.specs.declared.outcome.Cause.TheVariants.{Clock}
use Rattle.onfi_core.specs.declared.outcome.Outcome.TheVariants.{NoPlan, NothingToPlan, Stopped}
use Rattle.onfi_core.specs.Reaching.{Reaches}
use Rattle.onfi_core.specs.State.{ChannelState, HalfState, Planning, is_to}
use Rattle.onfi_core.specs.Steps.{bus_refusal, held_for, if_stopped, none_left, nothing_to_plan, or_else, plan_refusal, refused_where, taken_next}
use Rattle.onfi_core.specs.declared.setup.Setup.{Setup}
use Rattle.onfi_core.proofs.HeldFor.{idle_is, is_nil, nothing_held}
use Rattle.onfi_core.proofs.Next.{none_taken as nothing_taken}
use Rattle.onfi_core.proofs.Reaching.{events_reach}
use Rattle.onfi_core.proofs.Lists.{next_cases, set_self}
use Rattle.onfi_queue.specs.Ends.{IntakeView}
use Rattle.onfi_reply.specs.Ends.{PosterView}
use Rattle.onfi_seq.specs.declared.offer.Offer.{Offer}
use Rattle.onfi_seq.specs.declared.offer.Offer.TheVariants as offer
use Rattle.onfi_seq.specs.Driver.{DriverView, Offered}
use Rattle.onfi_seq.specs.Sequencer.{Seen, channel_of}
use Rattle.onfi_seq.specs.declared.turn.TurnAt.{TurnAt}
use Rattle.onfi_seq.specs.declared.turn.TurnAt.TheVariants as turn
use Rattle.onfi_seq.specs.Turned.{Goes, HeldBelow, IsPostRefused, IsRest, MayRunPhase, NothingPosts, OfferedAll, OfferedTo, Rests}

-- Refusals of a half that goes on

no_plan : (stopped : Option Cause) (none : Bool) → stopped ≡ None → or_else (if_stopped stopped) (refused_where none NoPlan) ≡ Some NoPlan → none ≡ true
no_plan None true going e = refl
no_plan None false going e = cc
no_plan (Some cause) none going e = cc

nothing_new : (stopped : Option Cause) (none late : Bool) → stopped ≡ None → or_else (if_stopped stopped) (or_else (refused_where none NothingToPlan) (refused_where late (Stopped Clock))) ≡ Some NothingToPlan → none ≡ true
nothing_new None true late going e = refl
nothing_new None false true going e = cc
nothing_new _ _ _ going e = cc

-- nothing is to be planned
pub none_taken : (s : Setup) (h : HalfState) → h.stopped ≡ None → plan_refusal s h ≡ Some NothingToPlan → taken_next s h ≡ []
none_taken s h going e = is_nil (taken_next s h) (nothing_taken s h (nothing_new h.stopped (nothing_to_plan s h) _ going e))

-- Rest

pub rests_is : (Such : Planning → Type 0) (q : Seen) → Reaches Such q.0.setup (channel_of q) → MayRunPhase q → bus_refusal q.0.half ≡ Some NoPlan → Rests q
rests_is Such q reached may refused =
    let none = no_plan q.0.half.stopped (none_left q.0.half) may.before.before.going refused in
    let taken : taken_next q.0.setup q.0.half ≡ [] = elim may.plans [
      | inl t ↦ t
      | inr both ↦ absurd (let e : true ≡ false = sym none ∙ both.1 in cc)
    ] in
    let idle = idle_is q.0.setup q.0.half (events_reach Such q.0.setup (channel_of q) reached).0.half.sound none taken in
    record { before = may.before; phases = none; wants = idle.0; items = idle.1 }

-- neither half nor chip changed
pub seen_same : (intake : IntakeView) (posters : List PosterView) (refused short : Bool) (s s' : Setup) (c c' : ChannelState) → s' ≡ s → c' ≡ c
    → (let q : Seen = (record { setup = s'; half = c'.half; intake = intake; posters = posters; refused = refused; short = short }, c'.chip) in q) ≡ (record { setup = s; half = c.half; intake = intake; posters = posters; refused = refused; short = short }, c.chip)
seen_same intake posters refused short s s' c c' setup same =
    ap (λ (x : Setup). let q : Seen = (record { setup = x; half = c'.half; intake = intake; posters = posters; refused = refused; short = short }, c'.chip) in q) setup
    ∙ ap (λ (x : ChannelState). let q : Seen = (record { setup = s; half = x.half; intake = intake; posters = posters; refused = refused; short = short }, x.chip) in q) same

-- the half alone changed
pub planned_seen : {C : Type 0} (state : C → Chip) (intake : IntakeView) (posters : List PosterView) (refused short : Bool) (d d' : DriverView C) → d' ≡ (record d.0 { half = d'.0.half }, d.1)
    → (let q : Seen = (record { setup = d'.0.setup; half = d'.0.half; intake = intake; posters = posters; refused = refused; short = short }, state d'.1) in q) ≡ (record { setup = d.0.setup; half = d'.0.half; intake = intake; posters = posters; refused = refused; short = short }, state d.1)
planned_seen {C} state intake posters refused short d d' same =
    ap (λ (x : DriverView C). let q : Seen = (record { setup = x.0.setup; half = d'.0.half; intake = intake; posters = posters; refused = refused; short = short }, state x.1) in q) same

-- how a turn ends where nothing is left to do
pub rest_goes : (now : ℕ) (q q' : Seen) (rest : TurnAt) → IsRest q rest → Rests q → q' ≡ q → Goes now q rest q'
rest_goes now q q' turn.PostFull is rests same = (rests, is, same)
rest_goes now q q' turn.Idle is rests same = (rests, is, same)
rest_goes now q q' _ is rests same = absurd is

seen_back : (q : Seen) (host : ℕ) (p : PosterView) (h : HalfState) (p' : PosterView) → slice_get q.0.posters host ≡ Some p → h ≡ q.0.half → p' ≡ p → (let y : Seen = (record q.0 { half = h; posters = slice_set q.0.posters host p' }, q.1) in y) ≡ q
seen_back q host p h p' at same is =
    let posters : slice_set q.0.posters host p' ≡ q.0.posters = ap (λ (x : PosterView). slice_set q.0.posters host x) is ∙ set_self q.0.posters host p at in
    ap (λ (x : HalfState). let y : Seen = (record q.0 { half = x; posters = slice_set q.0.posters host p' }, q.1) in y) same ∙ ap (λ (ps : List PosterView). let y : Seen = (record q.0 { posters = ps }, q.1) in y) posters

-- an offer to one host's poster
pub offered_to : (q : Seen) (host : ℕ) (p : PosterView) (o : Offer) (h : HalfState) (p' : PosterView) → host < 4 → slice_get q.0.posters host ≡ Some p → Offered host q.0.half p o h p'
    → OfferedTo q host o (record q.0 { half = h; posters = slice_set q.0.posters host p' }, q.1)
offered_to q host p offer.Posted h p' known at (r, goes, is) = λ lower. record {
  host = host;
  known = known;
  lower = lower;
  reply = r;
  goes = goes;
  poster = p;
  there = at;
  after = ap (λ (x : PosterView). let y : Seen = (record q.0 { half = h; posters = slice_set q.0.posters host x }, q.1) in y) is;
}
offered_to q host p offer.Full h p' known at (same, is, some, saw) = (seen_back q host p h p' at same is, inr (p, at, saw), some)
offered_to q host p offer.Nothing h p' known at (same, is, none) = (seen_back q host p h p' at same is, inl none, none)

-- Offers, host by host

-- what the hosts below that number came to: nothing went out
pub record Offering (q q' : Seen) (host : ℕ) (held : Offer) : Type 0 where
  pub same : q' ≡ q
  pub lower : NothingPosts q host
  pub held_is : HeldBelow q host held

lower_more : (q : Seen) (host : ℕ) → NothingPosts q host → IsPostRefused q host → NothingPosts q (host + 1)
lower_more q host lower here = λ j low. elim (next_cases j host low) [
  | inl l ↦ lower j l
  | inr e ↦ subst (IsPostRefused q) (sym e) here
]

pub offering_full : (q q' q'' : Seen) (host : ℕ) (held : Offer) → Offering q q' host held → OfferedTo q' host offer.Full q'' → Offering q q'' (host + 1) offer.Full
offering_full q q' q'' host held so_far (same, why, some) = record {
  same = same ∙ so_far.same;
  lower = lower_more q host so_far.lower (subst (λ (x : Seen). IsPostRefused x host) so_far.same why);
  held_is = λ none. some (ap (λ (x : Seen). held_for host x.0.half) so_far.same ∙ ap (filter (is_to host)) none);
}

held_more : (q : Seen) (host : ℕ) (held : Offer) → HeldBelow q host held → held_for host q.0.half ≡ [] → HeldBelow q (host + 1) held
held_more q host offer.Posted below none = below
held_more q host offer.Full below none = below
held_more q host offer.Nothing below none = λ j low. elim (next_cases j host low) [
  | inl l ↦ below j l
  | inr e ↦ ap (λ n. held_for n q.0.half) e ∙ none
]

pub offering_nothing : (q q' q'' : Seen) (host : ℕ) (held : Offer) → Offering q q' host held → OfferedTo q' host offer.Nothing q'' → Offering q q'' (host + 1) held
offering_nothing q q' q'' host held so_far (same, why, none) = record {
  same = same ∙ so_far.same;
  lower = lower_more q host so_far.lower (subst (λ (x : Seen). IsPostRefused x host) so_far.same why);
  held_is = held_more q host held so_far.held_is (subst (λ (x : Seen). held_for host x.0.half ≡ []) so_far.same none);
}

pub offered_all : (Such : Planning → Type 0) (q q' : Seen) (held : Offer) → q.0.setup.hosts ≡ 4 → Reaches Such q.0.setup (channel_of q) → Offering q q' 4 held → OfferedAll q held q'
offered_all Such q q' offer.Posted hosts reached so_far = absurd so_far.held_is
offered_all Such q q' offer.Full hosts reached so_far = (so_far.same, so_far.lower, so_far.held_is)
offered_all Such q q' offer.Nothing hosts reached so_far =
    (so_far.same, so_far.lower, nothing_held q.0.setup (channel_of q) (events_reach Such q.0.setup (channel_of q) reached).0 (λ host low. so_far.held_is host (omega (arith, low, hosts))))
