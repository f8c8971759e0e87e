-- What a turn never changes.
use Rattle.std.proofs.Common.{◌≡◌, ℕ, zero, suc, inl, inr, Bool, true, false, List, [], ◌∷◌, Option, Some, None, refl, sym, ap, ◌∙◌, subst}
use Rattle.std.specs.Prelude.{map, slice_get, slice_set}
use Rattle.onfi_chip.specs.Chip.{Chip}
use Rattle.onfi_core.specs.declared.event.Event.TheVariants as event
use Rattle.onfi_core.specs.declared.outcome.Outcome.{Outcome}
use Rattle.onfi_core.specs.declared.outcome.Outcome.TheVariants as outcome
use Rattle.onfi_core.specs.declared.setup.Setup.{Setup}
use Rattle.onfi_core.specs.State.{ChannelState, HalfState}
use Rattle.onfi_core.specs.Steps.{StepBy, after_refusal, refusal}
use Rattle.onfi_core.specs.Steps.{accepting}
use Rattle.onfi_core.proofs.Running.{run_faults}
use Rattle.onfi_queue.specs.Ends.{IntakeView, after_accepting}
use Rattle.onfi_reply.specs.Ends.{PosterView, after_posting}
use Rattle.onfi_seq.specs.declared.turn.TurnAt.{TurnAt}
use Rattle.onfi_seq.specs.declared.turn.TurnAt.TheVariants as turn
use Rattle.onfi_seq.specs.Sequencer.{IsSameChannel, Seen, channel_of, intake_ends, poster_ends}
use Rattle.onfi_seq.specs.Turned.{Goes, LetsPass, PassesThenGoes, PlansTo, RunsTo, Turned}

-- The chip's faults

refused_faults : (c : ChannelState) (x : Outcome) → (after_refusal x c).chip.faults ≡ c.chip.faults
refused_faults c (outcome.Stopped cause) = refl
refused_faults c _ = refl

bus_faults : (refused : Option Outcome) (s : Setup) (c : ChannelState) (o : Outcome) (c' : ChannelState) → StepBy refused s c (event.Bus 0) o c' → c'.chip.faults ≡ c.chip.faults
bus_faults (Some x) s c o c' (told, after) = ap (λ (z : ChannelState). z.chip.faults) after ∙ refused_faults c x
bus_faults None s c o c' (inl (start, told, runs)) = ap (λ (z : ChannelState). z.chip.faults) runs.after ∙ run_faults _ _ _ _ c.chip runs.chip runs.replies runs.on_chip
bus_faults None s c o c' (inr (inl (cause, why, told, fails))) = ap (λ (z : ChannelState). z.chip.faults) fails.after ∙ fails.lost.faults
bus_faults None s c o c' (inr (inr (told, after))) = ap (λ (z : ChannelState). z.chip.faults) after

-- The posters

map_set : {A B : Type 0} (f : A → B) (xs : List A) (i : ℕ) (x y : A) → slice_get xs i ≡ Some x → f y ≡ f x → map f (slice_set xs i y) ≡ map f xs
map_set f [] i x y there same = refl
map_set f (z ∷ xs) zero x y there same = let e : z ≡ x = cc in let h : f y ≡ f z = same ∙ ap f (sym e) in ap (λ b. b ∷ map f xs) h
map_set f (z ∷ xs) (suc i) x y there same = ap (λ bs. f z ∷ bs) (map_set f xs i x y there same)

-- A turn

-- the channel is the same, and what is noted of refused memory stays noted
record Stays (q q' : Seen) : Type 0 where
  same : IsSameChannel q q'
  short : q.0.short ≡ true → q'.0.short ≡ true

-- where these fields changed, and neither the ends of queues nor the chip's faults
module _ (q q' : Seen) (h : HalfState) (refused short : Bool) (still : q.0.short ≡ true → short ≡ true) where
  stays_but : (intake : IntakeView) (posters : List PosterView) (chip : Chip) → intake_ends intake ≡ intake_ends q.0.intake → map poster_ends posters ≡ map poster_ends q.0.posters → chip.faults ≡ q.1.faults
      → q' ≡ (record q.0 { half = h; intake = intake; posters = posters; refused = refused; short = short }, chip) → Stays q q'
  stays_but intake posters chip ends others faults after =
      subst (Stays q) (sym after) (record { same = record { setup = refl; faults = faults; intake = ends; posters = others }; short = still })

  -- .. but the half, what is noted of refusals, and the chip
  stays_so : (chip : Chip) → chip.faults ≡ q.1.faults → q' ≡ (record q.0 { half = h; refused = refused; short = short }, chip) → Stays q q'
  stays_so chip faults after = stays_but q.0.intake q.0.posters chip refl refl faults after

stays_self : (q q' : Seen) → q' ≡ q → Stays q q'
stays_self q q' is = stays_so q q' q.0.half q.0.refused q.0.short (λ short. short) q.1 refl is

stays_planning : (q : Seen) (o : Outcome) (refused short : Bool) (q' : Seen) → (q.0.short ≡ true → short ≡ true) → PlansTo q o refused short q' → Stays q q'
stays_planning q o refused short q' still p = stays_so q q' q'.0.half refused short still q.1 refl p.after

stays_running : (now start : ℕ) (q : Seen) (o : Outcome) (refused short : Bool) (q' : Seen) → (q.0.short ≡ true → short ≡ true) → RunsTo now start q o refused short q' → Stays q q'
stays_running now start q o refused short q' still r =
    stays_so q q' q'.0.half refused short still q'.1 (bus_faults (refusal q.0.setup (channel_of q) (event.Bus 0)) q.0.setup (channel_of q) o (channel_of q') (r.step 0)) r.after

stays_passing : (now : ℕ) (q q' : Seen) → LetsPass now q q' → Stays q q'
stays_passing now q q' (inl (why, is)) = stays_self q q' is
stays_passing now q q' (inr p) = stays_so q q' q'.0.half q.0.refused q.0.short (λ short. short) q'.1 (ap (λ (c : ChannelState). c.chip.faults) p.passes.kept) p.after

stays_going : (now : ℕ) (q : Seen) (answer : TurnAt) (q' : Seen) → Goes now q answer q' → Stays q q'
stays_going now q turn.Posted q' g = absurd g
stays_going now q (turn.Stopped cause) q' (inl p) = stays_planning q (outcome.Stopped cause) q.0.refused q.0.short q' (λ short. short) p
stays_going now q (turn.Stopped cause) q' (inr (start, r)) = stays_running now start q (outcome.Stopped cause) q.0.refused q.0.short q' (λ short. short) r
stays_going now q turn.Accepted q' g = absurd g
stays_going now q turn.Planned q' (finish, p) = stays_planning q (outcome.Planned finish) q.0.refused q.0.short q' (λ short. short) p
stays_going now q (turn.Over opened) q' p = stays_planning q (outcome.Over opened) true q.0.short q' (λ short. short) p
stays_going now q turn.Phase q' (start, r) = stays_running now start q (outcome.Phase start) false q.0.short q' (λ short. short) r
stays_going now q turn.Memory q' (inl p) = stays_planning q (outcome.Memory None) true true q' (λ _. refl) p
stays_going now q turn.Memory q' (inr (start, r)) = stays_running now start q (outcome.Memory None) q.0.refused true q' (λ _. refl) r
stays_going now q (turn.Waits until) q' (waits, is) = stays_self q q' is
stays_going now q turn.PostFull q' (rests, some, is) = stays_self q q' is
stays_going now q turn.Idle q' (rests, none, is) = stays_self q q' is

pub same_channel_all : (q q' q'' : Seen) → IsSameChannel q q' → IsSameChannel q' q'' → IsSameChannel q q''
same_channel_all q q' q'' a b = record {
  setup = b.setup ∙ a.setup;
  faults = b.faults ∙ a.faults;
  intake = b.intake ∙ a.intake;
  posters = b.posters ∙ a.posters;
}

stays_then : (now : ℕ) (q : Seen) (answer : TurnAt) (q' : Seen) → PassesThenGoes now q answer q' → Stays q q'
stays_then now q answer q' (mid, passes, goes, planned) =
    let a = stays_passing now q mid passes in
    let b = stays_going now mid answer q' goes in
    record { same = same_channel_all q mid q' a.same b.same; short = λ short. b.short (a.short short) }

stays_by_turn : (now : ℕ) (q : Seen) (answer : TurnAt) (q' : Seen) → Turned now q answer q' → Stays q q'
stays_by_turn now q turn.Posted q' t =
    stays_but q q' q'.0.half q.0.refused q.0.short (λ short. short) q.0.intake (slice_set q.0.posters t.host (after_posting t.poster t.reply)) q.1
    refl (map_set poster_ends q.0.posters t.host t.poster (after_posting t.poster t.reply) t.there refl) refl t.after
stays_by_turn now q (turn.Stopped cause) q' (inl (posts, stopped, is)) = stays_self q q' is
stays_by_turn now q (turn.Stopped cause) q' (inr t) = stays_then now q (turn.Stopped cause) q' t
stays_by_turn now q turn.Accepted q' t =
    stays_but q q' (accepting q.0.setup q.0.half t.item) q.0.refused q.0.short (λ short. short) (after_accepting q.0.intake t.item) q.0.posters q.1 refl refl refl t.after
stays_by_turn now q turn.PostFull q' t = stays_going now q turn.PostFull q' t
stays_by_turn now q turn.Idle q' t = stays_going now q turn.Idle q' t
stays_by_turn now q answer q' t = stays_then now q answer q' t

pub same_by_turn : (now : ℕ) (q : Seen) (answer : TurnAt) (q' : Seen) → Turned now q answer q' → IsSameChannel q q'
same_by_turn now q answer q' t = (stays_by_turn now q answer q' t).same

pub short_by_turn : (now : ℕ) (q : Seen) (answer : TurnAt) (q' : Seen) → Turned now q answer q' → q.0.short ≡ true → q'.0.short ≡ true
short_by_turn now q answer q' t = (stays_by_turn now q answer q' t).short

-- what a turn without memory says
pub short_by_memory : (now : ℕ) (q q' : Seen) → Turned now q turn.Memory q' → q'.0.short ≡ true
short_by_memory now q q' (mid, passes, inl p, planned) = ap (λ (x : Seen). x.0.short) p.after
short_by_memory now q q' (mid, passes, inr (start, r), planned) = ap (λ (x : Seen). x.0.short) r.after
