-- Turns and drainings at the greatest moment: no time passes in them.
use Rattle.std.proofs.Common.{◌≡◌, ℕ, ◌-◌, ◌^◌, ◌<◌, inl, inr, List, [], ◌∷◌, subst, arith}
use Rattle.onfi_core.specs.State.{Planning}
use Rattle.onfi_queue.specs.Ends.{HostView}
use Rattle.onfi_reply.specs.Ends.{InboxView}
use Rattle.onfi_seq.specs.declared.drained.DrainedAt.{DrainedAt}
use Rattle.onfi_seq.specs.declared.drained.DrainedAt.TheVariants as drained
use Rattle.onfi_seq.specs.declared.turn.TurnAt.{TurnAt}
use Rattle.onfi_seq.specs.declared.turn.TurnAt.TheVariants as turn
use Rattle.onfi_seq.specs.Drained.{Drains, DrainsBy, EndsAs, IsLast, MakesBy}
use Rattle.onfi_seq.specs.NoClock.{EndsNow, GoesNow, TurnedAtOnce, greatest}
use Rattle.onfi_seq.specs.Sequencer.{Seen}
use Rattle.onfi_seq.specs.Turned.{Goes, LetsPass, PassesThenGoes, Turned}

pub passes_nothing : (q q' : Seen) → LetsPass greatest q q' → q' ≡ q
passes_nothing q q' (inl (why, same)) = same
passes_nothing q q' (inr p) = let known : 2 ^ 64 - 1 < 2 ^ 62 = p.passes.known in absurd (omega (arith, known))

pub waits_never : (q q' : Seen) (until : ℕ) → Turned greatest q (turn.Waits until) q' → ⊥
waits_never q q' until (mid, passes, (waits, same), planned) =
    let behind : 2 ^ 64 - 1 < until = waits.behind in
    let bounded = waits.bounded in
    omega (arith, behind, bounded)

-- Turns

goes_at_once : (q : Seen) (answer : TurnAt) (q' : Seen) → PassesThenGoes greatest q answer q' → Goes greatest q answer q'
goes_at_once q answer q' (mid, passes, goes, planned) = subst (λ (x : Seen). Goes greatest x answer q') (passes_nothing q mid passes) goes

pub turned_at_once : (q : Seen) (answer : TurnAt) (q' : Seen) → Turned greatest q answer q' → TurnedAtOnce q answer q'
turned_at_once q turn.Posted q' t = t
turned_at_once q (turn.Stopped cause) q' (inl before) = inl before
turned_at_once q (turn.Stopped cause) q' (inr t) = inr (goes_at_once q (turn.Stopped cause) q' t)
turned_at_once q turn.Phase q' t = goes_at_once q turn.Phase q' t
turned_at_once q turn.Accepted q' t = t
turned_at_once q turn.Planned q' t = goes_at_once q turn.Planned q' t
turned_at_once q (turn.Over opened) q' t = goes_at_once q (turn.Over opened) q' t
turned_at_once q turn.Memory q' t = goes_at_once q turn.Memory q' t
turned_at_once q turn.PostFull q' t = t
turned_at_once q turn.Idle q' t = t
turned_at_once q (turn.Waits until) q' t = waits_never q q' until t

pub goes_now : (q : Seen) (answer : TurnAt) (q' : Seen) → Turned greatest q answer q' → GoesNow answer
goes_now q answer q' t until is = waits_never q q' until (subst (λ (a : TurnAt). Turned greatest q a q') is t)

-- Drainings

made_at_once : (Such : Planning → Type 0) (q : Seen) (answers : List TurnAt) (q' : Seen) → MakesBy Such (Turned greatest) q answers q' → MakesBy Such TurnedAtOnce q answers q'
made_at_once Such q [] q' same = same
made_at_once Such q (answer ∷ answers) q' (mid, made, on, turned, such) = (mid, made_at_once Such q answers mid made, on, turned_at_once mid answer q' turned, such)

module _ (Such : Planning → Type 0) (q : Seen) (hosts : List HostView) (inboxes : List InboxView) (turns : ℕ) (end : DrainedAt) (q' : Seen) (inboxes' : List InboxView) (d : Drains Such greatest q hosts inboxes turns end q' inboxes') where
  pub drained_at_once : DrainsBy Such TurnedAtOnce q hosts inboxes turns end q' inboxes'
  drained_at_once = record {
    answers = d.answers;
    last = d.last;
    ran = made_at_once Such q d.answers d.last d.ran;
    few = d.few;
    refused = d.refused;
    counted = d.counted;
    ends = d.ends;
    after = d.after;
  }

  none_waits : (until : ℕ) (answers : List TurnAt) (last : Seen) → MakesBy Such (Turned greatest) q answers last → IsLast (turn.Waits until) answers → ⊥
  none_waits until [] last made waits = waits
  none_waits until (answer ∷ answers) last (mid, made, on, turned, such) is = waits_never mid last until (subst (λ (a : TurnAt). Turned greatest mid a last) is turned)

  pub ends_now : EndsNow end
  ends_now until is =
      let ends : EndsAs (drained.Waits until) d.last.0.half hosts turns d.answers d.refused = subst (λ (e : DrainedAt). EndsAs e d.last.0.half hosts turns d.answers d.refused) is d.ends in
      none_waits until d.answers d.last d.ran ends.0
