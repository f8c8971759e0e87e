-- Each step keeps it, so each run does.
use Rattle.std.proofs.Common.{◌≡◌, ℕ, ◌<◌, ◌^◌, inl, inr, Bool, true, false, length, Option, Some, None, refl, sym, subst}
use Rattle.std.specs.Prelude.{nat_le, slice_get}
use Rattle.onfi_request.specs.Range.{fault_of}
use Rattle.onfi_request.specs.declared.checking.RequestFault.{RequestFault}
use Rattle.onfi_request.specs.declared.request.Request.{Request}
use Rattle.onfi_die.specs.Shapes.{device_of}
use Rattle.onfi_core.specs.Kept.{IsSound, IsReached, IsHalf}
use Rattle.onfi_core.specs.State.{HalfState, ChannelState, flight_of, sent_by}
use Rattle.onfi_core.specs.Steps.{Step, StepBy, Does, Fails, refusal, or_else, refused_where, if_stopped, if_faulty, after_refusal, latest_by, nothing_to_plan, plan_refusal, stopped_by}
use Rattle.onfi_core.specs.declared.event.Event.{Event}
use Rattle.onfi_core.specs.declared.event.Event.TheVariants.{Submit, Accept, Plan, Bus, Wait, Ready, Post, Collect}
use Rattle.onfi_core.specs.declared.outcome.Cause.{Cause}
use Rattle.onfi_core.specs.declared.outcome.Outcome.{Outcome}
use Rattle.onfi_core.specs.declared.outcome.Outcome.TheVariants.{Stopped, TooLate}
use Rattle.onfi_core.specs.declared.setup.Setup.{Setup}
use Rattle.onfi_core.proofs.Accept.{accept_kept}
use Rattle.onfi_core.proofs.Bus.{bus_kept}
use Rattle.onfi_core.proofs.Halves.{other_half, same_replies, sound_but, stopped_way}
use Rattle.onfi_core.proofs.Hosts.{submit_kept, post_kept, collect_kept}
use Rattle.onfi_core.proofs.Plan.{plan_kept}
use Rattle.onfi_core.proofs.Passing.{wait_kept}
use Rattle.onfi_core.proofs.Readied.{in_array, ready_kept}
pub use Rattle.onfi_request.proofs.Faults.{fits, below}

pub none_first : (x y : Option Outcome) → or_else x y ≡ None → x ≡ None
none_first None y h = refl
none_first (Some o) y h = h

pub none_second : (x y : Option Outcome) → or_else x y ≡ None → y ≡ None
none_second None y h = h
none_second (Some o) y h = cc

pub not_stopped : (o : Option Cause) → if_stopped o ≡ None → o ≡ None
not_stopped None h = refl
not_stopped (Some cause) h = cc

not_faulty : (o : Option RequestFault) (r : Request) → if_faulty o r ≡ None → o ≡ None
not_faulty None r h = refl
not_faulty (Some fault) r h = cc

pub not_where : (b : Bool) (o : Outcome) → refused_where b o ≡ None → b ≡ false
not_where true o h = cc
not_where false o h = refl

pub sound_stopped : (s : Setup) (cause : Cause) (h : HalfState) → IsSound s h → IsSound s (record h { stopped = Some cause })
sound_stopped s cause h r = sound_but s h r h.now h.left h.books h.outdated h.held h.posted (Some cause) refl refl refl r.problem
    (stopped_way s h.books h.now h.left (record { planned = h.planned; accepted = length h.accepted; outdated = h.outdated; stopped = h.stopped }) cause r.way) r.wants r.running r.once

-- a planning that isn't refused has something to plan
goes_plan : (s : Setup) (h : HalfState) → plan_refusal s h ≡ None → nothing_to_plan s h ≡ false
goes_plan s h none = not_where _ _ (none_first _ _ (none_second _ _ none))

-- a wait that isn't refused is to a moment in time
not_late : (moment : ℕ) (h : HalfState) → refused_where (nat_le (2 ^ 62) (latest_by h.books moment (flight_of h))) TooLate ≡ None → latest_by h.books moment (flight_of h) < 2 ^ 62
not_late moment h none = below (2 ^ 62) (latest_by h.books moment (flight_of h)) (not_where _ _ none)

-- a stop cause stays
stop_kept : (s : Setup) (cause : Cause) (c : ChannelState) → IsReached s c → IsReached s (stopped_by cause c)
stop_kept s cause c r = same_replies s c (record c.half { stopped = Some cause }) c.chip r refl refl refl refl (sound_stopped s cause c.half r.half.sound) (λ going. cc)

refused_kept : (s : Setup) (o : Outcome) (c : ChannelState) → IsReached s c → IsReached s (after_refusal o c)
refused_kept s (Stopped cause) c r = stop_kept s cause c r
refused_kept s _ c r = r

fails_kept : (s : Setup) (c c' : ChannelState) (cause : Cause) → IsReached s c → Fails c c' cause → IsReached s c'
fails_kept s c c' cause r f =
    let k = stop_kept s cause c r in
    let half = subst (λ fs. IsHalf s (device_of s.geometry fs) (stopped_by cause c).half) (sym f.lost.faults) k.half in
    subst (IsReached s) (sym f.after) (other_half s c (stopped_by cause c).half f.chip r refl refl half (λ going. cc))

does_kept : (s : Setup) (c : ChannelState) (e : Event) (o : Outcome) (c' : ChannelState) → IsReached s c → refusal s c e ≡ None → Does s c e o c' → IsReached s c'
does_kept s c (Submit host channel r) o c' reached none d =
    let second = none_second _ _ none in
    let third = none_second _ _ second in
    let f = fits s.geometry r (not_faulty (fault_of s.geometry r) r (none_first _ _ second)) in
    let known = below s.hosts host (not_where _ _ (none_first _ _ none)) in
    let low = below (2 ^ 32) (length (sent_by host c)) (not_where _ _ (none_first _ _ third)) in
    subst (IsReached s) (sym d.1) (submit_kept s c host r reached f known low)
does_kept s c (Accept channel) o c' reached none d = accept_kept s c c' reached d.1
does_kept s c (Plan channel) o c' reached none (inl (plan, out, plans, after)) = subst (IsReached s) (sym after) (plan_kept s c plan (goes_plan s c.half none) reached plans)
does_kept s c (Plan channel) o c' reached none (inr (inl (out, over, after))) = subst (IsReached s) (sym after) reached
does_kept s c (Plan channel) o c' reached none (inr (inr d)) = subst (IsReached s) (sym d.1) reached
does_kept s c (Bus channel) o c' reached none (inl (start, out, runs)) = bus_kept s c c' start reached (not_stopped c.half.stopped (none_first _ _ none)) runs
does_kept s c (Bus channel) o c' reached none (inr (inl (cause, other, out, fails))) = fails_kept s c c' cause reached fails
does_kept s c (Bus channel) o c' reached none (inr (inr d)) = subst (IsReached s) (sym d.1) reached
does_kept s c (Wait channel moment) o c' reached none (out, after) = subst (IsReached s) (sym after) (wait_kept s c moment (not_late moment c.half (none_second _ _ none)) reached)
does_kept s c (Ready channel lun) o c' reached none (inl (out, after)) = subst (IsReached s) (sym after) (ready_kept s c lun reached (not_stopped c.half.stopped (none_first _ _ (none_second _ _ none))) (in_array lun (slice_get c.half.now.luns lun) (not_where _ _ (none_second _ _ (none_second _ _ none)))))
does_kept s c (Ready channel lun) o c' reached none (inr (out, same)) = subst (IsReached s) (sym same) reached
does_kept s c (Post channel host) o c' reached none (r, h, out, goes, after) = subst (IsReached s) (sym after) (post_kept s c host r h reached goes)
does_kept s c (Collect channel host) o c' reached none (r, out, at, after) = subst (IsReached s) (sym after) (collect_kept s c host r reached at)

by_refusal : (s : Setup) (c : ChannelState) (e : Event) (o : Outcome) (c' : ChannelState) → IsReached s c → (refused : Option Outcome) → refusal s c e ≡ refused → StepBy refused s c e o c' → IsReached s c'
by_refusal s c e o c' reached None q d = does_kept s c e o c' reached q d
by_refusal s c e o c' reached (Some refused) q d = subst (IsReached s) (sym d.1) (refused_kept s refused c reached)

pub step_kept : (s : Setup) (c : ChannelState) (e : Event) (o : Outcome) (c' : ChannelState) → IsReached s c → Step s c e o c' → IsReached s c'
step_kept s c e o c' reached d = by_refusal s c e o c' reached (refusal s c e) refl d
