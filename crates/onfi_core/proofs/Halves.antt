-- What a channel keeps whose half or chip is another.
use Rattle.std.proofs.Common.{◌≡◌, ℕ, Bool, List, length, None, Option, Some, ◌++◌, sym, ap, ◌∙◌, subst}
use Rattle.std.specs.Prelude.{slice_get}
use Rattle.std.specs.List.{AllByRecursion as All, filter}
use Rattle.onfi_request.specs.declared.reply.Reply.{Reply}
use Rattle.onfi_request.specs.declared.want.Want.{Want}
use Rattle.onfi_group.specs.Words.{number}
use Rattle.onfi_problem.specs.declared.lun_state.LunState.TheVariants.{Running}
use Rattle.onfi_problem.specs.Problem.{IsProblem, Problem, has_id}
use Rattle.onfi_schedule.specs.Schedule.{Legal, Schedule}
use Rattle.onfi_flight.specs.Flight.{IsFlight}
use Rattle.onfi_die.specs.Order.{IsBeginning}
use Rattle.onfi_chip.specs.Chip.{Chip}
use Rattle.slab.specs.Slab.{Slab}
use Rattle.onfi_core.specs.declared.lent.Lent.{Lent}
use Rattle.onfi_core.specs.declared.outcome.Cause.{Cause}
use Rattle.onfi_core.specs.declared.setup.Setup.{Setup}
use Rattle.onfi_core.specs.declared.slot.Slot.{Slot}
use Rattle.onfi_steady.specs.Waiting.{Books}
use Rattle.onfi_core.specs.Kept.{ChipAgrees, GoesBy, GoesInOrder, IsHalf, Progress, IsReached, IsSound, IsTaken, times}
use Rattle.onfi_core.specs.State.{ChannelState, HalfState, collected_by, device_for, flight_of, is_to, wants_from}
use Rattle.onfi_core.specs.View.{AreFields, IsLent}

-- in order what is left of its plan is legal
pub in_order : (s : Setup) (h : HalfState) → IsSound s h → h.books ≡ None → GoesInOrder s h.now h.left
in_order s h sound none = subst (λ b. GoesBy s b h.now h.left (record { planned = h.planned; accepted = length h.accepted; outdated = h.outdated; stopped = h.stopped })) none sound.way

pub legal_left : (s : Setup) (h : HalfState) → IsSound s h → h.books ≡ None → Legal h.now h.left
legal_left s h sound none = (in_order s h sound none).legal

pub sound_flight : (s : Setup) (h : HalfState) → IsSound s h → h.books ≡ None → IsFlight (flight_of h)
sound_flight s h sound none = let way = in_order s h sound none in record { problem = sound.problem; few = way.few; legal = way.legal }

-- how it goes on stays so where it stops
pub stopped_way : (s : Setup) (books : Option Books) (now : Problem) (left : Schedule) (progress : Progress) (cause : Cause) → GoesBy s books now left progress → GoesBy s books now left (record progress { stopped = Some cause })
stopped_way s None now left progress cause way = record { choice = way.choice; few = way.few; legal = way.legal }
stopped_way s (Some books) now left progress cause way = record { choice = way.choice; waiting = way.waiting; rules = way.rules; all = way.all; current = way.current; in_time = λ going. cc }

-- what is sound where what is accepted and looked at, and the batch, are as before
module _ (s : Setup) (h : HalfState) (half : IsSound s h) (now : Problem) (left : Schedule) (books : Option Books) (outdated : Bool) (held posted : List Reply) (stopped : Option Cause) where
  pub sound_but : now.timing ≡ h.now.timing → now.rules ≡ h.now.rules → length now.luns ≡ length h.now.luns → IsProblem now → GoesBy s books now left (record { planned = h.planned; accepted = length h.accepted; outdated = outdated; stopped = stopped }) → All (IsTaken s h.planned h.accepted) now.wants
      → ((lun : ℕ) (group : List Want) (next ready : ℕ) → slice_get now.luns lun ≡ Some (Running group next ready) → All (IsTaken s h.planned h.accepted) group)
      → ((place : ℕ) → times s (record h { now = now; held = held; posted = posted }) place ≡ number (has_id place) (wants_from s.geometry 0 h.accepted))
      → IsSound s (record h { now = now; left = left; books = books; outdated = outdated; held = held; posted = posted; stopped = stopped })
  sound_but timing rules luns problem way wants running once = record {
    planned = half.planned;
    some_batch = half.some_batch;
    few_batch = half.few_batch;
    timing = timing ∙ half.timing;
    rules = rules ∙ half.rules;
    problem = problem;
    luns = luns ∙ half.luns;
    way = way;
    in_range = half.in_range;
    wants = wants;
    running = running;
    once = once;
    last = half.last;
  }

-- the chip agrees with a half whose plan, books and replies are others
pub chip_but : (s : Setup) (h : HalfState) (chip : Chip) (left : Schedule) (books : Option Books) (outdated : Bool) (held posted : List Reply) (stopped : Option Cause) → ChipAgrees s h chip
    → ChipAgrees s (record h { left = left; books = books; outdated = outdated; held = held; posted = posted; stopped = stopped }) chip
chip_but s h chip left books outdated held posted stopped agrees = record {
  geometry = agrees.geometry;
  timing = agrees.timing;
  blocks = λ l b. (let o = agrees.blocks l b in record { ran = o.ran; contents = o.contents; order = o.order });
  luns = agrees.luns;
}

-- the fields of a half whose slots are as before
pub fields_but : (s : Setup) (slots : Slab Slot) (came : ℕ) (room room' : ℕ) (kept kept' : List Reply) (at at' : Option Lent) (h h' : HalfState) (lent lent' : Option Reply) → AreFields s slots came room kept at h lent
    → h'.accepted ≡ h.accepted → h'.posted ≡ h.posted → room' ≡ room → IsLent h'.held kept' at' lent' → IsSound s h' → AreFields s slots came room' kept' at' h' lent'
fields_but s slots came room room' kept kept' at at' h h' lent lent' f accepted posted same lending sound = record {
  slots_are = rw (accepted, posted) f.slots_are;
  count = f.count ∙ ap length (sym accepted);
  numbered = rw accepted f.numbered;
  room_is = rw same f.room_is;
  lending = lending;
  sound = sound;
}

-- nothing more is accepted or posted
pub other_half : (s : Setup) (c : ChannelState) (h : HalfState) (chip : Chip) → IsReached s c → h.accepted ≡ c.half.accepted → h.posted ≡ c.half.posted
    → IsHalf s (device_for s chip) h → (h.stopped ≡ None → ChipAgrees s h chip) → IsReached s (record c { half = h; chip = chip })
other_half s c h chip r accepted posted half agrees = record {
  half = half;
  chip = agrees;
  sent = r.sent ∙ ap (λ xs. xs ++ c.waiting) (sym accepted);
  in_range = r.in_range;
  hosts = r.hosts;
  fit = r.fit;
  serials = r.serials;
  collected = λ host. subst (λ rs. IsBeginning (collected_by host c) (filter (is_to host) rs)) (sym posted) (r.collected host);
}

-- .. nor is a reply made
pub same_replies : (s : Setup) (c : ChannelState) (h : HalfState) (chip : Chip) → IsReached s c → h.accepted ≡ c.half.accepted → h.posted ≡ c.half.posted
    → h.held ≡ c.half.held → chip.faults ≡ c.chip.faults → IsSound s h → (h.stopped ≡ None → ChipAgrees s h chip)
    → IsReached s (record c { half = h; chip = chip })
same_replies s c h chip r accepted posted held faults sound agrees = other_half s c h chip r accepted posted (record {
  sound = sound;
  held = rw (faults, accepted, held) r.half.held;
  posted = rw (faults, accepted, posted) r.half.posted;
  made = rw (faults, accepted, posted, held) r.half.made;
}) agrees
