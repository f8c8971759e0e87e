-- A wait keeps what every reachable state keeps.
use Rattle.std.proofs.Common.{◌≡◌, ℕ, ◌<◌, ◌^◌, Bool, List, length, Option, Some, None, refl, arith}
use Rattle.std.specs.Prelude.{max}
use Rattle.onfi_request.specs.declared.reply.Reply.{Reply}
use Rattle.onfi_steady.specs.Waiting.{Books}
use Rattle.onfi_flight.proofs.Stays.{wait_stays}
use Rattle.slab.specs.Slab.{Slab}
use Rattle.onfi_core.specs.declared.lent.Lent.{Lent}
use Rattle.onfi_core.specs.declared.setup.Setup.{Setup}
use Rattle.onfi_core.specs.declared.slot.Slot.{Slot}
use Rattle.onfi_core.specs.Kept.{GoesBy, IsReached, IsSound}
use Rattle.onfi_core.specs.State.{ChannelState, HalfState, Way, flight_of, way_of, with_way}
use Rattle.onfi_core.specs.Steps.{latest_by, left_waited, outdated_by, waited}
use Rattle.onfi_core.specs.Ways.{way_waited}
use Rattle.onfi_core.specs.View.{AreFields}
use Rattle.onfi_core.proofs.Halves.{fields_but, same_replies, sound_but, sound_flight}

module _ (s : Setup) (moment : ℕ) (h : HalfState) (r : IsSound s h) where
  abbrev later : HalfState
  later = waited moment h

  way_waits : (books : Option Books) → h.books ≡ books → GoesBy s books h.now h.left (record { planned = h.planned; accepted = length h.accepted; outdated = h.outdated; stopped = h.stopped })
      → latest_by books moment (flight_of h) < 2 ^ 62
      → GoesBy s books (record h.now { bus_free = max h.now.bus_free moment }) (left_waited books moment (flight_of h))
      (record { planned = h.planned; accepted = length h.accepted; outdated = outdated_by books h.outdated h.now.bus_free moment; stopped = h.stopped })
  way_waits None none way low =
      let stays = wait_stays (flight_of h) moment (sound_flight s h r none) in
      record { choice = way.choice; few = stays.few; legal = stays.legal }
  way_waits (Some books) is way low = record {
    choice = way.choice;
    waiting = way.waiting;
    rules = way.rules;
    all = way.all;
    current = way.current;
    in_time = λ going. (let t = way.in_time going in record { bus = (let b = t.bus in omega (arith, b, low)); luns = t.luns });
  }

  pub sound_waited : latest_by h.books moment (flight_of h) < 2 ^ 62 → IsSound s (waited moment h)
  sound_waited low =
      sound_but s h r later.now later.left h.books later.outdated h.held h.posted h.stopped refl refl refl
      (record { wants = r.problem.wants; in_range = r.problem.in_range; ids = r.problem.ids; running = r.problem.running }) (way_waits h.books refl r.way low) r.wants r.running r.once

pub wait_kept : (s : Setup) (c : ChannelState) (moment : ℕ) → latest_by c.half.books moment (flight_of c.half) < 2 ^ 62 → IsReached s c → IsReached s (record c { half = waited moment c.half })
wait_kept s c moment low r = same_replies s c (waited moment c.half) c.chip r refl refl refl refl (sound_waited s moment c.half r.half.sound low)
    (λ going. (let g = r.chip going in record { geometry = g.geometry; timing = g.timing; blocks = λ l b. (let o = g.blocks l b in record { ran = o.ran; contents = o.contents; order = o.order }); luns = g.luns }))

-- the fields of a half after a wait
pub fields_waited : (s : Setup) (slots : Slab Slot) (came : ℕ) (room : ℕ) (kept : List Reply) (at : Option Lent) (h : HalfState) (lent : Option Reply) (moment : ℕ) (way' : Way) (outdated : Bool)
    → AreFields s slots came room kept at h lent → latest_by h.books moment (flight_of h) < 2 ^ 62 → way' ≡ way_waited moment (way_of h) → outdated ≡ outdated_by h.books h.outdated h.now.bus_free moment
    → AreFields s slots came room kept at (record (with_way h way') { outdated = outdated }) lent
fields_waited s slots came room kept at h lent moment way' outdated f low ef eo =
    rw (ef, eo) (fields_but s slots came room room kept kept at at h (waited moment h) lent lent f refl refl refl f.lending (sound_waited s moment h f.sound low))
