-- The phase of least start, seen where it is said, is due in the flight that is said.
use Rattle.std.proofs.Common.{◌≡◌, ℕ, ◌*◌, ◌^◌, ◌<◌, ◌≤◌, true, false, List, length, max, None, Some, sym, ap, ◌∙◌, subst, arith}
use Rattle.std.specs.Prelude.{◌==◌, slice_get}
use Rattle.std.proofs.lemmas.List.{length-map}
use Rattle.onfi_timing.specs.declared.timing.Timing.{Timing}
use Rattle.onfi_request.specs.declared.want.Want.{Want}
use Rattle.onfi_group.specs.declared.rules.Rules.{Rules}
use Rattle.onfi_group.specs.Group.{IsStartable, lun_of}
use Rattle.onfi_problem.specs.declared.lun_state.LunState.TheVariants.{Free, Running}
use Rattle.onfi_problem.proofs.Lists.{map_get}
use Rattle.onfi_flight.specs.declared.turn.Turn.TheVariants as turn
use Rattle.onfi_flight.specs.Flight.{Flight, IsDue}
use Rattle.onfi_flight.specs.Turns.{IsTurn}
use Rattle.onfi_flight.proofs.Begins.{first_is_due, next_is_due}
use Rattle.onfi_calls.specs.declared.least.Start.{Start}
use Rattle.onfi_calls.specs.declared.channel.PlainLun.{PlainLun}
use Rattle.onfi_calls.specs.declared.channel.PlainWant.{PlainWant}
use Rattle.onfi_calls.specs.declared.schedule.PlainGroup.{PlainGroup}
use Rattle.onfi_calls.specs.declared.schedule.PlainSchedule.{PlainSchedule}
use Rattle.onfi_calls.specs.InOrder.{IsFirst, flight_of, start_of}
use Rattle.onfi_calls.specs.Problem.{members_of, state_of, states_of, wants_of}
use Rattle.onfi_calls.specs.ReadSchedule.{group_of, groups_of, rest_of, rests_of}

-- what a LUN does that says a group, or none
pub runs : (bits : ℕ) (luns : List PlainLun) (at : ℕ) (lun : PlainLun) → slice_get luns at ≡ Some lun → (lun.members == 0) ≡ false
    → slice_get (states_of bits luns) at ≡ Some (Running (wants_of bits (members_of lun)) lun.next lun.since)
runs bits luns at lun there some = let e = map_get (state_of bits) luns at lun there in rw some at e

pub is_free : (bits : ℕ) (luns : List PlainLun) (at : ℕ) (lun : PlainLun) → slice_get luns at ≡ Some lun → (lun.members == 0) ≡ true → slice_get (states_of bits luns) at ≡ Some (Free lun.since)
is_free bits luns at lun there none = let e = map_get (state_of bits) luns at lun there in rw none at e

pub next_in_place : (bits bus_free : ℕ) (luns : List PlainLun) (next : Start) (lun : PlainLun) (copy : List Want) (at : ℕ) → slice_get luns next.at ≡ Some lun → (lun.members == 0) ≡ false
    → max bus_free lun.since ≤ next.time → lun.next < 2 * length (wants_of bits (members_of lun)) → next.time < 2 ^ 63 → copy ≡ wants_of bits (members_of lun) → at ≡ next.at
    → (f : Flight) → f.now.bus_free ≡ bus_free → f.now.luns ≡ states_of bits luns → IsTurn f.left.rest f.left.groups (turn.Next (start_of next))
    → IsDue f (record { start = next.time; group = copy; phase = lun.next; lun = at; place = None })
next_in_place bits bus_free luns next lun copy at there some late within time same_group same_lun f bus states is =
    let running = ap (λ xs. slice_get xs next.at) states ∙ runs bits luns next.at lun there some in
    let top : max f.now.bus_free lun.since ≤ next.time = subst (λ n. max n lun.since ≤ next.time) (sym bus) late in
    next_is_due f (start_of next) is (wants_of bits (members_of lun)) copy lun.next lun.since at running top within time same_group same_lun

pub first_in_place : (timing : Timing) (rules : Rules) (bus_free : ℕ) (luns : List PlainLun) (wants : List PlainWant) (schedule : PlainSchedule) (first : Start) (said : PlainGroup) (lun : PlainLun)
    (group : List Want) (at : ℕ) → slice_get (groups_of schedule) first.at ≡ Some said → group ≡ (group_of (wants_of rules.plane_bits wants) said).members → slice_get luns at ≡ Some lun
    → (lun.members == 0) ≡ true → max bus_free lun.since ≤ first.time → at < length (rests_of schedule) → IsStartable rules (wants_of rules.plane_bits wants) group → first.time < 2 ^ 63
    → at ≡ lun_of group → IsFirst (flight_of timing rules bus_free luns wants schedule) first
    → IsDue (flight_of timing rules bus_free luns wants schedule) (record { start = first.time; group = group; phase = 0; lun = at; place = Some first.at })
first_in_place timing rules bus_free luns wants schedule first said lun group at there named state none late low startable time same is =
    let ws = wants_of rules.plane_bits wants in
    let f = flight_of timing rules bus_free luns wants schedule in
    let g = group_of ws said in
    let free : slice_get f.now.luns (lun_of g.members) ≡ Some (Free lun.since) =
    subst (λ n. slice_get f.now.luns n ≡ Some (Free lun.since)) (same ∙ ap lun_of named) (is_free rules.plane_bits luns at lun state none) in
    let count = length-map (rests_of schedule) rest_of in
    first_is_due f (start_of first) is g (map_get (group_of ws) (groups_of schedule) first.at said there) group lun.since at free late (subst (IsStartable rules ws) named startable)
    (omega (arith, low, count)) time named (same ∙ ap lun_of named)
