-- What is kept after a phase says the problem that the phase leaves.
use Rattle.std.proofs.Common.{◌≡◌, ℕ, zero, suc, ◌+◌, ◌*◌, ◌%◌, ◌^◌, ◌<◌, ◌≤◌, Bool, true, false, List, [], ◌∷◌, length, map, take, drop, Option, Some, None, inl, inr, refl, sym, ap, ◌∙◌, subst, arith, length-set}
use Rattle.std.specs.Prelude.{◌==◌, not, nat_lt, if◌then◌else◌, slice_get, slice_set, slice_index_or, replicate}
use Rattle.std.specs.List.{AllByRecursion as Each, filter}
use Rattle.std.proofs.Math.Seq.{take-append_seam}
use Rattle.std.proofs.lemmas.Bool.{cases_Bool, ne_eqb}
use Rattle.std.proofs.lemmas.Bool.Decides.{nat_tests}
use Rattle.std.proofs.lemmas.List.{length-map}
use Rattle.onfi_timing.specs.declared.timing.Timing.{Timing}
use Rattle.onfi_timing.specs.Phases.{phase_length, wait_before}
use Rattle.onfi_request.specs.declared.want.Want.{Want}
use Rattle.onfi_group.specs.declared.rules.Rules.{Rules}
use Rattle.onfi_group.specs.Group.{IsFirst, group_spans, is_member, on_block}
use Rattle.onfi_problem.specs.declared.fault.ProblemFault.{ProblemFault}
use Rattle.onfi_problem.specs.declared.fault.ProblemFault.TheVariants.{TooMany, BadLun, NoLengths, Clock, Memory}
use Rattle.onfi_problem.specs.declared.lun_state.LunState.{LunState}
use Rattle.onfi_problem.specs.declared.lun_state.LunState.TheVariants.{Free, Running}
use Rattle.onfi_problem.specs.Faults.{TellsFault}
use Rattle.onfi_problem.specs.Kept.{problem_of}
use Rattle.onfi_problem.specs.Left.{InLimits, horizon}
use Rattle.onfi_problem.specs.Problem.{Problem, HasLengths, IsProblem, IsSmall}
use Rattle.onfi_problem.specs.Moves.{IsMove, lun_after}
use Rattle.onfi_problem.proofs.Kept.{kept, kept_small}
use Rattle.onfi_problem.proofs.Lists.{map_found, map_set}
use Rattle.onfi_problem.proofs.Wants.{All-filter, filter_shorter}
use Rattle.onfi_schedule.specs.Schedule.{Legal}
use Rattle.onfi_flight.specs.declared.due.Due.{Due}
use Rattle.onfi_flight.specs.Flight.{Flight, IsDue, IsFlight, IsPhase, after_late, move_by, move_of, wants_behind}
use Rattle.onfi_flight.proofs.Begins.{due_lun, placed_is}
use Rattle.onfi_flight.proofs.Stays.{late_stays}
use Rattle.onfi_calls.specs.declared.channel.PlainChannel.{PlainChannel}
use Rattle.onfi_calls.specs.declared.channel.PlainLun.{PlainLun}
use Rattle.onfi_calls.specs.declared.channel.PlainWant.{PlainWant}
use Rattle.onfi_calls.specs.declared.ran.Behind.{Behind}
use Rattle.onfi_calls.specs.declared.schedule.PlainSchedule.{PlainSchedule}
use Rattle.onfi_calls.specs.declared.status.Status.TheVariants as status
use Rattle.onfi_calls.specs.Due.{number_of_kind}
use Rattle.onfi_calls.specs.Ran.{Flies, channel_then, IsBehind, IsDueThere, IsRan, Kept, kept_behind, lun_in, no_want, telling}
use Rattle.onfi_calls.specs.Refused.{IsBadProblem, IsFaultSaid}
use Rattle.onfi_calls.specs.Problem.{AreRules, IsSaid, IsTiming, kind_of, luns_of, members_of, operation_in, read_of, sectors_in, state_of, states_of, want_of, wants_of}
use Rattle.onfi_calls.specs.Status.{problem_status}
use Rattle.onfi_calls.specs.PlainSchedule.{filled, written_schedule, written_want}
use Rattle.onfi_calls.proofs.Stated.{kept_lengths}

-- Why what is said is no problem

pub fault_told : (p : Problem) (fault : ProblemFault) → HasLengths p → TellsFault p (Some fault) → IsBadProblem false p (problem_status fault)
fault_told p TooMany has tells = tells
fault_told p BadLun has tells = tells
fault_told p NoLengths has tells = absurd (tells.2 has)
fault_told p Clock has tells = (tells.0, tells.1, refl, tells.3)
fault_told p Memory has tells = tells

-- a problem has no fault but its times
pub only_late : (p : Problem) (fault : ProblemFault) → IsSmall p → IsProblem p → HasLengths p → TellsFault p (Some fault) → 2 ^ 62 ≤ horizon p
only_late p TooMany small ip has tells = absurd (tells small)
only_late p BadLun small ip has tells = absurd (tells.1 ip)
only_late p NoLengths small ip has tells = absurd (tells.2 has)
only_late p Clock small ip has tells = tells.3
only_late p Memory small ip has tells = absurd tells

pub too_many : (channel : PlainChannel) (wants : List PlainWant) (timing : Timing) → IsTiming channel timing → channel.rules.plane_bits ≤ 2 → 8 < length wants → IsFaultSaid channel wants status.TooMany
too_many channel wants timing is_timing bits many =
    let said = channel.rules in
    let rules : Rules = record { read = said.read; write = said.write; strict = said.strict; plane_bits = said.plane_bits; few_planes = bits } in (
      problem_of timing rules channel.bus_free (states_of said.plane_bits (luns_of channel)) (wants_of said.plane_bits wants),
      record { timing = is_timing; rules = record { read = refl; write = refl; strict = refl; plane_bits = refl }; bus_free = refl; states = refl; requests = refl },
      λ small. let few_wants = small.wants in let all_wants = length-map wants (want_of said.plane_bits) in omega (arith, few_wants, all_wants, many),
    )

-- where a flight is no legal one, what is left of its schedule isn't legal
pub flies : (f : Flight) → InLimits f.now → Legal f.now f.left → IsFlight f
flies f limits legal = record { problem = limits.problem; few = limits.small.wants; legal = legal }

-- The LUN of the phase

goes_by : (more : Bool) (group : List Want) (n ready ended bits : ℕ) (lun : PlainLun) → (lun.members == 0) ≡ false → wants_of bits (take lun.members lun.member) ≡ group
    → state_of bits (lun_in (if more then Running group n ready else Free ended) lun) ≡ (if more then Running group n ready else Free ended)
goes_by true group n ready ended bits lun some tells = rw some (ap (λ x. Running x n ready) tells)
goes_by false group n ready ended bits lun some tells = refl

-- it goes on with its group, or is free
pub goes_on : (timing : Timing) (group : List Want) (n ended bits : ℕ) (lun : PlainLun) (state : LunState) → state ≡ lun_after timing group n ended → 1 ≤ lun.members
    → wants_of bits (take lun.members lun.member) ≡ group → state_of bits (lun_in state lun) ≡ lun_after timing group n ended
goes_on timing group n ended bits lun state is some tells =
    let members : (lun.members == 0) ≡ false = ne_eqb lun.members 0 (λ e. omega (arith, e, some)) in
    ap (λ x. state_of bits (lun_in x lun)) is
    ∙ goes_by (nat_lt (n + 1) (2 * length group)) group (n + 1) (ended + wait_before (group_spans timing group) (length group) (n + 1)) ended bits lun members tells

-- what a LUN says that runs a group
pub says_running : (bits : ℕ) (lun : PlainLun) (g : List Want) (n r : ℕ) → state_of bits lun ≡ Running g n r → (1 ≤ lun.members) × (wants_of bits (members_of lun) ≡ g)
says_running bits lun g n r e = elim (cases_Bool (lun.members == 0)) [
  | inl none ↦ absurd (let z : Free lun.since ≡ Running g n r = rw none at e in cc)
  | inr some ↦ (
      let z : Running (wants_of bits (members_of lun)) lun.next lun.since ≡ Running g n r = rw some at e in
      let least : lun.members ≡ 0 → ⊥ = λ zero_is. (let t : (lun.members == 0) ≡ true = grind (arith, nat_tests) in cc) in
      (omega arith, cc))
]

-- a want that is said so is it again: it is on the plane that its block names, and its kind is by its number
pub record IsPlain (bits : ℕ) (w : Want) : Type 0 where
  pub plane : w.plane ≡ w.block % 2 ^ bits
  pub kind : kind_of (number_of_kind w.kind) ≡ w.kind

read_again : (count : ℕ) → count < 8 → kind_of (number_of_kind (read_of count)) ≡ read_of count
read_again zero few = refl
read_again (suc zero) few = refl
read_again (suc (suc zero)) few = refl
read_again (suc (suc (suc zero))) few = refl
read_again (suc (suc (suc (suc zero)))) few = refl
read_again (suc (suc (suc (suc (suc zero))))) few = refl
read_again (suc (suc (suc (suc (suc (suc zero)))))) few = refl
read_again (suc (suc (suc (suc (suc (suc (suc zero))))))) few = refl
read_again (suc (suc (suc (suc (suc (suc (suc (suc count)))))))) few = absurd (omega (arith, few))

pub kind_again : (kind : ℕ) → kind_of (number_of_kind (kind_of kind)) ≡ kind_of kind
kind_again kind = elim (cases_Bool (operation_in kind == 0)) [
  | inl read ↦ rw read (read_again (sectors_in kind) (omega arith))
  | inr other ↦ elim (cases_Bool (operation_in kind == 1)) [ inl program ↦ rw (other, program) refl | inr erase ↦ rw (other, erase) refl ]
]

pub are_plain : (bits : ℕ) (wants : List PlainWant) → Each (IsPlain bits) (wants_of bits wants)
are_plain bits [] = tt
are_plain bits (w ∷ wants) = (record { plane = refl; kind = kind_again w.kind }, are_plain bits wants)

pub first_keeps : (P : Want → Type 0) (f : Want → Bool) (wants : List Want) (m : Want) → Each P wants → slice_get (filter f wants) 0 ≡ Some m → P m
first_keeps P f [] m each e = cc
first_keeps P f (w ∷ wants) m each e = elim (cases_Bool (f w)) [
  | inl hit ↦ (let z : Some w ≡ Some m = rw hit at e in let q : w ≡ m = cc in subst P q each.0)
  | inr miss ↦ (let z : slice_get (filter f wants) 0 ≡ Some m = rw miss at e in first_keeps P f wants m each.1 z)
]

members_keep : (P : Want → Type 0) (wants members : List Want) → Each P wants → Each (IsFirst wants) members → Each P members
members_keep P wants [] each first = tt
members_keep P wants (m ∷ members) each first = (first_keeps P (on_block m) wants m each first.0, members_keep P wants members each first.1)

pub want_again : (bits : ℕ) (w : Want) → IsPlain bits w → want_of bits (written_want w) ≡ w
want_again bits w plain = let kind = plain.kind in let plane = plain.plane in rw (kind, ← plane) refl

pub wants_again : (bits : ℕ) (wants : List Want) → Each (IsPlain bits) wants → wants_of bits (map written_want wants) ≡ wants
wants_again bits [] each = refl
wants_again bits (w ∷ wants) each = ap (λ x. x ∷ wants_of bits (map written_want wants)) (want_again bits w each.0) ∙ ap (λ xs. w ∷ xs) (wants_again bits wants each.1)

-- it names the group of the phase
pub record Tells (bits : ℕ) (group : List Want) (lun : PlainLun) : Type 0 where
  pub some : 1 ≤ lun.members
  pub tells : wants_of bits (take lun.members lun.member) ≡ group

tells_running : (bits : ℕ) (luns : List PlainLun) (lun : ℕ) (d : PlainLun) (g : List Want) (n r : ℕ) → slice_get (states_of bits luns) lun ≡ Some (Running g n r) → Tells bits g (slice_index_or luns lun d)
tells_running bits luns lun d g n r there =
    let says = says_running bits (slice_index_or luns lun d) g n r (map_found (state_of bits) luns lun d (Running g n r) there) in
    record { some = says.0; tells = says.1 }

tells_new : (bits : ℕ) (wants : List Want) (group : List Want) (luns : List PlainLun) (at lun : ℕ) → Each (IsPlain bits) wants → 1 ≤ length group → Each (IsFirst wants) group
    → Tells bits group (telling luns (Some at) lun group)
tells_new bits wants group luns at lun plain some first =
    let same : take (length group) (filled 4 no_want (map written_want group)) ≡ map written_want group =
    ap (λ n. take n (filled 4 no_want (map written_want group))) (sym (length-map group written_want))
    ∙ take-append_seam (map written_want group) (drop (length (map written_want group)) (replicate 4 no_want)) in
    let each : Each (IsPlain bits) group = members_keep (IsPlain bits) wants group plain first in
    record { some = some; tells = ap (wants_of bits) same ∙ wants_again bits group each }

-- .. of a running group as it did, of one that begins by its wants, which wait
pub tells_by : (bits : ℕ) (place : Option ℕ) (p : Problem) (lun : ℕ) (group : List Want) (phase : ℕ) (luns : List PlainLun) → IsPhase p (move_by lun group place) group phase
    → IsMove p (move_by lun group place) → p.luns ≡ states_of bits luns → Each (IsPlain bits) p.wants → Tells bits group (telling luns place lun group)
tells_by bits None p lun group phase luns is move states plain = tells_running bits luns lun _ group phase is.0 (ap (λ xs. slice_get xs lun) (sym states) ∙ is.1)
tells_by bits (Some at) p lun group phase luns is move states plain =
    tells_new bits p.wants group luns at lun plain move.2.group.some move.2.first

-- The wants that wait

waiting_plain : (bits : ℕ) (place : Option ℕ) (group wants : List Want) → Each (IsPlain bits) wants → Each (IsPlain bits) (wants_behind place group wants)
waiting_plain bits None group wants each = each
waiting_plain bits (Some at) group wants each = All-filter (IsPlain bits) (λ w. not (is_member group w)) wants each

waiting_fewer : (place : Option ℕ) (group wants : List Want) → length (wants_behind place group wants) ≤ length wants
waiting_fewer None group wants = omega arith
waiting_fewer (Some at) group wants = filter_shorter (λ w. not (is_member group w)) wants

-- All of it

-- one of the first is set
pub take_set : {A : Type 0} (n : ℕ) (xs : List A) (i : ℕ) (x : A) → i < length (take n xs) → take n (slice_set xs i x) ≡ slice_set (take n xs) i x
take_set zero xs i x low = absurd (omega (arith, low))
take_set (suc n) [] i x low = absurd (omega (arith, low))
take_set (suc n) (y ∷ xs) zero x low = refl
take_set (suc n) (y ∷ xs) (suc i) x low = ap (λ zs. y ∷ zs) (take_set n xs i x (omega (arith, low)))

pub set_there : {A : Type 0} (xs : List A) (i : ℕ) (x : A) → i < length xs → slice_get (slice_set xs i x) i ≡ Some x
set_there [] i x low = absurd (omega (arith, low))
set_there (y ∷ xs) zero x low = refl
set_there (y ∷ xs) (suc i) x low = set_there xs i x (omega (arith, low))

module _ (channel : PlainChannel) (wants : List PlainWant) (f : Flight) (due : Due) (started : ℕ) (said : IsSaid channel wants f.now) (is : IsDue f due) where
  abbrev g : Flight
  g = after_late f due started

  abbrev state : LunState
  state = lun_after f.now.timing due.group due.phase (started + phase_length (group_spans f.now.timing due.group) (length due.group) due.phase)

  pub plain_there : due.lun < length (luns_of channel)
  plain_there =
      let low = due_lun f due is in
      let same = ap length said.states in
      let mapped = length-map (luns_of channel) (state_of channel.rules.plane_bits) in
      omega (arith, low, same, mapped)

  luns_are : g.now.luns ≡ slice_set f.now.luns due.lun state
  luns_are = ap (λ (p : Problem). p.luns) (placed_is f due started is)

  wants_are : g.now.wants ≡ wants_behind due.place due.group f.now.wants
  wants_are = ap (λ (p : Problem). p.wants) (placed_is f due started is)

  pub same_luns : length g.now.luns ≡ length (luns_of channel)
  same_luns = ap length luns_are ∙ length-set f.now.luns due.lun state ∙ ap length said.states ∙ length-map (luns_of channel) (state_of channel.rules.plane_bits)

  pub fewer_wants : length g.now.wants ≤ length wants
  fewer_wants =
      let few = waiting_fewer due.place due.group f.now.wants in
      let same = ap length wants_are in
      let all = ap length said.requests in
      let mapped = length-map wants (want_of channel.rules.plane_bits) in
      omega (arith, few, same, all, mapped)

  -- what the LUN says then it does
  lun_says : (lun : PlainLun) → ((x : LunState) → slice_get g.now.luns due.lun ≡ Some x → lun ≡ lun_in x (telling (luns_of channel) due.place due.lun due.group)) → state_of channel.rules.plane_bits lun ≡ state
  lun_says lun written =
      let plain = subst (Each (IsPlain channel.rules.plane_bits)) (sym said.requests) (are_plain channel.rules.plane_bits wants) in
      let told = tells_by channel.rules.plane_bits due.place f.now due.lun due.group due.phase (luns_of channel) is.phase is.is_move said.states plain in
      let at = ap (λ xs. slice_get xs due.lun) luns_are ∙ set_there f.now.luns due.lun state (due_lun f due is) in
      ap (state_of channel.rules.plane_bits) (written state at)
      ∙ goes_on f.now.timing due.group due.phase (started + phase_length (group_spans f.now.timing due.group) (length due.group) due.phase)
      channel.rules.plane_bits (telling (luns_of channel) due.place due.lun due.group) state refl told.some told.tells

  timing_then : IsTiming channel g.now.timing
  timing_then = subst (IsTiming channel) (sym (ap (λ (p : Problem). p.timing) (placed_is f due started is))) said.timing

  -- what is said of the bus, of that LUN and of what waits, is the problem then
  pub said_then : (bus_free : ℕ) (lun : PlainLun) (waiting : List PlainWant) → bus_free ≡ g.now.bus_free
      → ((x : LunState) → slice_get g.now.luns due.lun ≡ Some x → lun ≡ lun_in x (telling (luns_of channel) due.place due.lun due.group)) → wants_of channel.rules.plane_bits waiting ≡ g.now.wants
      → IsSaid (channel_then channel bus_free due.lun lun) waiting g.now
  said_then bus_free lun waiting bus written left = record {
    timing = record { kinds = timing_then.kinds; sectors = timing_then.sectors };
    rules = subst (AreRules channel.rules) (sym (ap (λ (p : Problem). p.rules) (placed_is f due started is))) said.rules;
    bus_free = sym bus;
    states = luns_are ∙ ap (λ xs. slice_set xs due.lun state) said.states ∙ ap (slice_set (states_of channel.rules.plane_bits (luns_of channel)) due.lun) (sym (lun_says lun written))
        ∙ sym (map_set (state_of channel.rules.plane_bits) (luns_of channel) due.lun lun)
        ∙ ap (states_of channel.rules.plane_bits) (sym (take_set channel.lun_count channel.lun due.lun lun plain_there));
    requests = sym left;
  }

-- that of the bus, of the LUN, of what waits and of the schedule is what a caller keeps then
pub ran_then : (old : Kept) (f : Flight) (due : Due) (lun number started bus_free : ℕ) (behind : PlainLun) (waiting : List PlainWant) (schedule : PlainSchedule) → Flies old f → IsDueThere f due lun number
    → due.start ≤ started → bus_free ≡ (after_late f due started).now.bus_free
    → ((x : LunState) → slice_get (after_late f due started).now.luns due.lun ≡ Some x → behind ≡ lun_in x (telling (luns_of old.channel) due.place due.lun due.group))
    → wants_of old.channel.rules.plane_bits waiting ≡ (after_late f due started).now.wants → schedule ≡ written_schedule (after_late f due started).left → InLimits (after_late f due started).now
    → IsRan old (record { channel = channel_then old.channel bus_free lun behind; wants = waiting; schedule = schedule }) lun number started
ran_then old f due lun number started bus_free behind waiting schedule said there on_time bus written left later limits = record {
  flight = f;
  said = said;
  due = due;
  there = there;
  on_time = on_time;
  legal = λ legal. (late_stays f due started (flies f said.limits legal) there.is on_time).legal;
  after = subst (λ n. IsSaid (channel_then old.channel bus_free n behind) waiting (after_late f due started).now) there.lun_is
      (said_then old.channel old.wants f due started said.said.problem there.is bus_free behind waiting bus written left);
  limits = limits;
  measured = kept_lengths f.now (move_of due) started said.measured there.is.is_move;
  later = later;
}

-- what stands after the due phase is what a caller keeps then
pub ran_behind : (old : Kept) (f : Flight) (due : Due) (lun number started : ℕ) (b : Behind) → Flies old f → IsDueThere f due lun number → due.start ≤ started
    → IsBehind (luns_of old.channel) due (after_late f due started) b → InLimits (after_late f due started).now → IsRan old (kept_behind old lun b) lun number started
ran_behind old f due lun number started b said there on_time written limits =
    let bits = old.channel.rules.plane_bits in
    let behind : (after_late f due started).now.wants ≡ wants_behind due.place due.group f.now.wants = ap (λ (p : Problem). p.wants) (placed_is f due started there.is) in
    let plain = subst (Each (IsPlain bits)) (sym said.said.problem.requests) (are_plain bits old.wants) in
    let kept = subst (Each (IsPlain bits)) (sym behind) (waiting_plain bits due.place due.group f.now.wants plain) in
    ran_then old f due lun number started b.bus_free b.lun b.wants.items b.schedule said there on_time written.bus_free written.lun
    (ap (wants_of bits) written.wants ∙ wants_again bits (after_late f due started).now.wants kept) written.schedule limits

-- the problem that a due phase leaves has no fault but its times
pub only_late_behind : (f : Flight) (due : Due) (started : ℕ) (fault : ProblemFault) → InLimits f.now → HasLengths f.now → IsDue f due → TellsFault (after_late f due started).now (Some fault)
    → 2 ^ 62 ≤ horizon (after_late f due started).now
only_late_behind f due started fault limits has is tells =
    only_late (after_late f due started).now fault (kept_small f.now (move_of due) started limits.small is.is_move) (kept f.now (move_of due) started limits.problem is.is_move)
    (kept_lengths f.now (move_of due) started has is.is_move) tells
