-- What is in order is a problem in its limits.
use Rattle.std.proofs.Common.{◌≡◌, ℕ, zero, suc, ◌+◌, ◌-◌, ◌*◌, ◌%◌, ◌^◌, ◌<◌, ◌≤◌, Bool, true, false, List, [], ◌∷◌, length, get_or, Option, None, Some, inl, inr, refl, sym, ap, ◌∙◌, subst, arith}
use Rattle.std.specs.Prelude.{◌==◌, ◌||◌, IfSome, not, nat_lt}
use Rattle.std.specs.List.{AllByRecursion as Each, list_any}
use Rattle.std.proofs.lemmas.Bool.{cases_Bool}
use Rattle.std.proofs.lemmas.Bool.Decides.{nat_tests}
use Rattle.std.proofs.lemmas.List.{length-map}
use Rattle.onfi_timing.specs.declared.kind.Kind.TheVariants.{Read, ReadSectors, Program, Erase}
use Rattle.onfi_timing.specs.declared.timing.Timing.{Timing}
use Rattle.onfi_request.specs.declared.want.Want.{Want}
use Rattle.onfi_group.specs.declared.rules.Rules.{Rules}
use Rattle.onfi_group.specs.Group.{IsGroup, lun_of}
use Rattle.onfi_problem.specs.Checks.{AreLuns, time_of}
use Rattle.onfi_problem.specs.Left.{InLimits}
use Rattle.onfi_problem.specs.Problem.{HasLengths, IsProblem, IsRunning, IsSmall, IsWant}
use Rattle.onfi_problem.proofs.Sums.{luns_run}
use Rattle.onfi_calls.specs.declared.channel.PlainChannel.{PlainChannel}
use Rattle.onfi_calls.specs.declared.channel.PlainLun.{PlainLun}
use Rattle.onfi_calls.specs.declared.channel.PlainWant.{PlainWant}
use Rattle.onfi_calls.specs.declared.schedule.PlainGroup.{PlainGroup}
use Rattle.onfi_calls.specs.declared.schedule.PlainRest.{PlainRest}
use Rattle.onfi_calls.specs.declared.schedule.PlainSchedule.{PlainSchedule}
use Rattle.onfi_calls.specs.Flights.{IsFlightSaid}
use Rattle.onfi_calls.specs.InOrder.{AreEarly, RiseFrom, flight_of, has_page, is_foreign, is_half, is_odd_group, is_odd_rest, is_odd_schedule, problem_said}
use Rattle.onfi_calls.specs.Problem.{AreRules, IsTiming, have_lacking, kind_of, luns_of, operation_in, read_of, sectors_in, state_of, states_of, want_of, wants_of}
use Rattle.onfi_calls.specs.ReadSchedule.{groups_of, is_bad_group, is_bad_rest, is_bad_schedule, is_late, rest_of, rests_of, starts_of}
use Rattle.onfi_calls.proofs.Horizons.{horizon_early}
use Rattle.onfi_calls.proofs.Orders.{rise_of}

-- Wants

plane_low : (bits block : ℕ) → bits ≤ 2 → block % 2 ^ bits ≤ 3
plane_low zero block low = omega arith
plane_low (suc zero) block low = omega arith
plane_low (suc (suc zero)) block low = omega arith
plane_low (suc (suc (suc bits))) block low = absurd (omega (arith, low))

reads : (count : ℕ) → read_of count ≡ Erase → ⊥
reads count is = elim (cases_Bool (count == 0)) [ inl none ↦ (let z : Read ≡ Erase = rw none at is in cc) | inr some ↦ (let z : ReadSectors 0 count ≡ Erase = rw some at is in cc) ]

erases : (kind : ℕ) → kind_of kind ≡ Erase → nat_lt 1 (operation_in kind) ≡ true
erases kind is = elim (cases_Bool (operation_in kind == 0)) [
  | inl read ↦ absurd (reads (sectors_in kind) (rw read at is))
  | inr other ↦ elim (cases_Bool (operation_in kind == 1)) [
    | inl program ↦ absurd (let z : Program ≡ Erase = rw (other, program) at is in cc)
    | inr erase ↦ grind (arith, nat_tests)
  ]
]

page_none : (w : PlainWant) → has_page w ≡ false → kind_of w.kind ≡ Erase → w.page ≡ 0
page_none w none is =
    let over = erases w.kind is in
    let e : not (w.page == 0) ≡ false = rw over at none in
    grind (arith, nat_tests)

pub is_want : (bits : ℕ) (w : PlainWant) → bits ≤ 2 → has_page w ≡ false → IsWant (want_of bits w)
is_want bits w low none = record { plane = plane_low bits w.block low; erase = page_none w none }

pub are_wants : (bits : ℕ) (wants : List PlainWant) → bits ≤ 2 → list_any has_page wants ≡ false → Each IsWant (wants_of bits wants)
are_wants bits [] low none = tt
are_wants bits (w ∷ wants) low none = elim (cases_Bool (has_page w)) [
  | inl hit ↦ absurd (let z : true ≡ false = rw hit at none in cc)
  | inr miss ↦ (let more : list_any has_page wants ≡ false = rw miss at none in (is_want bits w low miss, are_wants bits wants low more))
]

pub are_there : (bits luns : ℕ) (wants : List PlainWant) → list_any (is_foreign luns) wants ≡ false → Each (λ w. w.lun < luns) (wants_of bits wants)
are_there bits luns [] none = tt
are_there bits luns (w ∷ wants) none = elim (cases_Bool (is_foreign luns w)) [
  | inl hit ↦ absurd (let z : true ≡ false = rw hit at none in cc)
  | inr miss ↦ (
      let more : list_any (is_foreign luns) wants ≡ false = rw miss at none in
      let low : w.lun < luns = grind (arith, nat_tests) in
      (low, are_there bits luns wants more))
]

-- one want is a group
pub one_group : (rules : Rules) (w : Want) → IsGroup rules (w ∷ [])
one_group rules w = record {
  some = omega arith;
  few = omega arith;
  operation = (refl, tt);
  lun = (refl, tt);
  planes = (tt, tt);
  page = λ other. (refl, tt);
  rule = λ more. absurd (omega (arith, more));
  strict = λ is. (refl, tt);
}

pub one_said : (rules : Rules) (bits : ℕ) (members : List PlainWant) → length members ≡ 1 → IsGroup rules (wants_of bits members)
one_said rules bits [] one = absurd (omega (arith, one))
one_said rules bits (w ∷ []) one = one_group rules (want_of bits w)
one_said rules bits (w ∷ v ∷ members) one = absurd (omega (arith, one))

-- LUNs

first_lun : (bits : ℕ) (members : List PlainWant) (d : PlainWant) → 1 ≤ length members → lun_of (wants_of bits members) ≡ (get_or members 0 d).lun
first_lun bits [] d some = absurd (omega (arith, some))
first_lun bits (m ∷ members) d some = refl

pub runs_there : (rules : Rules) (at next : ℕ) (members : List PlainWant) (d : PlainWant) → IsGroup rules (wants_of rules.plane_bits members) → (get_or members 0 d).lun ≡ at
    → list_any has_page members ≡ false → 1 ≤ next → next < 2 * length members → IsRunning rules at (wants_of rules.plane_bits members) next
runs_there rules at next members d group same none some less =
    let count : length (wants_of rules.plane_bits members) ≡ length members = length-map members (want_of rules.plane_bits) in
    record {
      group = group;
      lun = first_lun rules.plane_bits members d (omega (arith, less)) ∙ same;
      wants = are_wants rules.plane_bits members rules.few_planes none;
      started = some;
      unfinished = omega (arith, count, less);
    }

pub times_early : (bits t : ℕ) (luns : List PlainLun) → 2 ^ 61 ≤ t → AreEarly luns → Each (λ x. time_of x < t) (states_of bits luns)
times_early bits t [] late early = tt
times_early bits t (lun ∷ luns) late early =
    let sooner = early.0 in
    let one : time_of (state_of bits lun) < t = elim (cases_Bool (lun.members == 0)) [ inl free ↦ rw free (omega (arith, sooner, late)) | inr runs ↦ rw runs (omega (arith, sooner, late)) ] in
    (one, times_early bits t luns late early.1)

pub some_luns : (n : ℕ) → (n == 0) ≡ false → 1 ≤ n
some_luns zero none = cc
some_luns (suc n) none = omega arith

pub limits_of : (timing : Timing) (rules : Rules) (bus_free : ℕ) (luns : List PlainLun) (wants : List PlainWant) → rules.plane_bits ≤ 2 → length luns ≤ 8 → length wants ≤ 8 → 1 ≤ length luns
    → bus_free < 2 ^ 61 → AreEarly luns → AreLuns rules 0 (states_of rules.plane_bits luns) → list_any has_page wants ≡ false → list_any (is_foreign (length luns)) wants ≡ false
    → RiseFrom 0 (2 ^ 64 - 1) wants → InLimits (problem_said timing rules bus_free luns wants)
limits_of timing rules bus_free luns wants bits few_luns few_wants some bus early are pages foreign rise =
    let b = rules.plane_bits in
    let all_luns : length (states_of b luns) ≡ length luns = length-map luns (state_of b) in
    let all_wants : length (wants_of b wants) ≡ length wants = length-map wants (want_of b) in
    let p = problem_said timing rules bus_free luns wants in
    let small : IsSmall p = record {
      wants = omega (arith, all_wants, few_wants);
      some_luns = omega (arith, all_luns, some);
      few_luns = omega (arith, all_luns, few_luns);
    } in
    let is : IsProblem p = record {
      wants = are_wants b wants bits pages;
      in_range = subst (λ n. Each (λ w. w.lun < n) (wants_of b wants)) (sym all_luns) (are_there b (length luns) wants foreign);
      ids = rise_of (2 ^ 64 - 1) b 0 wants rise;
      running = λ lun g n r e. let z : 0 + lun ≡ lun = omega arith in subst (λ i. IsRunning rules i g n) z (luns_run rules 0 (states_of b luns) are lun g n r e);
    } in
    let sooner = horizon_early p (2 ^ 61) small is bus (times_early b (2 ^ 61) luns (omega arith) early) in
    record { small = small; problem = is; horizon = omega (arith, sooner) }

-- Schedules

pub both_false : (a b : Bool) → (a || b) ≡ false → (a ≡ false) × (b ≡ false)
both_false true b none = cc
both_false false b none = (refl, none)

pub none_weaker : {A : Type 0} (f g : A → Bool) → ((x : A) → f x ≡ false → g x ≡ false) → (xs : List A) → list_any f xs ≡ false → list_any g xs ≡ false
none_weaker f g weaker [] none = refl
none_weaker f g weaker (x ∷ xs) none =
    let both = both_false (f x) (list_any f xs) none in
    let first = weaker x both.0 in
    let rest = none_weaker f g weaker xs both.1 in
    rw first rest

in_time : (x : ℕ) → is_half x ≡ false → is_late x ≡ false
in_time x early = let low : x < 2 ^ 61 = grind (arith, nat_tests) in grind (arith, nat_tests)

good_rest : (r : PlainRest) → is_odd_rest r ≡ false → is_bad_rest r ≡ false
good_rest r even =
    let both = both_false (nat_lt 8 r.starts) (list_any is_half (rest_of r)) even in
    let few = both.0 in
    rw few (none_weaker is_half is_late in_time (rest_of r) both.1)

good_group : (g : PlainGroup) → is_odd_group g ≡ false → is_bad_group g ≡ false
good_group g even =
    let one = both_false (g.members == 0) (nat_lt 4 g.members || list_any is_half (starts_of g)) even in
    let two = both_false (nat_lt 4 g.members) (list_any is_half (starts_of g)) one.1 in
    let some = one.0 in
    let few = two.0 in
    rw (some, few) (none_weaker is_half is_late in_time (starts_of g) two.1)

pub even_good : (s : PlainSchedule) → is_odd_schedule s ≡ false → is_bad_schedule s ≡ false
even_good s even =
    let one = both_false (nat_lt 8 s.luns) (nat_lt 8 s.groups || (list_any is_odd_rest (rests_of s) || list_any is_odd_group (groups_of s))) even in
    let two = both_false (nat_lt 8 s.groups) (list_any is_odd_rest (rests_of s) || list_any is_odd_group (groups_of s)) one.1 in
    let three = both_false (list_any is_odd_rest (rests_of s)) (list_any is_odd_group (groups_of s)) two.1 in
    let luns = one.0 in
    let groups = two.0 in
    let rests = none_weaker is_odd_rest is_bad_rest good_rest (rests_of s) three.0 in
    rw (luns, groups, rests) (none_weaker is_odd_group is_bad_group good_group (groups_of s) three.1)

-- Flights

pub some_tells : {A P : Type 0} (o : Option A) → P → IfSome o (λ _. P)
some_tells None p = tt
some_tells (Some x) p = p

pub flight_said : (channel : PlainChannel) (wants : List PlainWant) (schedule : PlainSchedule) (timing : Timing) (rules : Rules) → IsTiming channel timing
    → have_lacking channel wants ≡ false → HasLengths (problem_said timing rules channel.bus_free (luns_of channel) wants) → AreRules channel.rules rules → is_odd_schedule schedule ≡ false
    → InLimits (problem_said timing rules channel.bus_free (luns_of channel) wants)
    → IsFlightSaid channel wants schedule (flight_of timing rules channel.bus_free (luns_of channel) wants schedule)
flight_said channel wants schedule timing rules is_timing lengths measured are even limits = record {
  said = record {
    problem = record {
      timing = is_timing;
      rules = are;
      bus_free = refl;
      states = ap (λ b. states_of b (luns_of channel)) are.plane_bits;
      requests = ap (λ b. wants_of b wants) are.plane_bits;
    };
    lengths = lengths;
    good = even_good schedule even;
    is = refl;
  };
  limits = limits;
  measured = measured;
}
