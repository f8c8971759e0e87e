-- What breaches say, of what the functions find.
use Rattle.std.proofs.Common.{◌≡◌, Bool, true, false, IsTrue, ℕ, zero, suc, ◌+◌, ◌-◌, ◌<◌, ◌≤◌, ◌⊎◌, List, [], ◌∷◌, length, drop, Some, get_or, inl, inr, refl, sym, ap, ◌∙◌, subst, arith}
use Rattle.std.specs.Prelude.{slice_get}
use Rattle.std.specs.List.{AllByRecursion as All}
use Rattle.std.proofs.lemmas.Option.{slice_get-get_or}
use Rattle.onfi_timing.specs.declared.timing.Timing.{Timing}
use Rattle.onfi_timing.specs.Phases.{Lengths, phase_length, wait_before}
use Rattle.onfi_request.specs.declared.want.Want.{Want}
use Rattle.onfi_timing.specs.declared.kind.Kind.TheVariants.{Read}
use Rattle.onfi_timing.specs.Kinds.{operation_of}
use Rattle.onfi_group.specs.declared.rules.Rules.{Rules}
use Rattle.onfi_group.specs.Words.{Has, Pairs}
use Rattle.onfi_group.specs.Group.{lun_of, group_spans, may_group, above_planes, IsGroup}
use Rattle.onfi_group.specs.Joining.{GoesWith}
use Rattle.onfi_group.proofs.Lists.{Has-get}
use Rattle.onfi_problem.specs.declared.lun_state.LunState.{LunState}
use Rattle.onfi_problem.specs.Problem.{Problem}
use Rattle.onfi_problem.proofs.Perm.{All-has, All-weaker}
use Rattle.onfi_problem.proofs.Places.{within_get}
use Rattle.onfi_schedule.specs.Schedule.{Placed, Schedule, Before, end_of, group_phases, phases_left, latest, rest_of}
use Rattle.onfi_schedule.specs.declared.breach.Breach.{Breach}
use Rattle.onfi_schedule.specs.declared.breach.Breach.TheVariants.{NotReady, WaitTooShort, RunningGroupLeft, LunTaken}
use Rattle.onfi_schedule.specs.declared.slot.Slot.{Slot}
use Rattle.onfi_schedule.specs.Slots.{phases_in, named_slot, named_in}
use Rattle.onfi_schedule.specs.Names.{Named, name_of, named_group, StartsFirst}
use Rattle.onfi_schedule.specs.Tells.{Tells, AreTwo, StartsWithin, Outlasts, HasWork, FallsBack, IsSinglePlane, first_id}
use Rattle.onfi_schedule.proofs.Twos.{any_has}
use Rattle.onfi_schedule.proofs.Naming.{all_of_lun, all_from, lasts_beyond, named_at, phase_at, some_behind, some_before, some_slots}

pub starts_within : (xs : List Named) (x y : Slot) → AreTwo xs (named_slot x) (named_slot y) → y.phase.start ≤ x.phase.start → x.phase.start < end_of y.phase
    → StartsWithin xs x.name x.phase.start y.name y.phase.start (end_of y.phase)
starts_within xs x y two begun lasts = record { one = named_slot x; other = named_slot y; two = two; starts = (refl, refl); holds = (refl, refl); ends = refl; begun = begun; lasts = lasts }

-- no other one starts before the first
none_sooner : (xs : List Named) (x y : Named) → StartsFirst xs x → StartsFirst xs y → x.phase.start ≤ y.phase.start
none_sooner xs x y first other = All-has (λ (z : Named). x.phase.start ≤ z.phase.start) xs y first.1 other.0

lun_of_first : (timing : Timing) (group : Placed) (xs : List Named) (x : Named) → xs ≡ named_group timing group → StartsFirst xs x → x.phase.lun ≡ lun_of group.members
lun_of_first timing group xs x named first =
    let l = lun_of group.members in
    All-has (λ (y : Named). y.phase.lun ≡ l) (named_group timing group) x (all_of_lun 0 l (group_spans timing group.members) group.members 0 group.starts) (subst (λ ys. Has ys x) named first.0)

pub starts_before_left : (p : Problem) (s : Schedule) (timing : Timing) (group : Placed) (state : LunState) (starts : List ℕ) (own left : List Slot) (b : Breach)
    → p.timing ≡ timing → Has s.groups group → slice_get p.luns (lun_of group.members) ≡ Some state → rest_of s (lun_of group.members) ≡ Some starts
    → named_in own ≡ named_group timing group → phases_in own ≡ group_phases timing group → phases_in left ≡ phases_left timing (lun_of group.members) state starts
    → (Before (phases_left timing (lun_of group.members) state starts) (group_phases timing group) → ⊥)
    → (1 ≤ length own → (x : Named) × StartsFirst (named_in own) x × (b ≡ RunningGroupLeft x.name x.phase.lun x.phase.start (latest 0 (phases_in left))))
    → Tells p s b
starts_before_left p s timing group state starts own left b et there runs given named own_phases leftover unended told =
    let not : Before (phases_in left) (phases_in own) → ⊥ = λ h. unended (subst (λ ys. Before ys (group_phases timing group)) leftover (subst (λ ys. Before (phases_in left) ys) own_phases h)) in
    let t = told (some_slots own (some_behind (phases_in left) (phases_in own) not)) in
    let x = t.0 in
    let first = t.1 in
    let lun : x.phase.lun ≡ lun_of group.members = lun_of_first timing group (named_in own) x named first in
    let ends : latest 0 (phases_left timing (lun_of group.members) state starts) ≡ latest 0 (phases_in left) = ap (λ ys. latest 0 ys) (sym leftover) in
    subst (Tells p s) (sym t.2) (record {
      group = group;
      state = state;
      starts = starts;
      first = x;
      there = there;
      of_lun = sym lun;
      runs = subst (λ k. slice_get p.luns k ≡ Some state) (sym lun) runs;
      given = subst (λ k. rest_of s k ≡ Some starts) (sym lun) given;
      begins = subst (λ ys. StartsFirst ys x) (named ∙ ap (λ z. named_group z group) (sym et)) first;
      told = (refl, refl);
      ends = rw (et, lun) ends;
      early = lasts_beyond (phases_in left) (phases_in own) x.phase.start not (all_from x.phase.start own first.1);
    })

pub takes_lun : (p : Problem) (s : Schedule) (timing : Timing) (group other : Placed) (own held : List Slot) (holder : ℕ) (f g : Named) (b : Breach)
    → p.timing ≡ timing → AreTwo s.groups group other → lun_of group.members ≡ lun_of other.members
    → named_in own ≡ named_group timing group → named_in held ≡ named_group timing other → phases_in held ≡ group_phases timing other
    → first_id other.members ≡ holder → (Before (phases_in held) (phases_in own) → ⊥) → (1 ≤ length own → StartsFirst (named_in own) f) → (1 ≤ length held → StartsFirst (named_in held) g) → g.phase.start ≤ f.phase.start
    → (1 ≤ length own → 1 ≤ length held → (x y : Named) × StartsFirst (named_in own) x × StartsFirst (named_in held) y × (b ≡ LunTaken x.name x.phase.lun x.phase.start holder y.phase.start (latest 0 (phases_in held))))
    → Tells p s b
takes_lun p s timing group other own held holder f g b et two same named held_named held_phases of_holder not first_f first_g sooner told =
    let some_own = some_slots own (some_behind (phases_in held) (phases_in own) not) in
    let some_held = some_slots held (some_before (phases_in held) (phases_in own) not) in
    let t = told some_own some_held in
    let x = t.0 in
    let y = t.1 in
    let first = t.2 in
    let held_first = t.3 in
    let lun : x.phase.lun ≡ lun_of group.members = lun_of_first timing group (named_in own) x named first in
    let from = none_sooner (named_in held) y g held_first (first_g some_held) in
    let to = none_sooner (named_in own) f x (first_f some_own) first in
    subst (Tells p s) (sym t.4) (record {
      group = group;
      other = other;
      first = x;
      other_first = y;
      two = two;
      of_lun = sym lun;
      other_of_lun = sym same ∙ sym lun;
      begins = subst (λ ys. StartsFirst ys x) (named ∙ ap (λ z. named_group z group) (sym et)) first;
      told = (refl, refl);
      holds = of_holder;
      other_begins = subst (λ ys. StartsFirst ys y) (held_named ∙ ap (λ z. named_group z other) (sym et)) held_first;
      holds_from = refl;
      holds_to = rw et (ap (λ ys. latest 0 ys) (sym held_phases));
      begun = omega (arith, from, to, sooner);
      lasts = lasts_beyond (phases_in held) (phases_in own) x.phase.start not (all_from x.phase.start own first.1);
    })

pub outlasts : (timing : Timing) (group other : Placed) (own later : List Slot) (first : Slot)
    → phases_in own ≡ group_phases timing group → phases_in later ≡ group_phases timing other → named_in later ≡ named_group timing other → (Before (group_phases timing group) (group_phases timing other) → ⊥)
    → (1 ≤ length later → StartsFirst (named_in later) (named_slot first)) → Outlasts timing (latest 0 (phases_in own)) first.phase.start group other
outlasts timing group other own later first phases later_phases named unended told =
    let not : Before (phases_in own) (phases_in later) → ⊥ = λ h. unended (subst (λ ys. Before ys (group_phases timing other)) phases (subst (λ ys. Before (phases_in own) ys) later_phases h)) in
    let begins = told (some_slots later (some_behind (phases_in own) (phases_in later) not)) in
    record {
      first = named_slot first;
      ends = ap (λ ys. latest 0 ys) (sym phases);
      begins = subst (λ ys. StartsFirst ys (named_slot first)) named begins;
      starts = refl;
      early = lasts_beyond (phases_in own) (phases_in later) first.phase.start not (all_from first.phase.start later begins.1);
    }

from_first : (ts : List ℕ) (t : ℕ) → slice_get ts 0 ≡ Some t → ts ≡ t ∷ drop 1 ts
from_first [] t e = cc
from_first (u ∷ ts) t e = let same : u ≡ t = cc in ap (λ k. k ∷ ts) same

pub wait_told : (p : Problem) (s : Schedule) (spans : Lengths) (lun : ℕ) (members : List Want) (next due floor : ℕ) (starts : List ℕ) (index number start : ℕ) (b : Breach)
    → spans ≡ group_spans p.timing members → HasWork p s lun members next due starts → number ≡ next + index → slice_get starts index ≡ Some start → start < floor
    → (index ≡ 0 → floor ≡ due)
    → ((i : ℕ) → index ≡ i + 1 → floor ≡ get_or starts i 0 + phase_length spans (length members) (next + i) + wait_before spans (length members) (next + i + 1))
    → (number ≤ next → b ≡ NotReady (name_of next lun members number) lun start floor)
    → (next < number → b ≡ WaitTooShort (name_of next lun members number) (name_of next lun members (number - 1)) lun start floor)
    → Tells p s b
wait_told p s spans lun members next due floor starts zero number start b es (inl new) en at lt first behind one later =
    let none = first refl in let zero_due = new.1 in absurd (omega arith)
wait_told p s spans lun members next due floor starts zero number start b es (inr runs) en at lt first behind one later =
    let e : number ≡ next = omega arith in
    let due_is : floor ≡ due = first refl in
    subst (Tells p s) (sym (one (omega arith))) (record {
      group = members;
      next = next;
      later = drop 1 starts;
      running = rw due_is runs.0;
      given = runs.1 ∙ ap Some (from_first starts start at);
      called = ap (λ n. name_of next lun members n) (sym e);
      early = lt;
    })
wait_told p s spans lun members next due floor starts (suc i) number start b es work en at lt first behind one later =
    let i1 : suc i ≡ i + 1 = omega arith in
    let within : i < length starts = get_within_first starts i start (subst (λ k. slice_get starts k ≡ Some start) i1 at) in
    let there = named_at next lun (group_spans p.timing members) members next starts i (get_or starts i 0) (slice_get-get_or starts i 0 within) in
    let next_there = named_at next lun (group_spans p.timing members) members next starts (i + 1) start (subst (λ k. slice_get starts k ≡ Some start) i1 at) in
    let before : next + i ≡ number - 1 = omega arith in
    let own : next + (i + 1) ≡ number = omega arith in
    let floor_is = behind i i1 in
    subst (Tells p s) (sym (later (omega arith))) (record {
      members = members;
      next = next;
      floor = due;
      starts = starts;
      work = work;
      place = i;
      one = phase_at next lun (group_spans p.timing members) members (next + i) (get_or starts i 0);
      two = phase_at next lun (group_spans p.timing members) members (next + (i + 1)) start;
      there = there;
      behind = next_there;
      told = (ap (λ n. name_of next lun members n) own, refl);
      told_before = ap (λ n. name_of next lun members n) before;
      over = sym (subst (λ (lengths : Lengths). floor ≡ get_or starts i 0 + phase_length lengths (length members) (next + i) + wait_before lengths (length members) (next + i + 1)) es floor_is);
      early = lt;
    })
  where
    get_within_first : (ts : List ℕ) (i t : ℕ) → slice_get ts (i + 1) ≡ Some t → i < length ts
    get_within_first ts i t e = let w = within_get ts (i + 1) t e in omega arith

-- what stands at a place that isn't there
abbrev pub no_want : Want
no_want = record { id = 0; kind = Read; lun = 0; plane = 0; block = 0; page = 0 }

pub falls_back : (ms : List Want) (at : ℕ) (starts : List ℕ) → 1 ≤ at → at < length ms → (get_or ms at no_want).plane ≤ (get_or ms (at - 1) no_want).plane
    → FallsBack (get_or ms (at - 1) no_want).id (get_or ms at no_want).id (record { members = ms; starts = starts })
falls_back ms at starts some within le =
    let e : at ≡ at - 1 + 1 = omega arith in
    record {
      place = at - 1;
      one = get_or ms (at - 1) no_want;
      next = get_or ms at no_want;
      there = slice_get-get_or ms (at - 1) no_want (omega arith);
      behind = subst (λ k. slice_get ms k ≡ Some (get_or ms at no_want)) e (slice_get-get_or ms at no_want within);
      told = refl;
      told_next = refl;
      planes = le;
    }

group_of : (rules : Rules) (m : Want) (ms : List Want) → length (m ∷ ms) ≤ 4 → All (GoesWith rules m) (m ∷ ms) → Pairs (λ a b. a.plane < b.plane) (m ∷ ms)
    → (1 < length (m ∷ ms) → IsTrue (may_group rules (operation_of m.kind))) → IsGroup rules (m ∷ ms)
group_of rules m ms few all planes rule = record {
  some = omega arith;
  few = few;
  operation = All-weaker (GoesWith rules m) (λ (w : Want). operation_of w.kind ≡ operation_of m.kind) (λ w g. g.operation) (m ∷ ms) all;
  lun = All-weaker (GoesWith rules m) (λ (w : Want). w.lun ≡ m.lun) (λ w g. g.lun) (m ∷ ms) all;
  planes = planes;
  page = λ ne. All-weaker (GoesWith rules m) (λ (w : Want). w.page ≡ m.page) (λ w g. g.page ne) (m ∷ ms) all;
  rule = rule;
  strict = λ t. All-weaker (GoesWith rules m) (λ (w : Want). above_planes rules w ≡ above_planes rules m) (λ w g. g.strict t) (m ∷ ms) all;
}

true_or_false : (b : Bool) → (b ≡ true) ⊎ (b ≡ false)
true_or_false true = inl refl
true_or_false false = inr refl

-- several members that are no group, though each goes with the first and planes rise, are of a kind that isn't grouped
pub single_plane : (rules : Rules) (ms : List Want) (starts : List ℕ) → 1 ≤ length ms → length ms ≤ 4 → (IsGroup rules ms → ⊥)
    → ((first : Want) → slice_get ms 0 ≡ Some first → All (GoesWith rules first) ms) → Pairs (λ a b. a.plane < b.plane) ms
    → IsSinglePlane rules (get_or ms 0 no_want).id (get_or ms (length ms - 1) no_want).id (record { members = ms; starts = starts })
single_plane rules [] starts some few not goes planes = absurd (omega arith)
single_plane rules (m ∷ []) starts some few not goes planes = absurd (not (group_of rules m [] few (goes m refl) planes (λ h. absurd (omega arith))))
single_plane rules (m ∷ n ∷ ms) starts some few not goes planes =
    let last = get_or (m ∷ n ∷ ms) (length (m ∷ n ∷ ms) - 1) no_want in
    let e : length (m ∷ n ∷ ms) - 1 ≡ suc (length ms) = omega arith in
    let there : Has (n ∷ ms) last = rw e (Has-get (n ∷ ms) (length ms) no_want (omega arith)) in
    elim (true_or_false (may_group rules (operation_of m.kind))) [
      | inl t ↦ absurd (not (group_of rules m (n ∷ ms) few (goes m refl) planes (λ h. t)))
      | inr f ↦ record { told = refl; other = any_has (λ (w : Want). w.id ≡ last.id) (n ∷ ms) last there refl; rule = f }
    ]
