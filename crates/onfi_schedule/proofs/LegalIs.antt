-- The words of the functions that look for a broken condition say that a schedule is legal.
use Rattle.std.proofs.Common.{◌≡◌, ℕ, zero, suc, ◌*◌, ◌≤◌, ◌⊎◌, List, [], ◌∷◌, length, Some, inl, inr, refl, sym, ◌∙◌, subst, arith}
use Rattle.std.specs.Prelude.{slice_get}
use Rattle.onfi_timing.specs.declared.timing.Timing.{Timing}
use Rattle.onfi_request.specs.declared.want.Want.{Want}
use Rattle.std.specs.List.{AllByRecursion as All}
use Rattle.onfi_group.specs.Words.{Has, Pairs, number}
use Rattle.onfi_group.specs.declared.rules.Rules.{Rules}
use Rattle.onfi_group.specs.Group.{IsGroup}
use Rattle.onfi_problem.specs.Problem.{Problem, IsProblem, has_id}
use Rattle.onfi_problem.specs.Left.{InLimits}
use Rattle.onfi_problem.specs.declared.lun_state.LunState.{LunState}
use Rattle.onfi_problem.specs.declared.lun_state.LunState.TheVariants.{Free, Running}
use Rattle.onfi_problem.proofs.Perm.{All-has, All-each, All-weaker, All-flat_map}
use Rattle.onfi_problem.proofs.Wants.{Pairs-weaker, number_has, some_with_id, one_with_id}
use Rattle.onfi_schedule.specs.Schedule.{Placed, Schedule, IsSchedule, Legal, all_members, KeepsBlockOrder}
use Rattle.onfi_schedule.specs.Conditions.{HasShape, KeepsBus, KeepsWaits, KeepsTurns, EachRest, StateFits, StateWaits, LeftFirst, FromSince, HoldsOnce, InBlockOrder, start_count}
use Rattle.onfi_schedule.proofs.Rests.{RunningFirst, FromFree, At}
use Rattle.onfi_schedule.proofs.Room.{id_count_is, members_among, few_starts}

-- at one LUN, and from each
each_at : (P : LunState → List ℕ → Type 0) (luns : List LunState) (rest : List (List ℕ)) (i : ℕ) (state : LunState) (ts : List ℕ) → EachRest P luns rest → slice_get luns i ≡ Some state → slice_get rest i ≡ Some ts → P state ts
each_at P [] rest i state ts h e k = cc
each_at P (x ∷ luns) [] i state ts h e k = cc
each_at P (x ∷ luns) (us ∷ rest) zero state ts h e k =
    let a : x ≡ state = cc in
    let b : us ≡ ts = cc in
    subst (λ (z : LunState). P z ts) a (subst (λ (z : List ℕ). P x z) b h.0)
each_at P (x ∷ luns) (us ∷ rest) (suc i) state ts h e k = each_at P luns rest i state ts h.1 e k

pub each_from : (P : LunState → List ℕ → Type 0) (luns : List LunState) (rest : List (List ℕ)) → ((i : ℕ) (state : LunState) (ts : List ℕ) → slice_get luns i ≡ Some state → slice_get rest i ≡ Some ts → P state ts) → EachRest P luns rest
each_from P [] rest h = tt
each_from P (x ∷ luns) [] h = tt
each_from P (x ∷ luns) (us ∷ rest) h = (h 0 x us refl refl, each_from P luns rest (λ i. h (suc i)))

none_or_some : (n : ℕ) → (n ≡ 0) ⊎ (1 ≤ n)
none_or_some n = grind arith

-- LUN by LUN
pub fits_of : (p : Problem) (s : Schedule) → IsSchedule p s → (j : ℕ) → At StateFits p.luns s.rest j
fits_of p s sh j (Free since) ts e k = sh.no_rest j since ts e k
fits_of p s sh j (Running g n r) ts e k = sh.rest j g n r ts e k

pub waits_of : (p : Problem) (s : Schedule) → Legal p s → (j : ℕ) → At (StateWaits p.timing) p.luns s.rest j
waits_of p s lg j (Free since) ts e k = tt
waits_of p s lg j (Running g n r) ts e k = lg.rest_waits j g n r ts e k

pub left_from : (timing : Timing) (luns : List LunState) (rest : List (List ℕ)) (g : Placed) → RunningFirst timing luns rest g → LeftFirst timing luns rest g
left_from timing luns rest g h (Free since) ts e k = tt
left_from timing luns rest g h (Running group n r) ts e k = h group n r ts e k

pub since_from : (luns : List LunState) (g : Placed) → FromFree luns g → FromSince luns g
since_from luns g h (Free since) e = h since e
since_from luns g h (Running group n r) e = tt

module _ (p : Problem) (s : Schedule) (ip : IsProblem p) where
  -- no other member has the id of a want
  once_of : HasShape p.luns p.wants s → (id : ℕ) → number (has_id id) (all_members s.groups) ≡ number (has_id id) p.wants
  once_of sh id =
      let ms = all_members s.groups in
      let among = members_among p.wants s.groups sh.members in
      let there : 1 ≤ number (has_id id) p.wants → number (has_id id) ms ≡ number (has_id id) p.wants = λ k. (
      let w = some_with_id p.wants id k in
      let a = All-has (HoldsOnce s.groups) p.wants w.0 sh.once w.1 in
      let b = id_count_is s.groups w.0.id in
      let c = one_with_id p.wants w.0 ip.ids w.1 in
      let same = w.2 in
      let d : number (has_id w.0.id) ms ≡ number (has_id w.0.id) p.wants = omega arith in
      subst (λ (i : ℕ). number (has_id i) ms ≡ number (has_id i) p.wants) same d) in
      let back : 1 ≤ number (has_id id) ms → 1 ≤ number (has_id id) p.wants = λ k. (
      let m = some_with_id ms id k in
      let e = number_has p.wants m.0 (All-has (Has p.wants) ms m.0 among m.1) in
      subst (λ (i : ℕ). 1 ≤ number (has_id i) p.wants) m.2 e) in
      elim (none_or_some (number (has_id id) p.wants)) [
        | inl none ↦ elim (none_or_some (number (has_id id) ms)) [ inl e ↦ e ∙ sym none | inr k ↦ (let b = back k in absurd (omega arith)) ]
        | inr k ↦ there k
      ]

  shape_to : HasShape p.luns p.wants s → IsSchedule p s
  shape_to sh = record {
    luns = sh.luns;
    rest = λ i g n r ts e k. each_at StateFits p.luns s.rest i (Running g n r) ts sh.rest e k;
    no_rest = λ i since ts e k. each_at StateFits p.luns s.rest i (Free since) ts sh.rest e k;
    starts = sh.starts;
    wants_only = members_among p.wants s.groups sh.members;
    once = once_of sh;
  }

  pub shape_from : IsSchedule p s → HasShape p.luns p.wants s
  shape_from sh = record {
    luns = sh.luns;
    rest = each_from StateFits p.luns s.rest (fits_of p s sh);
    starts = sh.starts;
    members = All-flat_map (Has p.wants) (λ g. g.members) s.groups sh.wants_only;
    once = All-each (HoldsOnce s.groups) p.wants (λ w k. id_count_is s.groups w.id ∙ sh.once w.id ∙ one_with_id p.wants w ip.ids k);
  }

  order_to : (a b : Want) → InBlockOrder p.timing s.groups a b → KeepsBlockOrder p.timing s.groups a b
  order_to a b o el eb g h hg hh ma mb = All-has _ s.groups h (All-has _ s.groups g (o.holders_end el eb) hg ma) hh mb

  order_from : (a b : Want) → KeepsBlockOrder p.timing s.groups a b → InBlockOrder p.timing s.groups a b
  order_from a b o = record { holders_end = λ el eb. All-each _ s.groups (λ g hg ma. All-each _ s.groups (λ h hh mb. o el eb g h hg hh ma mb)) }

  pub legal_to : HasShape p.luns p.wants s → All (λ g. IsGroup p.rules g.members) s.groups → KeepsBus p.timing p.bus_free p.luns s → KeepsWaits p.timing p.luns s → KeepsTurns p.timing p.luns s → Pairs (InBlockOrder p.timing s.groups) p.wants → Legal p s
  legal_to sh groups bus waits turns order = record {
    shape = shape_to sh;
    from_bus_free = bus.from_bus_free;
    no_overlap = bus.no_overlap;
    rest_waits = λ i g n r ts e k. each_at (StateWaits p.timing) p.luns s.rest i (Running g n r) ts waits.rest_waits e k;
    waits = waits.groups_wait;
    running_first = All-weaker (LeftFirst p.timing p.luns s.rest) (RunningFirst p.timing p.luns s.rest) (λ g h group n r ts e k. h (Running group n r) ts e k) s.groups turns.left_first;
    turns = turns.turns;
    from_since = All-weaker (FromSince p.luns) (FromFree p.luns) (λ g h since e. h (Free since) e) s.groups turns.from_since;
    block_order = Pairs-weaker _ _ order_to p.wants order;
    group = groups;
  }

  pub waits_from : Legal p s → KeepsWaits p.timing p.luns s
  waits_from lg = record { rest_waits = each_from (StateWaits p.timing) p.luns s.rest (waits_of p s lg); groups_wait = lg.waits }

  pub turns_from : Legal p s → KeepsTurns p.timing p.luns s
  turns_from lg = record {
    left_first = All-weaker (RunningFirst p.timing p.luns s.rest) (LeftFirst p.timing p.luns s.rest) (left_from p.timing p.luns s.rest) s.groups lg.running_first;
    turns = lg.turns;
    from_since = All-weaker (FromFree p.luns) (FromSince p.luns) (since_from p.luns) s.groups lg.from_since;
  }

  pub block_order_from : Legal p s → Pairs (InBlockOrder p.timing s.groups) p.wants
  block_order_from lg = Pairs-weaker _ _ order_from p.wants lg.block_order

-- a legal schedule has few starts
pub few_starts_of : (p : Problem) (s : Schedule) → InLimits p → Legal p s → start_count s.groups ≤ 16
few_starts_of p s limits lg = few_starts p.luns p.wants s limits.problem.ids limits.small.wants (shape_from p s limits.problem lg.shape)

-- each group has two starts or more
twice_at_most : (rules : Rules) (groups : List Placed) → All (λ g. length g.starts ≡ 2 * length g.members) groups → All (λ g. IsGroup rules g.members) groups → 2 * length groups ≤ start_count groups
twice_at_most rules [] starts group = omega arith
twice_at_most rules (g ∷ groups) starts group =
    let more = twice_at_most rules groups starts.1 group.1 in
    let some = group.0.some in
    omega (arith, starts.0, some, more)

-- .. so it has few groups
pub few_groups_of : (p : Problem) (s : Schedule) → InLimits p → Legal p s → length s.groups ≤ 8
few_groups_of p s limits lg =
    let few = few_starts_of p s limits lg in
    let twice = twice_at_most p.rules s.groups lg.shape.starts lg.group in
    omega (arith, few, twice)

-- .. and its running groups as many as they have phases left
pub rest_fits_of : (p : Problem) (s : Schedule) (luns : List LunState) (rest : List (List ℕ)) → IsProblem p → luns ≡ p.luns → rest ≡ s.rest → Legal p s → EachRest StateFits luns rest
rest_fits_of p s luns rest ip el er lg = rw (el, er) ((shape_from p s ip lg.shape).rest)
