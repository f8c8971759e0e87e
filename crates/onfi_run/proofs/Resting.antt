-- Where channels and hosts have nothing to do.
use Rattle.std.proofs.Common.{◌≡◌, ◌⊎◌, inl, inr, ◌+◌, ◌<◌, ◌≤◌, ℕ, Bool, true, false, List, [], ◌∷◌, ◌++◌, length, get_or, map, take, sym, ap, ◌∙◌, subst, arith, Some, None}
use Rattle.std.specs.Prelude.{Option, IfSome, max, min, set, slice_get}
use Rattle.std.specs.List.{AllByRecursion as Each}
use Rattle.std.proofs.Math.Bool.{cond}
use Rattle.std.proofs.lemmas.Bool.{cases_lt}
use Rattle.std.proofs.lemmas.List.{set-get_or, take_more}
use Rattle.std.proofs.lemmas.List.Elements.{Contains-append_left, Contains-push}
use Rattle.std.proofs.lemmas.Option.{slice_get-get_or, slice_get_cases, slice_get_past}
use Rattle.onfi_script.specs.declared.operation.Operation.{Operation}
use Rattle.onfi_script.specs.declared.row.Row.{Row}
use Rattle.onfi_run.specs.declared.lane.Lane.{Lane}
use Rattle.onfi_run.specs.declared.pace.Pace.{Pace}
use Rattle.onfi_run.specs.declared.port.Port.{Port}
use Rattle.onfi_run.specs.declared.station.Station.{Station}
use Rattle.onfi_run.specs.Arriving.{comes_at}
use Rattle.onfi_run.specs.Operations.{operation_of}
use Rattle.onfi_run.specs.Resting.{IsPutOff, Rests, Stands, is_before, is_early, is_through}
use Rattle.onfi_run.specs.Ending.{no_clock}
use Rattle.onfi_run.proofs.ByHost.{each_longer}
use Rattle.onfi_run.specs.Pace.{IsNext, MayTurn, NeedsNone, Waits, due_of, least_of}

-- ---- one channel
due_is : (pace : Pace) (free : ℕ) → pace.has_ended ≡ false → due_of pace free ≡ max pace.wakes free
due_is pace free on = ap (λ b. cond b no_clock (max pace.wakes free)) on

pub due_by : (now : ℕ) (pace : Pace) (free : ℕ) → pace.has_ended ≡ false → due_of pace free ≤ now → MayTurn now pace free
due_by now pace free on due = let is = due_is pace free on in record { goes_on = on; awake = omega (arith, is, due); bus = omega (arith, is, due) }

pub not_due : (now : ℕ) (pace : Pace) (free : ℕ) → now < due_of pace free → Waits now pace free
not_due now pace free later may = let is = due_is pace free may.goes_on in omega (arith, is, later, may.awake, may.bus)

pub ended_waits : (now : ℕ) (pace : Pace) (free : ℕ) → pace.has_ended ≡ true → Waits now pace free
ended_waits now pace free ended may = absurd (let e : true ≡ false = sym ended ∙ may.goes_on in cc)

-- what waits at a moment, and is due at none after it, waits at each later one
still_waits : (now at : ℕ) (pace : Pace) (free : ℕ) → now ≤ at → at < no_clock → Waits now pace free → NeedsNone now (due_of pace free) → Waits at pace free
still_waits now at pace free later before waits none may = by_order (cases_lt now (due_of pace free))
  where
    by_order : (now < due_of pace free) ⊎ (due_of pace free ≤ now) → ⊥
    by_order (inl h) = let far = none h in let is = due_is pace free may.goes_on in omega (arith, is, far, before, may.awake, may.bus)
    by_order (inr h) = waits (due_by now pace free may.goes_on h)

pub all_wait : {X : Type 0} (free : X → ℕ) (now at : ℕ) (lanes : List (Lane X)) → now ≤ at → at < no_clock
    → Each (λ (l : Lane X). Waits now l.pace (free l.channel)) lanes → Each (NeedsNone now) (map (λ (l : Lane X). due_of l.pace (free l.channel)) lanes)
    → Each (λ (l : Lane X). Waits at l.pace (free l.channel)) lanes
all_wait free now at [] later before waits none = tt
all_wait free now at (l ∷ lanes) later before (here, waits) (due, none) =
    (still_waits now at l.pace (free l.channel) later before here due, all_wait free now at lanes later before waits none)

pub each_of_none : {X : Type 0} (P : X → Type 0) (xs : List X) → length xs ≡ 0 → Each P xs
each_of_none P [] none = tt
each_of_none P (x ∷ xs) none = absurd (omega (arith, none))

-- ---- the next moment
pub each_weaker : {X : Type 0} (P Q : X → Type 0) → ((x : X) → P x → Q x) → (xs : List X) → Each P xs → Each Q xs
each_weaker P Q so [] all = tt
each_weaker P Q so (x ∷ xs) (here, all) = (so x here, each_weaker P Q so xs all)

-- a moment that is not after `now`, or none, changes nothing
pub next_same : (now : ℕ) (dues : List ℕ) (due : ℕ) (next : Option ℕ) → NeedsNone now due → IsNext now dues next → IsNext now (dues ++ due ∷ []) next
next_same now dues due None none all = each_longer (NeedsNone now) dues due all none
next_same now dues due (Some next) none is =
    (is.0, is.1, Contains-append_left dues (due ∷ []) next is.2, each_longer (λ d. now < d → next ≤ d) dues due is.3 (λ h. let far = none h in let before = is.1 in omega (arith, far, before)))

next_first : (now : ℕ) (dues : List ℕ) (due : ℕ) → now < due → due < no_clock → IsNext now dues None → IsNext now (dues ++ due ∷ []) (Some due)
next_first now dues due later before all = (
  later,
  before,
  Contains-push dues due,
  each_longer (λ d. now < d → due ≤ d) dues due (each_weaker (NeedsNone now) (λ d. now < d → due ≤ d) (λ d none h. let far = none h in omega (arith, far, before)) dues all) (λ h. omega arith),
)

next_lesser : (now : ℕ) (dues : List ℕ) (due other : ℕ) → now < due → due < no_clock → due ≤ other → IsNext now dues (Some other) → IsNext now (dues ++ due ∷ []) (Some due)
next_lesser now dues due other later before less is = (
  later,
  before,
  Contains-push dues due,
  each_longer (λ d. now < d → due ≤ d) dues due (each_weaker (λ d. now < d → other ≤ d) (λ d. now < d → due ≤ d) (λ d low h. let l = low h in omega (arith, l, less)) dues is.3) (λ h. omega arith),
)

next_other : (now : ℕ) (dues : List ℕ) (due other : ℕ) → other ≤ due → IsNext now dues (Some other) → IsNext now (dues ++ due ∷ []) (Some other)
next_other now dues due other more is =
    (is.0, is.1, Contains-append_left dues (due ∷ []) other is.2, each_longer (λ d. now < d → other ≤ d) dues due is.3 (λ h. more))

pub next_due : (now : ℕ) (dues : List ℕ) (due : ℕ) (other : Option ℕ) → now < due → due < no_clock → IsNext now dues other → IsNext now (dues ++ due ∷ []) (Some (least_of other due))
next_due now dues due None later before is = next_first now dues due later before is
next_due now dues due (Some other) later before is = by_order (cases_lt due other)
  where
    by_order : (due < other) ⊎ (other ≤ due) → IsNext now (dues ++ due ∷ []) (Some (min other due))
    by_order (inl h) = let e : min other due ≡ due = omega (arith, h) in subst (λ n. IsNext now (dues ++ due ∷ []) (Some n)) (sym e) (next_lesser now dues due other later before (omega (arith, h)) is)
    by_order (inr h) = let e : min other due ≡ other = omega (arith, h) in subst (λ n. IsNext now (dues ++ due ∷ []) (Some n)) (sym e) (next_other now dues due other h is)

-- ---- one element after another
pub some_there : {X : Type 0} (P : X → Type 0) (xs : List X) (at : ℕ) (d : X) → at < length xs → P (get_or xs at d) → IfSome (slice_get xs at) P
some_there P xs at d h is = subst (λ o. IfSome o P) (sym (slice_get-get_or xs at d h)) is

pub none_there : {X : Type 0} (P : X → Type 0) (xs : List X) (at : ℕ) → length xs ≤ at → IfSome (slice_get xs at) P
none_there P xs at h = subst (λ o. IfSome o P) (sym (slice_get_past xs at h)) tt

-- what is set where it stood changes nothing
pub set_back : {X : Type 0} (xs : List X) (at : ℕ) (d new : X) → new ≡ get_or xs at d → set xs at new ≡ xs
set_back xs at d new same = ap (set xs at) same ∙ set-get_or xs at d

pub each_more : {X : Type 0} (P : X → Type 0) (xs : List X) (at : ℕ) → at < length xs → IfSome (slice_get xs at) P → Each P (take at xs) → Each P (take (at + 1) xs)
each_more {X} P xs at h one all = by_place (slice_get_cases xs at).1
  where
    by_place : ((x : X) × (at < length xs) × (slice_get xs at ≡ Some x) × (get_or xs at x ≡ x)) ⊎ ((length xs ≤ at) × (slice_get xs at ≡ None)) → Each P (take (at + 1) xs)
    by_place (inl (x, within, is, here)) =
        let there : P x = subst (λ o. IfSome o P) is one in
        subst (Each P) (sym (take_more xs at x within)) (each_longer P (take at xs) (get_or xs at x) all (subst P (sym here) there))
    by_place (inr (past, none)) = absurd (omega (arith, past, h))

-- ---- hosts
pub stands_as : {A : Type 0} (ends : A → ℕ → Bool → Type 0) (now : ℕ) (rows : List Row) (seen seen' : A) (n n' p p' : ℕ) (ports ports' : List Port) → seen' ≡ seen → n' ≡ n → p' ≡ p → ports' ≡ ports
    → Stands now rows (ends seen) n p ports → Stands now rows (ends seen') n' p' ports'
stands_as ends now rows seen seen' n n' p p' ports ports' seen_same number passed same s =
    subst (λ x. Stands now rows (ends x) n' p' ports') (sym seen_same) (subst (λ x. Stands now rows (ends seen) x p' ports') (sym number)
    (subst (λ x. Stands now rows (ends seen) n x ports') (sym passed) (subst (λ x. Stands now rows (ends seen) n p x) (sym same) s)))

pub before_row : (now : ℕ) (rows : List Row) (ends : ℕ → Bool → Type 0) (number passed : ℕ) (ports : List Port) (d : Row) (op : Operation) → passed < length rows
    → operation_of number (get_or rows passed d) ≡ Some op → IsPutOff ends ports op.aim.channel → Stands now rows ends number passed ports
before_row now rows ends number passed ports d op h told waits = is_before (get_or rows passed d) op (slice_get-get_or rows passed d h) told waits

-- who stands at a moment, and waits for none after it, stands at each later one
still_stands : (now at : ℕ) (rows : List Row) (ends : ℕ → Bool → Type 0) (number passed : ℕ) (ports : List Port) → now ≤ at → at < no_clock → NeedsNone now (comes_at rows passed)
    → Stands now rows ends number passed ports → Stands at rows ends number passed ports
still_stands now at rows ends number passed ports later before none (is_through h) = is_through h
still_stands now at rows ends number passed ports later before none (is_early h) = is_early (let far = none h in omega (arith, far, before))
still_stands now at rows ends number passed ports later before none (is_before row op there told waits) = is_before row op there told waits

pub all_rest : (now at : ℕ) (rows : List Row) (ends : ℕ → Bool → Type 0) (stations : List Station) → now ≤ at → at < no_clock → Each (Rests now rows ends) stations
    → Each (NeedsNone now) (map (λ (s : Station). comes_at rows s.passed) stations) → Each (Rests at rows ends) stations
all_rest now at rows ends [] later before rest none = tt
all_rest now at rows ends (s ∷ stations) later before (here, rest) (due, none) = (
  record { stands = still_stands now at rows ends s.number s.passed s.ports.items later before due here.stands; emptied = here.emptied },
  all_rest now at rows ends stations later before rest none,
)

pub each_apart : {X : Type 0} (P : X → Type 0) (xs ys : List X) → Each P (xs ++ ys) → Each P xs × Each P ys
each_apart P [] ys all = (tt, all)
each_apart P (x ∷ xs) ys (here, all) = let both = each_apart P xs ys all in ((here, both.0), both.1)
