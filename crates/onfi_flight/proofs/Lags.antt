-- Lags and last starts, list by list.
use Rattle.std.proofs.Common.{◌≡◌, ℕ, ◌+◌, ◌-◌, ◌<◌, ◌≤◌, ◌^◌, inl, inr, List, [], ◌∷◌, ◌++◌, map, Option, Some, None, drop, refl, ap, ◌∙◌, subst, arith}
use Rattle.std.specs.Prelude.{max, slice_get}
use Rattle.std.specs.List.{AllByRecursion as All, flat_map}
use Rattle.onfi_group.specs.Words.{Has}
use Rattle.onfi_problem.proofs.Perm.{All-back, All-flat_map, All-front, Has-append_left, Has-append_right, Has-flat_map_in}
use Rattle.onfi_problem.proofs.Places.{drop_next, get_has}
use Rattle.onfi_schedule.specs.Schedule.{Placed, Schedule}
use Rattle.onfi_flight.specs.declared.due.Due.{Due}
use Rattle.onfi_flight.specs.Flight.{groups_left, left_behind, starts_of}
use Rattle.onfi_flight.specs.Times.{all_starts, lag, latest_start}
use Rattle.onfi_flight.specs.Turns.{starts_in}
use Rattle.onfi_flight.proofs.Lists.{All-drop, All-index, All-map, All-remove, All-set, get_map}

pub lag_append : (moment : ℕ) (xs ys : List ℕ) → lag moment (xs ++ ys) ≡ max (lag moment xs) (lag moment ys)
lag_append moment [] ys = omega arith
lag_append moment (x ∷ xs) ys = let e = lag_append moment xs ys in omega (arith, e)

pub latest_append : (xs ys : List ℕ) → latest_start (xs ++ ys) ≡ max (latest_start xs) (latest_start ys)
latest_append [] ys = omega arith
latest_append (x ∷ xs) ys = let e = latest_append xs ys in omega (arith, e)

-- of what is left one list more is counted
pub lag_more : {A : Type 0} (f : A → List ℕ) (moment : ℕ) (xs : List A) (i : ℕ) (x : A) (so now all : ℕ) → slice_get xs i ≡ Some x
    → max so (lag moment (flat_map f (drop i xs))) ≡ all → now ≡ max so (lag moment (f x)) → max now (lag moment (flat_map f (drop (i + 1) xs))) ≡ all
lag_more f moment xs i x so now all at inv is =
    let e : lag moment (flat_map f (drop i xs)) ≡ max (lag moment (f x)) (lag moment (flat_map f (drop (i + 1) xs))) =
    ap (λ zs. lag moment (flat_map f zs)) (drop_next xs i x at) ∙ lag_append moment (f x) (flat_map f (drop (i + 1) xs)) in
    omega (arith, e, inv, is)

pub latest_more : {A : Type 0} (f : A → List ℕ) (xs : List A) (i : ℕ) (x : A) (so now all : ℕ) → slice_get xs i ≡ Some x
    → max so (latest_start (flat_map f (drop i xs))) ≡ all → now ≡ max so (latest_start (f x)) → max now (latest_start (flat_map f (drop (i + 1) xs))) ≡ all
latest_more f xs i x so now all at inv is =
    let e : latest_start (flat_map f (drop i xs)) ≡ max (latest_start (f x)) (latest_start (flat_map f (drop (i + 1) xs))) =
    ap (λ zs. latest_start (flat_map f zs)) (drop_next xs i x at) ∙ latest_append (f x) (flat_map f (drop (i + 1) xs)) in
    omega (arith, e, inv, is)

-- all stay below a bound with the lag added
pub below_latest : (by bound : ℕ) (ts : List ℕ) → latest_start ts + by < bound → All (λ t. t + by < bound) ts
below_latest by bound [] h = tt
below_latest by bound (t ∷ ts) h = (omega (arith, h), below_latest by bound ts (omega (arith, h)))

-- none starts before the moment once all are later by the lag
pub lag_enough : (moment : ℕ) (ts : List ℕ) (u : ℕ) → Has ts u → moment - lag moment ts ≤ u
lag_enough moment [] u h = absurd h
lag_enough moment (t ∷ ts) u (inl e) = omega arith
lag_enough moment (t ∷ ts) u (inr h) = let a = lag_enough moment ts u h in omega arith

pub rest_head : (s : Schedule) (l u : ℕ) (us : List ℕ) → slice_get s.rest l ≡ Some (u ∷ us) → Has (all_starts s) u
rest_head s l u us at =
    Has-append_left (flat_map (λ starts. starts) s.rest) (flat_map (λ (g : Placed). g.starts) s.groups) u
    (Has-flat_map_in (λ starts. starts) s.rest (u ∷ us) u (get_has s.rest l (u ∷ us) at) (inl refl))

pub group_head : (s : Schedule) (i u : ℕ) (us : List ℕ) → slice_get (map (λ (g : Placed). g.starts) s.groups) i ≡ Some (u ∷ us) → Has (all_starts s) u
group_head s i u us at =
    let (g, there, is) = get_map (λ (x : Placed). x.starts) s.groups i (u ∷ us) at in
    Has-append_right (flat_map (λ starts. starts) s.rest) (flat_map (λ (x : Placed). x.starts) s.groups) u
    (Has-flat_map_in (λ (x : Placed). x.starts) s.groups g u (get_has s.groups i g there) (subst (λ zs. Has zs u) is (inl refl)))

-- the starts of a plan whose last one is early
early_starts : (by : ℕ) (s : Schedule) → latest_start (all_starts s) + by < 2 ^ 62 → All (λ t. t + by < 2 ^ 63) (all_starts s)
early_starts by s low = below_latest by (2 ^ 63) (all_starts s) (omega (arith, low))

pub early_rest : (by : ℕ) (s : Schedule) → latest_start (all_starts s) + by < 2 ^ 62 → All (λ starts. All (λ t. t + by < 2 ^ 63) starts) s.rest
early_rest by s low = All-flat_map (λ t. t + by < 2 ^ 63) (λ starts. starts) s.rest (All-front (λ t. t + by < 2 ^ 63) (flat_map (λ starts. starts) s.rest) (flat_map (λ (g : Placed). g.starts) s.groups) (early_starts by s low))

pub early_groups : (by : ℕ) (s : Schedule) → latest_start (all_starts s) + by < 2 ^ 62 → All (λ (g : Placed). All (λ t. t + by < 2 ^ 63) g.starts) s.groups
early_groups by s low = All-flat_map (λ t. t + by < 2 ^ 63) (λ (g : Placed). g.starts) s.groups (All-back (λ t. t + by < 2 ^ 63) (flat_map (λ starts. starts) s.rest) (flat_map (λ (g : Placed). g.starts) s.groups) (early_starts by s low))

-- .. and of what a phase leaves of it
starts_early : (by : ℕ) (s : Schedule) (lun : ℕ) (place : Option ℕ) → latest_start (all_starts s) + by < 2 ^ 62 → All (λ t. t + by < 2 ^ 63) (starts_of s lun place)
starts_early by s lun None low = All-index (λ starts. All (λ t. t + by < 2 ^ 63) starts) s.rest lun [] (early_rest by s low) tt
starts_early by s lun (Some place) low =
    All-index (λ starts. All (λ t. t + by < 2 ^ 63) starts) (starts_in s.groups) place []
    (All-map (λ starts. All (λ t. t + by < 2 ^ 63) starts) (λ (g : Placed). g.starts) s.groups (early_groups by s low)) tt

groups_early : (by : ℕ) (groups : List Placed) (place : Option ℕ) → All (λ (g : Placed). All (λ t. t + by < 2 ^ 63) g.starts) groups → All (λ (g : Placed). All (λ t. t + by < 2 ^ 63) g.starts) (groups_left place groups)
groups_early by groups None h = h
groups_early by groups (Some place) h = All-remove (λ (g : Placed). All (λ t. t + by < 2 ^ 63) g.starts) groups place h

pub behind_early : (by : ℕ) (s : Schedule) (due : Due) → latest_start (all_starts s) + by < 2 ^ 62
    → All (λ starts. All (λ t. t + by < 2 ^ 63) starts) (left_behind s due).rest × All (λ (g : Placed). All (λ t. t + by < 2 ^ 63) g.starts) (left_behind s due).groups
behind_early by s due low = (
  All-set (λ starts. All (λ t. t + by < 2 ^ 63) starts) s.rest due.lun (drop 1 (starts_of s due.lun due.place)) (early_rest by s low)
      (All-drop (λ t. t + by < 2 ^ 63) 1 (starts_of s due.lun due.place) (starts_early by s due.lun due.place low)),
  groups_early by s.groups due.place (early_groups by s low),
)

-- what was read of starts is what is left
pub latest_read : (inside left : Schedule) (rest : List (List ℕ)) (groups : List Placed) {latest : ℕ} → inside ≡ left → rest ≡ inside.rest → groups ≡ inside.groups
    → latest ≡ latest_start (all_starts (record { rest = rest; groups = groups })) → latest ≡ latest_start (all_starts left)
latest_read inside left rest groups same a b is = is ∙ ap (λ (s : Schedule). latest_start (all_starts s)) ((let e : (let s : Schedule = record { rest = rest; groups = groups } in s) ≡ inside = rw (a, b) refl in e) ∙ same)

pub lag_read : (moment : ℕ) (inside : Schedule) (rest : List (List ℕ)) (groups : List Placed) {by : ℕ} → rest ≡ inside.rest → groups ≡ inside.groups
    → by ≡ lag moment (all_starts (record { rest = rest; groups = groups })) → by ≡ lag moment (all_starts inside)
lag_read moment inside rest groups a b is = is ∙ ap (λ (s : Schedule). lag moment (all_starts s)) (let e : (let s : Schedule = record { rest = rest; groups = groups } in s) ≡ inside = rw (a, b) refl in e)
