-- The phases that are left of the running groups.
use Rattle.std.proofs.Common.{◌≡◌, ℕ, zero, suc, ◌+◌, inl, inr, List, [], ◌∷◌, ◌++◌, Some, refl, sym, ◌∙◌, subst, arith, append_assoc}
use Rattle.std.specs.Prelude.{slice_get, slice_set}
use Rattle.std.specs.List.{AllByRecursion as All}
use Rattle.onfi_timing.specs.declared.timing.Timing.{Timing}
use Rattle.onfi_request.specs.declared.want.Want.{Want}
use Rattle.onfi_problem.specs.declared.lun_state.LunState.{LunState}
use Rattle.onfi_problem.specs.declared.lun_state.LunState.TheVariants.{Free, Running}
use Rattle.onfi_group.specs.Group.{lun_of}
use Rattle.onfi_group.specs.Words.{Has}
use Rattle.onfi_schedule.specs.Schedule.{Placed, Phase, phases_left, rest_phases, group_phases, Before, StartsFrom}
use Rattle.onfi_problem.proofs.Places.{get_set_same, get_set_other, same_place, same_some}
use Rattle.onfi_problem.proofs.Perm.{Perm, trans, on_left, on_right, between, All-front, All-back, Has-append_cases}

-- what runs on the LUN of a new group has ended when the new one starts
abbrev pub RunningFirst : Timing → List LunState → List (List ℕ) → Placed → Type 0
RunningFirst timing luns rest g = (group : List Want) (next ready : ℕ) (starts : List ℕ) → slice_get luns (lun_of g.members) ≡ Some (Running group next ready) → slice_get rest (lun_of g.members) ≡ Some starts → Before (phases_left timing (lun_of g.members) (Running group next ready) starts) (group_phases timing g)

-- where the LUN of a new group is free, the group starts no sooner
abbrev pub FromFree : List LunState → Placed → Type 0
FromFree luns g = (since : ℕ) → slice_get luns (lun_of g.members) ≡ Some (Free since) → StartsFrom since g.starts

-- what the list holds of a LUN's state and starts is so at this place
abbrev pub At : (LunState → List ℕ → Type 0) → List LunState → List (List ℕ) → ℕ → Type 0
At P luns rest j = (z : LunState) (vs : List ℕ) → slice_get luns j ≡ Some z → slice_get rest j ≡ Some vs → P z vs

-- with another state and other starts at LUN l
pub set_state : (P : LunState → Type 0) (luns : List LunState) (l : ℕ) (x y : LunState) → slice_get luns l ≡ Some x → (j : ℕ) → (l ≡ j → P y) → ((z : LunState) → slice_get luns j ≡ Some z → P z) → (z : LunState) → slice_get (slice_set luns l y) j ≡ Some z → P z
set_state P luns l x y at j own other z h =
    elim (same_place l j) [
      | inl e ↦ subst (λ (w : LunState). P w) (same_some y z _ (get_set_same luns l x y at) (subst (λ i. slice_get (slice_set luns l y) i ≡ Some z) (sym e) h)) (own e)
      | inr d ↦ other z (sym (get_set_other luns l j y (λ e. d (sym e))) ∙ h)
    ]

pub set_at : (P : LunState → List ℕ → Type 0) (luns : List LunState) (rest : List (List ℕ)) (l : ℕ) (x y : LunState) (us ts : List ℕ) → slice_get luns l ≡ Some x → slice_get rest l ≡ Some us → (j : ℕ) → (l ≡ j → P y ts) → At P luns rest j → At P (slice_set luns l y) (slice_set rest l ts) j
set_at P luns rest l x y us ts at there j own other z vs h k =
    elim (same_place l j) [
      | inl e ↦ (
          let state = same_some y z _ (get_set_same luns l x y at) (subst (λ i. slice_get (slice_set luns l y) i ≡ Some z) (sym e) h) in
          let starts = same_some ts vs _ (get_set_same rest l us ts there) (subst (λ i. slice_get (slice_set rest l ts) i ≡ Some vs) (sym e) k) in
          subst (λ (w : LunState). P w vs) state (subst (P y) starts (own e)))
      | inr d ↦ other z vs (sym (get_set_other luns l j y (λ e. d (sym e))) ∙ h) (sym (get_set_other rest l j ts (λ e. d (sym e))) ∙ k)
    ]

-- a change at one LUN
pub rest_changed : (timing : Timing) (first lun here : ℕ) (luns : List LunState) (rest : List (List ℕ)) (state state' : LunState) (ts ts' : List ℕ) (before behind : List Phase) → here ≡ first + lun → slice_get luns lun ≡ Some state → slice_get rest lun ≡ Some ts → Perm (before ++ phases_left timing here state ts) (behind ++ phases_left timing here state' ts') → Perm (before ++ rest_phases timing first luns rest) (behind ++ rest_phases timing first (slice_set luns lun state') (slice_set rest lun ts'))
rest_changed timing first lun here [] rest state state' ts ts' before behind e h k p = cc
rest_changed timing first lun here (x ∷ luns) [] state state' ts ts' before behind e h k p = cc
rest_changed timing first zero here (x ∷ luns) (us ∷ rest) state state' ts ts' before behind e h k p =
    let hx : state ≡ x = cc in
    let hu : ts ≡ us = cc in
    let he : here ≡ first = omega arith in
    let r = rest_phases timing (first + 1) luns rest in
    let q : Perm (before ++ phases_left timing first x us) (behind ++ phases_left timing first state' ts') = rw (← hx, ← hu, ← he) p in
    rw (← append_assoc before (phases_left timing first x us) r, ← append_assoc behind (phases_left timing first state' ts') r) (on_left r q)
rest_changed timing first (suc lun) here (x ∷ luns) (us ∷ rest) state state' ts ts' before behind e h k p =
    let he : here ≡ first + 1 + lun = omega arith in
    let f = phases_left timing first x us in
    let r = rest_phases timing (first + 1) luns rest in
    let r' = rest_phases timing (first + 1) (slice_set luns lun state') (slice_set rest lun ts') in
    trans (between before f r) (trans (on_right f (rest_changed timing (first + 1) lun here luns rest state state' ts ts' before behind he h k p)) (between f behind r'))

pub all_at : (P : Phase → Type 0) (timing : Timing) (first lun here : ℕ) (luns : List LunState) (rest : List (List ℕ)) (state : LunState) (ts : List ℕ) → here ≡ first + lun → slice_get luns lun ≡ Some state → slice_get rest lun ≡ Some ts → All P (rest_phases timing first luns rest) → All P (phases_left timing here state ts)
all_at P timing first lun here [] rest state ts e h k a = cc
all_at P timing first lun here (x ∷ luns) [] state ts e h k a = cc
all_at P timing first zero here (x ∷ luns) (us ∷ rest) state ts e h k a =
    let hx : x ≡ state = cc in
    let hu : us ≡ ts = cc in
    let he : here ≡ first = omega arith in
    rw (he, ← hx, ← hu) (All-front P (phases_left timing first x us) _ a)
all_at P timing first (suc lun) here (x ∷ luns) (us ∷ rest) state ts e h k a =
    all_at P timing (first + 1) lun here luns rest state ts (omega arith) h k (All-back P (phases_left timing first x us) _ a)

pub has_at : (timing : Timing) (first : ℕ) (luns : List LunState) (rest : List (List ℕ)) (x : Phase) → Has (rest_phases timing first luns rest) x → (lun : ℕ) × (state : LunState) × (ts : List ℕ) × (slice_get luns lun ≡ Some state) × (slice_get rest lun ≡ Some ts) × Has (phases_left timing (first + lun) state ts) x
has_at timing first [] rest x h = absurd h
has_at timing first (y ∷ luns) [] x h = absurd h
has_at timing first (y ∷ luns) (us ∷ rest) x h =
    elim (Has-append_cases (phases_left timing first y us) (rest_phases timing (first + 1) luns rest) x h) [
      | inl k ↦ (let e : first ≡ first + 0 = omega arith in (0, y, us, refl, refl, subst (λ l. Has (phases_left timing l y us) x) e k))
      | inr k ↦ (let r = has_at timing (first + 1) luns rest x k in let e : first + 1 + r.0 ≡ first + suc r.0 = omega arith in (suc r.0, r.1, r.2, r.3, r.4, subst (λ l. Has (phases_left timing l r.1 r.2) x) e r.5))
    ]
