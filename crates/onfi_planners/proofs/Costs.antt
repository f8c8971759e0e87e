-- What the first of several lists adds to a cost.
use Rattle.std.proofs.Common.{◌≡◌, ◌≢◌, ℕ, zero, suc, ◌+◌, ◌-◌, ◌<◌, ◌≤◌, List, [], ◌∷◌, length, get_or, take, drop, replicate, Option, Some, None, refl, sym, ap, ◌∙◌, subst, arith}
use Rattle.std.specs.Prelude.{slice_get, slice_index_or}
use Rattle.std.specs.Option.{option_map}
use Rattle.std.proofs.lemmas.Bool.{ne_eqb}
use Rattle.onfi_timing.specs.declared.operation.Operation.{Operation}
use Rattle.onfi_timing.specs.declared.kind.Kind.TheVariants.{Read}
use Rattle.onfi_timing.specs.Phases.{Lengths}
use Rattle.onfi_timing.specs.declared.timing.Timing.{Timing}
use Rattle.onfi_request.specs.declared.want.Want.{Want}
use Rattle.onfi_problem.specs.declared.lun_state.LunState.{LunState}
use Rattle.onfi_demand.specs.Left.{LunLeft, Rest, left_on}
use Rattle.onfi_demand.specs.Remaining.{lengths_left}
use Rattle.onfi_planners.specs.Cost.{posts_cost, left_cost, rest_cost, weight_of}

abbrev pub no_want : Want
no_want = record { id = 0; kind = Read; lun = 0; plane = 0; block = 0; page = 0 }

no_weights : (wants : List Want) (id : ℕ) → weight_of wants [] id ≡ 0
no_weights [] id = refl
no_weights (w ∷ wants) id = refl

weight_behind : (wants : List Want) (weights : List ℕ) (id i : ℕ) (d : Want) → i < length wants → (get_or wants i d).id ≢ id → weight_of (drop i wants) (drop i weights) id ≡ weight_of (drop (suc i) wants) (drop (suc i) weights) id
weight_behind [] weights id i d h other = absurd (omega (arith, h))
weight_behind (w ∷ wants) [] id zero d h other = sym (no_weights wants id)
weight_behind (w ∷ wants) (n ∷ weights) id zero d h other = simp (ne_eqb w.id id other) refl
weight_behind (w ∷ wants) [] id (suc i) d h other = no_weights (drop i wants) id ∙ sym (no_weights (drop (suc i) wants) id)
weight_behind (w ∷ wants) (n ∷ weights) id (suc i) d h other = weight_behind wants weights id i d (omega (arith, h)) other

-- a want with another id says nothing
pub weight_next : (wants : List Want) (weights : List ℕ) (id i : ℕ) (d : Want) → i < length wants → (get_or wants i d).id ≢ id → weight_of (drop i wants) (drop i weights) id ≡ weight_of (drop (i + 1) wants) (drop (i + 1) weights) id
weight_next wants weights id i d h other =
    let next : suc i ≡ i + 1 = omega arith in
    subst (λ n. weight_of (drop i wants) (drop i weights) id ≡ weight_of (drop n wants) (drop n weights) id) next (weight_behind wants weights id i d h other)

pub rest_costs : (timing : Timing) (weights starts sectors : List ℕ) (operation : Operation) (k n first commands : ℕ) (lengths : Lengths) → lengths ≡ lengths_left timing operation k sectors → first ≡ n - k → commands ≡ k - n
    → posts_cost lengths.posts weights first (drop commands starts) ≡ left_cost timing weights (Rest operation k sectors n) starts
rest_costs timing weights starts sectors operation k n first commands lengths a b d = rw (a, b, d) refl

-- what a LUN's state costs is what is left of it
pub left_costs : (f : LunLeft → ℕ) (o : Option LunState) (l : LunLeft) (n : ℕ) → option_map left_on o ≡ Some l → f l ≡ n → option_map (λ state. f (left_on state)) o ≡ Some n
left_costs f None l n h e = cc
left_costs f (Some x) l n h e = let k : left_on x ≡ l = cc in ap Some (ap f k ∙ e)

rest_behind : (timing : Timing) (weights : List (List ℕ)) (luns : List LunState) (rest : List (List ℕ)) (i lun cost : ℕ) (d : List ℕ) → i < length rest
    → option_map (λ state. left_cost timing (slice_index_or weights lun []) (left_on state) (get_or rest i d)) (slice_get luns i) ≡ Some cost
    → rest_cost timing weights lun (drop i luns) (drop i rest) ≡ cost + rest_cost timing weights (lun + 1) (drop (suc i) luns) (drop (suc i) rest)
rest_behind timing weights [] rest i lun cost d h e = cc
rest_behind timing weights (x ∷ luns) [] i lun cost d h e = absurd (omega (arith, h))
rest_behind timing weights (x ∷ luns) (ts ∷ rest) zero lun cost d h e =
    let same : left_cost timing (slice_index_or weights lun []) (left_on x) ts ≡ cost = cc in
    ap (λ z. z + rest_cost timing weights (lun + 1) luns rest) same
rest_behind timing weights (x ∷ luns) (ts ∷ rest) (suc i) lun cost d h e = rest_behind timing weights luns rest i lun cost d (omega (arith, h)) e

-- what is left on the first LUN, and on the others
pub rest_next : (timing : Timing) (weights : List (List ℕ)) (luns : List LunState) (rest : List (List ℕ)) (i lun cost : ℕ) (d ts : List ℕ) → i < length rest → ts ≡ get_or rest i d
    → option_map (λ state. left_cost timing (slice_index_or weights lun []) (left_on state) ts) (slice_get luns i) ≡ Some cost
    → rest_cost timing weights lun (drop i luns) (drop i rest) ≡ cost + rest_cost timing weights (lun + 1) (drop (i + 1) luns) (drop (i + 1) rest)
rest_next timing weights luns rest i lun cost d ts h same e =
    let next : suc i ≡ i + 1 = omega arith in
    let e' = subst (λ z. option_map (λ state. left_cost timing (slice_index_or weights lun []) (left_on state) z) (slice_get luns i) ≡ Some cost) same e in
    subst (λ n. rest_cost timing weights lun (drop i luns) (drop i rest) ≡ cost + rest_cost timing weights (lun + 1) (drop n luns) (drop n rest)) next (rest_behind timing weights luns rest i lun cost d h e')
