-- How many groups that many wants form: on each plane one of them or none, so eight wants give at most 80.
use Rattle.std.proofs.Common.{◌≡◌, ◌≢◌, ℕ, ◌+◌, ◌-◌, ◌*◌, ◌≤◌, ◌<◌, ◌⊎◌, inl, inr, List, [], ◌∷◌, ◌++◌, length, map, refl, ap, subst, arith, mul-le-mul}
use Rattle.std.specs.Prelude.{◌==◌}
use Rattle.std.specs.List.{AllByRecursion as All, filter}
use Rattle.std.proofs.lemmas.Bool.{cases_eq, cases_lt, eq-eqb}
use Rattle.std.proofs.lemmas.Bool.Decides.{nat_tests}
use Rattle.std.proofs.lemmas.List.{length-append, length-map}
use Rattle.onfi_request.specs.declared.want.Want.{Want}
use Rattle.onfi_group.specs.declared.rules.Rules.{Rules}
use Rattle.onfi_group.specs.Words.{Has, Pairs}
use Rattle.onfi_group.specs.Group.{on_block, mask_of}
use Rattle.onfi_group.specs.Listing.{IsCandidate, AreCandidates, AreStartable, first_mask}
use Rattle.onfi_group.proofs.Rising.{PlanesRise}
use Rattle.onfi_group.proofs.Lists.{All-has, All-each, All-weaker, Has-append_left, Has-append_right, Has-map, Has-filter, Pairs-weaker, first_has}
pub use Rattle.onfi_group.proofs.Lists.{number-append}

-- the others beside one of them
removed : {A : Type 0} (ys : List A) (x : A) → Has ys x → (rest : List A) × (length ys ≡ 1 + length rest) × ((z : A) → Has ys z → (x ≡ z) ⊎ Has rest z)
removed [] x h = absurd h
removed (y ∷ ys) x (inl e) = (ys, omega arith, λ z k. subst (λ w. (w ≡ z) ⊎ Has ys z) e k)
removed (y ∷ ys) x (inr h) =
    let r = removed ys x h in
    let long = r.1 in
    (y ∷ r.0, omega arith, λ z k. elim k [ inl e ↦ inr (inl e) | inr q ↦ elim (r.2 z q) [ inl e ↦ inl e | inr i ↦ inr (inr i) ] ])

-- of distinct things there are no more than of those among which they are
pub distinct_within : {A : Type 0} (xs ys : List A) → Pairs (λ a b. a ≢ b) xs → All (Has ys) xs → length xs ≤ length ys
distinct_within [] ys d h = omega arith
distinct_within (x ∷ xs) ys d h =
    let r = removed ys x h.0 in
    let long = r.1 in
    let rest = All-each (Has r.0) xs (λ z k. elim (r.2 z (All-has (Has ys) xs z h.1 k)) [ inl e ↦ absurd (All-has _ xs z d.0 k e) | inr i ↦ i ]) in
    let e = distinct_within xs r.0 d.1 rest in
    omega arith

-- each of the lists as it is, and with each of the wants before it
abbrev extended : List Want → List (List Want) → List (List Want)
extended [] gs = gs
extended (v ∷ vs) gs = map (λ g. v ∷ g) gs ++ extended vs gs

length_extended : (vs : List Want) (gs : List (List Want)) → length (extended vs gs) ≡ (1 + length vs) * length gs
length_extended [] gs = omega arith
length_extended (v ∷ vs) gs =
    let e = length_extended vs gs in
    let a = length-append (map (λ (g : List Want). v ∷ g) gs) (extended vs gs) in
    let m = length-map gs (λ (g : List Want). v ∷ g) in
    omega arith

old_extended : (vs : List Want) (gs : List (List Want)) (g : List Want) → Has gs g → Has (extended vs gs) g
old_extended [] gs g h = h
old_extended (v ∷ vs) gs g h = Has-append_right (map (λ h. v ∷ h) gs) (extended vs gs) g (old_extended vs gs g h)

new_extended : (vs : List Want) (gs : List (List Want)) (v : Want) (g : List Want) → Has vs v → Has gs g → Has (extended vs gs) (v ∷ g)
new_extended [] gs v g h k = absurd h
new_extended (x ∷ vs) gs v g (inl e) k = Has-append_left (map (λ h. x ∷ h) gs) (extended vs gs) (v ∷ g) (subst (λ z. Has (map (λ h. x ∷ h) gs) (z ∷ g)) e (Has-map (λ h. x ∷ h) gs g k))
new_extended (x ∷ vs) gs v g (inr h) k = Has-append_right (map (λ h. x ∷ h) gs) (extended vs gs) (v ∷ g) (new_extended vs gs v g h k)

abbrev on_plane : ℕ → List Want → List Want
on_plane p ws = filter (λ w. w.plane == p) ws

-- members of the list, planes rising from p on
record IsChosen (ws : List Want) (p : ℕ) (g : List Want) : Type 0 where
  rising : PlanesRise g
  listed : All (Has ws) g
  above : All (λ m. p ≤ m.plane) g

in_extended : (ws : List Want) (p : ℕ) (gs : List (List Want)) → ((h : List Want) → IsChosen ws (p + 1) h → Has gs h) → (g : List Want) → IsChosen ws p g → Has (extended (on_plane p ws) gs) g
in_extended ws p gs f [] c = old_extended (on_plane p ws) gs [] (f [] (record { rising = tt; listed = tt; above = tt }))
in_extended ws p gs f (m ∷ ms) c =
    let low = c.above.0 in
    let later = All-weaker _ (λ (x : Want). p + 1 ≤ x.plane) (λ x (h : m.plane < x.plane). omega arith) ms c.rising.0 in
    elim (cases_eq m.plane p) [
      | inl e ↦ (
          let rest = f ms (record { rising = c.rising.1; listed = c.listed.1; above = later }) in
          new_extended (on_plane p ws) gs m ms (Has-filter (λ (w : Want). w.plane == p) ws m c.listed.0 (eq-eqb m.plane p e)) rest)
      | inr d ↦ old_extended (on_plane p ws) gs (m ∷ ms) (f (m ∷ ms) (record { rising = c.rising; listed = c.listed; above = (omega arith, later) }))
    ]

abbrev choices : List Want → List (List Want)
choices ws = extended (on_plane 0 ws) (extended (on_plane 1 ws) (extended (on_plane 2 ws) (extended (on_plane 3 ws) ([] ∷ []))))

none_above : (ws : List Want) → All (λ w. w.plane ≤ 3) ws → (g : List Want) → IsChosen ws 4 g → Has ([] ∷ []) g
none_above ws planes [] c = inl refl
none_above ws planes (m ∷ ms) c = let a = c.above.0 in let b = All-has (λ (w : Want). w.plane ≤ 3) ws m planes c.listed.0 in absurd (omega arith)

in_choices : (ws : List Want) → All (λ w. w.plane ≤ 3) ws → (g : List Want) → IsChosen ws 0 g → Has (choices ws) g
in_choices ws planes =
    in_extended ws 0 _ (in_extended ws 1 _ (in_extended ws 2 _ (in_extended ws 3 ([] ∷ []) (none_above ws planes))))

planes_sum : (ws : List Want) → length (on_plane 0 ws) + length (on_plane 1 ws) + length (on_plane 2 ws) + length (on_plane 3 ws) ≤ length ws
planes_sum [] = omega arith
planes_sum (w ∷ ws) = let e = planes_sum ws in grind (arith, nat_tests)

-- a product is at most the square of half the sum
half_squared : (x y : ℕ) → 4 * (x * y) ≤ (x + y) * (x + y)
half_squared x y = elim (cases_lt x y) [
  | inl l ↦ (let k = y - x in let e : y ≡ x + k = omega arith in rw e (omega arith))
  | inr l ↦ (let k = x - y in let e : x ≡ y + k = omega arith in rw e (omega arith))
]

product_bound : (x y s t : ℕ) → 4 * x ≤ s * s → 4 * y ≤ t * t → s + t ≤ 12 → x * y ≤ 81
product_bound x y s t h k few =
    let whole : (s + t) * (s + t) ≤ 12 * 12 = mul-le-mul few few in
    let half = half_squared s t in
    let product : s * t ≤ 36 = omega arith in
    let squares : (s * t) * (s * t) ≤ 36 * 36 = mul-le-mul product product in
    let both : (4 * x) * (4 * y) ≤ (s * s) * (t * t) = mul-le-mul h k in
    omega arith

at_most_81 : (a b c d : ℕ) → a + b + c + d ≤ 8 → (1 + a) * (1 + b) * ((1 + c) * (1 + d)) ≤ 81
at_most_81 a b c d h = product_bound ((1 + a) * (1 + b)) ((1 + c) * (1 + d)) (1 + a + (1 + b)) (1 + c + (1 + d)) (half_squared (1 + a) (1 + b)) (half_squared (1 + c) (1 + d)) (omega arith)

length_choices : (ws : List Want) → length ws ≤ 8 → length (choices ws) ≤ 81
length_choices ws few =
    let s = planes_sum ws in
    let m = at_most_81 (length (on_plane 0 ws)) (length (on_plane 1 ws)) (length (on_plane 2 ws)) (length (on_plane 3 ws)) (omega arith) in
    rw (length_extended, length_extended, length_extended, length_extended) (omega arith)

-- a group of these wants
abbrev pub IsChoice : List Want → List Want → Type 0
IsChoice ws g = (1 ≤ length g) × PlanesRise g × All (Has ws) g

-- eight wants on four planes give at most 80 groups
pub few_groups : (ws : List Want) (gs : List (List Want)) → length ws ≤ 8 → All (λ w. w.plane ≤ 3) ws → All (IsChoice ws) gs → Pairs (λ a b. a ≢ b) gs → length gs ≤ 80
few_groups ws gs few planes h d =
    let none_of = All-weaker (IsChoice ws) (λ g. [] ≢ g) (λ g k e. let n : 0 ≡ length g = ap length e in let s = k.0 in omega arith) gs h in
    let start = in_choices ws planes [] (record { rising = tt; listed = tt; above = tt }) in
    let each = All-weaker (IsChoice ws) (Has (choices ws)) (λ g k. in_choices ws planes g (record { rising = k.1; listed = k.2; above = All-each (λ m. 0 ≤ m.plane) g (λ m z. omega arith) })) gs h in
    let w = distinct_within ([] ∷ gs) (choices ws) (none_of, d) (start, each) in
    let l = length_choices ws few in
    omega arith

-- what stands at different places is different
pub apart_by : {A : Type 0} (place : A → ℕ) (xs : List A) → Pairs (λ a b. place a < place b) xs → Pairs (λ a b. a ≢ b) xs
apart_by place xs h = Pairs-weaker _ _ (λ a b lt e. let q = ap place e in omega arith) xs h

pub few_candidates : (rules : Rules) (wants : List Want) (lun : ℕ) (groups : List (List Want)) → length wants ≤ 8 → All (λ w. w.plane ≤ 3) wants → AreCandidates rules wants lun groups → length groups ≤ 80
few_candidates rules wants lun groups few planes c =
    few_groups wants groups few planes (All-weaker (IsCandidate rules wants lun) (IsChoice wants) (λ g i. (i.group.some, i.group.planes, i.listed)) groups c.only) (apart_by (mask_of wants) groups c.order)

pub few_startable : (rules : Rules) (wants : List Want) (lun : ℕ) (groups : List (List Want)) → length wants ≤ 8 → All (λ w. w.plane ≤ 3) wants → AreStartable rules wants lun groups → length groups ≤ 80
few_startable rules wants lun groups few planes s =
    few_groups wants groups few planes (All-weaker _ (IsChoice wants) (λ g i. (i.0.group.some, i.0.group.planes, All-weaker _ (Has wants) (λ m f. first_has (on_block m) wants m f) g i.0.first)) groups s.only) (apart_by (first_mask wants) groups s.order)
