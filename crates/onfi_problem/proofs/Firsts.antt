-- The groups of the table that may be started, and their order by masks: the same over all wants and over those that wait.
use Rattle.std.proofs.Common.{◌≡◌, ℕ, ◌+◌, ◌*◌, ◌^◌, ◌≤◌, ◌<◌, inl, inr, Bool, true, false, List, [], ◌∷◌, Some, refl, sym, ap, subst, arith, add-one, pow-suc}
use Rattle.std.specs.Prelude.{slice_get, if◌then◌else◌, ◌==◌}
use Rattle.std.specs.List.{filter, AllByRecursion as All}
use Rattle.std.proofs.lemmas.Bool.{cases_Bool, cases_lt, eq-eqb, eqb-true, false≢true}
use Rattle.onfi_request.specs.declared.want.Want.{Want}
use Rattle.onfi_group.specs.declared.rules.Rules.{Rules}
use Rattle.onfi_group.specs.Words.{Has}
use Rattle.onfi_group.specs.Group.{is_member, on_block, IsFirst, IsStartable, lun_of, mask_from, mask_of}
use Rattle.onfi_group.specs.Listing.{IsCandidate}
use Rattle.onfi_problem.specs.Position.{waiting_of}
use Rattle.onfi_problem.specs.Starts.{waits_first, can_start}
use Rattle.onfi_problem.proofs.Perm.{All-has, All-each, All-weaker}
use Rattle.onfi_problem.proofs.Wants.{Rising, same_by_id, first_has}

abbrev bit : Bool → ℕ
bit b = if b then 1 else 0

-- the mask, lowest bit first
abbrev mask0 : List Want → List Want → ℕ
mask0 g [] = 0
mask0 g (w ∷ ws) = bit (is_member g w) + 2 * mask0 g ws

power : (n : ℕ) → 2 ^ (n + 1) ≡ 2 * 2 ^ n
power n = rw (add-one, pow-suc) (omega arith)

product : (a b c : ℕ) → a ≡ 2 * b → a * c ≡ b * (2 * c)
product a b c h = rw h (omega arith)

mask_is : (g ws : List Want) (n : ℕ) → mask_from g n ws ≡ 2 ^ n * mask0 g ws
mask_is g [] n = omega arith
mask_is g (w ∷ ws) n =
    let e = mask_is g ws (n + 1) in
    let q = product (2 ^ (n + 1)) (2 ^ n) (mask0 g ws) (power n) in
    elim (cases_Bool (is_member g w)) [
      | inl k ↦ rw k (omega arith)
      | inr k ↦ rw k (omega arith)
    ]

-- no member lost its mark
abbrev Covered : List Want → List Bool → List Want → Type 0
Covered g marks [] = Unit {0}
Covered g [] (w ∷ ws) = (is_member g w ≡ false) × Covered g [] ws
Covered g (b ∷ bs) (w ∷ ws) = (b ≡ false → is_member g w ≡ false) × Covered g bs ws

record Same (x y x' y' : ℕ) : Type 0 where
  pub less : x < y → x' < y'
  pub equal : x ≡ y → x' ≡ y'

bit_small : (b : Bool) → bit b ≤ 1
bit_small true = omega arith
bit_small false = omega arith

with_bits : (a b x y x' y' : ℕ) → a ≤ 1 → b ≤ 1 → Same x y x' y' → Same (a + 2 * x) (b + 2 * y) (a + 2 * x') (b + 2 * y')
with_bits a b x y x' y' ha hb s = elim (cases_lt x y) [
  | inl l ↦ (let q = s.less l in record { less = λ h. omega arith; equal = λ h. absurd (omega arith) })
  | inr l ↦ elim (cases_lt y x) [
    | inl m ↦ record { less = λ h. absurd (omega arith); equal = λ h. absurd (omega arith) }
    | inr m ↦ (let e : x ≡ y = omega arith in let q = s.equal e in record { less = λ h. omega arith; equal = λ h. omega arith })
  ]
]

none_in : (g ws : List Want) → Covered g [] ws → mask0 g ws ≡ 0
none_in g [] c = refl
none_in g (w ∷ ws) c = let e = none_in g ws c.1 in rw c.0 (omega arith)

same_order : (g h : List Want) (marks : List Bool) (ws : List Want) → Covered g marks ws → Covered h marks ws → Same (mask0 g ws) (mask0 h ws) (mask0 g (waiting_of marks ws)) (mask0 h (waiting_of marks ws))
same_order g h marks [] c d = record { less = λ q. q; equal = λ q. q }
same_order g h [] (w ∷ ws) c d =
    let e = none_in g (w ∷ ws) c in let f = none_in h (w ∷ ws) d in
    record { less = λ q. absurd (omega arith); equal = λ q. refl }
same_order g h (true ∷ bs) (w ∷ ws) c d = with_bits (bit (is_member g w)) (bit (is_member h w)) (mask0 g ws) (mask0 h ws) (mask0 g (waiting_of bs ws)) (mask0 h (waiting_of bs ws)) (bit_small (is_member g w)) (bit_small (is_member h w)) (same_order g h bs ws c.1 d.1)
same_order g h (false ∷ bs) (w ∷ ws) c d =
    let e = c.0 refl in let f = d.0 refl in
    let s = same_order g h bs ws c.1 d.1 in
    rw (e, f) (record { less = λ q. s.less (omega arith); equal = λ q. s.equal (omega arith) })

-- two groups that are waiting come in the order that they have over all wants
mask_order : (g h : List Want) (marks : List Bool) (ws : List Want) → Covered g marks ws → Covered h marks ws → mask_from g 0 ws < mask_from h 0 ws → mask_from g 0 (waiting_of marks ws) < mask_from h 0 (waiting_of marks ws)
mask_order g h marks ws c d lt =
    let a = mask_is g ws 0 in let b = mask_is h ws 0 in
    let a' = mask_is g (waiting_of marks ws) 0 in let b' = mask_is h (waiting_of marks ws) 0 in
    let q = (same_order g h marks ws c d).less (omega arith) in
    omega arith

-- who waits is there
pub waiting_in : (marks : List Bool) (ws : List Want) (w : Want) → Has (waiting_of marks ws) w → Has ws w
waiting_in marks [] w h = h
waiting_in [] (v ∷ ws) w h = absurd h
waiting_in (true ∷ bs) (v ∷ ws) w (inl e) = inl e
waiting_in (true ∷ bs) (v ∷ ws) w (inr h) = inr (waiting_in bs ws w h)
waiting_in (false ∷ bs) (v ∷ ws) w h = inr (waiting_in bs ws w h)

pub not_later : (v : Want) (ws : List Want) → All (λ w. v.id < w.id) ws → Has ws v → ⊥
not_later v ws a h = let k = All-has (λ (w : Want). v.id < w.id) ws v a h in omega arith

-- a group whose members all wait has lost no mark
covered : (g : List Want) (marks : List Bool) (ws : List Want) → Rising ws → ((w : Want) → Has ws w → is_member g w ≡ true → Has (waiting_of marks ws) w) → Covered g marks ws
covered g marks [] r f = tt
covered g [] (w ∷ ws) r f = (none_member w (λ m. f w (inl refl) m), covered g [] ws r.1 (λ v h m. absurd (f v (inr h) m)))
  where
    none_member : (v : Want) → (is_member g v ≡ true → ⊥) → is_member g v ≡ false
    none_member v n = elim (cases_Bool (is_member g v)) [ inl k ↦ absurd (n k) | inr k ↦ k ]
covered g (true ∷ bs) (w ∷ ws) r f = ((λ e. absurd (false≢true (sym e))), covered g bs ws r.1 (λ v h m. elim (f v (inr h) m) [ inl e ↦ absurd (not_later w ws r.0 (subst (Has ws) (sym e) h)) | inr k ↦ k ]))
covered g (false ∷ bs) (w ∷ ws) r f = (
  (λ e. elim (cases_Bool (is_member g w)) [ inl k ↦ absurd (not_later w ws r.0 (waiting_in bs ws w (f w (inl refl) k))) | inr k ↦ k ]),
  covered g bs ws r.1 (λ v h m. f v (inr h) m),
)

-- who is said to be a member is one
pub member_in : (all : List Want) (g : List Want) (w : Want) → Rising all → All (Has all) g → Has all w → is_member g w ≡ true → Has g w
member_in all [] w r h k m = absurd (false≢true m)
member_in all (v ∷ g) w r h k m = elim (cases_Bool (v.id == w.id)) [
  | inl e ↦ inl (same_by_id all v w r h.0 k (eqb-true v.id w.id e))
  | inr e ↦ (let q : is_member g w ≡ true = rw e at m in inr (member_in all g w r h.1 k q))
]

pub first_of_test : (all ws : List Want) (m : Want) → Rising all → Has all m → All (Has all) ws → waits_first ws m ≡ true → IsFirst ws m
first_of_test all [] m r hm hw h = absurd (false≢true h)
first_of_test all (w ∷ ws) m r hm hw h = elim (cases_Bool (on_block m w)) [
  | inl k ↦ (let q : (w.id == m.id) ≡ true = rw k at h in let e = same_by_id all w m r hw.0 hm (eqb-true w.id m.id q) in rw k (ap Some e))
  | inr k ↦ (let q : waits_first ws m ≡ true = rw k at h in rw k (first_of_test all ws m r hm hw.1 q))
]

test_of_first : (ws : List Want) (m : Want) → IsFirst ws m → waits_first ws m ≡ true
test_of_first [] m h = cc
test_of_first (w ∷ ws) m h = elim (cases_Bool (on_block m w)) [
  | inl k ↦ (let q : slice_get (w ∷ filter (on_block m) ws) 0 ≡ Some m = rw k at h in let e : w ≡ m = cc in rw k (eq-eqb w.id m.id (ap (λ z. z.id) e)))
  | inr k ↦ (let q : slice_get (filter (on_block m) ws) 0 ≡ Some m = rw k at h in rw k (test_of_first ws m q))
]

module _ (rules : Rules) (all : List Want) (marks : List Bool) (rising : Rising all) where
  abbrev left : List Want
  left = waiting_of marks all

  left_listed : All (Has all) left
  left_listed = All-each (Has all) left (λ w h. waiting_in marks all w h)

  all_first : (g : List Want) → All (Has all) g → can_start left g ≡ true → All (IsFirst left) g
  all_first [] h c = tt
  all_first (m ∷ g) h c = elim (cases_Bool (waits_first left m)) [
    | inl k ↦ (let q : can_start left g ≡ true = rw k at c in (first_of_test all left m rising h.0 left_listed k, all_first g h.1 q))
    | inr k ↦ (let q : false ≡ true = rw k at c in absurd (false≢true q))
  ]

  first_all : (g : List Want) → All (IsFirst left) g → can_start left g ≡ true
  first_all [] h = refl
  first_all (m ∷ g) h = rw (test_of_first left m h.0) (first_all g h.1)

  -- a candidate that passes the test may be started
  pub startable_of : (lun : ℕ) (g : List Want) → IsCandidate rules all lun g → can_start left g ≡ true → IsStartable rules left g
  startable_of lun g c h = record { group = c.group; first = all_first g c.listed h }

  -- what may be started is a candidate that passes the test
  pub candidate_of : (g : List Want) → IsStartable rules left g → IsCandidate rules all (lun_of g) g
  candidate_of g s = record { group = s.group; lun = refl; listed = All-weaker (IsFirst left) (Has all) (λ m f. waiting_in marks all m (first_has (on_block m) left m f)) g s.first }

  pub passes : (g : List Want) → IsStartable rules left g → can_start left g ≡ true
  passes g s = first_all g s.first

  startable_covered : (g : List Want) → IsStartable rules left g → Covered g marks all
  startable_covered g s =
      let c = candidate_of g s in
      covered g marks all rising (λ w h m. let k = member_in all g w rising c.listed h m in first_has (on_block w) left w (All-has (IsFirst left) g w s.first k))

  -- two that may be started come in the order of the table
  pub startable_order : (g h : List Want) → IsStartable rules left g → IsStartable rules left h → mask_of all g < mask_of all h → mask_of left g < mask_of left h
  startable_order g h s t lt = mask_order g h marks all (startable_covered g s) (startable_covered h t) lt
