-- The groups of a LUN's wants, want by want.
use Rattle.std.proofs.Common.{◌≡◌, ◌≢◌, ℕ, zero, suc, ◌+◌, ◌^◌, ◌<◌, ◌≤◌, inl, inr, Bool, true, false, List, [], ◌∷◌, length, take, get_or, refl, ap, ◌∙◌, arith}
use Rattle.std.specs.Prelude.{◌==◌, nat_lt}
use Rattle.std.specs.List.{list_any, AllByRecursion as All}
use Rattle.std.proofs.lemmas.Bool.{cases_Bool, eq-eqb, ne_eqb}
use Rattle.std.proofs.lemmas.List.{take_all}
use Rattle.onfi_request.specs.declared.want.Want.{Want}
use Rattle.onfi_group.specs.declared.rules.Rules.{Rules}
use Rattle.onfi_group.specs.Words.{Has, Pairs}
use Rattle.onfi_group.specs.Group.{lun_of, is_member, mask_from, mask_of}
use Rattle.onfi_group.specs.Joining.{joined, HasGrown}
use Rattle.onfi_group.specs.Listing.{IsCandidate, AreCandidates}
use Rattle.onfi_group.proofs.Lists.{All-weaker, All-has, All-each, Has-get}
use Rattle.onfi_group.proofs.Growing.{Seen, AreSeen, seen_none, seen_grown, seen_same, lun_of_seen}

-- a test that the want fails finds what it found before
any_joined : (test : Want → Bool) (w : Want) (g : List Want) → test w ≡ false → list_any test (joined w g) ≡ list_any test g
any_joined test w [] h = rw h refl
any_joined test w (m ∷ ms) h = elim (cases_Bool (nat_lt m.plane w.plane)) [
  | inl k ↦ rw (k, any_joined test w ms h) refl
  | inr k ↦ rw (k, h) refl
]

-- a test that it passes finds it
found_joined : (test : Want → Bool) (w : Want) (g : List Want) → test w ≡ true → list_any test (joined w g) ≡ true
found_joined test w [] h = rw h refl
found_joined test w (m ∷ ms) h = elim (cases_Bool (nat_lt m.plane w.plane)) [
  | inl k ↦ (let e = found_joined test w ms h in elim (cases_Bool (test m)) [ inl q ↦ rw (k, q) refl | inr q ↦ rw (k, q) e ])
  | inr k ↦ rw (k, h) refl
]

not_member : (g : List Want) (w : Want) → All (λ m. m.id ≢ w.id) g → is_member g w ≡ false
not_member [] w h = refl
not_member (m ∷ ms) w h = rw (ne_eqb m.id w.id h.0) (not_member ms w h.1)

mask_same : (g ws : List Want) (w : Want) (place : ℕ) → All (λ x. w.id < x.id) ws → mask_from (joined w g) place ws ≡ mask_from g place ws
mask_same g [] w place h = refl
mask_same g (x ∷ xs) w place h = let lt = h.0 in rw (any_joined (λ m. m.id == x.id) w g (ne_eqb w.id x.id (λ e. omega arith)), mask_same g xs w (place + 1) h.1) refl

-- one member more is one bit more
pub mask_adds : (ws : List Want) (i : ℕ) (d : Want) (g : List Want) (place : ℕ) → i < length ws → Pairs (λ a b. a.id < b.id) ws → All (λ m. m.id ≢ (get_or ws i d).id) g
    → mask_from (joined (get_or ws i d) g) place ws ≡ mask_from g place ws + 2 ^ (place + i)
mask_adds [] i d g place h rise below = absurd (omega arith)
mask_adds (x ∷ xs) zero d g place h rise below =
    let found = found_joined (λ m. m.id == x.id) x g (eq-eqb x.id x.id refl) in
    let none_before = not_member g x below in
    let rest = mask_same g xs x (place + 1) rise.0 in
    let at : place + 0 ≡ place = omega arith in
    rw (found, none_before, rest, at) (omega arith)
mask_adds (x ∷ xs) (suc i) d g place h rise below =
    let lt : x.id < (get_or xs i d).id = All-has (λ y. x.id < y.id) xs (get_or xs i d) rise.0 (Has-get xs i d (omega arith)) in
    let here = any_joined (λ m. m.id == x.id) (get_or xs i d) g (ne_eqb (get_or xs i d).id x.id (λ e. omega arith)) in
    let rest = mask_adds xs i d g (place + 1) (omega arith) rise.1 below in
    let at : place + 1 + i ≡ place + suc i = omega arith in
    rw (here, rest, at) (omega arith)

pub mask_none : (ws : List Want) (place : ℕ) → mask_from [] place ws ≡ 0
mask_none [] place = refl
mask_none (x ∷ xs) place = let e = mask_none xs (place + 1) in omega arith

other_id : (ws : List Want) (i : ℕ) (d m : Want) → i < length ws → Pairs (λ a b. a.id < b.id) ws → Has (take i ws) m → m.id ≢ (get_or ws i d).id
other_id [] i d m h rise k e = absurd (omega arith)
other_id (x ∷ xs) zero d m h rise k e = k
other_id (x ∷ xs) (suc i) d m h rise (inl k) e = let lt = All-has (λ y. x.id < y.id) xs (get_or xs i d) rise.0 (Has-get xs i d (omega arith)) in let same = ap (λ z. z.id) k in omega arith
other_id (x ∷ xs) (suc i) d m h rise (inr k) e = other_id xs i d m (omega arith) rise.1 k e

-- the candidates of that many first wants
abbrev pub Found : Rules → List Want → ℕ → ℕ → List (List Want) → Type 0
Found rules wants lun i groups = AreSeen rules (λ m. Unit {0}) (mask_of wants) wants lun i groups

pub found_none : (rules : Rules) (wants : List Want) (lun : ℕ) → Found rules wants lun 0 []
found_none rules wants lun = seen_none rules (λ m. Unit {0}) (mask_of wants) wants lun (mask_none wants 0)

pub found_grown : (rules : Rules) (wants : List Want) (lun i : ℕ) (d : Want) (groups new : List (List Want)) → Pairs (λ a b. a.id < b.id) wants
    → i < length wants → (get_or wants i d).lun ≡ lun → Found rules wants lun i groups → HasGrown rules (get_or wants i d) groups new → Found rules wants lun (i + 1) new
found_grown rules wants lun i d groups new ids h same f g =
    let zero_plus : 0 + i ≡ i = omega arith in
    seen_grown rules (λ m. Unit {0}) (mask_of wants) wants lun i d groups new (mask_none wants 0) h same tt (λ x s.
    let others = All-weaker (Seen (λ m. Unit {0}) wants lun i) (λ m. m.id ≢ (get_or wants i d).id) (λ m k. other_id wants i d m h ids k.0) x s in
    rw zero_plus at (mask_adds wants i d x 0 h ids others)) f g

pub found_same : (rules : Rules) (wants : List Want) (lun i : ℕ) (d : Want) (groups : List (List Want)) → i < length wants → (get_or wants i d).lun ≢ lun → Found rules wants lun i groups → Found rules wants lun (i + 1) groups
found_same rules wants lun i d groups h other f =
    seen_same rules (λ m. Unit {0}) (mask_of wants) wants lun i d groups h (λ x e s at. absurd (other (ap (λ w. w.lun) e ∙ at))) f

pub found_all : (rules : Rules) (wants : List Want) (lun i : ℕ) (groups : List (List Want)) → length wants ≤ i → Found rules wants lun i groups → AreCandidates rules wants lun groups
found_all rules wants lun i groups whole f =
    let e = take_all i wants whole in
    let Of = Seen (λ m. Unit {0}) wants lun i in
    record {
      only = All-weaker _ (IsCandidate rules wants lun) (λ g h. record {
        group = h.0;
        lun = lun_of_seen rules (λ m. Unit {0}) (mask_of wants) wants lun i g h.0.some h.1;
        listed = All-weaker Of (Has wants) (λ x s. rw e at s.0) g h.1;
      }) groups f.only;
      each = λ g c. f.each g c.group (All-each Of g (λ x k. (rw e (All-has (Has wants) g x c.listed k), tt, All-has (λ m. m.lun ≡ lun_of g) g x c.group.lun k ∙ c.lun)));
      order = f.order.1;
    }
