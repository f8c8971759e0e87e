-- The groups of the first wants of their blocks, want by want.
use Rattle.std.proofs.Common.{◌≡◌, ◌≢◌, ℕ, zero, suc, ◌+◌, ◌^◌, ◌<◌, ◌≤◌, inl, inr, true, false, List, [], ◌∷◌, length, take, get_or, Some, refl, sym, ap, ◌∙◌, subst, arith}
use Rattle.std.specs.Prelude.{nat_lt}
use Rattle.std.specs.List.{list_any, AllByRecursion as All}
use Rattle.std.proofs.lemmas.Bool.{cases_Bool, eq-eqb, false≢true}
use Rattle.std.proofs.lemmas.List.{take_all}
use Rattle.onfi_request.specs.declared.want.Want.{Want}
use Rattle.onfi_group.specs.declared.rules.Rules.{Rules}
use Rattle.onfi_group.specs.Words.{Has, Pairs, total}
use Rattle.onfi_group.specs.Group.{IsFirst, IsStartable, lun_of, on_block, mask_from, mask_of}
use Rattle.onfi_group.specs.Joining.{joined, HasGrown}
use Rattle.onfi_group.specs.Listing.{AreStartable, first_place, first_mask}
use Rattle.onfi_group.proofs.Lists.{All-weaker, All-both, All-has, All-each, first_has}
use Rattle.onfi_group.proofs.Growing.{Seen, AreSeen, seen_grown, seen_same, lun_of_seen}
use Rattle.onfi_group.proofs.Masks.{mask_none, mask_adds}
use Rattle.onfi_group.proofs.Placing.{joined_front}
use Rattle.onfi_group.proofs.Rising.{PlanesRise}

pub on_own_block : (w : Want) → on_block w w ≡ true
on_own_block w = rw (eq-eqb w.lun w.lun refl, eq-eqb w.block w.block refl) refl

-- the first want on its block, and its place
record FirstAt (wants : List Want) (place : ℕ) (m : Want) : Type 0 where
  pub first : IsFirst wants m
  pub at : first_place wants m ≡ place

-- with none before it on its block a want is the first there
first_at : (ws : List Want) (i : ℕ) (d m : Want) → i < length ws → get_or ws i d ≡ m → list_any (on_block m) (take i ws) ≡ false → FirstAt ws i m
first_at [] i d m h e k = absurd (omega arith)
first_at (x ∷ xs) zero d m h e k =
    let own : on_block m x ≡ true = ap (on_block m) e ∙ on_own_block m in
    record { first = rw own (ap Some e); at = rw own refl }
first_at (x ∷ xs) (suc i) d m h e k = elim (cases_Bool (on_block m x)) [
  | inl q ↦ (let bad : true ≡ false = rw q at k in absurd (false≢true (sym bad)))
  | inr q ↦ (
      let rest = first_at xs i d m (omega arith) e (rw q at k) in
      let at = rest.at in
      record { first = rw q rest.first; at = rw q (omega arith) })
]

-- with one before it, it can be first only as another place of the same want
first_within : (ws : List Want) (i : ℕ) (m : Want) → list_any (on_block m) (take i ws) ≡ true → IsFirst ws m → Has (take i ws) m
first_within [] zero m k f = absurd (false≢true k)
first_within [] (suc i) m k f = absurd (false≢true k)
first_within (x ∷ xs) zero m k f = absurd (false≢true k)
first_within (x ∷ xs) (suc i) m k f = elim (cases_Bool (on_block m x)) [
  | inl q ↦ (let s : Some x ≡ Some m = rw q at f in let e : x ≡ m = cc in inl e)
  | inr q ↦ inr (first_within xs i m (rw q at k) (rw q at f))
]

total_joined : (f : Want → ℕ) (w : Want) (g : List Want) → total f (joined w g) ≡ total f g + f w
total_joined f w [] = omega arith
total_joined f w (m ∷ ms) = let e = total_joined f w ms in elim (cases_Bool (nat_lt m.plane w.plane)) [ inl k ↦ rw k (omega arith) | inr k ↦ rw k (omega arith) ]

-- the groups that may be started of that many first wants
abbrev pub Opened : Rules → List Want → ℕ → ℕ → List (List Want) → Type 0
Opened rules wants lun i groups = AreSeen rules (IsFirst wants) (first_mask wants) wants lun i groups

pub opened_grown : (rules : Rules) (wants : List Want) (lun i : ℕ) (d : Want) (groups new : List (List Want)) → i < length wants
    → (get_or wants i d).lun ≡ lun → list_any (on_block (get_or wants i d)) (take i wants) ≡ false
    → Opened rules wants lun i groups → HasGrown rules (get_or wants i d) groups new → Opened rules wants lun (i + 1) new
opened_grown rules wants lun i d groups new h same none_before o g =
    let first = first_at wants i d (get_or wants i d) h refl none_before in
    seen_grown rules (IsFirst wants) (first_mask wants) wants lun i d groups new refl h same first.first
    (λ x s. rw first.at at (total_joined (λ m. 2 ^ first_place wants m) (get_or wants i d) x)) o g

pub opened_other : (rules : Rules) (wants : List Want) (lun i : ℕ) (d : Want) (groups : List (List Want)) → i < length wants → (get_or wants i d).lun ≢ lun → Opened rules wants lun i groups → Opened rules wants lun (i + 1) groups
opened_other rules wants lun i d groups h other o =
    seen_same rules (IsFirst wants) (first_mask wants) wants lun i d groups h (λ x e f at. absurd (other (ap (λ w. w.lun) e ∙ at))) o

pub opened_behind : (rules : Rules) (wants : List Want) (lun i : ℕ) (d : Want) (groups : List (List Want)) → i < length wants → list_any (on_block (get_or wants i d)) (take i wants) ≡ true → Opened rules wants lun i groups → Opened rules wants lun (i + 1) groups
opened_behind rules wants lun i d groups h behind o =
    seen_same rules (IsFirst wants) (first_mask wants) wants lun i d groups h
    (λ x e f at. first_within wants i x (subst (λ w. list_any (on_block w) (take i wants) ≡ true) e behind) f) o

pub opened_all : (rules : Rules) (wants : List Want) (lun i : ℕ) (groups : List (List Want)) → length wants ≤ i → Opened rules wants lun i groups → AreStartable rules wants lun groups
opened_all rules wants lun i groups whole o =
    let e = take_all i wants whole in
    let Of = Seen (IsFirst wants) wants lun i in
    record {
      only = All-weaker _ (λ g. IsStartable rules wants g × (lun_of g ≡ lun)) (λ g h. (
        record { group = h.0; first = All-weaker Of (IsFirst wants) (λ x s. s.1) g h.1 },
        lun_of_seen rules (IsFirst wants) (first_mask wants) wants lun i g h.0.some h.1,
      )) groups o.only;
      each = λ g s at. o.each g s.group (All-each Of g (λ x k.
          let first = All-has (IsFirst wants) g x s.first k in
          (rw e (first_has (on_block x) wants x first), first, All-has (λ m. m.lun ≡ lun_of g) g x s.group.lun k ∙ at)));
      order = o.order.1;
    }

-- where the first want on a block stands
record StandsAt (wants : List Want) (m : Want) : Type 0 where
  pub within : first_place wants m < length wants
  pub stands : get_or wants (first_place wants m) m ≡ m

stands_at : (ws : List Want) (m : Want) → IsFirst ws m → StandsAt ws m
stands_at [] m f = cc
stands_at (x ∷ xs) m f = elim (cases_Bool (on_block m x)) [
  | inl q ↦ (let s : Some x ≡ Some m = rw q at f in let e : x ≡ m = cc in record { within = rw q (omega arith); stands = rw q e })
  | inr q ↦ (let r = stands_at xs m (rw q at f) in let lt = r.within in let e : 1 + first_place xs m ≡ suc (first_place xs m) = omega arith in record { within = rw q (omega arith); stands = rw (q, e) r.stands })
]

pub same_by_id : (ws : List Want) (a b : Want) → Pairs (λ a b. a.id < b.id) ws → Has ws a → Has ws b → a.id ≡ b.id → a ≡ b
same_by_id [] a b r h k e = absurd h
same_by_id (x ∷ xs) a b r (inl h) (inl k) e = sym h ∙ k
same_by_id (x ∷ xs) a b r (inl h) (inr k) e = let lt = All-has (λ y. x.id < y.id) xs b r.0 k in let same : x.id ≡ a.id = ap (λ z. z.id) h in absurd (omega arith)
same_by_id (x ∷ xs) a b r (inr h) (inl k) e = let lt = All-has (λ y. x.id < y.id) xs a r.0 h in let same : x.id ≡ b.id = ap (λ z. z.id) k in absurd (omega arith)
same_by_id (x ∷ xs) a b r (inr h) (inr k) e = same_by_id xs a b r.1 h k e

other_ids : (wants : List Want) (m : Want) (ms : List Want) → Pairs (λ a b. a.id < b.id) wants → Has wants m → All (λ x. m.plane < x.plane) ms → All (IsFirst wants) ms → All (λ x. x.id ≢ m.id) ms
other_ids wants m ms ids there planes firsts = All-both (λ x. m.plane < x.plane) (IsFirst wants) (λ x. x.id ≢ m.id) (λ x lt f e.
    let same = same_by_id wants x m ids (first_has (on_block x) wants x f) there e in
    let plane : x.plane ≡ m.plane = ap (λ z. z.plane) same in
    omega arith) ms planes firsts

-- with rising ids the bits of the members' blocks are those of their ids
pub same_mask : (wants g : List Want) → Pairs (λ a b. a.id < b.id) wants → All (IsFirst wants) g → PlanesRise g → mask_of wants g ≡ first_mask wants g
same_mask wants [] ids f r = mask_none wants 0
same_mask wants (m ∷ ms) ids f r =
    let s = stands_at wants m f.0 in
    let others = other_ids wants m ms ids (first_has (on_block m) wants m f.0) r.0 f.1 in
    let at : 0 + first_place wants m ≡ first_place wants m = omega arith in
    let e = mask_adds wants (first_place wants m) m ms 0 s.within ids (subst (λ z. All (λ x. x.id ≢ z.id) ms) (sym s.stands) others) in
    let e' = subst (λ z. mask_from (joined z ms) 0 wants ≡ mask_from ms 0 wants + 2 ^ (0 + first_place wants m)) s.stands e in
    let rest = same_mask wants ms ids f.1 r.1 in
    rw (joined_front m ms r.0, rest, at) at e' ∙ omega arith

Pairs-along : {A : Type 0} (P : A → Type 0) (R S : A → A → Type 0) → ((a b : A) → P a → P b → R a b → S a b) → (xs : List A) → All P xs → Pairs R xs → Pairs S xs
Pairs-along P R S f [] h r = tt
Pairs-along P R S f (x ∷ xs) h r = (All-both P (R x) (S x) (λ y p q. f x y h.0 p q) xs h.1 r.0, Pairs-along P R S f xs h.1 r.1)

pub same_order : (rules : Rules) (wants : List Want) (lun : ℕ) (groups : List (List Want)) → AreStartable rules wants lun groups → Pairs (λ a b. a.id < b.id) wants → Pairs (λ a b. mask_of wants a < mask_of wants b) groups
same_order rules wants lun groups s ids = Pairs-along (λ g. IsStartable rules wants g × (lun_of g ≡ lun)) (λ a b. first_mask wants a < first_mask wants b) (λ a b. mask_of wants a < mask_of wants b)
    (λ a b p q lt. let e = same_mask wants a ids p.0.first p.0.group.planes in let f = same_mask wants b ids q.0.first q.0.group.planes in omega arith) groups s.only s.order
