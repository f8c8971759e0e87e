-- How a list of groups grows by one want.
use Rattle.std.proofs.Common.{◌≡◌, ℕ, ◌+◌, ◌^◌, ◌<◌, ◌≤◌, ◌⊎◌, inl, inr, List, [], ◌∷◌, ◌++◌, length, take, get_or, append_assoc, refl, sym, ap, ◌∙◌, subst, arith, add-one, pow-suc}
use Rattle.std.specs.List.{AllByRecursion as All}
use Rattle.std.proofs.Math.ListN.{get_or-append}
use Rattle.std.proofs.lemmas.List.{take_more}
use Rattle.onfi_request.specs.declared.want.Want.{Want}
use Rattle.onfi_group.specs.declared.rules.Rules.{Rules}
use Rattle.onfi_group.specs.Words.{Has, Pairs}
use Rattle.onfi_group.specs.Group.{IsGroup, lun_of}
use Rattle.onfi_group.specs.Joining.{joined, AreJoined, none, kept, left, HasGrown}
use Rattle.onfi_group.proofs.Lists.{All-append, All-weaker, All-both, All-has, All-each, Has-append_left, Has-append_right, Has-taken_more, Has-taken_last, Has-taken_cases, Pairs-append}
use Rattle.onfi_group.proofs.Placing.{All-joined, Without, taken_out, part_is_group, one_is_group}

-- one more list that makes a group
pub joined_more : {rules : Rules} {w : Want} (g : List Want) {gs more : List (List Want)} → AreJoined rules w gs more → IsGroup rules (joined w g) → AreJoined rules w (gs ++ g ∷ []) (more ++ joined w g ∷ [])
joined_more g none i = kept g [] [] i none
joined_more g (kept h gs more k r) i = kept h _ _ k (joined_more g r i)
joined_more g (left h gs more k r) i = left h _ _ k (joined_more g r i)

-- .. and one that doesn't
pub left_more : {rules : Rules} {w : Want} (g : List Want) {gs more : List (List Want)} → AreJoined rules w gs more → (IsGroup rules (joined w g) → ⊥) → AreJoined rules w (gs ++ g ∷ []) more
left_more g none i = left g [] [] i none
left_more g (kept h gs more k r) i = kept h _ _ k (left_more g r i)
left_more g (left h gs more k r) i = left h _ _ k (left_more g r i)

-- the list of groups while the want is joined with the old ones, as far as a place
pub record Grows (rules : Rules) (w : Want) (old : List (List Want)) (at : ℕ) (groups : List (List Want)) : Type 0 where
  pub more : List (List Want)
  pub grown : groups ≡ old ++ (w ∷ []) ∷ more
  pub joined : AreJoined rules w (take at old) more

old_at : {rules : Rules} {w : Want} {old groups : List (List Want)} {at : ℕ} → Grows rules w old at groups → at < length old → (g : List Want) → g ≡ get_or groups at g → take (at + 1) old ≡ take at old ++ g ∷ []
old_at {rules} {w} {old} {groups} {at} s lt g is =
    let own : get_or old at g ≡ g = sym (get_or-append old ((w ∷ []) ∷ s.more) g at lt) ∙ ap (λ z. get_or z at g) (sym s.grown) ∙ sym is in
    take_more old at g lt ∙ ap (λ x. take at old ++ x ∷ []) own

pub grows_kept : {rules : Rules} {w : Want} {old groups : List (List Want)} {at : ℕ} → Grows rules w old at groups → at < length old → (g h : List Want) → g ≡ get_or groups at g → h ≡ joined w g → IsGroup rules h → Grows rules w old (at + 1) (groups ++ h ∷ [])
grows_kept {rules} {w} {old} {groups} {at} s lt g h is e i = record {
  more = s.more ++ joined w g ∷ [];
  grown = rw (s.grown, e) (append_assoc old ((w ∷ []) ∷ s.more) (joined w g ∷ []));
  joined = rw (old_at s lt g is) (joined_more g s.joined (subst (IsGroup rules) e i));
}

pub grows_left : {rules : Rules} {w : Want} {old groups : List (List Want)} {at : ℕ} → Grows rules w old at groups → at < length old → (g : List Want) → g ≡ get_or groups at g → (IsGroup rules (joined w g) → ⊥) → Grows rules w old (at + 1) groups
grows_left {rules} {w} {old} {groups} {at} s lt g is i = record {
  more = s.more;
  grown = s.grown;
  joined = rw (old_at s lt g is) (left_more g s.joined i);
}

-- what joining makes of what holds of each list
pub joined_all : {rules : Rules} {w : Want} {gs more : List (List Want)} (P Q : List Want → Type 0) → ((g : List Want) → P g → IsGroup rules (joined w g) → Q (joined w g)) → AreJoined rules w gs more → All P gs → All Q more
joined_all P Q f none h = tt
joined_all P Q f (kept g gs more k r) h = (f g h.0 k, joined_all P Q f r h.1)
joined_all P Q f (left g gs more k r) h = joined_all P Q f r h.1

pub joined_each : {rules : Rules} {w : Want} {gs more : List (List Want)} (g : List Want) → AreJoined rules w gs more → Has gs g → IsGroup rules (joined w g) → Has more (joined w g)
joined_each g none h i = absurd h
joined_each {w} g (kept x gs more k r) (inl e) i = inl (ap (joined w) e)
joined_each g (kept x gs more k r) (inr h) i = inr (joined_each g r h i)
joined_each {rules} {w} g (left x gs more k r) (inl e) i = absurd (k (subst (λ z. IsGroup rules (joined w z)) (sym e) i))
joined_each g (left x gs more k r) (inr h) i = joined_each g r h i

-- joining keeps the order where it adds as much to each place
pub joined_order : {rules : Rules} {w : Want} {gs more : List (List Want)} (place : List Want → ℕ) (step : ℕ) → AreJoined rules w gs more → All (λ g. place (joined w g) ≡ place g + step) gs → Pairs (λ a b. place a < place b) gs → Pairs (λ a b. place a < place b) more
joined_order place step none a p = tt
joined_order {rules} {w} place step (kept g gs more k r) a p = (
  joined_all (λ h. (place g < place h) × (place (joined w h) ≡ place h + step)) (λ h. place (joined w g) < place h) (λ h q i. let e = q.1 in let lt = q.0 in let own = a.0 in omega arith) r (All-both _ _ _ (λ h x y. (x, y)) gs p.0 a.1),
  joined_order place step r a.1 p.1,
)
joined_order place step (left g gs more k r) a p = joined_order place step r a.1 p.1

-- all groups of wants of some sort, in the order of their places, which are below a limit
pub record Listed (rules : Rules) (Sort : Want → Type 0) (place : List Want → ℕ) (limit : ℕ) (groups : List (List Want)) : Type 0 where
  pub only : All (λ g. IsGroup rules g × All Sort g) groups
  pub each : (g : List Want) → IsGroup rules g → All Sort g → Has groups g
  pub order : Pairs (λ a b. place a < place b) ([] ∷ groups)
  pub below : All (λ g. place g < limit) ([] ∷ groups)

-- the want is added to the sort
pub record Adds (w : Want) (Sort More : Want → Type 0) : Type 0 where
  pub old : (x : Want) → Sort x → More x
  pub new : More w
  pub only : (x : Want) → More x → Sort x ⊎ (w ≡ x)

-- either no member is the want, or one is
with_or_without : (w : Want) (Sort More : Want → Type 0) → Adds w Sort More → (g : List Want) → All More g → All Sort g ⊎ Has g w
with_or_without w Sort More a [] h = inl tt
with_or_without w Sort More a (x ∷ xs) h = elim (a.only x h.0) [
  | inr e ↦ inr (inl (sym e))
  | inl s ↦ elim (with_or_without w Sort More a xs h.1) [ inl q ↦ inl (s, q) | inr q ↦ inr (inr q) ]
]

-- the others are of the sort without the want
others_of_sort : (w : Want) (Sort More : Want → Type 0) → Adds w Sort More → (g : List Want) → All More g → (t : Without w g) → All Sort t.rest
others_of_sort w Sort More a g h t = All-each Sort t.rest (λ x k.
    let o = t.others x k in
    elim (a.only x (All-has More g x h o.0)) [ inl s ↦ s | inr e ↦ absurd (o.1 (ap (λ z. z.plane) (sym e))) ])

rest_is_listed : (groups : List (List Want)) (rest : List Want) → (1 ≤ length rest → Has groups rest) → Has ([] ∷ groups) rest
rest_is_listed groups [] h = inl refl
rest_is_listed groups (x ∷ xs) h = inr (h (omega arith))

each_grown : (rules : Rules) (w : Want) (Sort More : Want → Type 0) (place : List Want → ℕ) (limit : ℕ) (groups new : List (List Want))
    → Listed rules Sort place limit groups → Adds w Sort More → AreJoined rules w ([] ∷ groups) new
    → (g : List Want) → IsGroup rules g → All More g → Has (groups ++ new) g
each_grown rules w Sort More place limit groups new l a j g i h = elim (with_or_without w Sort More a g h) [
  | inl s ↦ Has-append_left groups new g (l.each g i s)
  | inr k ↦ (
      let t = taken_out w g i.planes k in
      let sort = others_of_sort w Sort More a g h t in
      let short = t.length in
      let known = rest_is_listed groups t.rest (λ some. l.each t.rest (part_is_group rules g t.rest i some (omega arith) t.rises (λ x q. (t.others x q).0)) sort) in
      Has-append_right groups new g (subst (Has new) t.joins (joined_each t.rest j known (subst (IsGroup rules) (sym t.joins) i))))
]

-- with the want added, the list grown by it has all groups, and no other, in their order
pub listed_grown : (rules : Rules) (w : Want) (Sort More : Want → Type 0) (place : List Want → ℕ) (limit : ℕ) (groups more : List (List Want))
    → Listed rules Sort place limit groups → Adds w Sort More → AreJoined rules w groups more
    → place [] ≡ 0 → ((g : List Want) → All Sort g → place (joined w g) ≡ place g + limit)
    → Listed rules More place (limit + limit) (groups ++ (w ∷ []) ∷ more)
listed_grown rules w Sort More place limit groups more l a j empty adds =
    let whole = kept [] groups more (one_is_group rules w) j in
    let sorts = All-weaker (λ g. IsGroup rules g × All Sort g) (All Sort) (λ g h. h.1) groups l.only in
    let step = All-weaker (All Sort) (λ g. place (joined w g) ≡ place g + limit) adds ([] ∷ groups) (tt, sorts) in
    let above : All (λ g. limit ≤ place g) ((w ∷ []) ∷ more) =
    joined_all (λ g. place (joined w g) ≡ place g + limit) (λ g. limit ≤ place g) (λ g e i. omega arith) whole step in
    let few : All (λ g. place g < limit + limit) ((w ∷ []) ∷ more) =
    joined_all (λ g. (place g < limit) × (place (joined w g) ≡ place g + limit)) (λ g. place g < limit + limit) (λ g e i. let lt = e.0 in let eq = e.1 in omega arith) whole (All-both _ _ _ (λ g x y. (x, y)) ([] ∷ groups) l.below step) in
    record {
      only = All-append _ groups ((w ∷ []) ∷ more)
          (All-weaker _ _ (λ g h. (h.0, All-weaker Sort More a.old g h.1)) groups l.only)
          (joined_all (All Sort) (λ g. IsGroup rules g × All More g) (λ g s i. (i, All-joined More w g a.new (All-weaker Sort More a.old g s))) whole (tt, sorts));
      each = each_grown rules w Sort More place limit groups ((w ∷ []) ∷ more) l a whole;
      order = Pairs-append (λ x y. place x < place y) ([] ∷ groups) ((w ∷ []) ∷ more) l.order (joined_order place limit whole step l.order)
          (λ x y h k. let lt = All-has (λ g. place g < limit) ([] ∷ groups) x l.below h in let ge = All-has (λ g. limit ≤ place g) ((w ∷ []) ∷ more) y above k in omega arith);
      below = All-append (λ g. place g < limit + limit) ([] ∷ groups) ((w ∷ []) ∷ more) (All-weaker _ _ (λ g lt. omega arith) ([] ∷ groups) l.below) few;
    }

-- nothing is added
pub record SameSort (Sort More : Want → Type 0) : Type 0 where
  pub there : (x : Want) → Sort x → More x
  pub back : (x : Want) → More x → Sort x

pub listed_same : (rules : Rules) (Sort More : Want → Type 0) (place : List Want → ℕ) (limit more : ℕ) (groups : List (List Want))
    → Listed rules Sort place limit groups → SameSort Sort More → limit ≤ more → Listed rules More place more groups
listed_same rules Sort More place limit more groups l s le = record {
  only = All-weaker _ _ (λ g h. (h.0, All-weaker Sort More s.there g h.1)) groups l.only;
  each = λ g i h. l.each g i (All-weaker More Sort s.back g h);
  order = l.order;
  below = All-weaker _ _ (λ g lt. omega arith) ([] ∷ groups) l.below;
}

-- no want, no group
no_group : (rules : Rules) (Sort : Want → Type 0) → ((x : Want) → Sort x → ⊥) → (g : List Want) → IsGroup rules g → All Sort g → Has [] g
no_group rules Sort empty [] i h = let some = i.some in omega arith
no_group rules Sort empty (x ∷ xs) i h = empty x h.0

pub listed_none : (rules : Rules) (Sort : Want → Type 0) (place : List Want → ℕ) (limit : ℕ) → ((x : Want) → Sort x → ⊥) → place [] < limit → Listed rules Sort place limit []
listed_none rules Sort place limit empty lt = record { only = tt; each = no_group rules Sort empty; order = (tt, tt); below = (lt, tt) }

pub power : (n : ℕ) → 2 ^ (n + 1) ≡ 2 ^ n + 2 ^ n
power n = rw (add-one, pow-suc) (omega arith)

-- among that many first wants, of some sort and of that LUN
abbrev pub Seen : (Want → Type 0) → List Want → ℕ → ℕ → Want → Type 0
Seen Sort wants lun i x = Has (take i wants) x × Sort x × (x.lun ≡ lun)

-- the groups of those, want by want
module _ (rules : Rules) (Sort : Want → Type 0) (place : List Want → ℕ) (wants : List Want) (lun : ℕ) where
  abbrev pub AreSeen : ℕ → List (List Want) → Type 0
  AreSeen i groups = Listed rules (Seen Sort wants lun i) place (2 ^ i) groups

  pub seen_none : place [] ≡ 0 → AreSeen 0 []
  seen_none e = listed_none rules (Seen Sort wants lun 0) place 1 (λ x s. s.0) (omega arith)

  pub seen_grown : (i : ℕ) (d : Want) (groups new : List (List Want)) → place [] ≡ 0 → i < length wants
      → (get_or wants i d).lun ≡ lun → Sort (get_or wants i d)
      → ((g : List Want) → All (Seen Sort wants lun i) g → place (joined (get_or wants i d) g) ≡ place g + 2 ^ i)
      → AreSeen i groups → HasGrown rules (get_or wants i d) groups new → AreSeen (i + 1) new
  seen_grown i d groups new empty h same sort step a g =
      let adds : Adds (get_or wants i d) (Seen Sort wants lun i) (Seen Sort wants lun (i + 1)) = record {
        old = λ x s. (Has-taken_more wants i d x h s.0, s.1, s.2);
        new = (Has-taken_last wants i d h, sort, same);
        only = λ x s. elim (Has-taken_cases wants i d x h s.0) [ inl k ↦ inl (k, s.1, s.2) | inr e ↦ inr e ];
      } in
      rw (g.1, power i) (listed_grown rules (get_or wants i d) (Seen Sort wants lun i) (Seen Sort wants lun (i + 1)) place (2 ^ i) groups g.0 a adds g.2 empty step)

  -- the next want isn't of the sort, or is the same as one before it
  pub seen_same : (i : ℕ) (d : Want) (groups : List (List Want)) → i < length wants
      → ((x : Want) → get_or wants i d ≡ x → Sort x → x.lun ≡ lun → Has (take i wants) x) → AreSeen i groups → AreSeen (i + 1) groups
  seen_same i d groups h there a =
      let same : SameSort (Seen Sort wants lun i) (Seen Sort wants lun (i + 1)) = record {
        there = λ x s. (Has-taken_more wants i d x h s.0, s.1, s.2);
        back = λ x s. (elim (Has-taken_cases wants i d x h s.0) [ inl k ↦ k | inr e ↦ there x e s.1 s.2 ], s.1, s.2);
      } in
      listed_same rules (Seen Sort wants lun i) (Seen Sort wants lun (i + 1)) place (2 ^ i) (2 ^ (i + 1)) groups a same (let e = power i in omega arith)

  pub lun_of_seen : (i : ℕ) (g : List Want) → 1 ≤ length g → All (Seen Sort wants lun i) g → lun_of g ≡ lun
  lun_of_seen i [] some h = absurd (omega arith)
  lun_of_seen i (x ∷ xs) some h = h.0.2
