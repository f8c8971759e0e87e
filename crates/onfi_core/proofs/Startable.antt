-- What a group that starts takes from each block.
use Rattle.std.proofs.Common.{◌≡◌, ℕ, ◌+◌, ◌<◌, ◌≤◌, inl, inr, Bool, true, List, [], ◌∷◌, ◌++◌, Some, refl, sym, ap, ◌∙◌, subst, arith}
use Rattle.std.specs.Prelude.{slice_get, not, ◌==◌}
use Rattle.std.specs.List.{AllByRecursion as All, filter, list_any}
use Rattle.std.proofs.lemmas.Bool.{cases_Bool}
use Rattle.std.proofs.lemmas.Bool.Decides.{nat_tests}
use Rattle.onfi_request.specs.declared.want.Want.{Want}
use Rattle.onfi_group.specs.Group.{IsStartable, is_member, IsFirst}
use Rattle.onfi_group.specs.Words.{Has, Pairs, number}
use Rattle.onfi_problem.specs.Moves.{without}
use Rattle.onfi_problem.specs.Problem.{has_id, Problem}
use Rattle.onfi_problem.proofs.Perm.{All-has, All-each}
use Rattle.onfi_problem.proofs.Wants.{Rising, same_by_id, Has-filter, Pairs-filter, one_with_id, some_with_id, number_member, number_no_member, number_without_yes, number_without_no}
use Rattle.onfi_core.specs.Kept.{on, is_want_on}
use Rattle.onfi_core.proofs.Lists.{head_same}

pub filters_swap : {A : Type 0} (f g : A → Bool) (xs : List A) → filter f (filter g xs) ≡ filter g (filter f xs)
filters_swap f g [] = refl
filters_swap f g (x ∷ xs) =
    let e = filters_swap f g xs in
    elim (cases_Bool (f x)) [
      | inl k ↦ elim (cases_Bool (g x)) [ inl m ↦ rw (m, k, m) (ap (λ zs. x ∷ zs) e) | inr m ↦ rw (k, m) e ]
      | inr k ↦ elim (cases_Bool (g x)) [ inl m ↦ rw (m, k) e | inr m ↦ rw (k, m) e ]
    ]

pub filter_keeps : {A : Type 0} (test : A → Bool) (xs : List A) → All (λ x. test x ≡ true) xs → filter test xs ≡ xs
filter_keeps test [] h = refl
filter_keeps test (x ∷ xs) h = let k = h.0 in rw k (ap (λ zs. x ∷ zs) (filter_keeps test xs h.1))

-- what a filter keeps was there, and passes
pub from_filter : {A : Type 0} (test : A → Bool) (xs : List A) (x : A) → Has (filter test xs) x → Has xs x × (test x ≡ true)
from_filter test [] x h = absurd h
from_filter test (y ∷ ys) x h =
    elim (cases_Bool (test y)) [
      | inl k ↦ (
          let h' : Has (y ∷ filter test ys) x = rw k at h in
          elim h' [ inl e ↦ (inl e, ap test (sym e) ∙ k) | inr m ↦ (let r = from_filter test ys x m in (inr r.0, r.1)) ])
      | inr k ↦ (let h' : Has (filter test ys) x = rw k at h in let r = from_filter test ys x h' in (inr r.0, r.1))
    ]

pub some_with : (g : List Want) (i : ℕ) → list_any (λ (m : Want). m.id == i) g ≡ true → (m : Want) × Has g m × (m.id ≡ i)
some_with g i h = some_with_id g i (number_member g i h)

pub is_member_has : (g : List Want) (m : Want) → Has g m → is_member g m ≡ true
is_member_has (v ∷ g) m (inl e) = let i : v.id ≡ m.id = ap (λ (x : Want). x.id) e in let k : (v.id == m.id) ≡ true = grind (arith, nat_tests) in rw k refl
is_member_has (v ∷ g) m (inr h) = elim (cases_Bool (v.id == m.id)) [ inl k ↦ rw k refl | inr k ↦ rw k (is_member_has g m h) ]
is_member_has [] m h = absurd h

-- an element at the front of a list
first_is : {A : Type 0} (xs : List A) (x : A) → slice_get xs 0 ≡ Some x → (tail : List A) × (xs ≡ x ∷ tail)
first_is [] x h = cc
first_is (y ∷ ys) x h = let e : y ≡ x = cc in (ys, ap (λ z. z ∷ ys) e)

module _ (p : Problem) (g : List Want) (rising : Rising p.wants) (st : IsStartable p.rules p.wants g) where
  is_there : (m : Want) → Has g m → (l b : ℕ) → is_want_on l b m ≡ true → (tail : List Want) × (on l b p.wants ≡ m ∷ tail)
  is_there m h l b k =
      let f = All-has (IsFirst p.wants) g m st.first h in
      let a : m.lun ≡ l = grind (arith, nat_tests) in
      let c : m.block ≡ b = grind (arith, nat_tests) in
      let P : ℕ → ℕ → Type 0 = λ i j. (tail : List Want) × (on i j p.wants ≡ m ∷ tail) in
      let start : P m.lun m.block = first_is (on m.lun m.block p.wants) m f in
      subst (λ i. P i b) a (subst (P m.lun) c start)

  -- a member is a want of the problem
  pub member_there : (m : Want) → Has g m → Has p.wants m
  member_there m h =
      let k : is_want_on m.lun m.block m ≡ true = grind (arith, nat_tests) in
      let t = is_there m h m.lun m.block k in
      (from_filter (is_want_on m.lun m.block) p.wants m (let e = t.1 in rw e (inl refl))).0

  -- a want whose number a member has is that member
  same_member : (w : Want) → Has p.wants w → is_member g w ≡ true → Has g w
  same_member w h k =
      let m = some_with g w.id k in
      let e = same_by_id p.wants m.0 w rising (member_there m.0 m.1) h m.2 in
      subst (Has g) e m.1

  left_on : (l b : ℕ) → on l b (without g p.wants) ≡ filter (λ w. not (is_member g w)) (on l b p.wants)
  left_on l b = filters_swap (is_want_on l b) (λ w. not (is_member g w)) p.wants

  -- where no member is on the block nothing of it goes
  none_on : (l b : ℕ) → on l b g ≡ [] → on l b p.wants ≡ on l b (without g p.wants)
  none_on l b e = sym (left_on l b ∙ filter_keeps _ (on l b p.wants) (All-each _ (on l b p.wants) (λ w h.
      let f = from_filter (is_want_on l b) p.wants w h in
      elim (cases_Bool (is_member g w)) [
        | inl k ↦ absurd (let q = Has-filter (is_want_on l b) g w (same_member w f.0 k) f.1 in let q' : Has (on l b g) w = q in let z : Has [] w = subst (λ zs. Has zs w) e q' in z)
        | inr k ↦ rw k refl
      ])))

  -- two members on one block would have one plane
  one_on : (m : Want) (more : List Want) (l b : ℕ) → on l b g ≡ m ∷ more → more ≡ []
  one_on m [] l b e = refl
  one_on m (v ∷ more) l b e =
      let hm = from_filter (is_want_on l b) g m (rw e (inl refl)) in
      let hv = from_filter (is_want_on l b) g v (rw e (inr (inl refl))) in
      let tm = is_there m hm.0 l b hm.1 in
      let tv = is_there v hv.0 l b hv.1 in
      let same : m ≡ v = head_same _ _ _ _ (sym tm.1 ∙ tv.1) in
      let planes = Pairs-filter (λ (a b : Want). a.plane < b.plane) (is_want_on l b) g st.group.planes in
      let planes' : Pairs (λ (a b : Want). a.plane < b.plane) (m ∷ v ∷ more) = subst (Pairs (λ (a b : Want). a.plane < b.plane)) e planes in
      let lower : m.plane < v.plane = planes'.0.0 in
      let level : m.plane ≡ v.plane = ap (λ (x : Want). x.plane) same in
      absurd (omega arith)

  -- .. and where one is, it is the first
  some_on : (m : Want) (l b : ℕ) → on l b g ≡ m ∷ [] → on l b p.wants ≡ m ∷ on l b (without g p.wants)
  some_on m l b e =
      let hm = from_filter (is_want_on l b) g m (rw e (inl refl)) in
      let t = is_there m hm.0 l b hm.1 in
      let tail = t.0 in
      let up = Pairs-filter (λ (a b : Want). a.id < b.id) (is_want_on l b) p.wants rising in
      let up' : Rising (m ∷ tail) = subst Rising t.1 up in
      let member = is_member_has g m hm.0 in
      let keeps : All (λ w. not (is_member g w) ≡ true) tail = All-each _ tail (λ w h.
      let f = from_filter (is_want_on l b) p.wants w (let q = t.1 in rw q (inr h)) in
      elim (cases_Bool (is_member g w)) [
        | inl k ↦ absurd (
            let q : Has (on l b g) w = Has-filter (is_want_on l b) g w (same_member w f.0 k) f.1 in
            let q' : Has (m ∷ []) w = subst (λ zs. Has zs w) e q in
            let higher = All-has (λ (v : Want). m.id < v.id) tail w up'.0 h in
            elim q' [ inl s ↦ (let i : m.id ≡ w.id = ap (λ (x : Want). x.id) s in omega arith) | inr z ↦ z ])
        | inr k ↦ rw k refl
      ]) in
      let q = t.1 in
      q ∙ ap (λ zs. m ∷ zs) (sym (left_on l b ∙ ap (filter (λ w. not (is_member g w))) q ∙ rw member (filter_keeps _ tail keeps)))

  startable_from : (l b : ℕ) (front : List Want) → on l b g ≡ front → on l b p.wants ≡ front ++ on l b (without g p.wants)
  startable_from l b [] e = none_on l b e
  startable_from l b (m ∷ more) e =
      let n = one_on m more l b e in
      let e' : on l b g ≡ m ∷ [] = e ∙ ap (λ zs. m ∷ zs) n in
      some_on m l b e' ∙ ap (λ zs. m ∷ zs ++ on l b (without g p.wants)) (sym n)

  -- a group that starts takes the first of each of its blocks
  pub startable_on : (l b : ℕ) → on l b p.wants ≡ on l b g ++ on l b (without g p.wants)
  startable_on l b = startable_from l b (on l b g) refl

  others_not : (i : ℕ) (m : Want) (vs : List Want) → Has p.wants m → All (Has p.wants) vs → All (λ (v : Want). m.plane < v.plane) vs → m.id ≡ i → number (has_id i) vs ≡ 0
  others_not i m [] h k q e = refl
  others_not i m (v ∷ vs) h k q e =
      let r = others_not i m vs h k.1 q.1 e in
      elim (cases_Bool (v.id == i)) [
        | inl t ↦ absurd (
            let a : v.id ≡ i = grind (arith, nat_tests) in
            let s : m ≡ v = same_by_id p.wants m v rising h k.0 (e ∙ sym a) in
            let level : m.plane ≡ v.plane = ap (λ (x : Want). x.plane) s in
            let lower = q.0 in omega arith)
        | inr t ↦ rw (t, r) refl
      ]

  at_most_once : (i : ℕ) (vs : List Want) → All (Has p.wants) vs → Pairs (λ (a b : Want). a.plane < b.plane) vs → number (has_id i) vs ≤ 1
  at_most_once i [] k q = omega arith
  at_most_once i (m ∷ vs) k q =
      elim (cases_Bool (m.id == i)) [
        | inl t ↦ (let a : m.id ≡ i = grind (arith, nat_tests) in let z = others_not i m vs k.0 k.1 q.0 a in rw (t, z) (omega arith))
        | inr t ↦ (let z = at_most_once i vs k.1 q.1 in rw t (omega (arith, z)))
      ]

  -- each want is in the group or is left
  pub started_once : (i : ℕ) → number (has_id i) p.wants ≡ number (has_id i) g + number (has_id i) (without g p.wants)
  started_once i =
      let there : All (Has p.wants) g = All-each (Has p.wants) g member_there in
      let most = at_most_once i g there st.group.planes in
      elim (cases_Bool (list_any (λ (m : Want). m.id == i) g)) [
        | inl k ↦ (
            let least = number_member g i k in
            let w = number_without_yes g p.wants i k in
            let m = some_with g i k in
            let one = one_with_id p.wants m.0 rising (member_there m.0 m.1) in
            let q = m.2 in
            let one' : number (has_id i) p.wants ≡ 1 = subst (λ j. number (has_id j) p.wants ≡ 1) q one in
            rw (w, one') (omega arith))
        | inr k ↦ (let z = number_no_member g i k in let w = number_without_no g p.wants i k in rw (w, z) (omega arith))
      ]
