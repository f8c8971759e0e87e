-- Wants and their numbers.
use Rattle.std.proofs.Common.{◌≡◌, ℕ, ◌+◌, ◌≤◌, ◌<◌, inl, inr, Bool, true, false, List, [], ◌∷◌, ◌++◌, refl, sym, ap, ◌∙◌, arith, length}
use Rattle.std.specs.Prelude.{not, ◌==◌}
use Rattle.std.specs.List.{AllByRecursion as All, filter, list_any}
use Rattle.std.proofs.lemmas.Bool.{eqb-true, cases_Bool, false≢true}
use Rattle.std.proofs.lemmas.List.Sums.{length-filter, count_by-le-length}
use Rattle.std.proofs.lemmas.Bool.Decides.{nat_tests}
use Rattle.onfi_request.specs.declared.want.Want.{Want}
use Rattle.onfi_group.specs.Words.{Has, Pairs, number}
use Rattle.onfi_problem.specs.Problem.{has_id}
use Rattle.onfi_group.specs.Group.{is_member}
use Rattle.onfi_problem.specs.Moves.{without}
use Rattle.onfi_problem.proofs.Perm.{All-has, All-each, Has-append_left, Has-append_right}
pub use Rattle.onfi_group.proofs.Lists.{total-append, Has-filter, Pairs-weaker, first_has}
pub use Rattle.onfi_group.proofs.Firsts.{same_by_id}

abbrev pub Rising : List Want → Type 0
Rising ws = Pairs (λ a b. a.id < b.id) ws

pub filter_shorter : {A : Type 0} (test : A → Bool) (xs : List A) → length (filter test xs) ≤ length xs
filter_shorter test xs = omega (arith, length-filter test xs, count_by-le-length test xs)

pub All-filter : {A : Type 0} (P : A → Type 0) (test : A → Bool) (xs : List A) → All P xs → All P (filter test xs)
All-filter P test [] h = tt
All-filter P test (y ∷ ys) h = elim (cases_Bool (test y)) [ inl k ↦ rw k (h.0, All-filter P test ys h.1) | inr k ↦ rw k (All-filter P test ys h.1) ]

pub Pairs-filter : {A : Type 0} (R : A → A → Type 0) (test : A → Bool) (xs : List A) → Pairs R xs → Pairs R (filter test xs)
Pairs-filter R test [] h = tt
Pairs-filter R test (y ∷ ys) h = elim (cases_Bool (test y)) [ inl k ↦ rw k (All-filter (R y) test ys h.0, Pairs-filter R test ys h.1) | inr k ↦ rw k (Pairs-filter R test ys h.1) ]

none_with_id : (ws : List Want) (id : ℕ) → All (λ w. id < w.id) ws → number (has_id id) ws ≡ 0
none_with_id [] id h = refl
none_with_id (w ∷ ws) id h = let e = none_with_id ws id h.1 in let a = h.0 in grind (arith, nat_tests)

pub one_with_id : (ws : List Want) (w : Want) → Rising ws → Has ws w → number (has_id w.id) ws ≡ 1
one_with_id [] w r h = absurd h
one_with_id (v ∷ ws) w r (inl h) = let i : v.id ≡ w.id = ap (λ x. x.id) h in let e = none_with_id ws v.id r.0 in let e' : number (has_id w.id) ws ≡ 0 = rw (← i) e in grind (arith, nat_tests)
one_with_id (v ∷ ws) w r (inr h) = let q = All-has _ ws w r.0 h in let e = one_with_id ws w r.1 h in grind (arith, nat_tests)

pub number_member : (ms : List Want) (id : ℕ) → list_any (λ m. m.id == id) ms ≡ true → 1 ≤ number (has_id id) ms
number_member [] id h = absurd (false≢true h)
number_member (m ∷ ms) id h = elim (cases_Bool (m.id == id)) [ inl k ↦ rw k (omega arith) | inr k ↦ (let r : list_any (λ v. v.id == id) ms ≡ true = rw k at h in let n = number_member ms id r in rw k (omega arith)) ]

pub number_no_member : (ms : List Want) (id : ℕ) → list_any (λ m. m.id == id) ms ≡ false → number (has_id id) ms ≡ 0
number_no_member [] id h = refl
number_no_member (m ∷ ms) id h = elim (cases_Bool (m.id == id)) [ inl k ↦ absurd (false≢true (sym (rw k at h))) | inr k ↦ (let r : list_any (λ v. v.id == id) ms ≡ false = rw k at h in let n = number_no_member ms id r in rw k (omega arith)) ]

pub number_without_yes : (ms ws : List Want) (id : ℕ) → list_any (λ m. m.id == id) ms ≡ true → number (has_id id) (without ms ws) ≡ 0
number_without_yes ms [] id h = refl
number_without_yes ms (w ∷ ws) id h =
    let n = number_without_yes ms ws id h in
    elim (cases_Bool (w.id == id)) [
      | inl k ↦ (let e = eqb-true w.id id k in let m : is_member ms w ≡ true = rw e h in rw m n)
      | inr k ↦ elim (cases_Bool (is_member ms w)) [ inl m ↦ rw m n | inr m ↦ rw (m, k) (omega arith) ]
    ]

pub number_without_no : (ms ws : List Want) (id : ℕ) → list_any (λ m. m.id == id) ms ≡ false → number (has_id id) (without ms ws) ≡ number (has_id id) ws
number_without_no ms [] id h = refl
number_without_no ms (w ∷ ws) id h =
    let n = number_without_no ms ws id h in
    elim (cases_Bool (w.id == id)) [
      | inl k ↦ (let e = eqb-true w.id id k in let m : is_member ms w ≡ false = rw e h in rw m (omega arith))
      | inr k ↦ elim (cases_Bool (is_member ms w)) [ inl m ↦ rw (m, k) (omega arith) | inr m ↦ rw m (omega arith) ]
    ]

-- who has an id is there
pub some_with_id : (ws : List Want) (id : ℕ) → 1 ≤ number (has_id id) ws → (w : Want) × Has ws w × (w.id ≡ id)
some_with_id [] id h = absurd (omega arith)
some_with_id (w ∷ ws) id h =
    elim (cases_Bool (w.id == id)) [
      | inl k ↦ (w, inl refl, eqb-true w.id id k)
      | inr k ↦ (let q : 1 ≤ 0 + number (has_id id) ws = rw k at h in let r = some_with_id ws id (omega arith) in (r.0, inr r.1, r.2))
    ]

pub number_has : (ws : List Want) (w : Want) → Has ws w → 1 ≤ number (has_id w.id) ws
number_has [] w h = absurd h
number_has (v ∷ ws) w (inl e) = let i : v.id ≡ w.id = ap (λ x. x.id) e in grind (arith, nat_tests)
number_has (v ∷ ws) w (inr h) = let n = number_has ws w h in omega arith

-- a group of wants and the others are all wants
module _ (wants members others : List Want) (rising : Rising wants) (wants_only : All (Has wants) (members ++ others)) (once : (id : ℕ) → number (has_id id) (members ++ others) ≡ number (has_id id) wants) where
  pub split : (id : ℕ) → number (has_id id) members + number (has_id id) others ≡ number (has_id id) wants
  split id = sym (total-append _ members others) ∙ once id

  pub others_once : (id : ℕ) → number (has_id id) others ≡ number (has_id id) (without members wants)
  others_once id =
      let both = split id in
      elim (cases_Bool (list_any (λ m. m.id == id) members)) [
        | inl k ↦ (
            let a = number_member members id k in
            let b = number_without_yes members wants id k in
            let m = some_with_id members id a in
            let one = one_with_id wants m.0 rising (All-has (Has wants) (members ++ others) m.0 wants_only (Has-append_left members others m.0 m.1)) in
            let one' : number (has_id id) wants ≡ 1 = rw m.2 at one in
            omega arith)
        | inr k ↦ (
            let a = number_no_member members id k in
            let b = number_without_no members wants id k in
            omega arith)
      ]

  pub others_only : All (Has (without members wants)) others
  others_only = All-each (Has (without members wants)) others (λ w h.
      let here = All-has (Has wants) (members ++ others) w wants_only (Has-append_right members others w h) in
      let one = one_with_id wants w rising here in
      let both = split w.id in
      elim (cases_Bool (is_member members w)) [
        | inl k ↦ (let a = number_member members w.id k in let b = number_has others w h in absurd (omega arith))
        | inr k ↦ Has-filter _ wants w here (ap not k)
      ])
