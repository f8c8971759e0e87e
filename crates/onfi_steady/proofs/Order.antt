-- Numbers that are compared one after another give an order.
use Rattle.std.proofs.Common.{◌≡◌, ℕ, ◌<◌, ◌⊎◌, inl, inr, true, false, List, [], ◌∷◌, length, refl, sym, ◌∙◌, subst, arith}
use Rattle.std.proofs.lemmas.Bool.{cases_eq, cases_lt, eq-eqb, ne_eqb, lt-ltb, le-ltb, false≢true}
use Rattle.std.specs.Prelude.{nat_lt}
use Rattle.onfi_problem.specs.Problem.{Problem}
use Rattle.onfi_problem.specs.Moves.{Move, ComesBefore}
use Rattle.onfi_steady.specs.Order.{is_less, GoesBefore}

by_head : (x y : ℕ) (xs ys : List ℕ) → x < y → is_less (x ∷ xs) (y ∷ ys) ≡ true
by_head x y xs ys h = let d : x ≡ y → ⊥ = λ e. omega arith in rw (ne_eqb x y d) (lt-ltb x y h)

by_tail : (x y : ℕ) (xs ys : List ℕ) → x ≡ y → is_less xs ys ≡ true → is_less (x ∷ xs) (y ∷ ys) ≡ true
by_tail x y xs ys e h = rw (eq-eqb x y e) h

-- what decides
less_by : (x y : ℕ) (xs ys : List ℕ) → is_less (x ∷ xs) (y ∷ ys) ≡ true → (x < y) ⊎ ((x ≡ y) × (is_less xs ys ≡ true))
less_by x y xs ys h = elim (cases_eq x y) [
  | inl e ↦ (let k : is_less xs ys ≡ true = rw (eq-eqb x y e) at h in inr (e, k))
  | inr d ↦ (
      let k : nat_lt x y ≡ true = rw (ne_eqb x y d) at h in
      elim (cases_lt x y) [
        | inl a ↦ inl a
        | inr a ↦ absurd (false≢true (sym (le-ltb x y a) ∙ k))
      ])
]

less_after : (xs ys zs : List ℕ) → is_less xs ys ≡ true → is_less ys zs ≡ true → is_less xs zs ≡ true
less_after [] ys zs a b = absurd (false≢true a)
less_after (x ∷ xs) [] zs a b = absurd (false≢true a)
less_after (x ∷ xs) (y ∷ ys) [] a b = absurd (false≢true b)
less_after (x ∷ xs) (y ∷ ys) (z ∷ zs) a b = elim (less_by x y xs ys a) [
  | inl k ↦ elim (less_by y z ys zs b) [
    | inl l ↦ by_head x z xs zs (omega arith)
    | inr l ↦ (let e = l.0 in by_head x z xs zs (omega arith))
  ]
  | inr k ↦ elim (less_by y z ys zs b) [
    | inl l ↦ (let e = k.0 in by_head x z xs zs (omega arith))
    | inr l ↦ by_tail x z xs zs (k.0 ∙ l.0) (less_after xs ys zs k.1 l.1)
  ]
]

less_itself : (xs : List ℕ) → is_less xs xs ≡ true → ⊥
less_itself [] h = false≢true h
less_itself (x ∷ xs) h = elim (less_by x x xs xs h) [
  | inl k ↦ omega arith
  | inr k ↦ less_itself xs k.1
]

less_or_same : (xs ys : List ℕ) → length xs ≡ length ys → is_less xs ys ≡ false → (is_less ys xs ≡ true) ⊎ (ys ≡ xs)
less_or_same [] [] e h = inr refl
less_or_same [] (y ∷ ys) e h = absurd (omega arith)
less_or_same (x ∷ xs) [] e h = absurd (omega arith)
less_or_same (x ∷ xs) (y ∷ ys) e h = elim (cases_eq x y) [
  | inl q ↦ (
      let k : is_less xs ys ≡ false = rw (eq-eqb x y q) at h in
      let f : length xs ≡ length ys = omega arith in
      elim (less_or_same xs ys f k) [
        | inl l ↦ inl (by_tail y x ys xs (sym q) l)
        | inr l ↦ inr (rw (q, l) refl)
      ])
  | inr d ↦ (
      let k : nat_lt x y ≡ false = rw (ne_eqb x y d) at h in
      elim (cases_lt x y) [
        | inl a ↦ absurd (false≢true (sym k ∙ lt-ltb x y a))
        | inr a ↦ inl (by_head y x ys xs (omega arith))
      ])
]

not_both_before : (p : Problem) (m n : Move) → ComesBefore p m n → ComesBefore p n m → ⊥
not_both_before p m n (inl a) (inl b) = omega arith
not_both_before p m n (inl a) (inr (b, c)) = omega arith
not_both_before p m n (inr (a, d)) (inl b) = omega arith
not_both_before p m n (inr (a, d)) (inr (b, c)) = omega arith

module _ (numbers : Move → List ℕ) (p : Problem) where
  -- one that isn't less, and is listed later, comes after
  pub behind : (c s : Move) → length (numbers s) ≡ length (numbers c) → is_less (numbers s) (numbers c) ≡ false → ComesBefore p c s → GoesBefore numbers p c s
  behind c s e h b = elim (less_or_same (numbers s) (numbers c) e h) [
    | inl k ↦ inl k
    | inr q ↦ inr (q, b)
  ]

  -- one that is less goes before all that come after the other
  pub before_all : (c s n : Move) → is_less (numbers s) (numbers c) ≡ true → (n ≡ c) ⊎ GoesBefore numbers p c n → GoesBefore numbers p s n
  before_all c s n h (inl e) = inl (rw e h)
  before_all c s n h (inr (inl k)) = inl (less_after (numbers s) (numbers c) (numbers n) h k)
  before_all c s n h (inr (inr (q, r))) = inl (subst (λ z. is_less (numbers s) z ≡ true) q h)

  pub not_both : (m n : Move) → GoesBefore numbers p m n → GoesBefore numbers p n m → ⊥
  not_both m n (inl a) (inl b) = less_itself (numbers m) (less_after (numbers m) (numbers n) (numbers m) a b)
  not_both m n (inl a) (inr (q, r)) = less_itself (numbers m) (subst (λ z. is_less (numbers m) z ≡ true) q a)
  not_both m n (inr (q, r)) (inl b) = less_itself (numbers n) (subst (λ z. is_less (numbers n) z ≡ true) q b)
  not_both m n (inr (q, r)) (inr (t, u)) = not_both_before p m n r u
