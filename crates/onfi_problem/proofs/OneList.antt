-- A problem has one list of moves.
use Rattle.std.proofs.Common.{◌≡◌, inl, inr, List, [], ◌∷◌, refl, sym, ◌∙◌, subst, arith}
use Rattle.onfi_group.specs.Words.{Has, Pairs}
use Rattle.onfi_problem.specs.Problem.{Problem}
use Rattle.onfi_problem.specs.Moves.{Move, ComesBefore, AreMoves}
use Rattle.onfi_problem.proofs.Perm.{All-has}

not_both : (p : Problem) (a b : Move) → ComesBefore p a b → ComesBefore p b a → ⊥
not_both p a b (inl h) (inl k) = omega arith
not_both p a b (inl h) (inr k) = let e = k.0 in omega arith
not_both p a b (inr h) (inl k) = let e = h.0 in omega arith
not_both p a b (inr h) (inr k) = let d = h.1 in let e = k.1 in omega arith

head_same : (p : Problem) (x y : Move) (xs ys : List Move) → Pairs (ComesBefore p) (x ∷ xs) → Pairs (ComesBefore p) (y ∷ ys) → Has (y ∷ ys) x → Has (x ∷ xs) y → x ≡ y
head_same p x y xs ys a b (inl e) k = sym e
head_same p x y xs ys a b (inr h) (inl e) = e
head_same p x y xs ys a b (inr h) (inr k) = absurd (not_both p x y (All-has _ xs y a.0 k) (All-has _ ys x b.0 h))

tail_has : (p : Problem) (x y z : Move) (xs ys : List Move) → Pairs (ComesBefore p) (x ∷ xs) → x ≡ y → Has xs z → Has (y ∷ ys) z → Has ys z
tail_has p x y z xs ys a e h (inl k) = let q : x ≡ z = e ∙ k in let c = All-has _ xs z a.0 h in absurd (not_both p x x (subst (ComesBefore p x) (sym q) c) (subst (ComesBefore p x) (sym q) c))
tail_has p x y z xs ys a e h (inr k) = k

same_lists : (p : Problem) (xs ys : List Move) → Pairs (ComesBefore p) xs → Pairs (ComesBefore p) ys → ((m : Move) → Has xs m → Has ys m) → ((m : Move) → Has ys m → Has xs m) → xs ≡ ys
same_lists p [] [] a b f g = refl
same_lists p [] (y ∷ ys) a b f g = absurd (g y (inl refl))
same_lists p (x ∷ xs) [] a b f g = absurd (f x (inl refl))
same_lists p (x ∷ xs) (y ∷ ys) a b f g =
    let e = head_same p x y xs ys a b (f x (inl refl)) (g y (inl refl)) in
    let t = same_lists p xs ys a.1 b.1 (λ m h. tail_has p x y m xs ys a e h (f m (inr h))) (λ m h. tail_has p y x m ys xs b (sym e) h (g m (inr h))) in
    cc

pub one_list : (p : Problem) (xs ys : List Move) → AreMoves p xs → AreMoves p ys → xs ≡ ys
one_list p xs ys a b = same_lists p xs ys a.order b.order (λ m h. b.each m (All-has _ xs m a.moves_only h)) (λ m h. a.each m (All-has _ ys m b.moves_only h))
