-- A certificate between two children of a node.
use Rattle.std.proofs.Common.{◌≡◌, ℕ, ◌+◌, ◌≤◌, ◌<◌, List, [], ◌∷◌, ◌++◌, length, take, get_or, Option, Some, refl, sym, ap, ◌∙◌, subst, arith, append_assoc}
use Rattle.std.proofs.lemmas.List.{take_all}
use Rattle.onfi_problem.specs.Moves.{Move, IsMove, earliest, move_lun, after, AreMoves}
use Rattle.onfi_cert.specs.declared.token.Token.{Token}
use Rattle.onfi_cert.specs.declared.token.Token.TheVariants.{Branch, Yield}
use Rattle.onfi_problem.specs.Problem.{Problem, IsProblem}
use Rattle.onfi_check.specs.Tree.{Forest, Closing, Closes, token_of, width, preorder, preorders, Closed, Opened, NoMore, Child, Yields}
use Rattle.onfi_problem.specs.declared.moves.Move.{Move as KeptMove}
use Rattle.onfi_problem.specs.Position.{moves_of, Position, move_of, moved}
use Rattle.onfi_planner.specs.Opening.{yield_at, AreYields}
use Rattle.onfi_check.specs.Nodes.{IsOpen}
use Rattle.onfi_planner.specs.Planning.{Bounded, Written}
use Rattle.onfi_problem.proofs.Perm.{All-has, append_nil}
use Rattle.onfi_planner.proofs.Grown.{Grown, joined, preorders_joined, grown_joined, grown_width, grown_accepts}
use Rattle.onfi_planner.proofs.Halfway.{no_moves, one_more}
use Rattle.onfi_problem.proofs.Kept.{lun_there}
pub use Rattle.onfi_check.proofs.OneList.{map_length}

-- so far
abbrev pub Growing : Position → List KeptMove → List (Option ℕ) → ℕ → ℕ → List Token → List Token → Type 0
Growing x items ys e i old new = (f : Forest) × (new ≡ old ++ (Branch (length items) ∷ preorders f)) × Grown x.problem ys e (moves_of x.groups (take i items)) f

pub begun : (x : Position) (items : List KeptMove) (ys : List (Option ℕ)) (e n : ℕ) (old new : List Token) → new ≡ old ++ Branch n ∷ [] → n ≡ length items → Growing x items ys e 0 old new
begun x items ys e n old new h q = (NoMore, h ∙ ap (λ z. old ++ Branch z ∷ []) q, tt)

more_tokens : (old new new' ts : List Token) (n : ℕ) (f g : Forest) → new ≡ old ++ (Branch n ∷ preorders f) → new' ≡ new ++ ts → preorders g ≡ ts → new' ≡ old ++ (Branch n ∷ preorders (joined f g))
more_tokens old new new' ts n f g h k e =
    k ∙ (ap (λ z. z ++ ts) h ∙ (append_assoc old (Branch n ∷ preorders f) ts ∙ ap (λ z. old ++ (Branch n ∷ z)) (ap (λ z. preorders f ++ z) (sym e) ∙ sym (preorders_joined f g))))

pub with_child : (x : Position) (items : List KeptMove) (ys : List (Option ℕ)) (e i : ℕ) (old new new' : List Token) (d : KeptMove) → i < length items → Written (moved x (get_or items i d)).problem e new new' → Growing x items ys e i old new → Growing x items ys e (i + 1) old new'
with_child x items ys e i old new new' d h (tree, k, a) (f, t, g) =
    let last = Child tree NoMore in (
      joined f last,
      more_tokens old new new' (preorder tree) (length items) f last t k (append_nil (preorder tree)),
      subst (λ z. Grown x.problem ys e z (joined f last)) (sym (one_more x.groups items i d h)) (grown_joined x.problem ys e (moves_of x.groups (take i items)) (move_of x.groups (get_or items i d) ∷ []) f last g (a, tt)),
    )

pub with_yield : (x : Position) (items : List KeptMove) (ys : List (Option ℕ)) (e i l : ℕ) (old new new' : List Token) (d : KeptMove) → i < length items → yield_at ys (move_lun (move_of x.groups (get_or items i d))) ≡ Some l → new' ≡ new ++ Yield l ∷ [] → Growing x items ys e i old new → Growing x items ys e (i + 1) old new'
with_yield x items ys e i l old new new' d h y k (f, t, g) =
    let last = Yields l NoMore in (
      joined f last,
      more_tokens old new new' (Yield l ∷ []) (length items) f last t k refl,
      subst (λ z. Grown x.problem ys e z (joined f last)) (sym (one_more x.groups items i d h)) (grown_joined x.problem ys e (moves_of x.groups (take i items)) (move_of x.groups (get_or items i d) ∷ []) f last g (y, tt)),
    )

pub grown_up : (x : Position) (items : List KeptMove) (ys : List (Option ℕ)) (e i : ℕ) (old new : List Token) → AreMoves x.problem (moves_of x.groups items) → 1 ≤ length items → AreYields x.problem (moves_of x.groups items) ys → length items ≤ i → Growing x items ys e i old new → Written x.problem e old new
grown_up x items ys e i old new are some ay h (f, t, g) =
    let g' = subst (λ z. Grown x.problem ys e (moves_of x.groups z) f) (take_all i items h) g in
    let l = map_length x items in
    let w : length items ≡ width f = sym (grown_width x.problem ys e (moves_of x.groups items) f g' ∙ l) in
    (Opened f, t ∙ ap (λ z. old ++ (Branch z ∷ preorders f)) w, grown_accepts x.problem ys e (moves_of x.groups items) f are (omega arith) ay g')

pub closed_written : (p : Problem) (e : ℕ) (t : Token) (old new : List Token) → new ≡ old ++ t ∷ [] → (c : Closing) × (token_of c ≡ t) × Closes p e c → Written p e old new
closed_written p e t old new h (c, k, a) = (Closed c, h ∙ ap (λ z. old ++ z ∷ []) (sym k), a)

-- what a node's finish bounds bounds its children
pub bounded_below : (p : Problem) (m : Move) (e : ℕ) → IsMove p m → Bounded p e → Bounded (after p m) e
bounded_below p m e im b steps f run = b (record { move = m; start = earliest p m } ∷ steps) f (im, omega arith, run)

-- an open node has something left
pub no_end : (x : Position) (items : List KeptMove) (e : ℕ) → IsProblem x.problem → AreMoves x.problem (moves_of x.groups items) → length items ≡ 0 → IsOpen e x.problem → Bounded x.problem e → ⊥
no_end x [] e ip are z o b = let d = no_moves x.problem ip are in let u = o.bus in let le = b [] x.problem.bus_free (d, refl) in omega arith
no_end x (s ∷ items) e ip are z o b = absurd (omega arith)

-- the LUN that is yielded to is there
pub yields_small : (p : Problem) (moves : List Move) (ys : List (Option ℕ)) (j j' l : ℕ) → AreMoves p moves → AreYields p moves ys → length p.luns ≤ 8 → j ≡ j' → yield_at ys j' ≡ Some l → l < 8
yields_small p moves ys j j' l are ay few q y =
    let to = ay j' l y in
    let h = lun_there p to.move (All-has (IsMove p) moves to.move are.moves_only to.has_move) in
    let e = to.of_lun in
    omega arith
