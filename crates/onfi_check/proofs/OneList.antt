-- What a tree's first token says.
use Rattle.std.proofs.Common.{◌≡◌, ℕ, ◌≤◌, List, [], ◌∷◌, ◌++◌, length, refl, sym, ap, ◌∙◌, subst, arith}
use Rattle.onfi_problem.specs.Moves.{Move, AreMoves}
use Rattle.onfi_cert.specs.declared.token.Token.{Token}
use Rattle.onfi_cert.specs.declared.token.Token.TheVariants.{Branch}
use Rattle.onfi_problem.specs.Problem.{Problem}
use Rattle.onfi_check.specs.Tree.{Forest, Closing, Closes, token_of, width, preorders, AcceptsEach, Closed, Opened, NoMore, Child, Yields, AtEnd, ByBus, ByLead, ByTrail, ByDie}
use Rattle.onfi_problem.specs.declared.moves.Move.{Move as KeptMove}
use Rattle.onfi_problem.specs.Position.{Position}
use Rattle.onfi_problem.specs.Position.{moves_of}
use Rattle.onfi_check.specs.Reading.{Begins, BeginsEach}
use Rattle.onfi_problem.proofs.OneList.{one_list}

-- a position's moves are as many as those of the program
pub map_length : (x : Position) (items : List KeptMove) → length (moves_of x.groups items) ≡ length items
map_length x [] = refl
map_length x (s ∷ items) = let e = map_length x items in omega arith

each_width : (f : Forest) (p : Problem) (e : ℕ) (ms : List Move) (whole : Forest) (all : List Move) → AcceptsEach f p e ms whole all → width f ≡ length ms
each_width NoMore p e ms whole all a = rw a refl
each_width (Child t f) p e [] whole all a = absurd a
each_width (Child t f) p e (m ∷ ms) whole all a = let h = each_width f p e ms whole all a.1 in omega arith
each_width (Yields l f) p e [] whole all a = absurd a
each_width (Yields l f) p e (m ∷ ms) whole all a = let h = each_width f p e ms whole all a.1 in omega arith

-- a tree that begins with a branch has that many children, one for each move
pub branch_each : (p : Problem) (e w : ℕ) (moves : List Move) (ts rest : List Token) → AreMoves p moves → Begins p e (Branch w ∷ ts) rest → (w ≡ length moves) × (1 ≤ length moves) × BeginsEach p e moves ts rest
branch_each p e w moves ts rest are (Closed AtEnd, t, a) = cc
branch_each p e w moves ts rest are (Closed ByBus, t, a) = cc
branch_each p e w moves ts rest are (Closed ByLead, t, a) = cc
branch_each p e w moves ts rest are (Closed ByTrail, t, a) = cc
branch_each p e w moves ts rest are (Closed (ByDie l), t, a) = cc
branch_each p e w moves ts rest are (Opened f, t, (moves', are', some, each)) =
    let q = one_list p moves' moves are' are in
    let k : w ≡ width f = cc in
    let t' : ts ≡ preorders f ++ rest = cc in
    let wide = each_width f p e moves' f moves' each in (
      k ∙ (wide ∙ ap length q),
      subst (λ z. 1 ≤ length z) q some,
      (f, t', subst (λ z. AcceptsEach f p e z f z) q each),
    )

pub each_branch : (p : Problem) (e w : ℕ) (moves : List Move) (ts rest : List Token) → AreMoves p moves → 1 ≤ length moves → w ≡ length moves → BeginsEach p e moves ts rest → Begins p e (Branch w ∷ ts) rest
each_branch p e w moves ts rest are some q (f, t, each) =
    let wide = each_width f p e moves f moves each in
    (Opened f, ap (λ z. Branch w ∷ z) t ∙ ap (λ z. Branch z ∷ (preorders f ++ rest)) (q ∙ sym wide), (moves, are, some, each))

pub closed_begins : (p : Problem) (e : ℕ) (t : Token) (ts : List Token) → ((c : Closing) × (token_of c ≡ t) × Closes p e c) → Begins p e (t ∷ ts) ts
closed_begins p e t ts (c, k, a) = (Closed c, ap (λ z. z ∷ ts) (sym k), a)

pub not_closed : (p : Problem) (e : ℕ) (t : Token) (ts rest : List Token) → ((w : ℕ) → t ≡ Branch w → ⊥) → ((c : Closing) × (token_of c ≡ t) × Closes p e c → ⊥) → Begins p e (t ∷ ts) rest → ⊥
not_closed p e t ts rest nb nc (Closed c, q, a) = let k : token_of c ≡ t = cc in nc (c, k, a)
not_closed p e t ts rest nb nc (Opened f, q, a) = let k : t ≡ Branch (width f) = cc in nb (width f) k

pub nothing_begins : (p : Problem) (e : ℕ) (rest : List Token) → Begins p e [] rest → ⊥
nothing_begins p e rest (Closed c, q, a) = cc
nothing_begins p e rest (Opened f, q, a) = cc
