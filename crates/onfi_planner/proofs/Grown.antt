-- The children that a walk over the moves of a node has made so far.
use Rattle.std.proofs.Common.{◌≡◌, ℕ, ◌+◌, ◌≤◌, List, [], ◌∷◌, ◌++◌, length, Option, Some, None, refl, sym, ap, ◌∙◌, subst, arith, append_assoc}
use Rattle.onfi_problem.specs.Moves.{Move, move_lun, after, AreMoves}
use Rattle.onfi_cert.specs.declared.token.Token.TheVariants.{Yield}
use Rattle.onfi_problem.specs.Problem.{Problem}
use Rattle.onfi_check.specs.Tree.{Tree, Forest, Closing, AtEnd, ByBus, ByLead, ByTrail, ByDie, Closes, width, preorder, preorders, NoneYields, Accepts, AcceptsEach, Closed, Opened, NoMore, Child, Yields}
use Rattle.onfi_planner.specs.Opening.{yield_at, AreYields}
use Rattle.onfi_check.specs.Nodes.{nodes, nodes_below}

-- the children of these moves: trees that are accepted, and yields as chosen
abbrev pub Grown : Problem → List (Option ℕ) → ℕ → List Move → Forest → Type 0
Grown p ys e [] NoMore = Unit {0}
Grown p ys e [] (Child t f) = ⊥
Grown p ys e [] (Yields l f) = ⊥
Grown p ys e (m ∷ moves) NoMore = ⊥
Grown p ys e (m ∷ moves) (Child t f) = Accepts t (after p m) e × Grown p ys e moves f
Grown p ys e (m ∷ moves) (Yields l f) = (yield_at ys (move_lun m) ≡ Some l) × Grown p ys e moves f

abbrev pub joined : Forest → Forest → Forest
joined NoMore g = g
joined (Child t f) g = Child t (joined f g)
joined (Yields l f) g = Yields l (joined f g)

pub preorders_joined : (f g : Forest) → preorders (joined f g) ≡ preorders f ++ preorders g
preorders_joined NoMore g = refl
preorders_joined (Child t f) g = ap (λ z. preorder t ++ z) (preorders_joined f g) ∙ sym (append_assoc (preorder t) (preorders f) (preorders g))
preorders_joined (Yields l f) g = ap (λ z. Yield l ∷ z) (preorders_joined f g)

pub grown_joined : (p : Problem) (ys : List (Option ℕ)) (e : ℕ) (ms ns : List Move) (f g : Forest) → Grown p ys e ms f → Grown p ys e ns g → Grown p ys e (ms ++ ns) (joined f g)
grown_joined p ys e [] ns NoMore g a b = b
grown_joined p ys e [] ns (Child t f) g a b = absurd a
grown_joined p ys e [] ns (Yields l f) g a b = absurd a
grown_joined p ys e (m ∷ ms) ns NoMore g a b = absurd a
grown_joined p ys e (m ∷ ms) ns (Child t f) g a b = (a.0, grown_joined p ys e ms ns f g a.1 b)
grown_joined p ys e (m ∷ ms) ns (Yields l f) g a b = (a.0, grown_joined p ys e ms ns f g a.1 b)

pub grown_width : (p : Problem) (ys : List (Option ℕ)) (e : ℕ) (ms : List Move) (f : Forest) → Grown p ys e ms f → width f ≡ length ms
grown_width p ys e [] NoMore a = refl
grown_width p ys e [] (Child t f) a = absurd a
grown_width p ys e [] (Yields l f) a = absurd a
grown_width p ys e (m ∷ ms) NoMore a = absurd a
grown_width p ys e (m ∷ ms) (Child t f) a = let h = grown_width p ys e ms f a.1 in omega arith
grown_width p ys e (m ∷ ms) (Yields l f) a = let h = grown_width p ys e ms f a.1 in omega arith

none_yields : (p : Problem) (ys : List (Option ℕ)) (e l : ℕ) (ms : List Move) (f : Forest) → yield_at ys l ≡ None → Grown p ys e ms f → NoneYields l ms f
none_yields p ys e l [] NoMore n a = tt
none_yields p ys e l [] (Child t f) n a = absurd a
none_yields p ys e l [] (Yields k f) n a = absurd a
none_yields p ys e l (m ∷ ms) NoMore n a = absurd a
none_yields p ys e l (m ∷ ms) (Child t f) n a = none_yields p ys e l ms f n a.1
none_yields p ys e l (m ∷ ms) (Yields k f) n a = ((λ q. let s : yield_at ys l ≡ Some k = subst (λ z. yield_at ys z ≡ Some k) q a.0 in cc), none_yields p ys e l ms f n a.1)

each : (p : Problem) (ys : List (Option ℕ)) (e : ℕ) (ms : List Move) (f : Forest) (all : List Move) (whole : Forest) → AreYields p all ys → Grown p ys e all whole → Grown p ys e ms f → AcceptsEach f p e ms whole all
each p ys e [] NoMore all whole ay w a = refl
each p ys e [] (Child t f) all whole ay w a = absurd a
each p ys e [] (Yields l f) all whole ay w a = absurd a
each p ys e (m ∷ ms) NoMore all whole ay w a = absurd a
each p ys e (m ∷ ms) (Child t f) all whole ay w a = (a.0, each p ys e ms f all whole ay w a.1)
each p ys e (m ∷ ms) (Yields l f) all whole ay w a =
    let to = ay (move_lun m) l a.0 in
    (record { other = to.other; move = to.move; has_move = to.has_move; of_lun = to.of_lun; fits = to.fits; none_back = none_yields p ys e l all whole to.stays w }, each p ys e ms f all whole ay w a.1)

pub grown_accepts : (p : Problem) (ys : List (Option ℕ)) (e : ℕ) (moves : List Move) (f : Forest) → AreMoves p moves → 1 ≤ length moves → AreYields p moves ys → Grown p ys e moves f → Accepts (Opened f) p e
grown_accepts p ys e moves f are some ay a = (moves, are, some, each p ys e moves f moves f ay a a)

closes_sooner : (p : Problem) (e e' : ℕ) (c : Closing) → e' ≤ e → Closes p e c → Closes p e' c
closes_sooner p e e' AtEnd le h = let k = h.1 in (h.0, omega arith)
closes_sooner p e e' ByBus le h = omega arith
closes_sooner p e e' ByLead le h = omega arith
closes_sooner p e e' ByTrail le h = let k = h.2 in (h.0, h.1, omega arith)
closes_sooner p e e' (ByDie l) le h = let k = h.1 in (h.0, omega arith)

mutual
  -- what is accepted for e is accepted for what is sooner
  pub accepts_sooner : (t : Tree) (p : Problem) (e e' : ℕ) → e' ≤ e → Accepts t p e → Accepts t p e'
  accepts_sooner (Closed c) p e e' le a = closes_sooner p e e' c le a
  accepts_sooner (Opened f) p e e' le (moves, are, some, each) = (moves, are, some, each_sooner f p e e' moves f moves le each)

  each_sooner : (f : Forest) (p : Problem) (e e' : ℕ) (moves : List Move) (all : Forest) (all_moves : List Move) → e' ≤ e → AcceptsEach f p e moves all all_moves → AcceptsEach f p e' moves all all_moves
  each_sooner NoMore p e e' moves all all_moves le a = a
  each_sooner (Child t f) p e e' [] all all_moves le a = absurd a
  each_sooner (Child t f) p e e' (m ∷ moves) all all_moves le a = (accepts_sooner t (after p m) e e' le a.0, each_sooner f p e e' moves all all_moves le a.1)
  each_sooner (Yields l f) p e e' [] all all_moves le a = absurd a
  each_sooner (Yields l f) p e e' (m ∷ moves) all all_moves le a = (a.0, each_sooner f p e e' moves all all_moves le a.1)

pub grown_sooner : (p : Problem) (ys : List (Option ℕ)) (e e' : ℕ) (ms : List Move) (f : Forest) → e' ≤ e → Grown p ys e ms f → Grown p ys e' ms f
grown_sooner p ys e e' [] NoMore le a = tt
grown_sooner p ys e e' [] (Child t f) le a = absurd a
grown_sooner p ys e e' [] (Yields l f) le a = absurd a
grown_sooner p ys e e' (m ∷ ms) NoMore le a = absurd a
grown_sooner p ys e e' (m ∷ ms) (Child t f) le a = (accepts_sooner t (after p m) e e' le a.0, grown_sooner p ys e e' ms f le a.1)
grown_sooner p ys e e' (m ∷ ms) (Yields l f) le a = (a.0, grown_sooner p ys e e' ms f le a.1)

pub nodes_joined : (f g : Forest) → nodes_below (joined f g) ≡ nodes_below f + nodes_below g
nodes_joined NoMore g = omega arith
nodes_joined (Child t f) g = let h = nodes_joined f g in omega arith
nodes_joined (Yields l f) g = let h = nodes_joined f g in omega arith

pub some_nodes : (t : Tree) → 1 ≤ nodes t
some_nodes (Closed c) = omega arith
some_nodes (Opened f) = omega arith
