-- Paths to nodes, gathered child by child.
use Rattle.std.proofs.Common.{◌≡◌, ◌≢◌, ℕ, ◌+◌, inl, List, [], ◌∷◌, ◌++◌, length, map, refl, subst, arith, length-append}
use Rattle.std.specs.List.{AllByRecursion as All}
use Rattle.onfi_problem.specs.Moves.{Move, IsMove, after}
use Rattle.onfi_group.specs.Words.{Has, Pairs}
use Rattle.onfi_problem.specs.Problem.{Problem}
use Rattle.std.proofs.lemmas.List.{length-map}
use Rattle.onfi_group.proofs.Lists.{All-has, Pairs-append}
use Rattle.onfi_problem.proofs.Perm.{All-append, All-weaker, Has-append_left, Has-append_right}
use Rattle.onfi_check.specs.Nodes.{IsOpen, IsNode, HasNodes}

-- a path that begins with one of these moves
abbrev pub Below : ℕ → Problem → List Move → List Move → Type 0
Below f p moves [] = ⊥
Below f p moves (m ∷ path) = Has moves m × IsNode f p (m ∷ path)

-- n nodes stand below these moves
abbrev pub Among : ℕ → Problem → List Move → ℕ → Type 0
Among f p moves n = (paths : List (List Move)) × (length paths ≡ n) × All (Below f p moves) paths × Pairs (λ a b. a ≢ b) paths

pub node_one : (f : ℕ) (p : Problem) → HasNodes f p 1
node_one f p = ([] ∷ [], refl, (tt, tt), (tt, tt))

pub nodes_none : (f : ℕ) (p : Problem) → HasNodes f p 0
nodes_none f p = ([], refl, tt, tt)

pub among_none : (f : ℕ) (p : Problem) → Among f p [] 0
among_none f p = ([], refl, tt, tt)

below_more : (f : ℕ) (p : Problem) (moves more path : List Move) → Below f p moves path → Below f p (moves ++ more) path
below_more f p moves more [] h = h
below_more f p moves more (m ∷ path) h = (Has-append_left moves more m h.0, h.1)

pub among_skip : (f : ℕ) (p : Problem) (moves more : List Move) (n : ℕ) → Among f p moves n → Among f p (moves ++ more) n
among_skip f p moves more n (paths, e, all, apart) = (paths, e, All-weaker _ _ (below_more f p moves more) paths all, apart)

-- all paths with the move in front
with_move : (f : ℕ) (p : Problem) (moves : List Move) (m : Move) (paths : List (List Move)) → IsOpen f p → IsMove p m → Has moves m → All (IsNode f (after p m)) paths → All (Below f p moves) (map (λ path. m ∷ path) paths)
with_move f p moves m [] o im h a = tt
with_move f p moves m (path ∷ paths) o im h a = ((h, (o, im, a.0)), with_move f p moves m paths o im h a.1)

apart_one : (m : Move) (path : List Move) (paths : List (List Move)) → All (λ b. path ≢ b) paths → All (λ b. (m ∷ path) ≢ b) (map (λ path. m ∷ path) paths)
apart_one m path [] a = tt
apart_one m path (q ∷ paths) a = ((λ e. let e' : path ≡ q = cc in a.0 e'), apart_one m path paths a.1)

apart_with : (m : Move) (paths : List (List Move)) → Pairs (λ a b. a ≢ b) paths → Pairs (λ a b. a ≢ b) (map (λ path. m ∷ path) paths)
apart_with m [] a = tt
apart_with m (path ∷ paths) a = (apart_one m path paths a.0, apart_with m paths a.1)

other_first : (f : ℕ) (p : Problem) (moves : List Move) (m : Move) (path : List Move) (paths : List (List Move)) → (Has moves m → ⊥) → Below f p moves path → All (λ b. path ≢ b) (map (λ q. m ∷ q) paths)
other_first f p moves m [] paths h b = absurd b
other_first f p moves m (n ∷ path) [] h b = tt
other_first f p moves m (n ∷ path) (q ∷ paths) h b = ((λ e. let e' : n ≡ m = cc in h (subst (Has moves) e' b.0)), other_first f p moves m (n ∷ path) paths h b)

pub among_more : (f : ℕ) (p : Problem) (moves : List Move) (m : Move) (n k : ℕ) → Among f p moves n → IsOpen f p → IsMove p m → (Has moves m → ⊥) → HasNodes f (after p m) k → Among f p (moves ++ m ∷ []) (n + k)
among_more f p moves m n k (paths, e, all, apart) o im h (paths', e', all', apart') =
    let news = map (λ path. m ∷ path) paths' in
    let l = length-append paths news in
    let l' = length-map paths' (λ (path : List Move). m ∷ path) in (
      paths ++ news,
      omega arith,
      All-append _ paths news (All-weaker _ _ (below_more f p moves (m ∷ [])) paths all) (with_move f p (moves ++ m ∷ []) m paths' o im (Has-append_right moves (m ∷ []) m (inl refl)) all'),
      Pairs-append _ paths news apart (apart_with m paths' apart') (λ path q has there. All-has (λ b. path ≢ b) news q (other_first f p moves m path paths' h (All-has (Below f p moves) paths path all has)) there),
    )

below_node : (f : ℕ) (p : Problem) (moves path : List Move) → Below f p moves path → IsNode f p path
below_node f p moves [] h = absurd h
below_node f p moves (m ∷ path) h = h.1

below_some : (f : ℕ) (p : Problem) (moves path : List Move) → Below f p moves path → [] ≢ path
below_some f p moves [] h e = absurd h
below_some f p moves (m ∷ path) h e = cc

-- the node itself, and those below it
pub among_all : (f : ℕ) (p : Problem) (moves : List Move) (n : ℕ) → Among f p moves n → HasNodes f p (1 + n)
among_all f p moves n (paths, e, all, apart) =
    ([] ∷ paths, (omega arith), (tt, All-weaker _ _ (below_node f p moves) paths all), (All-weaker _ _ (below_some f p moves) paths all, apart))
