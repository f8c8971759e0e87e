-- Certificates that remember states: which tokens are accepted, and what each node asks for and leaves to be remembered.
use Rattle.std.specs.Prelude.{◌<◌, ◌^◌, ◌≡◌, ◌≢◌, ℕ, ◌+◌, ◌-◌, ◌≤◌, ◌==◌, max, if◌then◌else◌, List, [], ◌∷◌, ◌++◌, length, map, Option, Some, None, slice_get, slice_index, slice_index_or}
use Rattle.std.specs.List.{AllByRecursion as Each}
use Rattle.onfi_request.specs.declared.want.Want.{Want}
use Rattle.onfi_problem.specs.Problem.{Problem}
use Rattle.onfi_problem.specs.Moves.{Move, AreMoves, move_lun, may_go, after}
use Rattle.onfi_problem.specs.Position.{waiting_of}
use Rattle.onfi_check.specs.Ends.{IsLastEnd}
use Rattle.onfi_demand.specs.Asked.{AreRaised}
use Rattle.onfi_demand.specs.Left.{left_on}
use Rattle.onfi_demand.specs.Work.{left_of}
use Rattle.onfi_demand.specs.Demand.{Demand, Meets, of_luns}
use Rattle.onfi_demand.specs.Kept.{IsKept}
use Rattle.onfi_demand.specs.declared.demand.Demand.{Demand as Kept}
use Rattle.onfi_known_check.specs.declared.given.Given.{Given}
use Rattle.onfi_known_check.specs.declared.known.Known.{Known}
use Rattle.onfi_known_check.specs.declared.standing.Standing.{Standing}
use Rattle.onfi_known_check.specs.declared.token.Token.{Token}
use Rattle.onfi_known_check.specs.declared.token.TheConstants.{MOST_KNOWN}
use Rattle.onfi_known_check.specs.declared.token.Token.TheVariants.{Branch, Yield, Again}
use Rattle.onfi_known_check.specs.Closing.{Closes, closing_demand}

-- what is known is of a node with the same left, where a walk began with all these wants
pub record Describes (all : List Want) (known : Known) (p : Problem) : Type 0 where
  pub wants : waiting_of known.waiting all ≡ p.wants
  pub luns : map left_of known.luns.items ≡ map left_on p.luns

abbrev pub times_of : Known → Demand
times_of known = of_luns (λ lun. slice_index known.times lun)

-- a node that was read closes the problem: the same is left, and it goes on no sooner
abbrev pub IsAgain : List Want → Problem → List Known → ℕ → Kept → Type 0
IsAgain all p known number d = (k : Known) × (slice_get known number ≡ Some k) × Describes all k p × Meets p (times_of k) × IsKept d (times_of k)

-- the move may yield to the LUN, where these children yield already: all moves of the LUN end before the move may start,
-- neither LUN yields round, and no move of the LUN yields
pub record MayYield (p : Problem) (moves : List Move) (given : List Given) (m : Move) (y : Given) : Type 0 where
  pub own : y.own ≡ move_lun m
  pub other : y.lun ≢ y.own
  pub end : ℕ
  pub last : IsLastEnd p moves y.lun (Some end)
  pub fits : end ≤ may_go p y.own
  pub longest : y.longest ≡ end - may_go p y.lun
  pub unasked : Each (λ g. g.lun ≢ y.own) given
  pub stays : Each (λ g. g.own ≢ y.lun) given

-- what is asked of a LUN, where those that yield wait for all first phases of the LUN that they yield to
abbrev pub with_yields : List ℕ → List Given → ℕ → ℕ
with_yields asked [] lun = slice_index asked lun
with_yields asked (y ∷ given) lun = if lun == y.own then max (slice_index asked y.lun + y.longest) (with_yields asked given lun) else with_yields asked given lun

-- .. and that is a number of 64 bits
abbrev pub FitTimes : List ℕ → List Given → Type 0
FitTimes asked given = (lun : ℕ) → lun < 8 → with_yields asked given lun < 2 ^ 64

mutual
  -- tokens begin with the accepted tree of a node: what was known before it, what it asks for, what is known after it,
  -- and the tokens left
  pub data Proves (e : ℕ) (all : List Want) : Problem → List Known → List Token → Kept → List Known → List Token → Type 0 where
    -- a bound closes it
    closed : (p : Problem) (known : List Known) (token : Token) (d : Kept) (rest : List Token)
        → Closes p e token → IsKept d (closing_demand p e token) → Proves e all p known (token ∷ rest) d known rest
    -- a node that was read closes it
    again : (p : Problem) (known : List Known) (number : ℕ) (d : Kept) (rest : List Token)
        → IsAgain all p known number d → Proves e all p known (Again number ∷ rest) d known rest
    -- it has a child for each move, and is remembered with what it asks for
    opened : (p : Problem) (known : List Known) (width : ℕ) (tokens : List Token) (moves : List Move) (asks : List ℕ)
        (given : List Given) (k : Known) (d : Kept) (behind : List Known) (rest : List Token)
        → AreMoves p moves → 1 ≤ length moves → width ≡ length moves
        → Children e all p moves moves known tokens asks given behind rest
        → FitTimes asks given → Describes all k p → IsKept d (of_luns (with_yields asks given)) → IsKept d (times_of k)
        → Proves e all p known (Branch width ∷ tokens) d (behind ++ k ∷ []) rest

  -- .. with accepted children of the first of a node's moves: what they ask for, and which yield
  pub data Children (e : ℕ) (all : List Want) : Problem → List Move → List Move → List Known → List Token → List ℕ → List Given → List Known → List Token → Type 0 where
    -- of none, nothing is asked
    none : (p : Problem) (moves : List Move) (known : List Known) (tokens : List Token) (asks : List ℕ)
        → ((lun : ℕ) → slice_index asks lun ≡ 0) → Children e all p moves [] known tokens asks [] known tokens
    -- of one move more, after which a tree raises what is asked
    tree : (p : Problem) (moves firsts more : List Move) (m : Move) (known : List Known) (tokens : List Token)
        (asks raised : List ℕ) (given : List Given) (middle : List Known) (left : List Token) (d : Kept)
        (behind : List Known) (rest : List Token)
        → more ≡ firsts ++ m ∷ [] → Children e all p moves firsts known tokens asks given middle left
        → Proves e all (after p m) middle left d behind rest → AreRaised p m d asks raised
        → Children e all p moves more known tokens raised given behind rest
    -- .. or which yields
    yielded : (p : Problem) (moves firsts more : List Move) (m : Move) (known : List Known) (tokens : List Token)
        (asks : List ℕ) (given : List Given) (y : Given) (behind : List Known) (rest : List Token)
        → more ≡ firsts ++ m ∷ [] → Children e all p moves firsts known tokens asks given behind (Yield y.lun ∷ rest)
        → MayYield p moves given m y → Children e all p moves more known tokens asks (given ++ y ∷ []) behind rest

-- the tokens are those of one accepted tree, with nothing after them and nothing known before, and no more nodes are remembered than may be
abbrev pub ProvesTokens : List Want → List Token → Problem → ℕ → Type 0
ProvesTokens all tokens p e = (d : Kept) × (behind : List Known) × Proves e all p [] tokens d behind [] × (length behind ≤ MOST_KNOWN)

-- the node is remembered with these times, which it asks for
pub record Remembers (all : List Want) (p : Problem) (times : List ℕ) (before behind : List Known) (d : Kept) : Type 0 where
  pub node : Known
  pub describes : Describes all node p
  pub times_are : node.times ≡ times
  pub grown : behind ≡ before ++ node ∷ []
  pub bus : d.bus ≡ 0
  pub luns : d.luns ≡ times

-- a move of LUN `own` yields to LUN `lun`, where the moves of each LUN end by `ends`
pub record Yielded (p : Problem) (ends : List (Option ℕ)) (before : List Given) (own lun : ℕ) (behind : List Given) : Type 0 where
  pub given : Given
  pub own_is : given.own ≡ own
  pub lun_is : given.lun ≡ lun
  pub other : lun ≢ own
  pub end : ℕ
  pub last : slice_index_or ends lun None ≡ Some end
  pub fits : end ≤ may_go p own
  pub longest : given.longest ≡ end - may_go p lun
  pub unasked : Each (λ g. g.lun ≢ own) before
  pub stays : Each (λ g. g.own ≢ lun) before
  pub grown : behind ≡ before ++ given ∷ []

-- the tree after a move was read, and what is asked was raised by what it asks
abbrev pub Below : ℕ → List Want → Problem → Move → List Known → List Token → List ℕ → List ℕ → List Known → List Token → Type 0
Below e all p m known tokens asks raised behind rest = (d : Kept) × Proves e all (after p m) known tokens d behind rest × AreRaised p m d asks raised

-- one child more was read
abbrev pub Grows : ℕ → List Want → Problem → List Move → Move → Standing → List Known → List Token → Standing → List Known → List Token → Type 0
Grows e all p moves m before middle left behind known rest = (firsts : List Move) (first : List Known) (tokens : List Token) → Children e all p moves firsts first tokens before.asked before.given.items middle left → Children e all p moves (firsts ++ m ∷ []) first tokens behind.asked behind.given.items known rest
