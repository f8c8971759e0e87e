-- Pieces of a log, and what their numbers are.
use Rattle.std.specs.Prelude.{◌≡◌, ℕ, ◌-◌, ◌<◌, ◌≤◌, ◌⊎◌, List, [], ◌∷◌, ◌++◌, length}
use Rattle.std.specs.List.{AllByRecursion as Each}
use Rattle.std.specs.List.Sorted.{IsPermutation}
use Rattle.onfi_timing.specs.declared.timing.Timing.{Timing}
use Rattle.onfi_request.specs.declared.want.Want.{Want}
use Rattle.onfi_group.specs.declared.rules.Rules.{Rules}
use Rattle.onfi_group.specs.Words.{Pairs}
use Rattle.onfi_problem.specs.Kept.{problem_of}
use Rattle.onfi_problem.specs.Left.{InLimits}
use Rattle.onfi_problem.specs.Problem.{Problem, HasLengths, IsProblem}
use Rattle.onfi_schedule.specs.Schedule.{Schedule, Legal, finish}
use Rattle.onfi_audit.specs.Audit.{Audit}
use Rattle.onfi_check.specs.Nodes.{HasMoreNodes}
use Rattle.onfi_known_check.specs.Laws.{NoneBefore}
use Rattle.onfi_log.specs.declared.requests.Requests.{Requests}
use Rattle.onfi_gap.specs.declared.piece.Piece.{Piece}
use Rattle.onfi_gap.specs.Cuts.{Cut, cuts_of}

-- how much later than the plan the log ended it
abbrev pub gap_of : Piece → ℕ
gap_of piece = piece.end - piece.best

-- the problem of a piece, with its requests in that order
abbrev pub problem_with : Timing → Rules → Cut → List Want → Problem
problem_with timing rules cut wants = problem_of timing rules cut.bus_free cut.luns wants

-- these are the requests of the piece, in an order of their own
abbrev pub AreOf : Cut → List Want → Type 0
AreOf cut wants = IsPermutation cut.wants wants

-- the piece that the log has there: its line, begin, end and requests, and a legal schedule of them that ends at `best`; no legal
-- schedule ends before `below`, and the two differ only where a search met the limit
pub record IsPiece (timing : Timing) (rules : Rules) (limit : ℕ) (cut : Cut) (piece : Piece) : Type 0 where
  pub line : piece.line ≡ cut.line
  pub begin : piece.begin ≡ cut.bus_free
  pub end : piece.end ≡ cut.end
  pub requests : piece.requests ≡ length cut.wants
  pub some : 1 ≤ piece.requests
  pub few : piece.requests ≤ 8
  pub wants : List Want
  pub same : AreOf cut wants
  pub is : IsProblem (problem_with timing rules cut wants)
  pub schedule : Schedule
  pub legal : Legal (problem_with timing rules cut wants) schedule
  pub best : finish (problem_with timing rules cut wants) schedule ≡ piece.best
  pub least : NoneBefore (problem_with timing rules cut wants) piece.below
  pub below : piece.below ≤ piece.best
  pub short : piece.below < piece.best → HasMoreNodes (problem_with timing rules cut wants) limit

-- a problem that may be planned
pub record IsPlannable (p : Problem) : Type 0 where
  pub some : 1 ≤ length p.wants
  pub limits : InLimits p
  pub lengths : HasLengths p

-- what the log has there can't be planned: it ends none of the requests, or times may reach 2^62 ns
pub record IsLeftOut (timing : Timing) (rules : Rules) (cut : Cut) : Type 0 where
  pub wants : List Want
  pub same : AreOf cut wants
  pub unplanned : IsPlannable (problem_with timing rules cut wants) → ⊥

-- a piece for each place where the log is cut, but for those that can't be planned
abbrev pub ArePieces : Timing → Rules → ℕ → List Cut → List Piece → Type 0
ArePieces timing rules limit [] pieces = pieces ≡ []
ArePieces timing rules limit (cut ∷ cuts) pieces =
    (IsLeftOut timing rules cut × ArePieces timing rules limit cuts pieces)
    ⊎ ((piece : Piece) × (rest : List Piece) × (pieces ≡ piece ∷ rest) × IsPiece timing rules limit cut piece × ArePieces timing rules limit cuts rest)

-- the pieces of a log of that opening
abbrev pub AreMeasured : Audit → Requests → ℕ → List ℕ → List Piece → Type 0
AreMeasured a requests limit text pieces = ArePieces a.timing a.rules limit (cuts_of a requests text) pieces

-- the piece of that cut was put after these, if it may be planned
abbrev pub Puts : Timing → Rules → ℕ → Cut → List Piece → List Piece → Type 0
Puts timing rules limit cut before after =
    (IsLeftOut timing rules cut × (after ≡ before))
    ⊎ ((piece : Piece) × (after ≡ before ++ piece ∷ []) × IsPiece timing rules limit cut piece)

-- pieces by rising line, all before that one
pub record AreBefore (next : ℕ) (pieces : List Piece) : Type 0 where
  pub rising : Pairs (λ a b. a.line < b.line) pieces
  pub lines : Each (λ p. p.line < next) pieces
