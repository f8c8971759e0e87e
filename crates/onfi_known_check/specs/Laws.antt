-- What certificates that remember states show.
use Rattle.std.specs.Prelude.{ℕ, ◌≤◌, List}
use Rattle.onfi_request.specs.declared.want.Want.{Want}
use Rattle.onfi_problem.specs.Problem.{Problem, IsProblem, IsSmall}
use Rattle.onfi_schedule.specs.Schedule.{Schedule, Legal, Optimal, finish}
use Rattle.onfi_known_check.specs.declared.token.Token.{Token}
use Rattle.onfi_known_check.specs.Proves.{ProvesTokens}

-- a legal schedule is optimal where tokens are accepted for its finish
abbrev pub ProvedLaw : Type 0
ProvedLaw = (all : List Want) (p : Problem) (s : Schedule) (tokens : List Token) → IsProblem p → IsSmall p → Legal p s → ProvesTokens all tokens p (finish p s) → Optimal p s

-- no legal schedule ends before e
abbrev pub NoneBefore : Problem → ℕ → Type 0
NoneBefore p e = (s : Schedule) → Legal p s → e ≤ finish p s

-- .. where tokens are accepted for e, which need be no finish
abbrev pub BelowLaw : Type 0
BelowLaw = (all : List Want) (p : Problem) (tokens : List Token) (e : ℕ) → IsProblem p → IsSmall p → ProvesTokens all tokens p e → NoneBefore p e
