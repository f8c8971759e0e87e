-- Why a problem is none that is taken.
use Rattle.std.specs.Prelude.{◌^◌, ◌≤◌, Option, Some, None}
use Rattle.onfi_problem.specs.declared.fault.ProblemFault.{ProblemFault}
use Rattle.onfi_problem.specs.declared.fault.ProblemFault.TheVariants.{TooMany, BadLun, NoLengths, Clock, Memory}
use Rattle.onfi_problem.specs.Left.{InLimits, horizon}
use Rattle.onfi_problem.specs.Problem.{Problem, HasLengths, IsProblem, IsSmall}

-- the first of these, or none where it is in its limits and all lengths are stated
abbrev pub TellsFault : Problem → Option ProblemFault → Type 0
TellsFault p None = InLimits p × HasLengths p
TellsFault p (Some TooMany) = IsSmall p → ⊥
TellsFault p (Some BadLun) = IsSmall p × (IsProblem p → ⊥)
TellsFault p (Some NoLengths) = IsSmall p × IsProblem p × (HasLengths p → ⊥)
TellsFault p (Some Clock) = IsSmall p × IsProblem p × HasLengths p × (2 ^ 62 ≤ horizon p)
TellsFault p (Some Memory) = ⊥
