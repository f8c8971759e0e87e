-- The parts of a problem's tree, and the branches of its certificate.
use Rattle.std.specs.Prelude.{◌≡◌, ℕ, ◌+◌, ◌≤◌, ◌<◌, if◌then◌else◌, List, [], ◌∷◌, Option, Some, None}
use Rattle.std.specs.Option.{is_some}
use Rattle.onfi_cert.specs.declared.token.Token.{Token}
use Rattle.onfi_cert.specs.declared.token.Token.TheVariants.{Yield}
use Rattle.onfi_problem.specs.declared.moves.Move.{Move as KeptMove}
use Rattle.onfi_problem.specs.Position.{Position, moved, lun_named}
use Rattle.onfi_schedule.specs.Runs.{Run}
use Rattle.onfi_planner.specs.declared.parts.Part.{Part}
use Rattle.onfi_planner.specs.Opening.{yield_at}
use Rattle.onfi_planner.specs.Planning.{Bounded, HasOpened, Written, run_of}

-- the moves that yield to no LUN, in their order
abbrev pub parts_of : List (Option ℕ) → List KeptMove → List KeptMove
parts_of yields [] = []
parts_of yields (s ∷ steps) = if is_some (yield_at yields (lun_named s)) then parts_of yields steps else s ∷ parts_of yields steps

-- what a search below the step s found that began with the finish `first`, within a limit of nodes
pub record IsPart (x : Position) (first limit : ℕ) (s : KeptMove) (part : Part) : Type 0 where
  pub sooner : part.best.finish ≤ first
  pub least : Bounded (moved x s).problem part.best.finish
  pub run : part.best.finish < first → Run x.problem (run_of x.groups part.best.steps.items) part.best.finish
  pub opened : HasOpened (moved x s).problem first part.best.finish 0 part.opened
  pub within : part.opened ≤ limit

-- what the searches below these steps found
abbrev pub AreFound : Position → ℕ → ℕ → List KeptMove → List Part → Type 0
AreFound x first limit [] [] = Unit {0}
AreFound x first limit [] (part ∷ found) = ⊥
AreFound x first limit (s ∷ steps) [] = ⊥
AreFound x first limit (s ∷ steps) (part ∷ found) = IsPart x first limit s part × AreFound x first limit steps found

-- how many nodes they opened together
abbrev pub opened_by : List Part → ℕ
opened_by [] = 0
opened_by (part ∷ found) = part.opened + opened_by found

-- the tokens of the child after the step s: the LUN that it yields to, or a tree that is accepted for e
abbrev pub IsBranch : Position → ℕ → KeptMove → Option ℕ → List Token → Type 0
IsBranch x e s None tokens = Written (moved x s).problem e [] tokens
IsBranch x e s (Some lun) tokens = tokens ≡ Yield lun ∷ []

-- the tokens of the children after these steps
abbrev pub AreBranches : Position → ℕ → List (Option ℕ) → List KeptMove → List (List Token) → Type 0
AreBranches x e yields [] [] = Unit {0}
AreBranches x e yields [] (tokens ∷ branches) = ⊥
AreBranches x e yields (s ∷ steps) [] = ⊥
AreBranches x e yields (s ∷ steps) (tokens ∷ branches) = IsBranch x e s (yield_at yields (lun_named s)) tokens × AreBranches x e yields steps branches
