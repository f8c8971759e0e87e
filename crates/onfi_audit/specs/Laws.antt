-- Laws of logs that are judged.
use Rattle.std.specs.Prelude.{◌≡◌, ◌≤◌, List, [], ◌∷◌, ◌++◌}
use Rattle.onfi_problem.specs.Moves.{IsDone}
use Rattle.onfi_problem.specs.Problem.{Problem, HasLengths, IsProblem}
use Rattle.onfi_schedule.specs.Schedule.{Schedule, Legal, finish}
use Rattle.onfi_audit.specs.declared.line.Line.{Line}
use Rattle.onfi_audit.specs.Audit.{Audit, MayCome, after_line, opening}
use Rattle.onfi_audit.specs.Legal.{Audited, Entry, Leads, closed, lines_of, wants_of, with_wants}

-- nothing that was accepted is illegal: it leads from the opening, with all requests, to what the audit has left
abbrev pub SoundLaw : Type 0
SoundLaw = (p : Problem) (entries : List Entry) (a : Audit) → IsProblem p → Audited (opening p) entries a → Leads (with_wants p (wants_of entries)) (lines_of entries) (closed a)

-- nothing legal is refused: where the log is legal with a line more, that line may come
abbrev pub CompleteLaw : Type 0
CompleteLaw = (p q : Problem) (entries : List Entry) (a : Audit) (line : Line) → IsProblem p → Audited (opening p) entries a
    → Leads (with_wants p (wants_of entries)) (lines_of entries ++ line ∷ []) q → MayCome a line

-- the bus never goes back: once a line's phase ran it is free no sooner than before, however soon that phase came
abbrev pub BusLaw : Type 0
BusLaw = (a : Audit) (line : Line) → a.bus_free ≤ (after_line a line).bus_free

-- a log after which nothing is left is that of a legal schedule, which ends when the bus is free
abbrev pub WholeLaw : Type 0
WholeLaw = (p q : Problem) (lines : List Line) → IsProblem p → Leads p lines q → IsDone q → (s : Schedule) × Legal p s × (finish p s ≡ q.bus_free)

-- what it began with and accepted is a problem, with lengths stated where those of what it began with are
abbrev pub OpenLaw : Type 0
OpenLaw = (p : Problem) (entries : List Entry) (a : Audit) → IsProblem p → Audited (opening p) entries a
    → IsProblem (with_wants p (wants_of entries)) × (HasLengths p → HasLengths (with_wants p (wants_of entries)))
