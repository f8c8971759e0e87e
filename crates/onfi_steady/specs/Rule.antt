-- The rule: a batch by the way of a dispatcher, phase after phase.
use Rattle.std.specs.Prelude.{◌≡◌, ℕ, List, [], ◌∷◌, map, None}
use Rattle.onfi_request.specs.declared.want.Want.{Want}
use Rattle.onfi_problem.specs.Problem.{Problem}
use Rattle.onfi_problem.specs.Moves.{IsDone, after}
use Rattle.onfi_schedule.specs.Schedule.{Schedule}
use Rattle.onfi_schedule.specs.Runs.{Step, schedule_of}
use Rattle.onfi_steady.specs.declared.dispatcher.Dispatcher.{Dispatcher}
use Rattle.onfi_steady.specs.declared.next.NextPhase.{NextPhase}
use Rattle.onfi_steady.specs.declared.waiter.Waiter.{Waiter}
use Rattle.onfi_steady.specs.Waiting.{Books, channel}
use Rattle.onfi_steady.specs.Next.{IsNextPhase, move_of_phase}
use Rattle.onfi_steady.specs.Dispatcher.{IsOf, begun_books, states_of}

abbrev pub unpassed : Want → Waiter
unpassed w = record { want = w; passed = 0 }

-- all that is to do waits, passed over by none; no program is the newest, so none waits for its mates
abbrev pub batch_of : Problem → Books
batch_of p = record { rules = p.rules; waiting = map unpassed p.wants; newest = None }

-- the steps of the phases that are next, each as soon as it may start, and when the last one ends
abbrev pub IsWayRun : Books → Problem → List Step → ℕ → Type 0
IsWayRun books p [] finish = IsDone p × (p.bus_free ≡ finish)
IsWayRun books p (s ∷ steps) finish =
    (phase : NextPhase) × IsNextPhase books p phase × (s.move ≡ move_of_phase phase) × (s.start ≡ phase.start)
    × IsWayRun (begun_books books phase.lun phase.members.items) (after p s.move) steps finish

-- the steps that the rule takes
abbrev pub IsRuleRun : Problem → List Step → ℕ → Type 0
IsRuleRun p steps finish = IsWayRun (batch_of p) p steps finish

-- the schedule that the rule makes, and when it ends
pub record IsByRule (p : Problem) (s : Schedule) (finish : ℕ) : Type 0 where
  pub steps : List Step
  pub run : IsRuleRun p steps finish
  pub schedule : s ≡ schedule_of p steps

-- a dispatcher with these books is of the channel that the problem is
pub record IsFor (p : Problem) (books : Books) (d : Dispatcher) : Type 0 where
  pub is : IsOf p.timing books d
  pub same : channel p.timing d.bus_free (states_of d) books ≡ p

abbrev pub HasBooks : Problem → Dispatcher → Type 0
HasBooks p d = (books : Books) × IsFor p books d
