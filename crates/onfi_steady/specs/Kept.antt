-- What is kept beside the requests that wait, and what a walk over LUNs has found.
use Rattle.std.specs.Prelude.{◌≡◌, ◌≢◌, ◌⊎◌, ℕ, ◌+◌, ◌<◌, ◌≤◌, max, min, nat_lt, if◌then◌else◌, Bool, false, List, [], ◌∷◌, ◌++◌, length, Option, Some, None, IfSome, remove, slice_get, slice_set}
use Rattle.std.specs.List.{AllByRecursion as Each, list_any}
use Rattle.onfi_timing.specs.declared.kind.Kind.TheVariants.{Read}
use Rattle.onfi_timing.specs.declared.timing.Timing.{Timing}
use Rattle.onfi_group.specs.declared.rules.Rules.{Rules}
use Rattle.onfi_group.specs.Group.{lun_of, on_block}
use Rattle.onfi_request.specs.declared.want.Want.{Want}
use Rattle.onfi_problem.specs.declared.lun_state.LunState.{LunState}
use Rattle.onfi_problem.specs.declared.lun_state.LunState.TheVariants.{Free}
use Rattle.onfi_problem.specs.Problem.{Problem}
use Rattle.onfi_problem.specs.Moves.{Move, Start, free_from}
use Rattle.onfi_steady.specs.declared.waiter.Waiter.{Waiter}
use Rattle.onfi_steady.specs.declared.next.NextPhase.{NextPhase}
use Rattle.onfi_steady.specs.Order.{GoesBefore, is_less}
use Rattle.onfi_steady.specs.Ranks.{keeps_bus, keeps_bus_before, phase_numbers}
use Rattle.onfi_steady.specs.Ranks.{numbers_of}
use Rattle.onfi_steady.specs.Waiting.{Books, begins_with, channel, is_on, passed_by}
use Rattle.onfi_steady.specs.Offer.{is_kind, own_group, ready_on}
use Rattle.onfi_steady.specs.Next.{given_move, move_by}

-- one more of those that may begin
abbrev pub firsts_with : List Waiter → Waiter → List Waiter
firsts_with ready w = if list_any (λ v. on_block v.want w.want) ready then ready else ready ++ w ∷ []

-- the bus is kept from that time on, by what one of these LUNs runs
abbrev pub IsKeptBy : Problem → List LunState → Option ℕ → Type 0
IsKeptBy p luns None = (end : ℕ) → list_any (keeps_bus_before end p) luns ≡ false
IsKeptBy p luns (Some from) = (end : ℕ) → list_any (keeps_bus_before end p) luns ≡ nat_lt from end

abbrev pub IsKeptFrom : Problem → Option ℕ → Type 0
IsKeptFrom p kept = IsKeptBy p p.luns kept

abbrev pub earlier : Option ℕ → ℕ → ℕ
earlier None at = at
earlier (Some known) at = min known at

-- .. where one LUN more is looked at
abbrev pub kept_with : Problem → Option ℕ → LunState → Option ℕ
kept_with p known state = if keeps_bus p state then Some (earlier known (max p.bus_free (free_from (Some state)))) else known

-- a phase from `start` on, so long, would end after that time
abbrev pub is_kept : Option ℕ → ℕ → ℕ → Bool
is_kept None start length = false
is_kept (Some from) start length = nat_lt from (start + length)

-- what a LUN that runs nothing would begin, whether it is held or not
abbrev pub held_group : Books → ℕ → Option LunState → List Want
held_group books lun (Some (Free since)) = own_group books.rules (ready_on lun books.waiting)
held_group books lun other = []

-- the phase in which that begins
abbrev pub IsHeldAt : ℕ → LunState → ℕ → Books → Option NextPhase → Type 0
IsHeldAt from state lun books None = held_group books lun (Some state) ≡ []
IsHeldAt from state lun books (Some phase) =
    (phase.members.items ≡ held_group books lun (Some state)) × (phase.members.items ≢ [])
    × (phase.lun ≡ lun) × (phase.start ≡ max from (free_from (Some state)))

abbrev pub NoneBelow : Books → List LunState → ℕ → Type 0
NoneBelow books luns below = (lun : ℕ) → lun < below → held_group books lun (slice_get luns lun) ≡ []
