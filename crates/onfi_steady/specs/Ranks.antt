-- What phases and groups are ordered by.
use Rattle.std.specs.Prelude.{ℕ, ◌+◌, ◌-◌, max, min, nat_lt, if◌then◌else◌, Bool, true, false, List, [], ◌∷◌, length, Option, Some, None, slice_get}
use Rattle.std.specs.List.{list_any}
use Rattle.onfi_timing.specs.declared.operation.Operation.{Operation}
use Rattle.onfi_timing.specs.declared.operation.Operation.TheVariants.{Read, Program, Erase}
use Rattle.onfi_request.specs.declared.want.Want.{Want}
use Rattle.onfi_group.specs.Group.{group_operation, group_spans}
use Rattle.onfi_problem.specs.declared.lun_state.LunState.{LunState}
use Rattle.onfi_problem.specs.declared.lun_state.LunState.TheVariants.{Free, Running}
use Rattle.onfi_problem.specs.Problem.{Problem}
use Rattle.onfi_problem.specs.Moves.{Move, Next, Start, after, earliest}
use Rattle.onfi_check.specs.First.{wants_started}
use Rattle.onfi_steady.specs.declared.turn.Turn.{Turn}

-- the group that a LUN runs
abbrev pub running : Option LunState → List Want
running (Some (Running group next ready)) = group
running other = []

-- the group whose phase a move is
abbrev pub group_of : Problem → Move → List Want
group_of p (Next lun) = running (slice_get p.luns lun)
group_of p (Start group) = group

-- the least of a number and those of these members
abbrev pub least_number : ℕ → List Want → ℕ
least_number least [] = least
least_number least (m ∷ ms) = least_number (min least m.id) ms

abbrev pub first_number : List Want → ℕ
first_number [] = 0
first_number (m ∷ ms) = m.id

-- the number of a group's oldest request: numbers rise as requests come
abbrev pub oldest : List Want → ℕ
oldest group = least_number (first_number group) group

-- a LUN reads before it programs, and programs before it erases
abbrev pub operation_rank : Operation → ℕ
operation_rank Read = 0
operation_rank Program = 1
operation_rank Erase = 2

-- the next phase of what a LUN runs keeps the bus: it is a command of a group that is in its commands, and may start within
-- the gap
abbrev pub keeps_bus : Problem → LunState → Bool
keeps_bus p (Free since) = false
keeps_bus p (Running group next ready) = if nat_lt next (length group) then (if nat_lt (p.bus_free + (group_spans p.timing group).gap) ready then false else true) else false

-- .. and starts before `end`
abbrev pub keeps_bus_before : ℕ → Problem → LunState → Bool
keeps_bus_before end p (Free since) = false
keeps_bus_before end p (Running group next ready) = if keeps_bus p (Running group next ready) then nat_lt (max p.bus_free ready) end else false

abbrev pub keeps_bus_at : Problem → Option LunState → Bool
keeps_bus_at p None = false
keeps_bus_at p (Some state) = keeps_bus p state

abbrev pub move_keeps_bus : Problem → Move → Bool
move_keeps_bus p (Next lun) = keeps_bus_at p (slice_get p.luns lun)
move_keeps_bus p (Start group) = false

-- the bus is kept from a phase: it keeps it not itself, and would end after the start of one that does
abbrev pub is_kept_from : Problem → Move → Bool
is_kept_from p m = if move_keeps_bus p m then false else list_any (keeps_bus_before (after p m).bus_free p) p.luns

-- what begins: a read before an erase before a program, whose data holds the bus longest
abbrev pub start_rank : Operation → ℕ
start_rank Read = 2
start_rank Erase = 3
start_rank Program = 5

-- a status before these, a data output between the last two
abbrev pub post_rank : Operation → ℕ
post_rank Read = 4
post_rank other = 1

-- what goes on with its commands before all
abbrev pub running_rank : Option LunState → ℕ
running_rank (Some (Running group next ready)) = if nat_lt next (length group) then 0 else post_rank (group_operation group)
running_rank other = 0

abbrev pub phase_rank : Problem → Move → ℕ
phase_rank p (Next lun) = running_rank (slice_get p.luns lun)
phase_rank p (Start group) = start_rank (group_operation group)

-- of all LUNs the phase that starts soonest, after all others where the bus is kept from it; of equals by what it does; then
-- the larger group that begins; then the one with the oldest request
abbrev pub phase_numbers : Problem → Move → List ℕ
phase_numbers p m = (if is_kept_from p m then 1 else 0) ∷ earliest p m ∷ phase_rank p m ∷ (4 - wants_started m) ∷ oldest (group_of p m) ∷ []

-- .. as they are kept of a phase
abbrev pub numbers_of : Turn → List ℕ
numbers_of turn = (if turn.kept then 1 else 0) ∷ turn.start ∷ turn.rank ∷ turn.smaller ∷ turn.oldest ∷ []
