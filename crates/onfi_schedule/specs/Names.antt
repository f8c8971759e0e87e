-- What the phases of a schedule are called.
use Rattle.std.specs.Prelude.{ℕ, ◌+◌, ◌≤◌, ◌==◌, if◌then◌else◌, List, [], ◌∷◌, ◌++◌, length, map, slice_index_or}
use Rattle.std.specs.List.{AllByRecursion as Each, flat_map}
use Rattle.onfi_timing.specs.declared.operation.Operation.{Operation}
use Rattle.onfi_timing.specs.declared.operation.Operation.TheVariants.{Read, Program, Erase}
use Rattle.onfi_timing.specs.Kinds.{operation_of}
use Rattle.onfi_timing.specs.declared.timing.Timing.{Timing}
use Rattle.onfi_timing.specs.Phases.{Lengths, phase_length}
use Rattle.onfi_request.specs.declared.want.Want.{Want}
use Rattle.onfi_group.specs.Words.{Has}
use Rattle.onfi_group.specs.Group.{lun_of, group_spans}
use Rattle.onfi_problem.specs.declared.lun_state.LunState.{LunState}
use Rattle.onfi_problem.specs.declared.lun_state.LunState.TheVariants.{Free, Running}
use Rattle.onfi_problem.specs.Problem.{Problem}
use Rattle.onfi_schedule.specs.Schedule.{Phase, Placed, Schedule}
use Rattle.onfi_schedule.specs.declared.phase_name.Part.{Part}
use Rattle.onfi_schedule.specs.declared.phase_name.Part.TheVariants.{Command, DataOutput, Status}
use Rattle.onfi_schedule.specs.declared.phase_name.Owner.{Owner}
use Rattle.onfi_schedule.specs.declared.phase_name.Owner.TheVariants.{Request as OfRequest, Running as OfRunning}
use Rattle.onfi_schedule.specs.declared.phase_name.PhaseName.{PhaseName}

-- a phase with its name
pub record Named : Type 0 where
  pub name : PhaseName
  pub phase : Phase

-- what ends a request of that operation
abbrev pub post_of : Operation → Part
post_of Read = DataOutput
post_of Program = Status
post_of Erase = Status

-- whose the phases of a member are: of a new group, of which phase 0 comes next, the request's; of a running one the block's
abbrev pub owner_of : ℕ → ℕ → Want → Owner
owner_of next lun m = if next == 0 then OfRequest m.id else OfRunning lun m.block

-- the names of the phases of members: their commands in order, then their posts in order
abbrev pub names_of : ℕ → ℕ → List Want → List PhaseName
names_of next lun members = map (λ m. record { part = Command; owner = owner_of next lun m }) members ++ map (λ m. record { part = post_of (operation_of m.kind); owner = owner_of next lun m }) members

-- the name of phase n of them; past the last one a name that means nothing
abbrev pub name_of : ℕ → ℕ → List Want → ℕ → PhaseName
name_of next lun members n = slice_index_or (names_of next lun members) n (record { part = Command; owner = OfRequest 0 })

-- the phases of members from phase n on
abbrev pub named_from : ℕ → ℕ → Lengths → List Want → ℕ → List ℕ → List Named
named_from next lun spans members n [] = []
named_from next lun spans members n (t ∷ ts) = record { name = name_of next lun members n; phase = record { lun = lun; start = t; length = phase_length spans (length members) n } } ∷ named_from next lun spans members (n + 1) ts

-- what is left of a running group
abbrev pub named_left : Timing → ℕ → LunState → List ℕ → List Named
named_left timing lun (Free since) starts = []
named_left timing lun (Running group next ready) starts = named_from next lun (group_spans timing group) group next starts

-- of the LUNs from number `lun` on
abbrev pub named_rest : Timing → ℕ → List LunState → List (List ℕ) → List Named
named_rest timing lun [] rest = []
named_rest timing lun (state ∷ luns) [] = []
named_rest timing lun (state ∷ luns) (starts ∷ rest) = named_left timing lun state starts ++ named_rest timing (lun + 1) luns rest

abbrev pub named_group : Timing → Placed → List Named
named_group timing g = named_from 0 (lun_of g.members) (group_spans timing g.members) g.members 0 g.starts

-- every phase of LUNs and of groups
abbrev pub named_of : Timing → List LunState → Schedule → List Named
named_of timing luns s = named_rest timing 0 luns s.rest ++ flat_map (named_group timing) s.groups

-- every phase of a schedule
abbrev pub named : Problem → Schedule → List Named
named p s = named_of p.timing p.luns s

-- the phase that starts first, of several at a time any
abbrev pub StartsFirst : List Named → Named → Type 0
StartsFirst xs x = Has xs x × Each (λ y. x.phase.start ≤ y.phase.start) xs
