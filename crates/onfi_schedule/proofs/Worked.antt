-- The definitions at worked examples: the base device has two LUNs, two planes and reads of 140, 600, 25100 and 11000 ns.
use Rattle.std.proofs.Common.{◌≡◌, ℕ, [], ◌∷◌, true, false, refl, lit≤, lit<}
use Rattle.onfi_timing.specs.declared.kind.Kind.TheVariants.{Read, Erase}
use Rattle.onfi_timing.specs.declared.spans.Spans.{Spans}
use Rattle.onfi_timing.specs.Sectors.{least_post}
use Rattle.onfi_timing.proofs.Stated.{nones, new_alike}
use Rattle.onfi_timing.specs.declared.timing.Timing.{Timing}
use Rattle.onfi_request.specs.declared.want.Want.{Want}
use Rattle.onfi_group.specs.declared.rules.Rules.{Rules}
use Rattle.onfi_group.specs.Group.{group_spans}
use Rattle.onfi_problem.specs.declared.lun_state.LunState.TheVariants.{Free, Running}
use Rattle.onfi_problem.specs.Problem.{Problem}
use Rattle.onfi_problem.specs.Moves.{Next, Start, earliest, after}
use Rattle.onfi_problem.specs.Left.{horizon}
use Rattle.onfi_schedule.specs.Schedule.{Schedule, finish, InOrder}

abbrev reads : Spans
reads = record { cmd = 140; gap = 600; array = 25100; post = 11000; in_range = record { cmd_some = lit≤ tt; cmd_short = lit< tt; gap_short = lit< tt; array_short = lit< tt; post_some = lit≤ tt; post_short = lit< tt } }

abbrev programs : Spans
programs = record { cmd = 10800; gap = 600; array = 200100; post = 280; in_range = record { cmd_some = lit≤ tt; cmd_short = lit< tt; gap_short = lit< tt; array_short = lit< tt; post_some = lit≤ tt; post_short = lit< tt } }

abbrev erases : Spans
erases = record { cmd = 100; gap = 600; array = 1500100; post = 280; in_range = record { cmd_some = lit≤ tt; cmd_short = lit< tt; gap_short = lit< tt; array_short = lit< tt; post_some = lit≤ tt; post_short = lit< tt } }

-- the least post of reads, of which no sectors are stated
page_post : 11000 ≡ least_post 11000 nones
unfolding least_post
page_post = refl

abbrev device : Timing
device = record { read = reads; program = programs; erase = erases; sectors = nones; least_read = 11000; long = refl; alike = new_alike reads; least = page_post; low = lit≤ tt }

abbrev both : Rules
both = record { read = true; write = true; strict = false; plane_bits = 1; few_planes = lit≤ tt }

abbrev read_of : ℕ → ℕ → ℕ → Want
read_of id lun block = record { id = id; kind = Read; lun = lun; plane = block; block = block; page = 0 }

-- two reads on the two planes of a LUN, apart from an idle one
abbrev two_planes : Problem
two_planes = record { timing = device; rules = both; bus_free = 0; luns = Free 0 ∷ Free 0 ∷ []; wants = read_of 0 0 0 ∷ read_of 1 0 1 ∷ [] }

abbrev together : Schedule
together = record { rest = [] ∷ [] ∷ []; groups = record { members = read_of 0 0 0 ∷ read_of 1 0 1 ∷ []; starts = 0 ∷ 740 ∷ 25980 ∷ 36980 ∷ [] } ∷ [] }

abbrev apart : Schedule
apart = record { rest = [] ∷ [] ∷ []; groups = record { members = read_of 0 0 0 ∷ []; starts = 0 ∷ 25240 ∷ [] } ∷ record { members = read_of 1 0 1 ∷ []; starts = 36240 ∷ 61480 ∷ [] } ∷ [] }

together_ends : finish two_planes together ≡ 47980
together_ends = refl

apart_ends : finish two_planes apart ≡ 72480
apart_ends = refl

together_waits : InOrder (group_spans device two_planes.wants) 2 0 0 (0 ∷ 740 ∷ 25980 ∷ 36980 ∷ [])
together_waits = (lit≤ tt, (lit≤ tt, (lit≤ tt, (lit≤ tt, tt))))

-- the group one move after the other
begun : after two_planes (Start (read_of 0 0 0 ∷ read_of 1 0 1 ∷ [])) ≡ record { timing = device; rules = both; bus_free = 140; luns = Running (read_of 0 0 0 ∷ read_of 1 0 1 ∷ []) 1 740 ∷ Free 0 ∷ []; wants = [] }
begun = refl

-- a read whose array wait is over at 0 and an erase whose status may be read from 50 on, beside an erase that waits
abbrev half_done : Problem
half_done = record {
  timing = device;
  rules = both;
  bus_free = 0;
  luns = Running (read_of 0 0 0 ∷ []) 1 0 ∷ Running (record { id = 0; kind = Erase; lun = 1; plane = 0; block = 0; page = 0 } ∷ []) 1 50 ∷ [];
  wants = record { id = 0; kind = Erase; lun = 1; plane = 1; block = 1; page = 0 } ∷ [];
}

abbrev idle_first : Schedule
idle_first = record { rest = (430 ∷ []) ∷ (50 ∷ []) ∷ []; groups = record { members = half_done.wants; starts = 330 ∷ 1500530 ∷ [] } ∷ [] }

idle_first_ends : finish half_done idle_first ≡ 1500810
idle_first_ends = refl

status_waits : earliest half_done (Next 1) ≡ 50
status_waits = refl

surely_done : horizon half_done ≡ 1511810
surely_done = refl
