-- What plain structs say of a schedule.
use Rattle.std.specs.Prelude.{ℕ, ◌*◌, ◌^◌, ◌==◌, ◌||◌, nat_lt, nat_le, Bool, List, take, map}
use Rattle.std.specs.List.{list_any}
use Rattle.onfi_request.specs.declared.want.Want.{Want}
use Rattle.onfi_schedule.specs.Schedule.{Placed, Schedule}
use Rattle.onfi_script.specs.PlanLine.{want_named}
use Rattle.onfi_calls.specs.declared.schedule.PlainRest.{PlainRest}
use Rattle.onfi_calls.specs.declared.schedule.PlainGroup.{PlainGroup}
use Rattle.onfi_calls.specs.declared.schedule.PlainSchedule.{PlainSchedule}

-- no phase starts so late
abbrev pub is_late : ℕ → Bool
is_late start = nat_le (2 ^ 63) start

-- the starts of what is left of a running group
abbrev pub rest_of : PlainRest → List ℕ
rest_of rest = take rest.starts rest.start

-- the starts of a group, two for each member
abbrev pub starts_of : PlainGroup → List ℕ
starts_of group = take (2 * group.members) group.start

-- a group of the wants of these numbers; a number that no want has stands for a want that the problem doesn't have
abbrev pub group_of : List Want → PlainGroup → Placed
group_of wants group = record { members = map (want_named wants) (take group.members group.want); starts = starts_of group }

abbrev pub rests_of : PlainSchedule → List PlainRest
rests_of s = take s.luns s.rest

abbrev pub groups_of : PlainSchedule → List PlainGroup
groups_of s = take s.groups s.group

-- the schedule of these wants
abbrev pub schedule_of : List Want → PlainSchedule → Schedule
schedule_of wants s = record { rest = map rest_of (rests_of s); groups = map (group_of wants) (groups_of s) }

-- more starts than there are places, or one that is too late
abbrev pub is_bad_rest : PlainRest → Bool
is_bad_rest rest = nat_lt 8 rest.starts || list_any is_late (rest_of rest)

-- no member or more than there are places, or a start that is too late
abbrev pub is_bad_group : PlainGroup → Bool
is_bad_group group = group.members == 0 || (nat_lt 4 group.members || list_any is_late (starts_of group))

-- no schedule is said
abbrev pub is_bad_schedule : PlainSchedule → Bool
is_bad_schedule s = nat_lt 8 s.luns || (nat_lt 8 s.groups || (list_any is_bad_rest (rests_of s) || list_any is_bad_group (groups_of s)))
