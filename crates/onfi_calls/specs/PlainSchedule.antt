-- Wants and schedules as plain structs.
use Rattle.std.specs.Prelude.{ℕ, List, ◌++◌, length, drop, map, replicate}
use Rattle.onfi_request.specs.declared.want.Want.{Want}
use Rattle.onfi_schedule.specs.Schedule.{Placed, Schedule}
use Rattle.onfi_calls.specs.declared.channel.PlainWant.{PlainWant}
use Rattle.onfi_calls.specs.declared.schedule.PlainRest.{PlainRest}
use Rattle.onfi_calls.specs.declared.schedule.PlainGroup.{PlainGroup}
use Rattle.onfi_calls.specs.declared.schedule.PlainSchedule.{PlainSchedule}
use Rattle.onfi_calls.specs.Due.{number_of_kind}

-- in front of as many of the rest as fill up n places
abbrev pub filled : {A : Type 0} → ℕ → A → List A → List A
filled n rest xs = xs ++ drop (length xs) (replicate n rest)

abbrev pub written_want : Want → PlainWant
written_want w = record { id = w.id; kind = number_of_kind w.kind; lun = w.lun; block = w.block; page = w.page }

-- starts of which none is past the last
abbrev pub written_rest : List ℕ → PlainRest
written_rest starts = record { starts = length starts; start = filled 8 0 starts }

abbrev pub written_group : Placed → PlainGroup
written_group g = record { members = length g.members; want = filled 4 0 (map (λ w. w.id) g.members); start = filled 8 0 g.starts }

-- no start, and no group
abbrev pub no_rest : PlainRest
no_rest = record { starts = 0; start = replicate 8 0 }

abbrev pub no_group : PlainGroup
no_group = record { members = 0; want = replicate 4 0; start = replicate 8 0 }

-- the plain struct of a schedule; places that it doesn't fill are 0
abbrev pub written_schedule : Schedule → PlainSchedule
written_schedule s = record {
  luns = length s.rest;
  groups = length s.groups;
  rest = filled 8 no_rest (map written_rest s.rest);
  group = filled 8 no_group (map written_group s.groups);
}
