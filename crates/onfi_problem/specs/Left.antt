-- What is left to do, as sums, and by when a problem is surely done.
use Rattle.std.specs.Prelude.{ℕ, ◌+◌, ◌*◌, ◌-◌, ◌^◌, ◌<◌, max, nat_lt, if◌then◌else◌, List, [], ◌∷◌, length}
use Rattle.onfi_timing.specs.declared.timing.Timing.{Timing}
use Rattle.onfi_timing.specs.Kinds.{spans_of}
use Rattle.onfi_timing.specs.Phases.{Lengths, posts_from}
use Rattle.onfi_request.specs.declared.want.Want.{Want}
use Rattle.onfi_group.specs.Words.{total}
use Rattle.onfi_group.specs.Group.{group_spans}
use Rattle.onfi_problem.specs.declared.lun_state.LunState.{LunState}
use Rattle.onfi_problem.specs.declared.lun_state.LunState.TheVariants.{Free, Running}
use Rattle.onfi_problem.specs.Problem.{Problem, IsSmall, IsProblem}

-- of k commands, n phases done
abbrev pub commands_left : ℕ → ℕ → ℕ
commands_left k n = k - n

-- the lengths of the commands that are left to a running group
abbrev pub command_time : Timing → LunState → ℕ
command_time timing (Free since) = 0
command_time timing (Running group next ready) = commands_left (length group) next * (group_spans timing group).cmd

-- .. and of its posts
abbrev pub post_time : Timing → LunState → ℕ
post_time timing (Free since) = 0
post_time timing (Running group next ready) = posts_from (group_spans timing group) (length group) next

abbrev pub want_command : Timing → Want → ℕ
want_command timing w = (spans_of timing w.kind).cmd

abbrev pub want_post : Timing → Want → ℕ
want_post timing w = (spans_of timing w.kind).post

-- the lengths of all commands that are left
abbrev pub all_commands : Problem → ℕ
all_commands p = total (command_time p.timing) p.luns + total (want_command p.timing) p.wants

-- .. and of all posts
abbrev pub all_posts : Problem → ℕ
all_posts p = total (post_time p.timing) p.luns + total (want_post p.timing) p.wants

-- the bus work that is left
abbrev pub work : Problem → ℕ
work p = all_commands p + all_posts p

-- the waits after phase n: the gaps between the commands that are left, and the array
abbrev pub waits_left : Lengths → ℕ → ℕ → ℕ
waits_left lengths k n = if nat_lt n k then (k - 1 - n) * lengths.gap + lengths.array else 0

-- the rest of a running group, with its waits
abbrev pub chain_time : Timing → LunState → ℕ
chain_time timing (Free since) = 0
chain_time timing (Running group next ready) = command_time timing (Running group next ready) + post_time timing (Running group next ready) + waits_left (group_spans timing group) (length group) next

-- a want by itself, with the longer of its waits
abbrev pub want_time : Timing → Want → ℕ
want_time timing w = want_command timing w + max (spans_of timing w.kind).gap (spans_of timing w.kind).array + want_post timing w

-- the greatest of `bus_free` and the times from which on LUNs may go on
abbrev pub latest_wait : ℕ → List LunState → ℕ
latest_wait t [] = t
latest_wait t (Free since ∷ luns) = max since (latest_wait t luns)
latest_wait t (Running group next ready ∷ luns) = max ready (latest_wait t luns)

-- by then a problem is done, whatever the order: every LUN waits, then one phase follows another
abbrev pub horizon : Problem → ℕ
horizon p = latest_wait p.bus_free p.luns + total (chain_time p.timing) p.luns + total (want_time p.timing) p.wants

-- what each problem of the program keeps to: no sum of times leaves 64 bits
pub record InLimits (p : Problem) : Type 0 where
  pub small : IsSmall p
  pub problem : IsProblem p
  pub horizon : horizon p < 2 ^ 62
