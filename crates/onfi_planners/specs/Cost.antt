-- What a schedule costs: the sum over all requests of their weight times the end of their post.
use Rattle.std.specs.Prelude.{ℕ, ◌+◌, ◌-◌, ◌*◌, ◌==◌, if◌then◌else◌, List, [], ◌∷◌, length, map, drop, slice_index, slice_index_or}
use Rattle.onfi_timing.specs.declared.timing.Timing.{Timing}
use Rattle.onfi_request.specs.declared.want.Want.{Want}
use Rattle.onfi_group.specs.Words.{total}
use Rattle.onfi_group.specs.Group.{group_spans}
use Rattle.onfi_problem.specs.declared.lun_state.LunState.{LunState}
use Rattle.onfi_problem.specs.Position.{Position}
use Rattle.onfi_demand.specs.Left.{LunLeft, Idle, Rest, left_on}
use Rattle.onfi_demand.specs.Remaining.{lengths_left}
use Rattle.onfi_schedule.specs.Schedule.{Placed, Schedule}
use Rattle.onfi_planners.specs.declared.weights.Weights.{Weights}

-- the weight of the want with that id: the one at its place; 0 where there is none
abbrev pub weight_of : List Want → List ℕ → ℕ → ℕ
weight_of [] weights id = 0
weight_of (w ∷ wants) [] id = 0
weight_of (w ∷ wants) (n ∷ weights) id = if w.id == id then n else weight_of wants weights id

-- posts that start then, from that of member n on, where `posts` are the lengths of all members' posts: each costs its member's
-- weight times its end
abbrev pub posts_cost : List ℕ → List ℕ → ℕ → List ℕ → ℕ
posts_cost posts weights n [] = 0
posts_cost posts weights n (start ∷ starts) = slice_index weights n * (start + slice_index posts n) + posts_cost posts weights (n + 1) starts

abbrev pub member_weights : List Want → List ℕ → List Want → List ℕ
member_weights wants weights members = map (λ m. weight_of wants weights m.id) members

-- a new group: after a command for each member comes a post for each
abbrev pub group_cost : Timing → List Want → List ℕ → Placed → ℕ
group_cost timing wants weights g = posts_cost (group_spans timing g.members).posts (member_weights wants weights g.members) 0 (drop (length g.members) g.starts)

-- a group that runs: the commands that are left, then the posts
abbrev pub left_cost : Timing → List ℕ → LunLeft → List ℕ → ℕ
left_cost timing weights Idle starts = 0
left_cost timing weights (Rest operation members sectors next) starts = posts_cost (lengths_left timing operation members sectors).posts weights (next - members) (drop (members - next) starts)

-- .. of each LUN from number `lun` on
abbrev pub rest_cost : Timing → List (List ℕ) → ℕ → List LunState → List (List ℕ) → ℕ
rest_cost timing weights lun [] rest = 0
rest_cost timing weights lun (state ∷ luns) [] = 0
rest_cost timing weights lun (state ∷ luns) (starts ∷ rest) = left_cost timing (slice_index_or weights lun []) (left_on state) starts + rest_cost timing weights (lun + 1) luns rest

abbrev pub cost : Weights → Position → Schedule → ℕ
cost weights x s = rest_cost x.problem.timing weights.running 0 x.problem.luns s.rest + total (group_cost x.problem.timing x.all weights.wants) s.groups
