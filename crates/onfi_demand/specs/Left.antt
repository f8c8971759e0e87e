-- What is left to a problem, whatever the times.
use Rattle.std.specs.Prelude.{◌≡◌, ℕ, ◌-◌, Bool, true, false, List, [], ◌∷◌, length, map, drop, Option, Some, slice_get}
use Rattle.onfi_timing.specs.declared.operation.Operation.{Operation}
use Rattle.onfi_timing.specs.Kinds.{sectors_of}
use Rattle.onfi_request.specs.declared.want.Want.{Want}
use Rattle.onfi_group.specs.Group.{group_operation}
use Rattle.onfi_problem.specs.declared.lun_state.LunState.{LunState}
use Rattle.onfi_problem.specs.declared.lun_state.LunState.TheVariants.{Free, Running}
use Rattle.onfi_problem.specs.Problem.{Problem}
use Rattle.onfi_bound.specs.Bounds.{on_lun}

-- what is left of what a LUN does: nothing, or a group of an operation and a size, with the sectors of the posts that are left,
-- from one of its phases on
pub data LunLeft : Type 0 where
  Idle : LunLeft
  Rest : Operation → ℕ → List ℕ → ℕ → LunLeft

-- how many sectors each member puts out whose post is left, where phase `next` comes next
abbrev pub sectors_left : List Want → ℕ → List ℕ
sectors_left group next = map (λ m. sectors_of m.kind) (drop (next - length group) group)

-- which wants run doesn't matter: their blocks and pages bind nothing any more
abbrev pub left_on : LunState → LunLeft
left_on (Free since) = Idle
left_on (Running group next ready) = Rest (group_operation group) (length group) (sectors_left group next) next

-- two problems that differ in times and in the wants of running groups alone
pub record SameLeft (p q : Problem) : Type 0 where
  pub timing : p.timing ≡ q.timing
  pub rules : p.rules ≡ q.rules
  pub luns : map left_on p.luns ≡ map left_on q.luns
  pub wants : p.wants ≡ q.wants

abbrev pub has_left_at : List Want → Option LunState → Bool
has_left_at wants (Some (Running group next ready)) = true
has_left_at (w ∷ wants) _ = true
has_left_at [] _ = false

-- a group runs on the LUN, or a want waits for it
abbrev pub has_left : Problem → ℕ → Bool
has_left p lun = has_left_at (on_lun lun p.wants) (slice_get p.luns lun)
