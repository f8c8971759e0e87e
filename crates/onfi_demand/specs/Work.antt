-- What is left to a LUN, as a program keeps it.
use Rattle.std.specs.Prelude.{◌≡◌, ℕ, ◌*◌, ◌-◌, ◌^◌, ◌<◌, ◌≤◌, List, Some, length, take, drop, replicate, slice_get}
use Rattle.std.specs.Option.{option_map}
use Rattle.onfi_problem.specs.Problem.{Problem}
use Rattle.onfi_problem.specs.Moves.{may_go}
use Rattle.onfi_bound.specs.Bounds.{on_lun}
use Rattle.onfi_demand.specs.Left.{LunLeft, Idle, Rest, left_on}
use Rattle.onfi_demand.specs.Remaining.{posts_count}
use Rattle.onfi_demand.specs.declared.left.LunLeft.{LunLeft as KeptLeft}
use Rattle.onfi_demand.specs.declared.left.LunLeft.TheVariants.{Idle as KeptIdle, Rest as KeptRest}
use Rattle.onfi_demand.specs.declared.left.LunWork.{LunWork}

abbrev pub left_of : KeptLeft → LunLeft
left_of KeptIdle = Idle
left_of (KeptRest operation members next sectors) = Rest operation members (take (posts_count members next) sectors) next

-- four numbers of sectors, of which those after the posts that are left are 0
pub record ArePadded (members next : ℕ) (sectors : List ℕ) : Type 0 where
  pub long : length sectors ≡ 4
  pub zeros : drop (posts_count members next) sectors ≡ replicate (4 - posts_count members next) 0

abbrev pub IsPadded : KeptLeft → Type 0
IsPadded KeptIdle = Unit {0}
IsPadded (KeptRest operation members next sectors) = ArePadded members next sectors

-- a group of one to four members, of which at least one phase is over and one is left
abbrev pub IsShape : KeptLeft → Type 0
IsShape KeptIdle = Unit {0}
IsShape (KeptRest operation members next sectors) = (1 ≤ members) × (members ≤ 4) × (1 ≤ next) × (next < 2 * members) × ArePadded members next sectors

-- the work is what is left to the LUN
pub record IsWork (p : Problem) (lun : ℕ) (work : LunWork) : Type 0 where
  pub go : work.go ≡ may_go p lun
  pub small : work.go < 2 ^ 62
  pub left : option_map left_on (slice_get p.luns lun) ≡ Some (left_of work.left)
  pub shape : IsShape work.left
  pub wants : work.wants.items ≡ on_lun lun p.wants
