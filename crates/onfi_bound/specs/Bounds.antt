-- Four bounds on the finish, as sums over what is left: no legal schedule ends before any of them.
use Rattle.std.specs.Prelude.{ℕ, zero, suc, ◌+◌, ◌*◌, ◌-◌, ◌^◌, ◌==◌, max, min, nat_lt, Bool, true, false, if◌then◌else◌, List, [], ◌∷◌, ◌++◌, length, map, Option, Some, None, slice_get}
use Rattle.std.specs.List.{filter, list_any}
use Rattle.onfi_timing.specs.declared.operation.Operation.{Operation}
use Rattle.onfi_timing.specs.declared.operation.Operation.TheVariants.{Read, Program, Erase}
use Rattle.onfi_timing.specs.declared.spans.Spans.{Spans}
use Rattle.onfi_timing.specs.declared.timing.Timing.{Timing}
pub use Rattle.onfi_timing.specs.Kinds.{same_operation}
use Rattle.onfi_timing.specs.Kinds.{least_rest, operation_of, operation_spans, spans_of}
use Rattle.onfi_request.specs.declared.want.Want.{Want}
use Rattle.onfi_group.specs.declared.rules.Rules.{Rules}
use Rattle.onfi_group.specs.Words.{total, number}
use Rattle.onfi_group.specs.Group.{group_operation, kind_of, group_spans, above_planes}
use Rattle.onfi_problem.specs.declared.lun_state.LunState.{LunState}
use Rattle.onfi_problem.specs.declared.lun_state.LunState.TheVariants.{Free, Running}
use Rattle.onfi_problem.specs.Problem.{Problem}
use Rattle.onfi_problem.specs.Moves.{may_go}
use Rattle.onfi_problem.specs.Left.{commands_left, waits_left, chain_time, want_command, want_post, all_commands, all_posts}

-- the bus takes all that is left, one phase after another
abbrev pub bus : Problem → ℕ
bus p = p.bus_free + all_commands p + all_posts p

abbrev pub on_lun : ℕ → List Want → List Want
on_lun lun wants = filter (λ w. w.lun == lun) wants

abbrev pub least_with : ℕ → Option ℕ → ℕ
least_with x None = x
least_with x (Some y) = min x y

-- the least of two, where there are two
abbrev pub earlier : Option ℕ → Option ℕ → Option ℕ
earlier None y = y
earlier (Some x) y = Some (least_with x y)

-- the least of them, if there are any
abbrev pub least : List ℕ → Option ℕ
least [] = None
least (x ∷ xs) = Some (least_with x (least xs))

abbrev pub plus_each : ℕ → Option ℕ → List ℕ
plus_each a None = []
plus_each a (Some b) = (a + b) ∷ []

-- how long a LUN takes from when it may go on to its first post: nothing where a post is next, else the rest of commands,
-- gaps and the array of its running group, or the least command and array of its wants
abbrev pub to_post : Timing → List Want → LunState → Option ℕ
to_post timing wants (Free since) = least (map (λ w. (spans_of timing w.kind).cmd + (spans_of timing w.kind).array) wants)
to_post timing wants (Running group next ready) = Some (commands_left (length group) next * (group_spans timing group).cmd + waits_left (group_spans timing group) (length group) next)

-- the first post starts of those LUNs, from number `lun` on, that have something left
abbrev pub post_starts : Problem → ℕ → List LunState → List ℕ
post_starts p lun [] = []
post_starts p lun (state ∷ luns) = plus_each (may_go p lun) (to_post p.timing (on_lun lun p.wants) state) ++ post_starts p (lun + 1) luns

abbrev pub lead_from : Problem → Option ℕ → ℕ
lead_from p None = p.bus_free
lead_from p (Some start) = start + all_posts p

-- all posts come after the first one
abbrev pub lead : Problem → ℕ
lead p = lead_from p (least (post_starts p 0 p.luns))

-- a command is next on the LUN, and its group is of that operation
abbrev pub commands_next : Operation → LunState → Bool
commands_next operation (Free since) = false
commands_next operation (Running group next ready) = if same_operation operation (group_operation group) then nat_lt next (length group) else false

-- a command of that operation is left
abbrev pub has_command : Problem → Operation → Bool
has_command p operation = if list_any (commands_next operation) p.luns then true else list_any (λ w. same_operation operation (operation_of w.kind)) p.wants

abbrev pub behind_commands : Problem → Operation → List ℕ
behind_commands p operation = if has_command p operation then least_rest p.timing operation ∷ [] else []

abbrev pub trail_from : Problem → Option ℕ → Option ℕ
trail_from p None = None
trail_from p (Some rest) = Some (p.bus_free + all_commands p + rest)

-- after the last command there is an array and the least post that is stated of it; there is no such bound where no command is left
abbrev pub trail : Problem → Option ℕ
trail p = trail_from p (least (behind_commands p Read ++ (behind_commands p Program ++ behind_commands p Erase)))

-- f 0 + .. + f (n - 1)
unfoldable pub sum_upto : ℕ → (ℕ → ℕ) → ℕ
sum_upto zero f = 0
sum_upto (suc n) f = f n + sum_upto n f

-- all erases count as one page
abbrev pub page_class : Want → ℕ
page_class w = if same_operation Erase (operation_of w.kind) then 0 else w.page

-- where groups are strict, the block number above the plane bits counts too
abbrev pub above_class : Rules → Want → ℕ
above_class rules w = if rules.strict then above_planes rules w else 0

-- wants that might run in one group are of one class
abbrev pub in_class : Rules → Operation → ℕ → ℕ → Want → Bool
in_class rules operation page above w = if same_operation operation (operation_of w.kind) then (if page_class w == page then above_class rules w == above else false) else false

abbrev pub on_plane : Rules → Operation → ℕ → ℕ → ℕ → Want → Bool
on_plane rules operation page above plane w = if in_class rules operation page above w then w.plane == plane else false

-- the greatest count on one plane
abbrev pub deepest : Rules → Operation → ℕ → ℕ → List Want → ℕ
deepest rules operation page above wants = max (max (number (on_plane rules operation page above 0) wants) (number (on_plane rules operation page above 1) wants)) (max (number (on_plane rules operation page above 2) wants) (number (on_plane rules operation page above 3) wants))

-- n wants of a class, g of them on one plane, run in at least g groups: each has its array, each other want a wait
abbrev pub class_waits : Spans → ℕ → ℕ → ℕ
class_waits spans n g = g * spans.array + (n - g) * min spans.gap spans.array

abbrev pub waits_of : Timing → Rules → List Want → Operation → ℕ → ℕ → ℕ
waits_of timing rules wants operation page above = class_waits (operation_spans timing operation) (number (in_class rules operation page above) wants) (deepest rules operation page above wants)

-- for each page, and for each block number above the plane bits
abbrev pub operation_waits : Timing → Rules → List Want → Operation → ℕ
operation_waits timing rules wants operation = sum_upto (2 ^ 16) (λ page. sum_upto (2 ^ 16) (λ above. waits_of timing rules wants operation page above))

abbrev pub all_waits : Timing → Rules → List Want → ℕ
all_waits timing rules wants = operation_waits timing rules wants Read + (operation_waits timing rules wants Program + operation_waits timing rules wants Erase)

abbrev pub wants_work : Timing → Rules → List Want → ℕ
wants_work timing rules wants = total (λ w. want_command timing w + want_post timing w) wants + all_waits timing rules wants

abbrev pub die_at : Problem → ℕ → List Want → Option LunState → ℕ
die_at p lun wants (Some (Running group next ready)) = may_go p lun + chain_time p.timing (Running group next ready) + wants_work p.timing p.rules wants
die_at p lun (w ∷ wants) _ = may_go p lun + wants_work p.timing p.rules (w ∷ wants)
die_at p lun [] _ = p.bus_free

-- a LUN does all that is left to it, one group after another; where it has nothing left it is `bus_free`
abbrev pub die : Problem → ℕ → ℕ
die p lun = die_at p lun (on_lun lun p.wants) (slice_get p.luns lun)
