-- Which group a LUN gives, of what waits for it.
use Rattle.std.specs.Prelude.{◌≡◌, ℕ, ◌-◌, ◌^◌, ◌==◌, nat_lt, not, if◌then◌else◌, Bool, true, false, List, [], ◌∷◌, Option, Some, None}
use Rattle.std.specs.List.{filter, filter_map, find, list_any}
use Rattle.std.specs.Option.{option_map}
use Rattle.onfi_timing.specs.declared.kind.Kind.{Kind}
use Rattle.onfi_timing.specs.declared.kind.Kind.TheVariants.{Read, Program, Erase}
use Rattle.onfi_timing.specs.declared.operation.Operation.{Operation}
use Rattle.onfi_timing.specs.declared.operation.Operation.TheVariants.{Erase as Erases}
use Rattle.onfi_timing.specs.Kinds.{operation_of}
use Rattle.onfi_request.specs.declared.want.Want.{Want}
use Rattle.onfi_group.specs.declared.rules.Rules.{Rules}
use Rattle.onfi_group.specs.Group.{above_planes, may_group, on_block}
use Rattle.onfi_steady.specs.declared.waiter.Waiter.{Waiter}
use Rattle.onfi_steady.specs.Ranks.{operation_rank}
use Rattle.onfi_steady.specs.Waiting.{is_on, want_of}

-- those that may begin: without what waits for another one of its block
abbrev pub firsts : List Waiter → List Waiter
firsts [] = []
firsts (w ∷ ws) = w ∷ filter (λ v. not (on_block w.want v.want)) (firsts ws)

abbrev pub on_lun : ℕ → List Waiter → List Waiter
on_lun lun waiting = filter (is_on lun) waiting

-- the requests of a LUN that may begin, oldest first
abbrev pub ready_on : ℕ → List Waiter → List Waiter
ready_on lun waiting = firsts (on_lun lun waiting)

-- so many groups with a later request may pass over a request
abbrev pub turns_of : Operation → ℕ
turns_of Erases = 512
turns_of other = 128

abbrev pub is_due : Waiter → Bool
is_due w = not (nat_lt w.passed (turns_of (operation_of w.want.kind)))

-- it has the LUN do what that kind does
abbrev pub is_kind : Kind → Waiter → Bool
is_kind kind w = operation_rank (operation_of w.want.kind) == operation_rank (operation_of kind)

abbrev pub or_else : Option Waiter → Option Waiter → Option Waiter
or_else None other = other
or_else (Some w) other = Some w

-- the request that a LUN turns to: its oldest that is due, else its oldest read, else its oldest program, else its oldest erase
abbrev pub turned_to : List Waiter → Option Waiter
turned_to ready = or_else (find is_due ready) (or_else (find (is_kind Read) ready) (or_else (find (is_kind Program) ready) (find (is_kind Erase) ready)))

abbrev pub is_same_page : Want → Want → Bool
is_same_page head m = if operation_rank (operation_of head.kind) == operation_rank Erases then true else m.page == head.page

abbrev pub is_same_row : Rules → Want → Want → Bool
is_same_row rules head m = if rules.strict then above_planes rules m == above_planes rules head else true

-- the two may run as one, were they on two planes of one LUN
abbrev pub goes_with : Rules → Want → Want → Bool
goes_with rules head m = if operation_rank (operation_of m.kind) == operation_rank (operation_of head.kind) then (if is_same_page head m then is_same_row rules head m else false) else false

abbrev pub is_mate : Rules → Want → ℕ → Waiter → Bool
is_mate rules head plane w = if w.want.plane == plane then (if may_group rules (operation_of head.kind) then goes_with rules head w.want else false) else false

-- what of a request's group is on a plane: the request itself, or the oldest that may join it there
abbrev pub member_on : Rules → List Waiter → Want → ℕ → Option Want
member_on rules ready head plane = if plane == head.plane then Some head else option_map want_of (find (is_mate rules head plane) ready)

-- a request with its mates
abbrev pub group_with : Rules → List Waiter → Option Waiter → List Want
group_with rules ready None = []
group_with rules ready (Some head) = filter_map (member_on rules ready head.want) (0 ∷ 1 ∷ 2 ∷ 3 ∷ [])

-- the group that a LUN would begin, and that of its oldest erase
abbrev pub own_group : Rules → List Waiter → List Want
own_group rules ready = group_with rules ready (turned_to ready)

abbrev pub erase_group : Rules → List Waiter → List Want
erase_group rules ready = group_with rules ready (find (is_kind Erase) ready)

abbrev pub is_on_last_plane : Rules → Want → Bool
is_on_last_plane rules m = m.plane == 2 ^ rules.plane_bits - 1

-- mates may still come: these are programs, which may run as one, and none is on the last plane; what is due waits for none
abbrev pub may_grow : Rules → Option Waiter → List Want → Bool
may_grow rules None group = false
may_grow rules (Some head) group =
    if is_due head then false else (if is_kind Program head then (if rules.write then not (list_any (is_on_last_plane rules) group) else false) else false)

-- the group that a LUN would begin is open
abbrev pub is_open : Rules → List Waiter → Bool
is_open rules ready = may_grow rules (turned_to ready) (own_group rules ready)
