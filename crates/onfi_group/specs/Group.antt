-- Groups: wants that run as one multi-plane operation.
use Rattle.std.specs.Prelude.{◌≡◌, ℕ, ◌+◌, ◌/◌, ◌^◌, ◌<◌, ◌≤◌, ◌≢◌, ◌==◌, if◌then◌else◌, Bool, false, IsTrue, List, [], ◌∷◌, length, map, Some, slice_get}
use Rattle.std.specs.List.{AllByRecursion as Each, filter, list_any}
use Rattle.onfi_timing.specs.declared.kind.Kind.{Kind}
use Rattle.onfi_timing.specs.declared.kind.Kind.TheVariants.{Read as ReadPage}
use Rattle.onfi_timing.specs.declared.operation.Operation.{Operation}
use Rattle.onfi_timing.specs.declared.operation.Operation.TheVariants.{Read, Program, Erase}
use Rattle.onfi_timing.specs.declared.timing.Timing.{Timing}
use Rattle.onfi_timing.specs.Kinds.{operation_of, spans_of}
use Rattle.onfi_timing.specs.Phases.{Lengths}
use Rattle.onfi_request.specs.declared.want.Want.{Want}
use Rattle.onfi_group.specs.declared.rules.Rules.{Rules}
use Rattle.onfi_group.specs.Words.{Pairs}

-- what a group's members share is that of its first
abbrev pub kind_of : List Want → Kind
kind_of [] = ReadPage
kind_of (m ∷ ms) = m.kind

abbrev pub group_operation : List Want → Operation
group_operation group = operation_of (kind_of group)

abbrev pub lun_of : List Want → ℕ
lun_of [] = 0
lun_of (m ∷ ms) = m.lun

abbrev pub page_of : List Want → ℕ
page_of [] = 0
page_of (m ∷ ms) = m.page

-- the post of each member is that of its kind; all else is that of the first member's
abbrev pub group_spans : Timing → List Want → Lengths
group_spans timing group =
    let shared = spans_of timing (kind_of group) in
    record { cmd = shared.cmd; gap = shared.gap; array = shared.array; posts = map (λ m. (spans_of timing m.kind).post) group }

-- may several of an operation run as one
abbrev pub may_group : Rules → Operation → Bool
may_group rules Read = rules.read
may_group rules Program = rules.write
may_group rules Erase = rules.write

-- the bits of a block number above those of the plane
abbrev pub above_planes : Rules → Want → ℕ
above_planes rules w = w.block / 2 ^ rules.plane_bits

abbrev pub above_planes_of : Rules → List Want → ℕ
above_planes_of rules [] = 0
above_planes_of rules (m ∷ ms) = above_planes rules m

-- one operation, whatever is put out, one LUN, distinct planes in rising order, one page for read and program;
-- several only where the rule of the operation allows it, and where groups are strict with one block number above the plane bits
pub record IsGroup (rules : Rules) (group : List Want) : Type 0 where
  pub some : 1 ≤ length group
  pub few : length group ≤ 4
  pub operation : Each (λ m. operation_of m.kind ≡ group_operation group) group
  pub lun : Each (λ m. m.lun ≡ lun_of group) group
  pub planes : Pairs (λ a b. a.plane < b.plane) group
  pub page : group_operation group ≢ Erase → Each (λ m. m.page ≡ page_of group) group
  pub rule : 1 < length group → IsTrue (may_group rules (group_operation group))
  pub strict : IsTrue rules.strict → Each (λ m. above_planes rules m ≡ above_planes_of rules group) group

abbrev pub on_block : Want → Want → Bool
on_block m w = if w.lun == m.lun then w.block == m.block else false

-- the first waiting want of its block
abbrev pub IsFirst : List Want → Want → Type 0
IsFirst wants m = slice_get (filter (on_block m) wants) 0 ≡ Some m

-- may be started: a group whose members are each the first waiting want of their block
pub record IsStartable (rules : Rules) (wants members : List Want) : Type 0 where
  pub group : IsGroup rules members
  pub first : Each (IsFirst wants) members

abbrev pub is_member : List Want → Want → Bool
is_member group w = list_any (λ m. m.id == w.id) group

-- the places of the group's members in the list of wants, as bits
abbrev pub mask_from : List Want → ℕ → List Want → ℕ
mask_from group place [] = 0
mask_from group place (w ∷ wants) = (if is_member group w then 2 ^ place else 0) + mask_from group (place + 1) wants

abbrev pub mask_of : List Want → List Want → ℕ
mask_of wants group = mask_from group 0 wants
