-- What sets of wants take, and what a walk over the LUNs has met.
use Rattle.std.specs.Prelude.{◌≡◌, ℕ, ◌+◌, ◌*◌, ◌^◌, ◌<◌, ◌≤◌, max, true, false, if◌then◌else◌, List, [], ◌∷◌, length, map, drop, Some, slice_get, slice_index, slice_index_or}
use Rattle.std.specs.List.{AllByRecursion as Each, list_any}
use Rattle.onfi_timing.specs.declared.operation.Operation.{Operation}
use Rattle.onfi_timing.specs.declared.timing.Timing.{Timing}
use Rattle.onfi_timing.specs.Kinds.{operation_of, spans_of}
use Rattle.onfi_request.specs.declared.want.Want.{Want}
use Rattle.onfi_group.specs.declared.rules.Rules.{Rules}
use Rattle.onfi_group.specs.Words.{total}
use Rattle.onfi_problem.specs.declared.lun_state.LunState.{LunState}
use Rattle.onfi_problem.specs.Problem.{Problem, IsWant}
use Rattle.onfi_problem.specs.Position.{Position, waiting_of}
use Rattle.onfi_problem.specs.Left.{want_command, want_post, command_time, post_time, all_commands, all_posts}
use Rattle.onfi_bound.specs.declared.chain.Chain.{Chain}
use Rattle.onfi_bound.specs.declared.load.Load.{Load}
use Rattle.onfi_bound.specs.declared.tally.Tally.{Tally}
use Rattle.onfi_bound.specs.Bounds.{on_lun, wants_work, least, same_operation, commands_next, has_command, post_starts, die, earlier}
use Rattle.onfi_bound.specs.Parts.{chain_of, has_operation}

-- the command and the array of each want
abbrev pub commands_to_post : Timing → List Want → List ℕ
commands_to_post timing wants = map (λ w. (spans_of timing w.kind).cmd + (spans_of timing w.kind).array) wants

-- n is the least of them, if there are any
abbrev pub IsLeast : List ℕ → ℕ → Type 0
IsLeast [] n = Unit {0}
IsLeast (x ∷ xs) n = least (x ∷ xs) ≡ Some n

-- what these wants take
pub record IsLoad (timing : Timing) (rules : Rules) (wants : List Want) (load : Load) : Type 0 where
  pub commands : load.sums.commands ≡ total (want_command timing) wants
  pub posts : load.sums.posts ≡ total (want_post timing) wants
  pub operations : (operation : Operation) → has_operation load.sums.operations operation ≡ list_any (λ w. same_operation operation (operation_of w.kind)) wants
  pub firsts : (lun : ℕ) → lun < 8 → IsLeast (commands_to_post timing (on_lun lun wants)) (slice_index load.firsts lun)
  pub short : (lun : ℕ) → slice_index load.firsts lun < 2 ^ 51
  pub work : (lun : ℕ) → lun < 8 → slice_index load.work lun ≡ wants_work timing rules (on_lun lun wants)

-- .. where the wants are legal, and no work leaves 64 bits with a few of them
pub record IsShortLoad (timing : Timing) (rules : Rules) (wants : List Want) (load : Load) : Type 0 where
  pub takes : IsLoad timing rules wants load
  pub legal : Each IsWant wants
  pub short : (lun : ℕ) → slice_index load.work lun ≤ length wants * 2 ^ 52

-- a load of the wants that its marks name, none of which has that number or a greater one
pub record IsLoadBefore (x : Position) (number : ℕ) (load : Load) : Type 0 where
  pub takes : IsShortLoad x.problem.timing x.problem.rules (waiting_of load.marks x.all) load
  pub before : (i : ℕ) → number ≤ i → i < length x.all → slice_index_or load.marks i false ≡ false

-- each is such a load
abbrev pub AreLoadsBefore : Position → ℕ → List Load → Type 0
AreLoadsBefore x number loads = Each (IsLoadBefore x number) loads

-- each is what the wants take that its marks name
abbrev pub AreLoads : Position → List Load → Type 0
AreLoads x loads = Each (λ load. IsLoad x.problem.timing x.problem.rules (waiting_of load.marks x.all) load) loads

-- what is left of what the LUN does
abbrev pub IsChainAt : Problem → ℕ → Chain → Type 0
IsChainAt p lun chain = (x : LunState) × (slice_get p.luns lun ≡ Some x) × (chain ≡ chain_of p.timing x)

-- all wants and the LUNs before number `lun` are tallied, and the rest is still to be met
pub record IsTally (p : Problem) (lun : ℕ) (t : Tally) : Type 0 where
  pub commands : t.sums.commands + total (command_time p.timing) (drop lun p.luns) ≡ all_commands p
  pub posts : t.sums.posts + total (post_time p.timing) (drop lun p.luns) ≡ all_posts p
  pub operations : (operation : Operation) → (if has_operation t.sums.operations operation then true else list_any (commands_next operation) (drop lun p.luns)) ≡ has_command p operation
  pub first : earlier t.first (least (post_starts p lun (drop lun p.luns))) ≡ least (post_starts p 0 p.luns)
  pub done : (l : ℕ) → l < lun → die p l ≤ max t.done p.bus_free
