-- What the bounds are read from: what is left of each running group, and sums over all LUNs.
use Rattle.std.specs.Prelude.{◌≡◌, ℕ, ◌+◌, ◌^◌, ◌<◌, ◌≤◌, ◌==◌, max, min, nat_lt, Bool, true, false, if◌then◌else◌, List, [], ◌∷◌, ◌++◌, length, map, Option, Some, None}
use Rattle.onfi_timing.specs.declared.operation.Operation.{Operation}
use Rattle.onfi_timing.specs.declared.operation.Operation.TheVariants.{Read, Program, Erase}
use Rattle.onfi_timing.specs.declared.spans.Spans.{Spans}
use Rattle.onfi_timing.specs.declared.timing.Timing.{Timing}
use Rattle.onfi_timing.specs.Kinds.{operation_of, spans_of}
use Rattle.onfi_request.specs.declared.want.Want.{Want}
use Rattle.onfi_group.specs.declared.rules.Rules.{Rules}
use Rattle.onfi_group.specs.Words.{number}
use Rattle.onfi_group.specs.Group.{group_operation, kind_of, group_spans}
use Rattle.onfi_problem.specs.declared.lun_state.LunState.{LunState}
use Rattle.onfi_problem.specs.declared.lun_state.LunState.TheVariants.{Free, Running}
use Rattle.onfi_problem.specs.Problem.{Problem}
use Rattle.onfi_problem.specs.Left.{command_time, post_time, waits_left, all_commands, all_posts, InLimits}
use Rattle.onfi_bound.specs.declared.chain.Chain.{Chain}
use Rattle.onfi_bound.specs.declared.operations.Operations.{Operations}
use Rattle.onfi_bound.specs.declared.left.Left.{Left}
use Rattle.onfi_bound.specs.declared.left.Sums.{Sums}
use Rattle.onfi_bound.specs.Bounds.{same_operation, page_class, above_class, on_plane, deepest, on_lun, least, plus_each, has_command}

-- what is left of a LUN's running group
abbrev pub chain_of : Timing → LunState → Chain
chain_of timing (Free since) = record { running = false; from = since; commands = 0; posts = 0; waits = 0; command = None }
chain_of timing (Running group next ready) = record {
  running = true;
  from = ready;
  commands = command_time timing (Running group next ready);
  posts = post_time timing (Running group next ready);
  waits = waits_left (group_spans timing group) (length group) next;
  command = if nat_lt next (length group) then Some (group_operation group) else None;
}

-- no sum of what eight LUNs and eight wants have left leaves 64 bits
pub record IsShort (chain : Chain) : Type 0 where
  pub from : chain.from < 2 ^ 62
  pub commands : chain.commands ≤ 2 ^ 52
  pub posts : chain.posts ≤ 2 ^ 52
  pub waits : chain.waits ≤ 2 ^ 52

abbrev pub is_operation : Operation → Option Operation → Bool
is_operation operation None = false
is_operation operation (Some other) = same_operation operation other

abbrev pub has_operation : Operations → Operation → Bool
has_operation operations Read = operations.read
has_operation operations Program = operations.program
has_operation operations Erase = operations.erase

-- how long to the first post
abbrev pub chain_to_post : Timing → List Want → Chain → Option ℕ
chain_to_post timing wants chain = if chain.running then Some (chain.commands + chain.waits) else least (map (λ w. (spans_of timing w.kind).cmd + (spans_of timing w.kind).array) wants)

-- the first post starts of the LUNs from number `lun` on
abbrev pub chain_starts : Timing → ℕ → List Want → ℕ → List Chain → List ℕ
chain_starts timing bus_free wants lun [] = []
chain_starts timing bus_free wants lun (chain ∷ chains) = plus_each (max bus_free chain.from) (chain_to_post timing (on_lun lun wants) chain) ++ chain_starts timing bus_free wants (lun + 1) chains

-- how many of a want's class are on each plane
abbrev pub plane_counts : Rules → Want → List Want → List ℕ
plane_counts rules w ws =
    let count = λ (plane : ℕ). number (on_plane rules (operation_of w.kind) (page_class w) (above_class rules w) plane) ws in
    count 0 ∷ count 1 ∷ count 2 ∷ count 3 ∷ []

-- the wait that a want adds to those before it: an array where its plane becomes the deepest of its class
abbrev pub added_wait : Spans → Rules → List Want → Want → ℕ
added_wait spans rules ws w =
    if number (on_plane rules (operation_of w.kind) (page_class w) (above_class rules w) w.plane) ws == deepest rules (operation_of w.kind) (page_class w) (above_class rules w) ws
    then spans.array
    else min spans.gap spans.array

-- the sums of what is left to a problem
pub record AreSums (p : Problem) (sums : Sums) : Type 0 where
  pub commands : sums.commands ≡ all_commands p
  pub posts : sums.posts ≡ all_posts p
  pub operations : (operation : Operation) → has_operation sums.operations operation ≡ has_command p operation

-- all that the bounds of a problem are read from
pub record IsLeft (p : Problem) (left : Left) : Type 0 where
  pub limits : InLimits p
  pub bus_free : left.bus_free ≡ p.bus_free
  pub chains : left.chains.items ≡ map (chain_of p.timing) p.luns
  pub wants : left.wants.items ≡ p.wants
  pub sums : AreSums p left.sums
