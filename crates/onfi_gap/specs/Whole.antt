-- What nothing ends the requests of a log before.
use Rattle.std.specs.Prelude.{◌≡◌, ◌==◌, ℕ, zero, suc, ◌+◌, ◌*◌, ◌-◌, ◌/◌, ◌^◌, ◌<◌, ◌≤◌, ◌⊎◌, max, min, nat_lt, if◌then◌else◌, List, [], ◌∷◌, length, drop, take, Option, Some, None, slice_index_or}
use Rattle.std.specs.List.{AllByRecursion as Each}
use Rattle.onfi_timing.specs.declared.kind.Kind.TheVariants as kind
use Rattle.onfi_timing.specs.declared.spans.Spans.{Spans}
use Rattle.onfi_timing.specs.declared.operation.Operation.{Operation}
use Rattle.onfi_timing.specs.declared.operation.Operation.TheVariants.{Read, Program, Erase}
use Rattle.onfi_timing.specs.declared.timing.Timing.{Timing}
use Rattle.onfi_timing.specs.Kinds.{operation_of, spans_of}
use Rattle.onfi_request.specs.declared.want.Want.{Want}
use Rattle.onfi_group.specs.declared.rules.Rules.{Rules}
use Rattle.onfi_problem.specs.declared.lun_state.LunState.{LunState}
use Rattle.onfi_problem.specs.declared.lun_state.LunState.TheVariants.{Free, Running}
use Rattle.onfi_problem.specs.Left.{chain_time}
use Rattle.onfi_problem.specs.Problem.{Problem, IsProblem}
use Rattle.onfi_audit.specs.Audit.{Audit}
use Rattle.onfi_audit.specs.declared.line.Line.{Line}
use Rattle.onfi_bound.specs.Bounds.{above_class, bus, die, on_lun, page_class}
use Rattle.onfi_bound.specs.Parts.{added_wait, plane_counts}
use Rattle.onfi_known_check.specs.Laws.{NoneBefore}
use Rattle.onfi_log.specs.declared.requests.Requests.{Requests}
use Rattle.onfi_log.specs.Laws.{phases_of}
use Rattle.onfi_log.specs.Parts.{parts}
use Rattle.onfi_gap.specs.declared.whole.Count.{Count}
use Rattle.onfi_gap.specs.declared.whole.LogBound.{LogBound}
use Rattle.onfi_gap.specs.Cuts.{Cut, cut_at}
use Rattle.onfi_gap.specs.Following.{Followed, notes_of, unfollowed}
use Rattle.onfi_gap.specs.Pieces.{AreOf, problem_with}

-- a number for each class of requests that might run in one group
abbrev pub operation_number : Operation → ℕ
operation_number Read = 0
operation_number Program = 1
operation_number Erase = 2

abbrev pub class_number : Rules → Want → ℕ
class_number rules w = operation_number (operation_of w.kind) * 2 ^ 32 + (page_class w * 2 ^ 16 + above_class rules w)

-- the page and what counts of the block leave it readable
abbrev pub IsShortClass : Rules → Want → Type 0
IsShortClass rules w = (page_class w < 2 ^ 16) × (above_class rules w < 2 ^ 16)

abbrev pub no_count : Count
no_count = record { class = 0; planes = 0 ∷ 0 ∷ 0 ∷ 0 ∷ [] }

-- of these requests, which are a LUN's, that many of that class came on each plane, and none of a class of a higher number
pub record IsCountedOf (rules : Rules) (wants : List Want) (count : Count) : Type 0 where
  pub below : Each (λ v. IsShortClass rules v × (class_number rules v ≤ count.class)) wants
  pub planes : (w : Want) → IsShortClass rules w → class_number rules w ≡ count.class → count.planes ≡ plane_counts rules w wants

abbrev pub IsCounted : Rules → ℕ → List Want → Count → Type 0
IsCounted rules lun wants count = IsCountedOf rules (on_lun lun wants) count

abbrev pub no_want : Want
no_want = record { id = 0; kind = kind.Read; lun = 0; plane = 0; block = 0; page = 0 }

-- the wait that one more adds on that plane: an array where it becomes the deepest
abbrev pub wait_on : List ℕ → ℕ → Spans → ℕ
wait_on planes plane spans =
    if slice_index_or planes plane 0 == max (max (slice_index_or planes 0 0) (slice_index_or planes 1 0)) (max (slice_index_or planes 2 0) (slice_index_or planes 3 0))
    then spans.array
    else min spans.gap spans.array

-- so long takes that request more than those of its LUN before it
abbrev pub IsAdded : Timing → Rules → List Want → ℕ → ℕ → Type 0
IsAdded timing rules wants i time =
    let w = slice_index_or wants i no_want in
    let spans = spans_of timing w.kind in
    time ≡ spans.cmd + spans.post + added_wait spans rules (on_lun w.lun (take i wants)) w

-- when a LUN is done at the earliest that does this and has that much more to do
abbrev pub die_by : Timing → ℕ → LunState → ℕ → ℕ
die_by timing bus_free (Free since) work = if work == 0 then bus_free else max bus_free since + work
die_by timing bus_free (Running group next ready) work = max bus_free ready + chain_time timing (Running group next ready) + work

-- the greatest of f 0, .., f (n - 1); 0 where there is none
abbrev pub most_upto : ℕ → (ℕ → ℕ) → ℕ
most_upto zero f = 0
most_upto (suc n) f = max (most_upto n f) (f n)

-- the LUN that takes longest does all its own
abbrev pub all_dies : Problem → ℕ
all_dies p = most_upto (length p.luns) (die p)

-- what no schedule of these requests passes: the bounds of all of them, in whatever order
pub record IsBound (timing : Timing) (rules : Rules) (cut : Cut) (b : LogBound) : Type 0 where
  pub begin : b.begin ≡ cut.bus_free
  pub end : b.end ≡ cut.end
  pub bus : (wants : List Want) → AreOf cut wants → b.bus ≡ bus (problem_with timing rules cut wants)
  pub die : (wants : List Want) → AreOf cut wants → b.die ≡ all_dies (problem_with timing rules cut wants)
  pub least : (wants : List Want) → AreOf cut wants → IsProblem (problem_with timing rules cut wants) → NoneBefore (problem_with timing rules cut wants) (max b.bus b.die)

-- there is none: no request ended, or nothing ends them before 2^64 ns
abbrev pub IsUnbound : Timing → Rules → Cut → Type 0
IsUnbound timing rules cut = (cut.wants ≡ []) ⊎ ((wants : List Want) → AreOf cut wants → IsProblem (problem_with timing rules cut wants)
    → 2 ^ 64 ≤ max (bus (problem_with timing rules cut wants)) (all_dies (problem_with timing rules cut wants)))

abbrev pub HasBound : Timing → Rules → Cut → Option LogBound → Type 0
HasBound timing rules cut None = IsUnbound timing rules cut
HasBound timing rules cut (Some b) = IsBound timing rules cut b

-- all that a log ends, as one piece from its first line on
abbrev pub whole_in : Followed → List Line → Cut
whole_in f lines = cut_at (notes_of f lines) f (drop 8 (notes_of f lines)) 1

abbrev pub whole_of : Audit → Requests → List ℕ → Cut
whole_of a requests text = whole_in (unfollowed a requests) (phases_of (parts 10 text))

-- what of the log's time nothing could do without, in thousandths, rounded down
abbrev pub share_of : LogBound → ℕ
share_of b = if nat_lt b.begin b.end then (max b.bus b.die - b.begin) * 1000 / (b.end - b.begin) else 1000
