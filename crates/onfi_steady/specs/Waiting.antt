-- The requests that wait on a channel, and how often each was passed over.
use Rattle.std.specs.Prelude.{ℕ, ◌+◌, ◌==◌, max, min, nat_lt, not, if◌then◌else◌, Bool, false, List, [], ◌∷◌, ◌++◌, map, Option, Some}
use Rattle.std.specs.List.{filter}
use Rattle.onfi_timing.specs.declared.kind.Kind.{Kind}
use Rattle.onfi_timing.specs.declared.kind.Kind.TheVariants.{Program}
use Rattle.onfi_timing.specs.declared.timing.Timing.{Timing}
use Rattle.onfi_request.specs.declared.want.Want.{Want}
use Rattle.onfi_group.specs.declared.rules.Rules.{Rules}
use Rattle.onfi_group.specs.Group.{is_member}
use Rattle.onfi_problem.specs.declared.lun_state.LunState.{LunState}
use Rattle.onfi_problem.specs.Problem.{Problem}
use Rattle.onfi_problem.specs.Kept.{problem_of}
use Rattle.onfi_steady.specs.declared.waiter.Waiter.{Waiter}

-- the rules of the device, the requests in the order in which they were accepted, and the newest accepted program
pub record Books : Type 0 where
  pub rules : Rules
  pub waiting : List Waiter
  pub newest : Option ℕ

abbrev pub want_of : Waiter → Want
want_of w = w.want

abbrev pub wants_of : List Waiter → List Want
wants_of waiting = map want_of waiting

abbrev pub newest_with : Option ℕ → Kind → ℕ → Option ℕ
newest_with newest Program id = Some id
newest_with newest other id = newest

-- one more waits after the others; no group passed it over
abbrev pub accepted : Books → Want → Books
accepted books want = record {
  rules = books.rules;
  waiting = books.waiting ++ record { want = want; passed = 0 } ∷ [];
  newest = newest_with books.newest want.kind want.id;
}

abbrev pub is_on : ℕ → Waiter → Bool
is_on lun w = w.want.lun == lun

-- a member of the group that begins on the LUN
abbrev pub begins_with : ℕ → List Want → Waiter → Bool
begins_with lun members w = if is_on lun w then is_member members w.want else false

-- the greatest of a number and those of these members
abbrev pub greatest_number : ℕ → List Want → ℕ
greatest_number most [] = most
greatest_number most (m ∷ ms) = greatest_number (max most m.id) ms

-- a group with a later request began on its LUN: one more passed it over
abbrev pub passed_by : ℕ → ℕ → Waiter → Waiter
passed_by lun last w = if is_on lun w then (if nat_lt w.want.id last then record { want = w.want; passed = min (w.passed + 1) 65535 } else w) else w

-- what waits once the group of these members began on the LUN
abbrev pub left_waiting : ℕ → List Want → List Waiter → List Waiter
left_waiting lun members waiting = map (passed_by lun (greatest_number 0 members)) (filter (λ w. not (begins_with lun members w)) waiting)

abbrev pub begun : Books → ℕ → List Want → Books
begun books lun members = record { rules = books.rules; waiting = left_waiting lun members books.waiting; newest = books.newest }

-- the channel as a problem: what is to do is what waits
abbrev pub channel : Timing → ℕ → List LunState → Books → Problem
channel timing from luns books = problem_of timing books.rules from luns (wants_of books.waiting)
