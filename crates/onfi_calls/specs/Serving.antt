-- What a dispatcher took its device has, so it never gives a phase of a page that isn't there.
use Rattle.std.specs.Prelude.{◌≡◌, ◌≢◌, ℕ, ◌<◌, List, None}
use Rattle.std.specs.List.{AllByRecursion as Each}
use Rattle.onfi_timing.specs.declared.timing.Timing.{Timing}
use Rattle.onfi_request.specs.declared.want.Want.{Want}
use Rattle.onfi_problem.specs.declared.lun_state.LunState.{LunState}
use Rattle.onfi_problem.specs.declared.lun_state.LunState.TheVariants.{Free, Running}
use Rattle.onfi_steady.specs.Dispatcher.{HasRun, accepted_again, begun_books, due_wants, states_of}
use Rattle.onfi_steady.specs.Waiting.{Books, accepted}
use Rattle.onfi_calls.specs.declared.channel.PlainChannel.{PlainChannel}
use Rattle.onfi_calls.specs.declared.device.PlainGeometry.{PlainGeometry}
use Rattle.onfi_calls.specs.declared.channel.PlainWant.{PlainWant}
use Rattle.onfi_calls.specs.declared.plain_dispatcher.PlainDispatcher.{PlainDispatcher}
use Rattle.onfi_calls.specs.declared.status.Status.{Status}
use Rattle.onfi_calls.specs.declared.status.Status.TheVariants.{BadPlace}
use Rattle.onfi_calls.specs.Dispatching.{IsBegun, IsNoneNext, no_books, want_refusal}
use Rattle.onfi_calls.specs.Problem.{want_of}

-- the device has the page of a request
abbrev pub IsHad : PlainGeometry → Want → Type 0
IsHad g w = (w.lun < g.lun_count) × (w.block < g.blocks_per_lun) × (w.page < g.pages_per_block)

abbrev pub IsLunHad : PlainGeometry → LunState → Type 0
IsLunHad g (Free since) = Unit {0}
IsLunHad g (Running group next ready) = Each (IsHad g) group

-- the device has all that waits and runs
pub record IsServed (g : PlainGeometry) (books : Books) (luns : List LunState) : Type 0 where
  pub waiting : Each (λ w. IsHad g w.want) books.waiting
  pub running : Each (IsLunHad g) luns

-- so no phase is refused for its page
abbrev pub NextServes : Type 0
NextServes = (timing : Timing) (books : Books) (d : PlainDispatcher) (now : ℕ) (status : Status) → IsServed d.device.geometry books (states_of d.dispatcher)
    → IsNoneNext timing books d now status → status ≢ BadPlace

-- it is so of a dispatcher that begins
abbrev pub BeginningServes : Type 0
BeginningServes = (channel : PlainChannel) (geometry : PlainGeometry) (d : PlainDispatcher)
    → (begun : IsBegun channel geometry d) → IsServed d.device.geometry (no_books begun.problem.rules) (states_of d.dispatcher)

-- .. of one that takes a request, or takes it again
pub record IsStillServed (d : PlainDispatcher) (books : Books) (luns : List LunState) (w : PlainWant) : Type 0 where
  pub once : IsServed d.device.geometry (accepted books (want_of d.device.plane_bits w)) luns
  pub again : IsServed d.device.geometry (accepted_again books (want_of d.device.plane_bits w)) luns

abbrev pub TakingServes : Type 0
TakingServes = (d : PlainDispatcher) (books : Books) (luns : List LunState) (w : PlainWant) → want_refusal d w ≡ None → IsServed d.device.geometry books luns → IsStillServed d books luns w

-- .. and of one whose due phase ran
abbrev pub RunningServes : Type 0
RunningServes = (g : PlainGeometry) (timing : Timing) (books : Books) (old new : PlainDispatcher) (started : ℕ) → HasRun timing books old.dispatcher new.dispatcher started
    → IsServed g books (states_of old.dispatcher) → IsServed g (begun_books books old.dispatcher.due.lun (due_wants old.dispatcher)) (states_of new.dispatcher)
