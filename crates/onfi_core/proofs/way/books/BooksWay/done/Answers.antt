use Rattle.std.proofs.Common.{◌≡◌, ℕ, [], None, Some, subst, sym, ap}
use Rattle.onfi_timing.specs.declared.timing.Timing.{Timing}
use Rattle.onfi_problem.specs.Moves.{placed}
use Rattle.onfi_problem.specs.Problem.{Problem}
use Rattle.onfi_flight.specs.declared.due.Due.{Due}
use Rattle.onfi_flight.specs.Flight.{move_of}
use Rattle.onfi_steady.specs.declared.dispatcher.Dispatcher.{Dispatcher}
use Rattle.onfi_steady.specs.Dispatcher.{HasRun, IsOf, ran_refusal, states_of}
use Rattle.onfi_steady.specs.Waiting.{Books, channel}
use Rattle.onfi_core.specs.declared.way.books.BooksWay.{BooksWay}
use Rattle.onfi_core.specs.State.{Way}
use Rattle.onfi_core.specs.Steps.{moved}
use Rattle.onfi_core.specs.Ways.{books_way, way_after}
use Rattle.onfi_core.proofs.Booked.{asked_of, channel_after, kept_books, may_run, none_some}
use Rattle.onfi_core.proofs.way.books.BooksWay.done.Goals as goal

pub unreachable-requires : goal.unreachable-requires
unreachable-requires c =
    let r = c.requires in
    let n = c.next-phase.ensures in
    let mid = c.next-phase.new.self in
    let asked = asked_of c.args.self.now c.deref_mut.result.now mid c.args.due.now c.next-phase.result c.deref_mut.ensures.value r.books r.due n.next n.empty n.due n.same n.states n.bus_free in
    let open' = may_run mid c.args.due.now.start asked.has asked.start r.due.time in
    none_some _ (subst (λ d. ran_refusal d c.args.due.now.start ≡ None) (sym c.deref_mut-2.ensures.value) open') c.in-Err.ensures.refused

has_run : (timing : Timing) (books : Books) (d mid new : Dispatcher) (start : ℕ) → d ≡ mid → IsOf timing books mid → (IsOf timing books d → HasRun timing books d new start) → HasRun timing books mid new start
has_run timing books d mid new start e is ran = subst (λ x. HasRun timing books x new start) e (ran (subst (IsOf timing books) (sym e) is))

pub returns-clause-books : goal.returns-clause-books
returns-clause-books c =
    let r = c.requires in
    let n = c.next-phase.ensures in
    let mid = c.next-phase.new.self in
    let b = c.args.self.now in
    let asked = asked_of b c.deref_mut.result.now mid c.args.due.now c.next-phase.result c.deref_mut.ensures.value r.books r.due n.next n.empty n.due n.same n.states n.bus_free in
    let ran = has_run b.timing b.known.books c.deref_mut-2.result.now mid c.ran.new.self c.args.due.now.start c.deref_mut-2.ensures.value asked.is (c.in-Ok.ensures.ran b.timing b.known.books) in
    subst (λ books. IsOf b.timing books c.ran.new.self) (sym c.with_run-self.ensures) (kept_books b.timing b.known.books b.dispatcher.value mid c.ran.new.self c.args.due.now asked ran r.problem)

pub returns-clause-after : goal.returns-clause-after
returns-clause-after c =
    let r = c.requires in
    let n = c.next-phase.ensures in
    let mid = c.next-phase.new.self in
    let b = c.args.self.now in
    let asked = asked_of b c.deref_mut.result.now mid c.args.due.now c.next-phase.result c.deref_mut.ensures.value r.books r.due n.next n.empty n.due n.same n.states n.bus_free in
    let ran = has_run b.timing b.known.books c.deref_mut-2.result.now mid c.ran.new.self c.args.due.now.start c.deref_mut-2.ensures.value asked.is (c.in-Ok.ensures.ran b.timing b.known.books) in
    way_ran b c.with_run-self.result.books c.ran.new.self c.args.due.now c.with_run-self.ensures (channel_after b.timing b.known.books b.dispatcher.value mid c.ran.new.self c.args.due.now asked ran r.problem)
  where
    way_ran : (b : BooksWay) (books : Books) (new : Dispatcher) (due : Due) → books ≡ moved b.known.books (move_of due)
        → channel b.timing new.bus_free (states_of new) (moved b.known.books (move_of due)) ≡ placed (books_way b).now (move_of due) due.start
        → (let w : Way = record { now = channel b.timing new.bus_free (states_of new) books; left = record { rest = []; groups = [] }; books = Some books } in w) ≡ way_after due (books_way b)
    way_ran b books new due e after =
        rw e (ap (λ (p : Problem). let w : Way = record { now = p; left = record { rest = []; groups = [] }; books = Some (moved b.known.books (move_of due)) } in w) after)
