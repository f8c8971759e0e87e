use Rattle.std.proofs.Common.{◌≡◌, ◌<◌, Some, length, refl, subst, sym}
use Rattle.std.specs.Prelude.{slice_get}
use Rattle.onfi_problem.specs.declared.lun_state.LunState.TheVariants.{Free, Running}
use Rattle.onfi_steady.specs.Dispatcher.{states_of}
use Rattle.onfi_core.specs.Ways.{books_way}
use Rattle.onfi_core.proofs.Booked.{going_due, lun_runs, runs_there, there_of, within_group}
use Rattle.onfi_core.proofs.way.books.BooksWay.going_due.Goals as goal

pub going-requires : goal.going-requires
going-requires c =
    let b = c.args.self.now in
    let r = c.requires in
    let runs = lun_runs b.known.books (books_way b).now c.args.phase.now r.next r.in_time r.none in
    subst (λ d. c.args.phase.now.lun < length (states_of d)) (sym c.deref.ensures) (there_of (books_way b).now c.args.phase.now.lun runs)

pub unreachable-requires : goal.unreachable-requires
unreachable-requires c =
    let b = c.args.self.now in
    let r = c.requires in
    let runs = lun_runs b.known.books (books_way b).now c.args.phase.now r.next r.in_time r.none in
    let (since, at) = c.in_default.ensures in
    runs_there (books_way b).now c.args.phase.now.lun since runs (subst (λ d. slice_get (states_of d) c.args.phase.now.lun ≡ Some (Free since)) c.deref.ensures at)

pub returns : goal.returns
returns c =
    let b = c.args.self.now in
    let r = c.requires in
    let (ready, at) = c.in-Some.ensures in
    let there = subst (λ d. slice_get (states_of d) c.args.phase.now.lun ≡ Some (Running c.in-Some.group c.in-Some.next ready)) c.deref.ensures at in
    going_due b.known.books (books_way b).now c.args.phase.now r.next r.in_time _ ready r.none there
    (within_group (books_way b).now r.problem c.args.phase.now.lun c.in-Some.group c.in-Some.next ready there) refl refl refl
