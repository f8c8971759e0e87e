use Rattle.std.proofs.Common.{◌≤◌, ◌<◌, ◌∙◌, ap, get_or, length, refl, subst, sym}
use Rattle.onfi_steady.specs.Slots.{waiters_in}
use Rattle.onfi_steady.specs.LunBooks.{IsLun, states_in}
use Rattle.onfi_steady.specs.Dispatcher.{Differ, cancelled, is_request, luns_of}
use Rattle.std.specs.Prelude.{not}
use Rattle.onfi_problem.proofs.Wants.{Pairs-filter}
use Rattle.onfi_steady.proofs.Changing.{all_filter, changed_at, changed_is, holds_request, line_cancelled, lun_there, off_cancelled}
use Rattle.onfi_steady.proofs.Dispatching.{line_at, lun_at, states_kept}
use Rattle.onfi_steady.proofs.dispatcher.Dispatcher.take_out.Goals as goal

pub returns-clause-cancelled : goal.returns-clause-cancelled
returns-clause-cancelled c = λ timing books is.
    let old = c.args.self.now in
    let lun = c.args.lun in
    let id = c.args.id in
    let l = get_or old.lun c.from.result c.index-self-from.result in
    let after = c.cancel.new.self in
    let there = lun_there old lun c.from.result c.index-self-from.result c.requires.books c.from.ensures c.requires.there in
    let kept : IsLun timing books.rules l = lun_at timing books (luns_of old) lun l is.luns there in (
      lun,
      sym (holds_request timing books (luns_of old) lun id c.requires.books is.luns c.requires.there) ∙ c.requires.has,
      changed_is timing books (cancelled books lun id) old _ lun l after is (record { spans = refl; rules = refl }) refl refl refl there (changed_at old lun c.from.result after c.from.ensures)
          (all_filter (λ w. w.want.plane ≤ 3) (λ w. not (is_request lun id w)) books.waiting is.planes)
          (all_filter (λ w. w.want.lun < length (luns_of old)) (λ w. not (is_request lun id w)) books.waiting is.there)
          (subst (λ z. IsLun timing z after) is.rules (c.cancel.ensures.lun timing is.spans (subst (λ z. IsLun timing z l) (sym is.rules) kept)))
          (ap waiters_in c.cancel.ensures.line ∙ line_cancelled lun id _ books.waiting (line_at timing books (luns_of old) lun l is.luns there))
          (λ at d. off_cancelled lun id at d books.waiting) (Pairs-filter Differ (λ w. not (is_request lun id w)) books.waiting is.distinct),
    )

pub returns-clause-states : goal.returns-clause-states
returns-clause-states c =
    let old = c.args.self.now in
    let lun = c.args.lun in
    let l = get_or old.lun c.from.result c.index-self-from.result in
    let after = c.cancel.new.self in
    let there = lun_there old lun c.from.result c.index-self-from.result c.requires.books c.from.ensures c.requires.there in
    ap states_in (changed_at old lun c.from.result after c.from.ensures) ∙ states_kept (luns_of old) lun l after there c.cancel.ensures.run
